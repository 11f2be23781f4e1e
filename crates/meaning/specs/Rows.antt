-- A row by the rules of 01 ("Record and work memory"): for each level its state, selecting set and rejecting set.
-- Definitions only. The newest level stands first.
use Rattle.std.specs.Prelude.{List, [], ◌∷◌, Bool, ℕ, zero, suc, pred}
use Rattle.meaning.specs.Table.{Table}
use Rattle.meaning.specs.Streams.{Event, Open, Point, Close}
use Rattle.meaning.specs.Masks.{has, accs_of, safe_of, down_of, finals_of, others_of}

pub record Level : Type 0 where
  pub state : ℕ
  pub selecting : ℕ
  pub rejecting : ℕ

pub record Row : Type 0 where
  pub newest : Level
  pub below : List Level

-- The level with another state.
abbrev pub in_state : Level → ℕ → Level
in_state l q = record { state = q; selecting = l.selecting; rejecting = l.rejecting }

-- Start: the start state, safe(final states), safe(the other states).
abbrev pub start_row : Table → List ℕ → Row
start_row t accs =
    record {
      newest = record {
        state = t.start;
        selecting = safe_of t.states accs (finals_of t);
        rejecting = safe_of t.states accs (others_of t);
      };
      below = [];
    }

-- Point: the newest state steps by P; sets stay.
abbrev pub point_row : Table → ℕ → Row → Row
point_row t a r = record { newest = in_state r.newest (t.point r.newest.state a); below = r.below }

-- Open: a level with state O(a) and sets down(q,S) and down(q,R), from the row's own q, S, R below.
abbrev pub open_row : Table → List ℕ → ℕ → Row → Row
open_row t accs a r =
    record {
      newest = record {
        state = t.opening a;
        selecting = down_of t accs r.newest.state r.newest.selecting;
        rejecting = down_of t accs r.newest.state r.newest.rejecting;
      };
      below = r.newest ∷ r.below;
    }

-- Close: the newest level goes; the state below becomes A(q,p); its sets stay.
abbrev pub close_levels : Table → Level → List Level → Row
close_levels t p [] = record { newest = p; below = [] }
close_levels t p (q ∷ s) = record { newest = in_state q (t.apply q.state p.state); below = s }

abbrev pub close_row : Table → Row → Row
close_row t r = close_levels t r.newest r.below

-- The newest state through M.
abbrev pub mark_row : Table → Row → Row
mark_row t r = record { newest = in_state r.newest (t.mark r.newest.state); below = r.below }

-- The row right after a position, with that many positions still to come up to and with the marked one.
abbrev pub marked_row : Table → ℕ → Row → Row
marked_row t zero r = r
marked_row t (suc zero) r = mark_row t r
marked_row t (suc (suc i)) r = r

-- The row after w, with i positions to come up to and with the marked one.
abbrev pub follow_row : Table → List ℕ → ℕ → Row → List Event → Row
follow_row t accs i r [] = r
follow_row t accs i r (Open a ∷ w) = follow_row t accs (pred i) (marked_row t i (open_row t accs a r)) w
follow_row t accs i r (Point a ∷ w) = follow_row t accs (pred i) (marked_row t i (point_row t a r)) w
follow_row t accs i r (Close ∷ w) = follow_row t accs i (close_row t r) w

-- The row of position i after w, built by the rules from the start; with i = 0 row 0, the run without a mark.
abbrev pub row_after : Table → ℕ → List Event → Row
row_after t i w = follow_row t (accs_of t) i (start_row t (accs_of t)) w

-- The newest state is in the newest selecting set.
abbrev pub is_selecting : Row → Bool
is_selecting r = has r.newest.selecting r.newest.state

-- The newest state is in the newest rejecting set.
abbrev pub is_rejecting : Row → Bool
is_rejecting r = has r.newest.rejecting r.newest.state
