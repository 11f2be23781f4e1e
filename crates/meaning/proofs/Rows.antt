-- A row built by the rules is the row of its run: each level's sets are a function of the states put aside below it.
use mathlib.Core.Path.{◌≡◌, refl, ap, sym, ◌∙◌}
use mathlib.Core.List.{List, [], ◌∷◌}
use Prim.Native.Nat.{ℕ, zero, suc, pred, ◌<◌}
use Rattle.meaning.specs.Masks.{accs_of, safe_of, down_of, finals_of, others_of}
use Rattle.meaning.specs.Rows.{Level, Row, close_levels, marked_row, follow_row, row_after}
use Rattle.meaning.specs.Sets.{LevelSet}
use Rattle.meaning.specs.Streams.{Event, Open, Point, Close, Run, marking, closing, step, run, marked, Reads, Prefix}
use Rattle.meaning.specs.Table.{Table, WellFormed}
use Rattle.meaning.proofs.Masks.{IsMask}
use Rattle.meaning.proofs.Smallest.{safe_is, down_is}
use Rattle.meaning.proofs.Streams.{close_ahead}

-- The mask at a level, from the states put aside below it, for the mask of end states f.
abbrev pub level_mask : Table → ℕ → List ℕ → ℕ
level_mask t f [] = safe_of t.states (accs_of t) f
level_mask t f (q ∷ s) = down_of t (accs_of t) q (level_mask t f s)

-- The level of state q above the states s put aside.
abbrev pub level_of : Table → ℕ → List ℕ → Level
level_of t q s = record { state = q; selecting = level_mask t (finals_of t) s; rejecting = level_mask t (others_of t) s }

-- The levels of the states put aside.
abbrev pub levels_of : Table → List ℕ → List Level
levels_of t [] = []
levels_of t (q ∷ s) = level_of t q s ∷ levels_of t s

-- The row of newest state q above the states s put aside.
abbrev pub row_of : Table → ℕ → List ℕ → Row
row_of t q s = record { newest = level_of t q s; below = levels_of t s }

-- The states of a list are below n.
pub data AllBelow (n : ℕ) : List ℕ → Type 0 where
  none : AllBelow n []
  more : {q : ℕ} {s : List ℕ} → q < n → AllBelow n s → AllBelow n (q ∷ s)

-- The states of a run are states of the table.
pub record InTable (t : Table) (r : Run) : Type 0 where
  pub newest_in : r.newest < t.states
  pub aside_in : AllBelow t.states r.aside

module _ (t : Table) where
  mark_row_lem : (m q : ℕ) (s : List ℕ) → marked_row t m (row_of t q s) ≡ row_of t (marking t m q) s
  mark_row_lem zero q s = refl
  mark_row_lem (suc zero) q s = refl
  mark_row_lem (suc (suc m)) q s = refl

  close_row : (m p : ℕ) (s : List ℕ) → close_levels t (level_of t p s) (levels_of t s) ≡ row_of t (closing t m p s).newest (closing t m p s).aside
  close_row m p [] = refl
  close_row m p (q ∷ s) = refl

  -- By the rules, a row steps as its run does.
  pub row_follows :
      (w : List Event) (r : Run) →
      follow_row t (accs_of t) r.ahead (row_of t r.newest r.aside) w ≡ row_of t (run t r w).newest (run t r w).aside
  row_follows [] r = refl
  row_follows (Open a ∷ w) r =
      ap (λ (x : Row). follow_row t (accs_of t) (pred r.ahead) x w) (mark_row_lem r.ahead (t.opening a) (r.newest ∷ r.aside))
      ∙ row_follows w (step t r (Open a))
  row_follows (Point a ∷ w) r =
      ap (λ (x : Row). follow_row t (accs_of t) (pred r.ahead) x w) (mark_row_lem r.ahead (t.point r.newest a) r.aside)
      ∙ row_follows w (step t r (Point a))
  row_follows (Close ∷ w) r =
      ap (λ (x : Row). follow_row t (accs_of t) r.ahead x w) (close_row r.ahead r.newest r.aside)
      ∙ ap (λ (m : ℕ). follow_row t (accs_of t) m (row_of t (step t r Close).newest (step t r Close).aside) w) (sym (close_ahead t r.ahead r.newest r.aside))
      ∙ row_follows w (step t r Close)

  -- The row of position i after w is the row of the run marked at i.
  pub row_is : (i : ℕ) (w : List Event) → row_after t i w ≡ row_of t (marked t i w).newest (marked t i w).aside
  row_is i w = row_follows w (record { ahead = i; newest = t.start; aside = [] })

  module _ (wf : WellFormed t) where
    -- A level's mask is the level's set.
    pub level_is :
        (f : ℕ) (F : ℕ → Type 0) → IsMask t.states f F → (s : List ℕ) → AllBelow t.states s →
        IsMask t.states (level_mask t f s) (LevelSet t F s)
    level_is f F h [] b = safe_is t wf f F h
    level_is f F h (q ∷ s) (more l b) = down_is t wf (level_mask t f s) (LevelSet t F s) (level_is f F h s b) q l

    mark_in : (m q : ℕ) → q < t.states → marking t m q < t.states
    mark_in zero q l = l
    mark_in (suc zero) q l = wf.mark_in q l
    mark_in (suc (suc m)) q l = l

    close_in : (m p : ℕ) (s : List ℕ) → p < t.states → AllBelow t.states s → InTable t (closing t m p s)
    close_in m p [] l b = record { newest_in = l; aside_in = b }
    close_in m p (q ∷ s) l (more h b) = record { newest_in = wf.apply_in q p h l; aside_in = b }

    run_in : {d e : ℕ} {w : List Event} → Reads t.labels d w e → (r : Run) → InTable t r → InTable t (run t r w)
    run_in Reads.none r h = h
    run_in (Reads.opens {a = a} l c) r h =
        run_in c (step t r (Open a))
        (record { newest_in = mark_in r.ahead _ (wf.opening_in a l); aside_in = more h.newest_in h.aside_in })
    run_in (Reads.points {a = a} l c) r h =
        run_in c (step t r (Point a))
        (record { newest_in = mark_in r.ahead _ (wf.point_in _ a h.newest_in l); aside_in = h.aside_in })
    run_in (Reads.closes c) r h = run_in c (step t r Close) (close_in r.ahead r.newest r.aside h.newest_in h.aside_in)

    -- A run over what was read stays in the table.
    pub marked_in : (i : ℕ) {w : List Event} {d : ℕ} → Prefix t w d → InTable t (marked t i w)
    marked_in i c = run_in c (record { ahead = i; newest = t.start; aside = [] }) (record { newest_in = wf.start_is_in; aside_in = none })
