-- The alive positions, as a list: there is one, and it is the only one. Assumes a well-formed table and a stream that was read,
-- where it says so.
use mathlib.Core.List.{List, []}
use mathlib.Core.Logic.Iff
use mathlib.Core.Logic.{⊎_elim}
use mathlib.Core.Path.{◌≡◌}
use Prim.Native.Nat.{ℕ}
use Rattle.meaning.specs.Table.{Table, WellFormed}
use Rattle.meaning.specs.Streams.{Event, Prefix}
use Rattle.following.specs.Lists as lists
use Rattle.following.specs.Following.{memory_after, positions_of}
use Rattle.following.proofs.Lists.{in_nil, rising_same}
use Rattle.following.proofs.Held.{held_rise, held_exactly}
use Rattle.demands.specs.Watching.{Stream}
use Rattle.demands.specs.Deciding.{AliveAre}
use Rattle.demands.proofs.OneEvent.{going, over, over_decides}

-- While the stream goes on they are the positions held.
pub alive_going : (t : Table) → WellFormed t → {w : List Event} {d : ℕ} → Prefix t w d → AliveAre t (going w) (positions_of (memory_after t w).alive)
alive_going t wf {w} r =
    record {
      ascending = held_rise t w;
      exactly = λ i.
          let e = held_exactly t wf r i in
          (λ h. let x = e.0 h in ((x.0, x.1), x.2), λ h. e.1 (h.0.0, h.0.1, h.1));
    }

-- After the end there is none.
pub alive_over : (t : Table) (w : List Event) → AliveAre t (over w) []
alive_over t w =
    record {
      ascending = lists.none;
      exactly = λ i. (λ h. absurd (in_nil h), λ h. absurd (⊎_elim h.1.0 h.1.1 (over_decides t w i)));
    }

pub alive_same : (t : Table) (s : Stream) (xs ys : List ℕ) → AliveAre t s xs → AliveAre t s ys → xs ≡ ys
alive_same t s xs ys a b = rising_same a.ascending b.ascending (λ i. Iff.trans (a.exactly i) (Iff.symm (b.exactly i)))
