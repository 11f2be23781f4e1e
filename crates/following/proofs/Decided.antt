-- A position read is alive exactly when its row is not decided. Assumes a well-formed table and a stream that was read.
use mathlib.Core.Path.{◌≡◌, refl}
use mathlib.Core.Bool.{Bool, true, false, ◌||◌, true≢false}
use mathlib.Core.List.{List}
use mathlib.Core.Logic.{◌↔◌}
use Prim.Native.Nat.{ℕ, ◌≤◌}
use lib.Dec.{T}
use Rattle.meaning.specs.Table.{Table, WellFormed}
use Rattle.meaning.specs.Streams.{Event, positions, Prefix, Certain, RuledOut, Alive}
use Rattle.meaning.specs.Rows.{is_selecting, is_rejecting, row_after}
use Rattle.meaning.proofs.Earliest.{certain_is, ruled_out_is}
use Rattle.rows.specs.Steps.{is_decided}

pub undecided_is :
    (t : Table) → WellFormed t → (i : ℕ) {w : List Event} {d : ℕ} → Prefix t w d → i ≤ positions w →
    (is_decided (row_after t i w) ≡ false) ↔ Alive t i w
undecided_is t wf i {w} r l = go (is_selecting (row_after t i w)) (is_rejecting (row_after t i w)) (certain_is t wf i r l) (ruled_out_is t wf i r l)
  where
    go : (s f : Bool) → T s ↔ Certain t i w → T f ↔ RuledOut t i w → (s || f ≡ false) ↔ Alive t i w
    go true f c o = (λ e. absurd (true≢false e), λ a. absurd (a.0 (c.0 tt)))
    go false true c o = (λ e. absurd (true≢false e), λ a. absurd (a.1 (o.0 tt)))
    go false false c o = (λ e. (c.1, o.1), λ a. refl)
