-- `safe` meets its contract. The invariant: y has the states passed whose acc lies in x.
use mathlib.Core.Path.{refl, ◌∙◌}
use Prim.Native.Nat.{ℕ}
use native.Mathlib.Numerals.{add-one}
use borrow.Author.Tests.{eq-eqb, ne_eqb}
use Rattle.meaning.specs.Masks.{within, added}
use Rattle.masks.proofs.Turns.{turn_taken, turn_left}
use Rattle.sets.proofs.safe.Goals as goal
use Rattle.sets.proofs.safe.Goals.{then-acc-x, else-acc-x}

pub loop-q-preserved : goal.loop-q-preserved
unfolding within
loop-q-preserved c =
    let l = c.loop-q in
    let F : ℕ → ℕ = λ z. added z l.q in
    rw add-one
    (elim c.if-acc-x.branch [
      | then-acc-x w ↦ turn_taken F refl (eq-eqb _ _ w.if-acc-x.true) l.invariant (w.y-is ∙ w.add-y.ensures)
      | else-acc-x w ↦ turn_left F refl (ne_eqb _ _ w.if-acc-x.false) l.invariant w.y-is
    ])
