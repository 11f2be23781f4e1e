-- `first_fault` meets its contract: the rows' words come first. Assumes nothing.
use Rattle.std.specs.Prelude.{Option, None, Some}
use mathlib.Core.Path.{◌≡◌, sym, ◌∙◌}
use mathlib.Core.List.{List}
use Prim.Native.Nat.{ℕ, ◌≤◌}
use native.Mathlib.Omega.{arith}
use lib.ListN.{length}
use Rattle.meaning.proofs.Search.{rest_start}
use Rattle.order.specs.declared.Shape.{Shape}
use Rattle.order.specs.Order.{labels_from, word_right, first_from, first_fault}
use Rattle.order.proofs.Search.{rest_fault}
use Rattle.order.proofs.first_fault.Goals as goal

-- A fault found among the rows' words is the first.
among-rows :
    (s : Shape) (words : List ℕ) (p : Option ℕ) (k : ℕ) → labels_from s ≤ length words → p ≡ first_from (word_right s words) 0 (labels_from s) → p ≡ Some k →
    p ≡ first_fault s words
unfolding first_fault
among-rows s words p k l h e =
    e ∙ rest_fault (word_right s words) (length words) (labels_from s) 0 k (rest_start Some None (word_right s words) (length words)) (omega (arith, l)) (sym h ∙ e)

pub returns-in-Some : goal.returns-in-Some
returns-in-Some c =
    sym c.in-Some.is ∙ among-rows c.args.s c.args.words.now _ _ (omega arith) c.rows_fault.ensures c.in-Some.is
