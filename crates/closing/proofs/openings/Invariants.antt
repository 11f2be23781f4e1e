-- `openings` meets its contract. The invariant: y has what the labels passed open.
use mathlib.Core.Path.{◌≡◌}
use Rattle.meaning.specs.Masks.{added, upto}
use Rattle.bodies.specs.Automaton.{automaton}
use Rattle.closing.proofs.openings.Given as goal

abbrev pub invariant-loop-a : goal.invariant-loop-a
invariant-loop-a l = l.y ≡ upto l.a (λ b z. added z ((automaton l.table).opening b)) 0
