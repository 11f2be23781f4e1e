-- `add_points` meets its contract. The invariant: y has the labels passed.
use mathlib.Core.Path.{◌≡◌}
use Rattle.meaning.specs.Masks.{added, upto}
use Rattle.bodies.specs.Automaton.{automaton}
use Rattle.closing.proofs.add_points.Given as goal

abbrev pub invariant-loop-a : goal.invariant-loop-a
invariant-loop-a l = l.y ≡ upto l.a (λ b z. added z ((automaton l.table).point l.q b)) l.x
