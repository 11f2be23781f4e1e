-- `in_down` meets its contract. The invariant: the states of acc passed lead into x.
use mathlib.Core.Path.{◌≡◌}
use mathlib.Core.Bool.{true, not, ◌&&◌, ◌||◌}
use lib.Dec.{ltb}
use Rattle.meaning.specs.Masks.{all, has}
use Rattle.bodies.specs.Automaton.{automaton}
use Rattle.sets.proofs.in_down.Given as goal

abbrev pub invariant-loop-p : goal.invariant-loop-p
invariant-loop-p l = all l.p (λ r. not (has l.acc r) || (ltb r (automaton l.table).states && has l.x ((automaton l.table).apply l.q r))) ≡ true
