-- `add_applies` meets its contract. The invariant: y has what the states passed bring.
use mathlib.Core.Path.{◌≡◌}
use mathlib.Core.Bool.{cond}
use Rattle.meaning.specs.Masks.{has, added, upto}
use Rattle.bodies.specs.Automaton.{automaton}
use Rattle.closing.proofs.add_applies.Given as goal

abbrev pub invariant-loop-p : goal.invariant-loop-p
invariant-loop-p l = l.y ≡ upto l.p (λ r z. cond (has l.trees r) (added z ((automaton l.table).apply l.q r)) z) l.x
