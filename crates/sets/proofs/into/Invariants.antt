-- `into` meets its contract. The invariant: y has the states passed that step into x.
use mathlib.Core.Path.{◌≡◌}
use Rattle.meaning.specs.Masks.{has, collect}
use Rattle.bodies.specs.Automaton.{automaton}
use Rattle.sets.proofs.into.Given as goal

abbrev pub invariant-loop-p : goal.invariant-loop-p
invariant-loop-p l = l.y ≡ collect l.p (λ r. has l.x ((automaton l.table).apply l.q r))
