-- `ends` meets its contract. The invariant: y has the states passed that are as wanted.
use mathlib.Core.Path.{◌≡◌}
use mathlib.Core.Bool.{cond}
use mathlib.Core.Bool.{not}
use Rattle.meaning.specs.Masks.{collect}
use Rattle.bodies.specs.Automaton.{automaton}
use Rattle.sets.proofs.ends.Given as goal

abbrev pub invariant-loop-q : goal.invariant-loop-q
invariant-loop-q l = l.y ≡ collect l.q (λ r. cond l.wanted ((automaton l.table).final r) (not ((automaton l.table).final r)))
