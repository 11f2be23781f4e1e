-- `round` meets its contract. The invariant: the states passed are followed.
use mathlib.Core.Path.{◌≡◌}
use Rattle.meaning.specs.Masks.{upto, follow_of}
use Rattle.bodies.specs.Automaton.{automaton}
use Rattle.closing.proofs.round.Given as goal

abbrev pub invariant-loop-q : goal.invariant-loop-q
invariant-loop-q l = l.y ≡ upto l.q (follow_of (automaton l.table) l.trees) l.x
