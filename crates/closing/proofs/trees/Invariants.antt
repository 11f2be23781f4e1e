-- `trees` meets its contract: a loop of rounds that stops early ends in the set that n rounds reach.
use Prim.Native.Nat.{◌-◌, ◌^◌}
use Rattle.meaning.specs.Masks.{round_of, openings_of}
use Rattle.bodies.specs.Automaton.{automaton}
use Rattle.closing.proofs.StopEarly.{OnTheWay}
use Rattle.closing.proofs.trees.Given as goal

abbrev pub invariant-loop-x : goal.invariant-loop-x
invariant-loop-x l = OnTheWay (automaton l.table).states (λ z. round_of (automaton l.table) z z) (openings_of (automaton l.table)) l.x

abbrev pub decreases-loop-x : goal.decreases-loop-x
decreases-loop-x l = 2 ^ (automaton l.table).states - l.x
