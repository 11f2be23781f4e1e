-- `accs` meets its contract. The invariant: the states passed have their sets, the others 0.
use mathlib.Core.Path.{◌≡◌}
use Prim.Native.Nat.{◌-◌}
use mathlib.Core.List.{◌++◌}
use lib.ListN.{replicate}
use Rattle.meaning.specs.Masks.{tabulate, acc_of}
use Rattle.bodies.specs.Automaton.{automaton}
use Rattle.closing.proofs.accs.Given as goal

abbrev pub invariant-loop-q : goal.invariant-loop-q
invariant-loop-q l = l.sets ≡ tabulate l.q (acc_of (automaton l.table) l.trees) ++ replicate (64 - l.q) 0
