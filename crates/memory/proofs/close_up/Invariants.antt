-- `close_up` meets its contract. Assumes nothing.
use Rattle.memory.proofs.Turns.{Closed}
use Rattle.memory.proofs.close_up.Given as goal

abbrev pub invariant-loop-r : goal.invariant-loop-r
invariant-loop-r l = Closed l.w l.d l.n l.initial.words l.words l.r l.left
