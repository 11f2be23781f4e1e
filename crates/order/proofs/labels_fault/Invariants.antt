-- `labels_fault` meets its contract. The invariant of the loop: what is left of the search is the whole search.
use Rattle.order.proofs.LabelsFaultTurns.{AtLabel}
use Rattle.order.proofs.labels_fault.Given as goal

abbrev pub invariant-loop-i : goal.invariant-loop-i
invariant-loop-i l = AtLabel l.s l.words l.from l.i
