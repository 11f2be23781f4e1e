-- `rows_fault` meets its contract. The invariant of either loop: what is left of the search is the whole search.
use Rattle.order.proofs.RowsFaultTurns.{AtRow, InRow}
use Rattle.order.proofs.rows_fault.Given as goal

abbrev pub invariant-loop-l : goal.invariant-loop-l
invariant-loop-l l = InRow l.s l.words l.place l.r l.l

abbrev pub invariant-rows : goal.invariant-rows
invariant-rows l = AtRow l.s l.words l.place l.r
