-- `count_alive` meets its contract. Assumes nothing.
use Rattle.rows.specs.Steps.{on_row}
use Rattle.rows.specs.Rules.{step_by}
use Rattle.memory.proofs.Turns.{Counted}
use Rattle.memory.proofs.count_alive.Given as goal

abbrev pub invariant-loop-r : goal.invariant-loop-r
invariant-loop-r l = Counted (on_row (step_by l.rule)) l.w l.d l.n l.words l.count l.r
