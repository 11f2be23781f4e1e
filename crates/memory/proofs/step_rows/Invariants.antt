-- `step_rows` meets its contract. Assumes nothing.
use Rattle.places.specs.Memory.{Held, row_words}
use Rattle.rows.specs.Steps.{on_row}
use Rattle.rows.specs.Rules.{step_by}
use Rattle.memory.proofs.Turns.{Stepped}
use Rattle.memory.proofs.step_rows.Given as goal

abbrev pub invariant-loop-r : goal.invariant-loop-r
invariant-loop-r l = Stepped (λ (h : Held). row_words l.w (on_row (step_by l.rule) h)) l.w l.d l.n l.initial.words l.words l.r
