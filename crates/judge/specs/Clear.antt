-- A call to which none of the lines 1 to 8 applies: table, record, work memory and room for reports are in order. Definitions only.
use Rattle.std.specs.Prelude.{Ok, List, ◌++◌, ◌≡◌, ℕ}
use Rattle.meaning.specs.Refusals.{Line, first_of}
use Rattle.bodies.specs.Sound.{states_in, labels_in}
use Rattle.table.specs.File.{reading_of}
use Rattle.answers.specs.declared.Record.{Record}
use Rattle.judge.specs.Judging.{Judged, fine, table_lines, call_lines}

-- 1 to 8.
abbrev pub clear_lines : List ℕ → Record → List ℕ → ℕ → List (Line Judged)
clear_lines f r work reports = table_lines f ++ call_lines (states_in f) (labels_in f) r work reports

pub record Clear (f : List ℕ) (r : Record) (work : List ℕ) (reports : ℕ) : Type 0 where
  pub read : reading_of f ≡ Ok (states_in f, labels_in f)
  pub call : first_of (call_lines (states_in f) (labels_in f) r work reports) fine ≡ fine
