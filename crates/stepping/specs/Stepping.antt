-- What an event makes of all rows (01, "Record and work memory"). Definitions only.
use Rattle.std.specs.Prelude.{List, [], ◌∷◌, ◌++◌, map, ◌≡◌, ℕ, ◌+◌, ◌-◌, ◌<◌, ◌≤◌, get_or, length, drop, replicate}
use Rattle.meaning.specs.Table.{Table}
use Rattle.meaning.specs.Masks.{accs_of}
use Rattle.meaning.specs.Streams.{Event, Open, Point, Close}
use Rattle.meaning.specs.Rows.{Row, start_row, mark_row}
use Rattle.places.specs.Places.{position_at, row_length, row_at, rows_length, row_of}
use Rattle.places.specs.Memory.{Held, Memory, RowsIn}
use Rattle.rows.specs.Steps.{step_row, on_row}
use Rattle.reports.specs.Reports.{reports_of, left_of}
use Rattle.stepping.specs.declared.Counts.{Counts}

-- Start: row 0 alone.
abbrev pub start_memory : Table → Memory
start_memory t = record { run = start_row t (accs_of t); alive = [] }

-- The row of a new position: a copy of row 0 as it now is, its newest state passed through M.
abbrev pub new_of : Table → ℕ → Row → Held
new_of t position run = record { position = position; row = mark_row t run }

-- The new row after an open or point, before which p positions were read.
abbrev pub born : Table → Event → ℕ → Row → List Held
born t (Open a) p run = new_of t (p + 1) run ∷ []
born t (Point a) p run = new_of t (p + 1) run ∷ []
born t Close p run = []

-- Each row by the rule of the event, and the new row.
abbrev pub step_memory : Table → List ℕ → Event → ℕ → Memory → Memory
step_memory t accs e p m =
    record {
      run = step_row t accs e m.run;
      alive = map (on_row (step_row t accs e)) m.alive ++ born t e p (step_row t accs e m.run);
    }

-- Reported rows go.
abbrev pub left_memory : Memory → Memory
left_memory m = record { run = m.run; alive = left_of m.alive }

-- How many positions are then alive, and how many are reported.
abbrev pub counts_of : Memory → Counts
counts_of m = record { alive = length (left_of m.alive); reports = length (reports_of m.alive) }

-- Another position can be numbered, where the event has one.
abbrev pub Counted : Event → ℕ → Type 0
Counted (Open a) p = p < 2147483647
Counted (Point a) p = p < 2147483647
Counted Close p = Unit {0}

-- The event leads from depth d to another of at most 40 levels.
abbrev pub Moves : Event → ℕ → Type 0
Moves (Open a) d = d < 40
Moves (Point a) d = Unit {0}
Moves Close d = 0 < d

-- Words that are the rows' words of a work memory with that number of rows, depth allowed, depth now and alive count, its states below n
-- and its positions small enough to report; words not in use are 0.
pub record Stands (n rows depth d alive : ℕ) (words : List ℕ) : Type 0 where
  pub few_rows : rows ≤ 64
  pub few_levels : depth ≤ 40
  pub deep : d ≤ depth
  pub room : alive ≤ rows
  pub size : length words ≡ rows_length rows depth
  pub rows_in : RowsIn n (row_length depth) d (alive + 1) words
  pub rest : drop (row_at depth (alive + 1)) words ≡ replicate (length words - row_at depth (alive + 1)) 0
  pub run_position : get_or words position_at 0 ≡ 0
  pub positions : (r : ℕ) → r < alive → get_or (row_of (row_length depth) r (drop (row_length depth) words)) position_at 0 ≤ 2147483647
