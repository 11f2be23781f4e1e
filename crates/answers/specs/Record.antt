-- The watch's record and how it goes on (01, "Record and work memory"). Definitions only.
use Rattle.std.specs.Prelude.{true, false, ℕ, ◌+◌, ◌-◌}
use Rattle.answers.specs.declared.Record.{Record}

abbrev pub started_of : ℕ → ℕ → Record
started_of rows allowed =
    record { rows = rows; allowed = allowed; depth = 0; alive = 0; positions = 0; finished = false }

-- Zeros, not finished.
abbrev pub no_record : Record
no_record = started_of 0 0

abbrev pub deeper_of : Record → Record
deeper_of r =
    record { rows = r.rows; allowed = r.allowed; depth = r.depth + 1; alive = r.alive; positions = r.positions; finished = r.finished }

abbrev pub shallower_of : Record → Record
shallower_of r =
    record { rows = r.rows; allowed = r.allowed; depth = r.depth - 1; alive = r.alive; positions = r.positions; finished = r.finished }

abbrev pub one_more_of : Record → Record
one_more_of r =
    record { rows = r.rows; allowed = r.allowed; depth = r.depth; alive = r.alive; positions = r.positions + 1; finished = r.finished }

abbrev pub with_alive : ℕ → Record → Record
with_alive alive r =
    record { rows = r.rows; allowed = r.allowed; depth = r.depth; alive = alive; positions = r.positions; finished = r.finished }

-- After the end depth and alive count are 0.
abbrev pub finished_of : Record → Record
finished_of r = record { rows = r.rows; allowed = r.allowed; depth = 0; alive = 0; positions = r.positions; finished = true }
