-- What memory stands for after a stream that was read from the start. Definitions only.
use Rattle.std.specs.Prelude.{List, [], ◌∷◌, ◌++◌, map, ℕ, zero, suc}
use Rattle.meaning.specs.Table.{Table}
use Rattle.meaning.specs.Streams.{Event, positions}
use Rattle.meaning.specs.Rows.{row_after}
use Rattle.places.specs.Memory.{Held, Memory}
use Rattle.reports.specs.Reports.{left_of}

-- 1 to n.
abbrev pub numbers : ℕ → List ℕ
numbers zero = []
numbers (suc n) = numbers n ++ (suc n ∷ [])

-- Position i with its row after w.
abbrev pub held_after : Table → List Event → ℕ → Held
held_after t w i = record { position = i; row = row_after t i w }

-- The run without a mark, and the rows of the positions read that are not decided.
abbrev pub memory_after : Table → List Event → Memory
memory_after t w = record { run = row_after t 0 w; alive = left_of (map (held_after t w) (numbers (positions w))) }

-- The positions of rows.
abbrev pub positions_of : List Held → List ℕ
positions_of hs = map (λ (h : Held). h.position) hs
