-- Where a word stands in work memory (01, "Record and work memory", and 02, K2). Definitions only.
-- Rows and levels are counted from 0. No other file knows the layout: first the rows, each its position and then for each
-- level its state, selecting set and rejecting set; then, for each level from 1 on, the word of its label.
use Rattle.std.specs.Prelude.{List, ◌++◌, ℕ, ◌+◌, ◌-◌, ◌*◌, ◌/◌, ◌%◌, length, take, drop, replicate}

-- Where a row's position stands in it, where its levels begin, and how many words a level has.
abbrev pub position_at : ℕ
position_at = 0

abbrev pub levels_at : ℕ
levels_at = 1

abbrev pub level_length : ℕ
level_length = 3

-- Where the three words of a level stand.
abbrev pub state_at : ℕ → ℕ
state_at l = levels_at + level_length * l

abbrev pub selecting_at : ℕ → ℕ
selecting_at l = state_at l + 1

abbrev pub rejecting_at : ℕ → ℕ
rejecting_at l = state_at l + 2

-- The level that the word at c of a row belongs to, the position apart, and which of its three words that is: 0 its
-- state.
abbrev pub level_of : ℕ → ℕ
level_of c = (c - levels_at) / level_length

abbrev pub part_of : ℕ → ℕ
part_of c = (c - levels_at) % level_length

-- How many words a row has.
abbrev pub row_length : ℕ → ℕ
row_length depth = state_at (depth + 1)

-- Where row r begins.
abbrev pub row_at : ℕ → ℕ → ℕ
row_at depth r = r * row_length depth

-- How many words the rows have, row 0 and the rows for alive positions. The labels' words stand after them.
abbrev pub rows_length : ℕ → ℕ → ℕ
rows_length rows depth = row_at depth (rows + 1)

-- Where the word of a level above 0 stands among the labels' words, and the level that the word at i of them belongs to.
abbrev pub label_at : ℕ → ℕ
label_at l = l - 1

abbrev pub label_level : ℕ → ℕ
label_level i = i + 1

-- How many words work memory has: one for the label of each level allowed, beside the rows'.
abbrev pub work_length : ℕ → ℕ → ℕ
work_length rows depth = rows_length rows depth + depth

-- The rows' words and the labels' words of work memory.
abbrev pub rows_part : ℕ → ℕ → List ℕ → List ℕ
rows_part rows depth words = take (rows_length rows depth) words

abbrev pub labels_part : ℕ → ℕ → List ℕ → List ℕ
labels_part rows depth words = drop (rows_length rows depth) words

-- The words of row r, where a row has w.
abbrev pub row_of : ℕ → ℕ → List ℕ → List ℕ
row_of w r words = take w (drop (r * w) words)

-- The words xs, and then 0 up to n words.
abbrev pub padded : ℕ → List ℕ → List ℕ
padded n xs = xs ++ replicate (n - length xs) 0
