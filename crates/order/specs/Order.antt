-- In order, word by word (01, "In order means", and 02, K2), and the first word that breaks it. Definitions only.
use Rattle.std.specs.Prelude.{Bool, Option, None, Some, true, cond, ◌&&◌, List, ℕ, zero, suc, ◌+◌, ◌-◌, ◌/◌, ◌%◌, ltb, leb, eqb, length, get_or}
use Rattle.meaning.specs.Search.{searched}
use Rattle.places.specs.Places.{position_at, level_of, part_of, row_length, row_at, label_level}
use Rattle.order.specs.declared.Shape.{Shape}

-- The position of row r: 0 in row 0; else above that of the row before, whatever that is, and at most the positions read.
abbrev pub position_right : Shape → List ℕ → ℕ → ℕ → Bool
position_right s words zero x = eqb x 0
position_right s words (suc r) x = ltb (get_or words (row_at s.allowed r + position_at) 0) x && leb x s.positions

-- The word at c of row r is in order: 0 in a row or level not in use; a state in use is below n; a set may be any word.
abbrev pub cell_right : Shape → List ℕ → ℕ → ℕ → Bool
cell_right s words r c =
    let x = get_or words (row_at s.allowed r + c) 0 in
    cond (leb s.used r) (eqb x 0)
    (cond (eqb c position_at) (position_right s words r x)
    (cond (ltb s.depth (level_of c)) (eqb x 0)
    (cond (eqb (part_of c) 0) (ltb x s.states) true)))

-- The word x of the label of level l is in order: 1 to k where the level is open, else 0.
abbrev pub label_right : Shape → ℕ → ℕ → Bool
label_right s l x = cond (leb l s.depth) (ltb 0 x && leb x s.labels) (eqb x 0)

-- Where the labels' words begin.
abbrev pub labels_from : Shape → ℕ
labels_from s = row_at s.allowed s.rows

-- The word at place i of work memory is in order: one of the rows', or one of the labels' after them.
abbrev pub word_right : Shape → List ℕ → ℕ → Bool
word_right s words i =
    cond (ltb i (labels_from s))
    (cell_right s words (i / row_length s.allowed) (i % row_length s.allowed))
    (label_right s (label_level (i - labels_from s)) (get_or words i 0))

-- The first place from i on, among n, at which a test fails.
abbrev pub first_from : (ℕ → Bool) → ℕ → ℕ → Option ℕ
first_from right i n = searched Some None right i n

-- The first word out of order, in any row and level or of any label.
unfoldable pub first_fault : Shape → List ℕ → Option ℕ
first_fault s words = first_from (word_right s words) 0 (length words)
