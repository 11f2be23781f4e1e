-- A table file that can be stepped by. Definitions only.
use Rattle.std.specs.Prelude.{List, ◌≡◌, ℕ, ◌*◌, ◌<◌, get_or, length}
use Rattle.meaning.specs.Table.{WellFormed, body_at, body_length, table_of}

-- n, k and the start state, as the file has them.
abbrev pub states_in : List ℕ → ℕ
states_in f = get_or f 0 0

abbrev pub labels_in : List ℕ → ℕ
labels_in f = get_or f 1 0

abbrev pub start_in : List ℕ → ℕ
start_in f = get_or f 2 0

-- A file that can be stepped by: as long as its n and k say, and well-formed.
pub record Sound (f : List ℕ) : Type 0 where
  pub size : length f ≡ body_at (states_in f) (labels_in f) 5
  pub formed : WellFormed (table_of f)

-- Row q and column a are in body i of a file, whose rows, one a state, are w wide.
pub record CellOf (f : List ℕ) (i w q a : ℕ) : Type 0 where
  pub kind : i < 5
  pub rows : states_in f * w ≡ body_length (states_in f) (labels_in f) i
  pub row_in : q < states_in f
  pub column_in : a < w
