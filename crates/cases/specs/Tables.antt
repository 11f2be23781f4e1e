-- The two table files that 01 works through, byte by byte. Definitions only.
use Rattle.std.specs.Prelude.{List, [], ◌∷◌, ℕ}

-- Table W, 76 bytes: it selects each node of label 0 with a point of label 1 directly in it.
abbrev pub table_w : List ℕ
table_w =
    5 ∷ 2 ∷ 0 ∷ 5
    ∷ 1 ∷ 29 ∷ 0 ∷ 2 ∷ 0
    ∷ 2 ∷ 31 ∷ 0 ∷ 10 ∷ 0
    ∷ 3 ∷ 41 ∷ 0 ∷ 5 ∷ 0
    ∷ 4 ∷ 46 ∷ 0 ∷ 25 ∷ 0
    ∷ 5 ∷ 71 ∷ 0 ∷ 5 ∷ 0
    ∷ 4 ∷ 0
    ∷ 0 ∷ 0 ∷ 1 ∷ 2 ∷ 2 ∷ 2 ∷ 3 ∷ 3 ∷ 0 ∷ 0
    ∷ 3 ∷ 3 ∷ 3 ∷ 3 ∷ 1
    ∷ 0 ∷ 3 ∷ 2 ∷ 3 ∷ 0 ∷ 1 ∷ 3 ∷ 2 ∷ 3 ∷ 1 ∷ 2 ∷ 3 ∷ 2 ∷ 3 ∷ 2 ∷ 3 ∷ 3 ∷ 2 ∷ 3 ∷ 3 ∷ 0 ∷ 3 ∷ 2 ∷ 3 ∷ 0
    ∷ 0 ∷ 0 ∷ 1 ∷ 0 ∷ 0
    ∷ []

-- Table L, 48 bytes: it selects a top-level point with nothing after it.
abbrev pub table_l : List ℕ
table_l =
    3 ∷ 1 ∷ 0 ∷ 5
    ∷ 1 ∷ 29 ∷ 0 ∷ 1 ∷ 0
    ∷ 2 ∷ 30 ∷ 0 ∷ 3 ∷ 0
    ∷ 3 ∷ 33 ∷ 0 ∷ 3 ∷ 0
    ∷ 4 ∷ 36 ∷ 0 ∷ 9 ∷ 0
    ∷ 5 ∷ 45 ∷ 0 ∷ 3 ∷ 0
    ∷ 2
    ∷ 0 ∷ 2 ∷ 2
    ∷ 1 ∷ 2 ∷ 2
    ∷ 0 ∷ 0 ∷ 0 ∷ 2 ∷ 2 ∷ 2 ∷ 2 ∷ 2 ∷ 2
    ∷ 0 ∷ 1 ∷ 0
    ∷ []
