-- What work memory stands for: rows, each a position and its levels, and the labels of the open levels; and the words that
-- these stand for. Definitions only. A row's levels are `Row` of meaning, the newest level first; so are labels.
use Rattle.std.specs.Prelude.{List, [], ◌∷◌, ◌++◌, ◌≡◌, ℕ, zero, suc, ◌-◌, ◌*◌, ◌<◌, ◌≤◌, get_or, length, drop}
use Rattle.meaning.specs.Rows.{Level, Row}
use Rattle.places.specs.Places.{position_at, state_at, selecting_at, rejecting_at, row_length, rows_length, label_at, row_of, padded}

-- A row as memory holds it.
pub record Held : Type 0 where
  pub position : ℕ
  pub row : Row

-- The abstract state: row 0, the run without a mark, and the rows of the alive positions, ascending.
pub record Memory : Type 0 where
  pub run : Row
  pub alive : List Held

---------------------------------------------------------------- the words that rows stand for

-- Levels, the newest given first; in memory level 0 stands first.
abbrev pub levels_words : List Level → List ℕ
levels_words [] = []
levels_words (l ∷ ls) = levels_words ls ++ (l.state ∷ l.selecting ∷ l.rejecting ∷ [])

-- A row of w words. Words of levels not in use are 0.
abbrev pub row_words : ℕ → Held → List ℕ
row_words w h = padded w (h.position ∷ levels_words (h.row.newest ∷ h.row.below))

-- What f gives for each row, one after the other.
abbrev pub each : {A : Type 0} → (Held → List A) → List Held → List A
each f [] = []
each f (h ∷ hs) = f h ++ each f hs

-- Rows of w words each, one after the other.
abbrev pub all_words : ℕ → List Held → List ℕ
all_words w hs = each (row_words w) hs

-- All rows of an abstract state: row 0 has position 0.
abbrev pub rows_of : Memory → List Held
rows_of m = record { position = 0; row = m.run } ∷ m.alive

-- The rows' words. Words of rows not in use are 0.
abbrev pub rows_words : ℕ → ℕ → Memory → List ℕ
rows_words rows depth m = padded (rows_length rows depth) (all_words (row_length depth) (rows_of m))

-- The labels of the open levels, the newest given first; in memory level 1 stands first. A label's word is 1 above it.
abbrev pub open_words : List ℕ → List ℕ
open_words [] = []
open_words (a ∷ o) = open_words o ++ (suc a ∷ [])

-- The labels' words. Words of levels not open are 0.
abbrev pub labels_words : ℕ → List ℕ → List ℕ
labels_words depth o = padded depth (open_words o)

-- The whole of work memory.
abbrev pub work_words : ℕ → ℕ → Memory → List ℕ → List ℕ
work_words rows depth m o = rows_words rows depth m ++ labels_words depth o

---------------------------------------------------------------- the rows that words stand for

-- Level l of a row.
abbrev pub level_in : List ℕ → ℕ → Level
level_in words l =
    record {
      state = get_or words (state_at l) 0;
      selecting = get_or words (selecting_at l) 0;
      rejecting = get_or words (rejecting_at l) 0;
    }

-- The levels under level d, the newest first.
abbrev pub below_in : List ℕ → ℕ → List Level
below_in words zero = []
below_in words (suc d) = level_in words d ∷ below_in words d

-- A row whose newest level is d.
abbrev pub row_in : ℕ → List ℕ → Row
row_in d words = record { newest = level_in words d; below = below_in words d }

abbrev pub held_in : ℕ → List ℕ → Held
held_in d words = record { position = get_or words position_at 0; row = row_in d words }

-- The first n rows of w words each.
abbrev pub helds_in : ℕ → ℕ → ℕ → List ℕ → List Held
helds_in w d zero words = []
helds_in w d (suc n) words = helds_in w d n words ++ (held_in d (row_of w n words) ∷ [])

-- The abstract state of memory with that depth allowed, depth now and alive count.
abbrev pub memory_in : ℕ → ℕ → ℕ → List ℕ → Memory
memory_in depth d alive words =
    record {
      run = row_in d (row_of (row_length depth) 0 words);
      alive = helds_in (row_length depth) d alive (drop (row_length depth) words);
    }

---------------------------------------------------------------- the labels that words stand for

-- The label that a word stands for, and the labels of d open levels, the newest first.
abbrev pub label_in : ℕ → ℕ
label_in x = x - 1

abbrev pub open_in : List ℕ → ℕ → List ℕ
open_in words zero = []
open_in words (suc d) = label_in (get_or words (label_at (suc d)) 0) ∷ open_in words d

---------------------------------------------------------------- words that can be stepped

-- Words that are a row with newest level d, its states below n, and nothing else.
pub record RowIn (n d : ℕ) (words : List ℕ) : Type 0 where
  pub short : length words ≤ row_length 40
  pub deep : row_length d ≤ length words
  pub same : words ≡ row_words (length words) (held_in d words)
  pub states : (l : ℕ) → l ≤ d → get_or words (state_at l) 0 < n

-- Words whose first `count` rows of w words each are such rows.
pub record RowsIn (n w d count : ℕ) (words : List ℕ) : Type 0 where
  pub short : w ≤ row_length 40
  pub deep : row_length d ≤ w
  pub fits : count * w ≤ length words
  pub each : (r : ℕ) → r < count → RowIn n d (row_of w r words)

-- Labels' words of d open levels, and nothing else.
pub record LabelsIn (d : ℕ) (words : List ℕ) : Type 0 where
  pub short : length words ≤ 40
  pub deep : d ≤ length words
  pub same : words ≡ labels_words (length words) (open_in words d)
