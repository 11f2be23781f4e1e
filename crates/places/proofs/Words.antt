-- The words of a row: how many, and which is where. Assumes nothing.
use mathlib.Core.Path.{◌≡◌, refl}
use mathlib.Core.List.{List, [], ◌∷◌, ◌++◌, append_assoc}
use Prim.Native.Nat.{ℕ, suc, ◌-◌, ◌*◌, ◌≤◌}
use native.Mathlib.Omega.{arith}
use lib.ListN.{length, replicate, length-append, length-replicate}
use Rattle.meaning.specs.Rows.{Level}
use Rattle.places.specs.Places.{state_at, row_length, padded}
use Rattle.places.specs.Memory.{Held, levels_words, row_words}

pub padded_length : (n : ℕ) (xs : List ℕ) → length xs ≤ n → length (padded n xs) ≡ n
padded_length n xs h = simp (length-append, length-replicate) (omega arith)

pub levels_length : (ls : List Level) → length (levels_words ls) ≡ 3 * length ls
levels_length [] = refl
levels_length (l ∷ ls) = simp (length-append, levels_length ls) (omega arith)

-- What stands before the newest level of a row: its position and the levels below.
abbrev pub front : Held → List ℕ
front h = h.position ∷ levels_words h.row.below

pub front_length : (h : Held) → length (front h) ≡ state_at (length h.row.below)
front_length h = simp (levels_length h.row.below) (omega arith)

pub all_length : (h : Held) → length (h.position ∷ levels_words (h.row.newest ∷ h.row.below)) ≡ row_length (length h.row.below)
all_length h = simp (levels_length (h.row.newest ∷ h.row.below)) (omega arith)

-- The words of a row: up to its newest level, that level, and 0 for the levels not in use.
pub row_split : (w : ℕ) (h : Held) → row_words w h
    ≡ front h ++ h.row.newest.state ∷ h.row.newest.selecting ∷ h.row.newest.rejecting ∷ replicate (w - row_length (length h.row.below)) 0
row_split w h =
    let e : suc (length (levels_words (h.row.newest ∷ h.row.below))) ≡ row_length (length h.row.below) = all_length h in
    rw (e, append_assoc (front h) (h.row.newest.state ∷ h.row.newest.selecting ∷ h.row.newest.rejecting ∷ []) (replicate (w - row_length (length h.row.below)) 0))

pub row_length_lem : (w : ℕ) (h : Held) → row_length (length h.row.below) ≤ w → length (row_words w h) ≡ w
row_length_lem w h l =
    padded_length w (h.position ∷ levels_words (h.row.newest ∷ h.row.below)) (omega (arith, all_length h))
