-- What in order says of one word, by where it stands; and rows within memory. Assumes nothing.
use mathlib.Core.Path.{◌≡◌}
use mathlib.Core.Bool.{true, ◌&&◌}
use mathlib.Core.List.{List}
use Prim.Native.Nat.{ℕ, zero, suc, ◌+◌, ◌-◌, ◌*◌, ◌<◌, ◌≤◌}
use native.Mathlib.Omega.{arith}
use native.Mathlib.Nat.{mul-le-mul_right, le-suc}
use borrow.Author.Tests.{lt-ltb, le-ltb, le-leb, lt-leb, eq-eqb, ne_eqb}
use lib.Dec.{ltb, leb, eqb}
use lib.ListN.{get_or, take}
use lib.Seq.{get_or-take}
use Rattle.places.specs.Places.{position_at, level_of, part_of, row_length, row_at}
use Rattle.places.proofs.Rows.{row_fits as fits}
use Rattle.order.specs.declared.Shape.{Shape}
use Rattle.order.specs.Order.{position_right, cell_right, labels_from}

-- A row that is there is within the n words of all rows.
pub row_fits : (rows r v w n : ℕ) → w ≡ v → r < rows → rows * v ≤ n → r * w + w ≤ n
row_fits rows r v w n e h f = rw e (fits rows r v n h (omega (arith, f)))

pub row_before : (r w : ℕ) → (r - 1) * w ≤ r * w
row_before r w = mul-le-mul_right w (omega arith)

first : (s : Shape) (words : List ℕ) (r x : ℕ) → r ≡ 0 → position_right s words r x ≡ eqb x 0
first s words r x e = rw e

later : (s : Shape) (words : List ℕ) (r x : ℕ) → 0 < r → position_right s words r x ≡ ltb (get_or words ((r - 1) * row_length s.allowed + 0) 0) x && leb x s.positions
later s words zero x h = absurd (omega arith)
later s words (suc r) x h = let e : suc r - 1 ≡ r = omega arith in rw e

-- The words after the rows do not matter for a word of them.
pub cell_in_rows :
    (s : Shape) (words : List ℕ) (r c : ℕ) → row_at s.allowed r + c < labels_from s →
    cell_right s (take (labels_from s) words) r c ≡ cell_right s words r c
cell_in_rows s words zero c h = rw (get_or-take (labels_from s) words (row_at s.allowed 0 + c) 0 h)
cell_in_rows s words (suc r) c h =
    let before : row_at s.allowed r + position_at < labels_from s = omega (arith, mul-le-mul_right (row_length s.allowed) (le-suc r), h) in
    rw (get_or-take (labels_from s) words (row_at s.allowed (suc r) + c) 0 h, get_or-take (labels_from s) words (row_at s.allowed r + position_at) 0 before)

module _ (s : Shape) (words : List ℕ) (w r c : ℕ) (e : w ≡ row_length s.allowed) where
  pub row_unused : s.used ≤ r → eqb (get_or words (r * w + c) 0) 0 ≡ cell_right s words r c
  row_unused h = rw e (simp (le-leb _ _ h))

  pub first_position : r < s.used → c ≡ 0 → r ≡ 0 → eqb (get_or words (r * w + c) 0) 0 ≡ cell_right s words r c
  first_position h p q = rw e (simp (lt-leb _ _ h, eq-eqb c 0 p, first s words r (get_or words (r * row_length s.allowed + c) 0) q))

  pub later_position : r < s.used → c ≡ 0 → 0 < r → ltb (get_or words ((r - 1) * w + 0) 0) (get_or words (r * w + c) 0) && leb (get_or words (r * w + c) 0) s.positions ≡ cell_right s words r c
  later_position h p q = rw e (simp (lt-leb _ _ h, eq-eqb c 0 p, later s words r (get_or words (r * row_length s.allowed + c) 0) q))

  pub level_unused : r < s.used → 0 < c → s.depth < level_of c → eqb (get_or words (r * w + c) 0) 0 ≡ cell_right s words r c
  level_unused h p q = rw e (simp (lt-leb _ _ h, ne_eqb c 0 (omega arith), lt-ltb _ _ q))

  pub state_used : r < s.used → 0 < c → level_of c ≤ s.depth → part_of c ≡ 0 → ltb (get_or words (r * w + c) 0) s.states ≡ cell_right s words r c
  state_used h p q i = rw e (simp (lt-leb _ _ h, ne_eqb c 0 (omega arith), le-ltb _ _ q, eq-eqb _ 0 i))

  pub set_used : r < s.used → 0 < c → level_of c ≤ s.depth → 0 < part_of c → true ≡ cell_right s words r c
  set_used h p q i = simp (lt-leb _ _ h, ne_eqb c 0 (omega arith), le-ltb _ _ q, ne_eqb (part_of c) 0 (omega arith))
