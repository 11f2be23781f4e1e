-- Laws of the search for the first word at fault, beside those of every search (meaning/proofs/Search). Assumes nothing.
use Rattle.std.specs.Prelude.{Option, None, Some}
use mathlib.Core.Path.{◌≡◌, refl, sym, ◌∙◌}
use mathlib.Core.Bool.{Bool, true, false, cond}
use mathlib.Core.Logic.{⊎_elim}
use mathlib.Core.List.{List}
use Prim.Native.Nat.{ℕ, zero, suc, ◌+◌, ◌-◌, ◌*◌, ◌<◌, ◌≤◌}
use native.Mathlib.Omega.{arith}
use native.Mathlib.Nat.{suc-add, add-zero, zero-add}
use lib.Arith.{digits_div, digits_mod}
use lib.ListN.{get_or}
use borrow.Author.Tests.{lt-ltb, le-ltb}
use Rattle.meaning.specs.Search.{searched}
use Rattle.meaning.proofs.Search.{decided, Rest}
use Rattle.places.specs.Places.{row_length, label_level}
use Rattle.places.proofs.Rows.{row_fits}
use Rattle.order.specs.declared.Shape.{Shape}
use Rattle.order.specs.Order.{cell_right, label_right, labels_from, word_right, first_from}

module _ (s : Shape) (words : List ℕ) where
  -- A place in a row is its row's place and the word's own in the row.
  pub at_cell :
      (i r c : ℕ) → i ≡ r * row_length s.allowed + c → c < row_length s.allowed → r < s.rows →
      word_right s words i ≡ cell_right s words r c
  at_cell i r c e h l =
      let inside : r * row_length s.allowed + row_length s.allowed ≤ s.rows * row_length s.allowed = row_fits s.rows r (row_length s.allowed) _ l (omega arith) in
      rw (e, lt-ltb (r * row_length s.allowed + c) (s.rows * row_length s.allowed) (omega (arith, inside)), digits_div r h, digits_mod r h)

  -- After the rows it is that of a label.
  pub at_label : (i l : ℕ) → i ≡ labels_from s + l → word_right s words i ≡ label_right s (label_level l) (get_or words i 0)
  at_label i l e =
      let back : labels_from s + l - labels_from s ≡ l = omega arith in
      rw (e, le-ltb (labels_from s + l) (labels_from s) (omega arith), back)

-- The place found, or else another.
abbrev or_else : Option ℕ → Option ℕ → Option ℕ
or_else None q = q
or_else (Some j) q = Some j

cond_or : (b : Bool) (p q : Option ℕ) (j : ℕ) → cond b (or_else p q) (Some j) ≡ or_else (cond b p (Some j)) q
cond_or true p q j = refl
cond_or false p q j = refl

module _ (right : ℕ → Bool) where
  -- A search over n + m places: the first n decide, or else the rest does.
  split : (n m i : ℕ) → first_from right i (n + m) ≡ or_else (first_from right i n) (first_from right (i + n) m)
  unfolding searched
  split zero m i = rw (zero-add m, add-zero i)
  split (suc n) m i =
      let e : i + 1 + n ≡ i + suc n = omega arith in
      rw (suc-add n m, split n m (i + 1), e) (cond_or (right i) _ _ i)

  -- Where nothing is found, all is right.
  pub fine_all : (n i : ℕ) → first_from right i n ≡ None → (j : ℕ) → i ≤ j → j < i + n → right j ≡ true
  fine_all n i e =
      ⊎_elim (λ h. h.1) (λ h. let no : Some h.place ≡ None = sym h.is ∙ e in let z : ◌≡◌ {A = ℕ} 0 1 = cc in absurd (omega (arith, z)))
      (decided Some None right n i)

  -- A search over n places, of which the first i passed, and then m that are searched together.
  module _ (n : ℕ) where
    parted : (m i : ℕ) → Rest Some None right n i → i + m ≤ n → or_else (first_from right i m) (first_from right (i + m) (n - (i + m))) ≡ first_from right 0 n
    parted m i h l =
        let z : n - i ≡ m + (n - (i + m)) = omega arith in
        sym (split m (n - (i + m)) i) ∙ (rw z at h)

    pub rest_fine : (m i j : ℕ) → Rest Some None right n i → i + m ≤ n → first_from right i m ≡ None → j ≡ i + m → Rest Some None right n j
    rest_fine m i j h l e q = rw q (rw e at (parted m i h l))

    pub rest_fault : (m i k : ℕ) → Rest Some None right n i → i + m ≤ n → first_from right i m ≡ Some k → Some k ≡ first_from right 0 n
    rest_fault m i k h l e = rw e at (parted m i h l)
