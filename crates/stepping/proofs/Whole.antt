-- A work memory as rows and then zeros, and back. Assumes words that are a work memory (`Stands`).
use mathlib.Core.Path.{◌≡◌, refl, sym, ap, ◌∙◌, subst}
use mathlib.Core.List.{List, [], ◌∷◌, ◌++◌, append-nil}
use Prim.Native.Nat.{ℕ, suc, ◌+◌, ◌-◌, ◌*◌, ◌≤◌}
use native.Mathlib.Nat.{suc-mul, zero-mul}
use native.Mathlib.Numerals.{add-one}
use native.Mathlib.Omega.{arith}
use lib.ListN.{length, get_or, set, take, drop, replicate, length-append, length-drop, length-replicate, replicate-append-replicate}
use lib.Seq.{get_or-take, take_all}
use Rattle.places.specs.Places.{position_at, state_at, selecting_at, rejecting_at, row_length, row_at, rows_length, row_of, padded}
use Rattle.places.specs.Memory.{Memory, row_in, helds_in, memory_in, all_words, rows_of, rows_words, RowsIn}
use Rattle.places.proofs.Good.{AllGood, helds_first, words_are, helds_good}
use Rattle.stepping.specs.Stepping.{Stands}

module _ (n rows depth d alive : ℕ) (words : List ℕ) (s : Stands n rows depth d alive words) where
  -- Its rows are those of its abstract state.
  pub rows_are : helds_in (row_length depth) d (alive + 1) words ≡ rows_of (memory_in depth d alive words)
  rows_are =
      let w = row_length depth in
      let e : get_or (row_of w 0 words) position_at 0 ≡ 0 = rw (zero-mul w) (get_or-take w words 0 0 (omega arith) ∙ s.run_position) in
      rw (add-one alive) (helds_first w d alive words ∙ ap (λ p. record { position = p; row = row_in d (row_of w 0 words) } ∷ helds_in w d alive (drop w words)) e)

  pub state_good : AllGood n d (rows_of (memory_in depth d alive words))
  state_good = subst (AllGood n d) rows_are (helds_good n (row_length depth) d (alive + 1) words s.rows_in.each)

  pub state_words : words ≡ all_words (row_length depth) (rows_of (memory_in depth d alive words)) ++ replicate (length words - row_at depth (alive + 1)) 0
  state_words =
      words_are n (row_length depth) d (alive + 1) words s.rows_in
      ∙ ap (λ hs. all_words (row_length depth) hs ++ drop (row_at depth (alive + 1)) words) rows_are
      ∙ ap (λ xs. all_words (row_length depth) (rows_of (memory_in depth d alive words)) ++ xs) s.rest

-- Rows and then zeros, as many words as work memory has, are the words of an abstract state.
pub words_back : (rows depth k : ℕ) (m : Memory) (words : List ℕ) → words ≡ all_words (row_length depth) (rows_of m) ++ replicate k 0 → length words ≡ rows_length rows depth → words ≡ rows_words rows depth m
words_back rows depth k m words e l =
    let xs : List ℕ = all_words (row_length depth) (rows_of m) in
    let f : k ≡ rows_length rows depth - length xs = omega (arith, ap length e ∙ length-append xs (replicate k 0), length-replicate {A = ℕ} k 0, l) in
    e ∙ ap (λ i. xs ++ replicate i 0) f

-- Rows fill their words: nothing is padded.
pub rows_fill : (n w d count : ℕ) (words : List ℕ) → RowsIn n w d count words → words ≡ padded (count * w) (all_words w (helds_in w d count words)) ++ drop (count * w) words
rows_fill n w d count words r =
    let xs : List ℕ = all_words w (helds_in w d count words) in
    let are = words_are n w d count words r in
    let k : 0 ≡ count * w - length xs = omega (arith, ap length are ∙ length-append xs (drop (count * w) words), length-drop (count * w) words, r.fits) in
    are ∙ ap (λ ys. ys ++ drop (count * w) words) (sym (append-nil xs) ∙ ap (λ i. xs ++ replicate i 0) k)

-- There is room for row 0.
pub start_room : (rows depth : ℕ) → row_length depth ≤ rows_length rows depth
start_room rows depth = omega (arith, suc-mul rows (row_length depth), add-one rows)

-- Three words written into zeros, behind one.
three_words : (k j q x y : ℕ) → set (set (set (replicate (suc (suc (suc (suc (k + j))))) 0) 1 q) 2 x) 3 y
    ≡ (0 ∷ q ∷ x ∷ y ∷ replicate k 0) ++ [] ++ replicate j 0
three_words k j q x y =
    ap (λ zs. 0 ∷ q ∷ x ∷ y ∷ zs) (sym (replicate-append-replicate k j 0))
    ∙ ap (λ zs. zs ++ replicate j 0) (sym (append-nil (0 ∷ q ∷ x ∷ y ∷ replicate k 0)))

row_size : (k w q x y : ℕ) → w ≡ k + 4 → length ((0 ∷ q ∷ x ∷ y ∷ replicate k 0) ++ []) ≡ w
row_size k w q x y e = ap length (append-nil (0 ∷ q ∷ x ∷ y ∷ replicate k 0)) ∙ omega (arith, length-replicate {A = ℕ} k 0, e)

-- The words of a watch that has read nothing, written into zeros.
pub start_words : (rows depth q x y : ℕ) → set (set (set (replicate (rows_length rows depth) 0) (state_at 0) q) (selecting_at 0) x) (rejecting_at 0) y
    ≡ rows_words rows depth (record { run = record { newest = record { state = q; selecting = x; rejecting = y }; below = [] }; alive = [] })
start_words rows depth q x y = go (row_length depth - 4) (rows_length rows depth - row_length depth) (omega (arith, start_room rows depth)) (omega arith) refl
  where
    go : (k j : ℕ) → rows_length rows depth ≡ suc (suc (suc (suc (k + j)))) → row_length depth ≡ k + 4 → j ≡ rows_length rows depth - row_length depth
        → set (set (set (replicate (rows_length rows depth) 0) 1 q) 2 x) 3 y ≡ (0 ∷ q ∷ x ∷ y ∷ replicate (row_length depth - 4) 0) ++ [] ++ replicate (rows_length rows depth - length ((0 ∷ q ∷ x ∷ y ∷ replicate (row_length depth - 4) 0) ++ [])) 0
    go k j e f g =
        let h : k ≡ row_length depth - 4 = omega (arith, f) in
        ap (λ i. set (set (set (replicate i 0) 1 q) 2 x) 3 y) e
        ∙ three_words k j q x y
        ∙ ap (λ i. (0 ∷ q ∷ x ∷ y ∷ replicate k 0) ++ [] ++ replicate i 0) (g ∙ ap (λ i. rows_length rows depth - i) (sym (row_size k (row_length depth) q x y f)))
        ∙ ap (λ i. (0 ∷ q ∷ x ∷ y ∷ replicate i 0) ++ [] ++ replicate (rows_length rows depth - length ((0 ∷ q ∷ x ∷ y ∷ replicate i 0) ++ [])) 0) h

-- The words from a place on, as they are lent.
pub rest_part : (words : List ℕ) (k : ℕ) → take (length words - k) (drop k words) ≡ drop k words
rest_part words k = take_all (length words - k) (drop k words) (omega (arith, length-drop k words))
