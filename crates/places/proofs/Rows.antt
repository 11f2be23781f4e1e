-- Rows of w words each in a list of words: what a row more adds, and what a row's part put anew leaves. Assumes nothing.
use mathlib.Core.Path.{◌≡◌, refl, sym, ap, ◌∙◌}
use mathlib.Core.List.{List, [], ◌∷◌, ◌++◌, map, append_assoc, append-nil}
use Prim.Native.Nat.{ℕ, ◌+◌, ◌*◌, ◌<◌, ◌≤◌}
use native.Mathlib.Numerals.{add-one}
use native.Mathlib.Nat.{suc-mul, mul-le-mul_right}
use native.Mathlib.Omega.{arith}
use lib.ListN.{length, take, drop, length-append, length-drop}
use lib.Seq.{paste, length-take-le, take_at, drop_at, drop-drop, drop-paste}
use Rattle.places.specs.Places.{row_of}
use Rattle.places.specs.Memory.{Held, each, held_in, helds_in}

---------------------------------------------------------------- what is given for each row

module _ {A : Type 0} (g : Held → List A) where
  pub each_append : (xs ys : List Held) → each g (xs ++ ys) ≡ each g xs ++ each g ys
  each_append [] ys = refl
  each_append (x ∷ xs) ys = ap (λ (zs : List A). g x ++ zs) (each_append xs ys) ∙ sym (append_assoc (g x) (each g xs) (each g ys))

  pub each_map : (f : Held → Held) (hs : List Held) → each g (map f hs) ≡ each (λ (h : Held). g (f h)) hs
  each_map f [] = refl
  each_map f (h ∷ hs) = ap (λ (zs : List A). g (f h) ++ zs) (each_map f hs)

  -- One row more.
  pub each_next : (w d r : ℕ) (words : List ℕ) → each g (helds_in w d (r + 1) words) ≡ each g (helds_in w d r words) ++ g (held_in d (row_of w r words))
  each_next w d r words =
      ap (λ (k : ℕ). each g (helds_in w d k words)) (add-one r)
      ∙ each_append (helds_in w d r words) (held_in d (row_of w r words) ∷ [])
      ∙ ap (λ (zs : List A). each g (helds_in w d r words) ++ zs) (append-nil (g (held_in d (row_of w r words))))

---------------------------------------------------------------- where rows are

pub next_row : (r w : ℕ) → (r + 1) * w ≡ r * w + w
next_row r w = rw (add-one r, suc-mul r w)

pub row_fits : (n r w l : ℕ) → r < n → n * w ≤ l → r * w + w ≤ l
row_fits n r w l h fits = omega (arith, suc-mul r w, mul-le-mul_right w h)

-- A row past the first begins where the first has ended.
pub past_first : (r w : ℕ) → 0 < r → w ≤ r * w
past_first r w h = omega (arith, mul-le-mul_right {m = 1} {n = r} w h)

-- A part of k words has k.
pub part_length : (words : List ℕ) (at k : ℕ) → at + k ≤ length words → length (take k (drop at words)) ≡ k
part_length words at k h = length-take-le k (drop at words) (simp length-drop (omega arith))

-- The next row ends where the rows after it begin.
pub past_row : (w r : ℕ) (words : List ℕ) → drop w (drop (r * w) words) ≡ drop ((r + 1) * w) words
past_row w r words = drop-drop w (r * w) words ∙ ap (λ (k : ℕ). drop k words) (sym (next_row r w))

---------------------------------------------------------------- a part put anew

-- As long as before.
pub put_length : (words ys : List ℕ) (at k : ℕ) → at + k ≤ length words → length ys ≡ k → length (take at words ++ (ys ++ drop k (drop at words))) ≡ length words
put_length words ys at k h e = simp (length-append, length-take-le at words (omega arith), length-drop) (omega arith)

-- Rows r and on as they were, other words in front of them.
module _ (w r : ℕ) (words₀ front words : List ℕ) (e : words ≡ front ++ drop (r * w) words₀) (l : length front ≡ r * w) where
  pub rest_as : drop (r * w) words ≡ drop (r * w) words₀
  rest_as = ap (drop (r * w)) e ∙ drop_at front (drop (r * w) words₀) (r * w) l

  pub front_as : take (r * w) words ≡ front
  front_as = ap (take (r * w)) e ∙ take_at front (drop (r * w) words₀) (r * w) l

  -- Row r put anew: then rows r + 1 and on are.
  pub turned : (ys : List ℕ) → take (r * w) words ++ (ys ++ drop w (drop (r * w) words)) ≡ front ++ ys ++ drop ((r + 1) * w) words₀
  turned ys =
      ap (λ (xs : List ℕ). xs ++ (ys ++ drop w (drop (r * w) words))) front_as
      ∙ ap (λ (xs : List ℕ). front ++ (ys ++ drop w xs)) rest_as
      ∙ ap (λ (xs : List ℕ). front ++ (ys ++ xs)) (past_row w r words₀)
      ∙ sym (append_assoc front ys (drop ((r + 1) * w) words₀))

-- w words of xs copied to `at`, then that part put anew.
module _ (words xs : List ℕ) (at w : ℕ) (h : at + w ≤ length words) (l : w ≤ length xs) where
  pasted : paste words at xs w ≡ take at words ++ (take w xs ++ drop (at + w) words)
  pasted = append_assoc (take at words) (take w xs) (drop (at + w) words)

  before : length (take at words) ≡ at
  before = length-take-le at words (omega arith)

  pub copied_part : take w (drop at (paste words at xs w)) ≡ take w xs
  copied_part =
      ap (λ (zs : List ℕ). take w (drop at zs)) pasted
      ∙ ap (take w) (drop_at (take at words) (take w xs ++ drop (at + w) words) at before)
      ∙ take_at (take w xs) (drop (at + w) words) w (length-take-le w xs l)

  pub copied_put : (ys : List ℕ) → take at (paste words at xs w) ++ (ys ++ drop w (drop at (paste words at xs w))) ≡ take at words ++ ys ++ drop (at + w) words
  copied_put ys =
      ap (λ (zs : List ℕ). zs ++ (ys ++ drop w (drop at (paste words at xs w)))) (ap (take at) pasted ∙ take_at (take at words) (take w xs ++ drop (at + w) words) at before)
      ∙ ap (λ (zs : List ℕ). take at words ++ (ys ++ zs)) (drop-drop w at (paste words at xs w) ∙ drop-paste words at xs w (omega arith) l)
      ∙ sym (append_assoc (take at words) ys (drop (at + w) words))
