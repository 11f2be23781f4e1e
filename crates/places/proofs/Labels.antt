-- The labels' words: how many, which labels they stand for, and what an open and a close make of them. Assumes nothing.
use mathlib.Core.Path.{◌≡◌, refl, sym, ap, ap₂, ◌∙◌}
use mathlib.Core.List.{List, [], ◌∷◌, ◌++◌, append_assoc}
use Prim.Native.Nat.{ℕ, zero, suc, ◌+◌, ◌-◌, ◌<◌, ◌≤◌}
use native.Mathlib.Omega.{arith}
use lib.ListN.{length, get_or, set, take, drop, replicate, length-append, take-append-drop}
use lib.Seq.{take-suc, set_at, get_or-append_seam}
use Rattle.meaning.specs.Streams.{all_but_newest}
use Rattle.places.specs.Places.{label_at}
use Rattle.places.specs.Memory.{open_words, labels_words, label_in, open_in, LabelsIn}
use Rattle.places.proofs.Words.{padded_length}
use Rattle.places.proofs.Zeros.{rest_of_zeros}

pub open_words_length : (o : List ℕ) → length (open_words o) ≡ length o
open_words_length [] = refl
open_words_length (a ∷ o) = simp (length-append, open_words_length o) (omega arith)

pub labels_length : (depth : ℕ) (o : List ℕ) → length o ≤ depth → length (labels_words depth o) ≡ depth
labels_length depth o h = padded_length depth (open_words o) (omega (arith, open_words_length o))

pub open_length : (words : List ℕ) (d : ℕ) → length (open_in words d) ≡ d
open_length words zero = refl
open_length words (suc d) = ap suc (open_length words d)

-- The words of labels stand for them, whatever stands after.
pub open_back : (o rest : List ℕ) → open_in (open_words o ++ rest) (length o) ≡ o
open_back [] rest = refl
open_back (a ∷ o) rest =
    let at : label_at (suc (length o)) ≡ length (open_words o) = omega (arith, open_words_length o) in
    let a_back : label_in (suc a) ≡ a = omega arith in
    let words : List ℕ = (open_words o ++ (suc a ∷ [])) ++ rest in
    let moved : words ≡ open_words o ++ (suc a ∷ rest) = append_assoc (open_words o) (suc a ∷ []) rest in
    let newest : label_in (get_or words (label_at (suc (length o))) 0) ≡ a = rw (moved, at, get_or-append_seam (open_words o) (suc a) rest 0, a_back) in
    let others : open_in words (length o) ≡ o = rw moved (open_back o (suc a ∷ rest)) in
    ap₂ (λ x xs. x ∷ xs) newest others

-- Words above 0 up to d are those of labels.
under : (words : List ℕ) (d : ℕ) → d ≤ length words → ((i : ℕ) → i < d → 0 < get_or words i 0) → take d words ≡ open_words (open_in words d)
under words zero h some = refl
under words (suc d) h some =
    let at : label_at (suc d) ≡ d = omega arith in
    let back : suc (get_or words d 0 - 1) ≡ get_or words d 0 = omega (arith, some d (omega arith)) in
    take-suc words d 0 (omega arith) ∙ rw (at, back, under words d (omega arith) (λ i l. some i (omega arith)))

-- Words above 0 up to d, and 0 from there on, are the labels' words of d open levels.
pub labels_of_zeros :
    (words : List ℕ) (d : ℕ) → d ≤ length words → ((i : ℕ) → i < d → 0 < get_or words i 0) →
    ((i : ℕ) → d ≤ i → i < length words → get_or words i 0 ≡ 0) → words ≡ labels_words (length words) (open_in words d)
labels_of_zeros words d h some none =
    let o : List ℕ = open_in words d in
    let left : length words - d ≡ length words - length (open_words o) = omega (arith, open_words_length o, open_length words d) in
    sym (take-append-drop d words)
    ∙ ap (λ (ws : List ℕ). ws ++ drop d words) (under words d h some)
    ∙ ap (λ (ws : List ℕ). open_words o ++ ws) (rest_of_zeros d words none ∙ ap (λ (n : ℕ). replicate n 0) left)

module _ (words : List ℕ) (d : ℕ) (l : LabelsIn d words) where
  abbrev o : List ℕ
  o = open_in words d

  size : length (open_words o) ≡ d
  size = open_words_length o ∙ open_length words d

  -- An open writes the word of its level.
  pub opened_words : (a : ℕ) → d < length words → set words (label_at (d + 1)) (a + 1) ≡ labels_words (length words) (a ∷ o)
  opened_words a h =
      let n : ℕ = length words in
      let one : length (open_words (a ∷ o)) ≡ suc d = simp (length-append, size) (omega arith) in
      let more : n - length (open_words o) ≡ suc (n - suc d) = omega (arith, size) in
      let same : words ≡ open_words o ++ 0 ∷ replicate (n - suc d) 0 = l.same ∙ ap (λ (k : ℕ). open_words o ++ replicate k 0) more in
      let up : a + 1 ≡ suc a = omega arith in
      ap (λ (ws : List ℕ). set ws (label_at (d + 1)) (a + 1)) same
      ∙ set_at (open_words o) 0 (replicate (n - suc d) 0) (a + 1) (label_at (d + 1)) (omega (arith, size))
      ∙ rw (up, one) (sym (append_assoc (open_words o) (suc a ∷ []) (replicate (n - suc d) 0)))

-- A close clears it.
pub closed_words :
    (words : List ℕ) (d : ℕ) → LabelsIn d words → 0 < d → set words (label_at d) 0 ≡ labels_words (length words) (all_but_newest (open_in words d))
closed_words words zero l h = absurd (omega arith)
closed_words words (suc d) l h =
    let n : ℕ = length words in
    let o : List ℕ = open_in words d in
    let x : ℕ = label_in (get_or words (label_at (suc d)) 0) in
    let size : length (open_words o) ≡ d = open_words_length o ∙ open_length words d in
    let one : length (open_words (x ∷ o)) ≡ suc d = simp (length-append, size) (omega arith) in
    let more : n - length (open_words o) ≡ suc (n - suc d) = omega (arith, size, l.deep) in
    let same : words ≡ open_words o ++ suc x ∷ replicate (n - suc d) 0 =
    l.same ∙ ap (λ (k : ℕ). open_words (x ∷ o) ++ replicate (n - k) 0) one ∙ append_assoc (open_words o) (suc x ∷ []) (replicate (n - suc d) 0) in
    ap (λ (ws : List ℕ). set ws (label_at (suc d)) 0) same
    ∙ set_at (open_words o) (suc x) (replicate (n - suc d) 0) 0 (label_at (suc d)) (omega (arith, size))
    ∙ sym (ap (λ (k : ℕ). open_words o ++ replicate k 0) more)
