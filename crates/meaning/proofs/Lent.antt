-- Laws of words or bytes written into a lent slice. Assumes nothing.
use mathlib.Core.Path.{◌≡◌, sym, ap, ◌∙◌}
use mathlib.Core.List.{List, [], ◌∷◌, ◌++◌, append_assoc, append-nil}
use Prim.Native.Nat.{ℕ, ◌+◌, ◌<◌, ◌≤◌}
use native.Mathlib.Nat.{add-zero}
use native.Mathlib.Numerals.{add-one}
use native.Mathlib.Omega.{arith}
use lib.ListN.{length, set, take, drop, length-append, length-drop, take-append-drop}
use lib.Seq.{set_split, append_snoc, length-take-le, take_at, take-append_seam, drop-append-add, drop-drop, paste, take-length}
use Rattle.meaning.specs.Lent.{put_at, on_front}

-- Nothing put leaves all as it is.
pub put_none : (at : ℕ) (lent : List ℕ) → put_at at [] lent ≡ lent
put_none at lent = rw (add-zero at, append-nil (take at lent)) (take-append-drop at lent)

-- One set is put.
pub put_one : (at x : ℕ) (lent : List ℕ) → at < length lent → set lent at x ≡ put_at at (x ∷ []) lent
put_one at x lent h =
    set_split lent at x h ∙ sym (append_snoc (take at lent) x _)
    ∙ ap (λ (k : ℕ). take at lent ++ (x ∷ []) ++ drop k lent) (sym (add-one at))

-- A slice copied in whole is put.
pub put_pasted : (at : ℕ) (xs lent : List ℕ) → paste lent at xs (length xs) ≡ put_at at xs lent
put_pasted at xs lent = rw (take-length xs)

-- What is put after what stands at the front stands there too.
pub put_more : (xs ys lent : List ℕ) → put_at (length xs) ys (on_front xs lent) ≡ on_front (xs ++ ys) lent
put_more xs ys lent =
    rw (
      take-append_seam xs (drop (length xs) lent),
      drop-append-add xs (drop (length xs) lent) (length ys),
      drop-drop (length ys) (length xs) lent,
      length-append xs ys,
    )

module _ (at : ℕ) (xs lent : List ℕ) (fits : at + length xs ≤ length lent) where
  pub length_put : length (put_at at xs lent) ≡ length lent
  length_put = simp (length-append, length-drop, length-take-le at lent (omega arith)) (omega arith)

  -- What is put after xs stands behind it.
  pub put_put : (ys : List ℕ) → put_at (at + length xs) ys (put_at at xs lent) ≡ put_at at (xs ++ ys) lent
  put_put ys =
      let front = take at lent ++ xs in
      let rest = drop (at + length xs) lent in
      let n = at + length xs in
      let long : length front ≡ n = rw (length-append, length-take-le at lent (omega arith)) in
      let e : at + length (xs ++ ys) ≡ n + length ys = rw length-append (omega arith) in
      let f : take n (front ++ rest) ≡ front = take_at front rest n long in
      let g : drop (n + length ys) (front ++ rest) ≡ drop (n + length ys) lent =
      (rw long at (drop-append-add front rest (length ys))) ∙ drop-drop (length ys) n lent in
      rw (f, g, e, append_assoc (take at lent) xs ys)

-- Three parts put one after another.
pub put_three : (at n : ℕ) (xs ys zs lent a b c : List ℕ) → n ≡ length ys → at + (length xs + (n + length zs)) ≤ length lent
    → a ≡ put_at at xs lent → b ≡ put_at (at + length xs) ys a → c ≡ put_at (at + length xs + n) zs b
    → c ≡ put_at at (xs ++ (ys ++ zs)) lent
put_three at n xs ys zs lent a b c e fits p q r =
    let two : b ≡ put_at at (xs ++ ys) lent = q ∙ ap (λ (u : List ℕ). put_at (at + length xs) ys u) p ∙ put_put at xs lent (omega arith) ys in
    let l : at + length xs + n ≡ at + length (xs ++ ys) = rw length-append (omega arith) in
    let f : at + length (xs ++ ys) ≤ length lent = omega arith in
    r ∙ rw (two, l, ← append_assoc xs ys zs) (put_put at (xs ++ ys) lent f zs)
