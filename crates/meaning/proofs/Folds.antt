-- Laws of the folds over the numbers below n, by which masks are made: `upto`, `collect`, `tabulate`. Assumes nothing.
use mathlib.Core.Path.{◌≡◌, refl, subst, sym, ◌∙◌}
use mathlib.Core.Bool.{Bool, true, false, cond}
use mathlib.Core.List.{List, [], ◌∷◌, ◌++◌, append_assoc}
use mathlib.Core.Logic.{◌⊎◌, inl, inr}
use Prim.Native.Nat.{ℕ, zero, suc, ◌+◌, ◌-◌, ◌<◌}
use native.Mathlib.Decide.{dec_le}
use native.Mathlib.Numerals.{add-one}
use native.Mathlib.Omega.{arith}
use lib.Dec.{T}
use lib.ListN.{get_or, set, replicate, length, length-append}
use lib.Seq.{append_snoc, get_or-append_seam, set-append_seam}
use Rattle.meaning.specs.Masks.{has, added, upto, collect, tabulate}
use Rattle.meaning.proofs.Masks.{Within, Lies, has_none, added_keeps, added_gains, added_cases}

-- A step that only adds loses nothing, and gains at each turn what that turn gains from any larger set.
module _ (f : ℕ → ℕ → ℕ) (keeps : (i y : ℕ) → Within y (f i y)) where
  pub upto_keeps : (n y : ℕ) → Within y (upto n f y)
  upto_keeps zero y r h = h
  upto_keeps (suc n) y r h = keeps n (upto n f y) r (upto_keeps n y r h)

  pub upto_gains : (n x i r : ℕ) → i < n → ((y : ℕ) → Within x y → T (has (f i y) r)) → T (has (upto n f x) r)
  upto_gains zero x i r l h = absurd (omega arith)
  upto_gains (suc n) x i r l h = go (dec_le (suc i) n) (λ m. upto_gains n x i r m h)
    where
      go : Dec (i < n) → (i < n → T (has (upto n f x) r)) → T (has (f n (upto n f x)) r)
      go (yes m) ih = keeps n (upto n f x) r (ih m)
      go (no m) ih = subst (λ (j : ℕ). T (has (f j (upto n f x)) r)) (omega arith) (h (upto n f x) (upto_keeps n x))

-- What every turn keeps within X stays within X.
pub upto_lies :
    (f : ℕ → ℕ → ℕ) (X : ℕ → Type 0) (n : ℕ) → ((i y : ℕ) → i < n → Lies y X → Lies (f i y) X) →
    (x : ℕ) → Lies x X → Lies (upto n f x) X
upto_lies f X zero h x g = g
upto_lies f X (suc n) h x g = h n (upto n f x) (omega arith) (upto_lies f X n (λ i y l. h i y (omega arith)) x g)

-- One state more, where a test passes

pub cond_keeps : (b : Bool) (y z : ℕ) → Within y z → Within y (cond b z y)
cond_keeps true y z h = h
cond_keeps false y z h = λ r g. g

pub cond_gains : (b : Bool) (y z r : ℕ) → T b → T (has z r) → T (has (cond b z y) r)
cond_gains true y z r h g = g
cond_gains false y z r h g = absurd h

pub cond_lies : (b : Bool) (y z : ℕ) (X : ℕ → Type 0) → (T b → Lies z X) → Lies y X → Lies (cond b z y) X
cond_lies true y z X h g = h tt
cond_lies false y z X h g = g

pub added_lies : (m i : ℕ) (X : ℕ → Type 0) → Lies m X → X i → Lies (added m i) X
added_lies m i X h x r g = go (added_cases m i r g)
  where
    go : T (has m r) ⊎ (i ≡ r) → X r
    go (inl k) = h r k
    go (inr e) = subst X e x

-- The mask of the states that pass a test

module _ (n : ℕ) (test : ℕ → Bool) where
  pub collect_give : (r : ℕ) → r < n → T (test r) → T (has (collect n test) r)
  collect_give r l h =
      upto_gains (λ q x. cond (test q) (added x q) x) (λ q x. cond_keeps (test q) x (added x q) (added_keeps x q)) n 0 r r l
      (λ y k. cond_gains (test r) y (added y r) r h (added_gains y r))

  pub collect_take : (r : ℕ) → T (has (collect n test) r) → (r < n) × T (test r)
  collect_take =
      let Passes : ℕ → Type 0 = λ r. (r < n) × T (test r) in
      upto_lies (λ q x. cond (test q) (added x q) x) Passes n
      (λ q x l h. cond_lies (test q) x (added x q) Passes (λ g. added_lies x q Passes h (l, g)) h)
      0 (λ r h. absurd (has_none r h))

-- A table of values

pub tabulate_length : (n : ℕ) (f : ℕ → ℕ) → length (tabulate n f) ≡ n
tabulate_length zero f = refl
tabulate_length (suc n) f = omega (arith, length-append (tabulate n f) (f n ∷ []), tabulate_length n f)

pub tabulate_at : (n : ℕ) (f : ℕ → ℕ) (rest : List ℕ) (i : ℕ) → i < n → get_or (tabulate n f ++ rest) i 0 ≡ f i
tabulate_at zero f rest i l = absurd (omega arith)
tabulate_at (suc n) f rest i l =
    rw (append_assoc (tabulate n f) (f n ∷ []) rest) (go (dec_le (suc i) n) (λ m. tabulate_at n f (f n ∷ rest) i m))
  where
    seam : get_or (tabulate n f ++ (f n ∷ rest)) n 0 ≡ f n
    seam = subst (λ (j : ℕ). get_or (tabulate n f ++ (f n ∷ rest)) j 0 ≡ f n) (tabulate_length n f) (get_or-append_seam (tabulate n f) (f n) rest 0)

    go : Dec (i < n) → (i < n → get_or (tabulate n f ++ (f n ∷ rest)) i 0 ≡ f i) → get_or (tabulate n f ++ (f n ∷ rest)) i 0 ≡ f i
    go (yes m) ih = ih m
    go (no m) ih =
        let e : n ≡ i = omega arith in
        subst (λ (j : ℕ). get_or (tabulate n f ++ (f n ∷ rest)) j 0 ≡ f j) e seam

-- One value more of a table whose other places are 0.
pub tabulate_more :
    (size n v : ℕ) (f : ℕ → ℕ) → n < size → v ≡ f n →
    set (tabulate n f ++ replicate (size - n) 0) n v ≡ tabulate (n + 1) f ++ replicate (size - (n + 1)) 0
tabulate_more size n v f l e =
    let z : size - n ≡ suc (size - suc n) = omega arith in
    rw (z, add-one n, e)
    (subst (λ (i : ℕ). set (tabulate n f ++ (0 ∷ rest)) i (f n) ≡ tabulate n f ++ (f n ∷ rest)) (tabulate_length n f) (set-append_seam (tabulate n f) 0 rest (f n))
    ∙ sym (append_snoc (tabulate n f) (f n) rest))
  where
    rest : List ℕ
    rest = replicate (size - suc n) 0
