-- The law of refusals, once for every call: a number is given exactly when its line applies and none before it does.
-- Assumes of the lines only that what they give, and what is given otherwise, have different numbers.
use mathlib.Core.Path.{◌≡◌, refl, ap, sym}
use mathlib.Core.Bool.{Bool, true, false, not, cond}
use mathlib.Core.List.{List, [], ◌∷◌}
use mathlib.Core.Logic.{◌↔◌}
use Prim.Native.Nat.{ℕ, zero, suc, ◌<◌}
use native.Mathlib.Omega.{arith}
use lib.Dec.{T, T_not, eqb, eqb_refl}
use lib.ListN.{length}
use Rattle.meaning.specs.Refusals.{Line, FirstAt, first_of, applies_at, gives_at, numbers, absent, distinct}
use Rattle.meaning.proofs.Tests.{and_left, and_right}

module _ {A : Type 0} (number : A → ℕ) (otherwise : A) where
  differs : (x y : ℕ) → T (not (eqb x y)) → y ≡ x → ⊥
  differs x y h e = T_not (eqb x y) h (rw e (eqb_refl x))

  -- A number that no line has is given by none.
  never_first : (x : ℕ) (ls : List (Line A)) → T (absent x (numbers number ls otherwise)) → number (first_of ls otherwise) ≡ x → ⊥
  never_first x [] h e = differs x (number otherwise) (and_left (not (eqb x (number otherwise))) true h) e
  never_first x (l ∷ ls) h e =
      let y : ℕ = number l.gives in
      let rest : Bool = absent x (numbers number ls otherwise) in
      go l.applies e (differs x y (and_left (not (eqb x y)) rest h)) (never_first x ls (and_right (not (eqb x y)) rest h))
    where
      go :
          (b : Bool) → number (cond b l.gives (first_of ls otherwise)) ≡ x →
          (number l.gives ≡ x → ⊥) → (number (first_of ls otherwise) ≡ x → ⊥) → ⊥
      go true g first later = first g
      go false g first later = later g

  never_at : (x : ℕ) (ls : List (Line A)) (i : ℕ) → T (absent x (numbers number ls otherwise)) → number (gives_at ls otherwise i) ≡ x → ⊥
  never_at x [] i h e = differs x (number otherwise) (and_left (not (eqb x (number otherwise))) true h) e
  never_at x (l ∷ ls) zero h e =
      differs x (number l.gives) (and_left (not (eqb x (number l.gives))) (absent x (numbers number ls otherwise)) h) e
  never_at x (l ∷ ls) (suc i) h e =
      never_at x ls i (and_right (not (eqb x (number l.gives))) (absent x (numbers number ls otherwise)) h) e

  -- The first line that applies is the one whose answer is given.
  pub first_gives : (ls : List (Line A)) (i : ℕ) → FirstAt ls i → first_of ls otherwise ≡ gives_at ls otherwise i
  first_gives [] i f = refl
  first_gives (l ∷ ls) zero f = rw f.applies
  first_gives (l ∷ ls) (suc i) f =
      rw (f.none_before zero (omega arith))
      (first_gives ls i (record { applies = f.applies; none_before = λ j h. f.none_before (suc j) (omega arith) }))

  never_otherwise : (x : ℕ) (ls : List (Line A)) → T (absent x (numbers number ls otherwise)) → number otherwise ≡ x → ⊥
  never_otherwise x [] h e = differs x (number otherwise) (and_left (not (eqb x (number otherwise))) true h) e
  never_otherwise x (l ∷ ls) h e =
      never_otherwise x ls (and_right (not (eqb x (number l.gives))) (absent x (numbers number ls otherwise)) h) e

  given_first :
      (ls : List (Line A)) (i : ℕ) → T (distinct (numbers number ls otherwise)) → i < length ls →
      number (first_of ls otherwise) ≡ number (gives_at ls otherwise i) → FirstAt ls i
  given_first [] i h m e = absurd (omega arith)
  given_first (l ∷ ls) i h m e =
      let rest : List ℕ = numbers number ls otherwise in
      go l.applies refl i m e (and_left (absent (number l.gives) rest) (distinct rest) h)
      (λ j k g. given_first ls j (and_right (absent (number l.gives) rest) (distinct rest) h) k g)
    where
      go :
          (b : Bool) → l.applies ≡ b → (i : ℕ) → i < length (l ∷ ls) →
          number (cond b l.gives (first_of ls otherwise)) ≡ number (gives_at (l ∷ ls) otherwise i) →
          T (absent (number l.gives) (numbers number ls otherwise)) →
          ((j : ℕ) → j < length ls → number (first_of ls otherwise) ≡ number (gives_at ls otherwise j) → FirstAt ls j) →
          FirstAt (l ∷ ls) i
      go true a zero k g d ih = record { applies = a; none_before = λ j m. absurd (omega arith) }
      go true a (suc i) k g d ih = absurd (never_at (number l.gives) ls i d (sym g))
      go false a zero k g d ih = absurd (never_first (number l.gives) ls d g)
      go false a (suc i) k g d ih =
          let f = ih i (omega arith) g in
          record { applies = f.applies; none_before = before f }
        where
          before : FirstAt ls i → (j : ℕ) → j < suc i → applies_at (l ∷ ls) j ≡ false
          before f zero m = a
          before f (suc j) m = f.none_before j (omega arith)

  -- The number of line i is given exactly when line i applies and none before it does.
  pub given_exactly :
      (ls : List (Line A)) → T (distinct (numbers number ls otherwise)) → (i : ℕ) → i < length ls →
      (number (first_of ls otherwise) ≡ number (gives_at ls otherwise i)) ↔ FirstAt ls i
  given_exactly ls h i m = (given_first ls i h m, λ f. ap number (first_gives ls i f))

  taken_none :
      (ls : List (Line A)) → T (distinct (numbers number ls otherwise)) → number (first_of ls otherwise) ≡ number otherwise →
      (i : ℕ) → applies_at ls i ≡ false
  taken_none [] h e i = refl
  taken_none (l ∷ ls) h e i =
      let rest : List ℕ = numbers number ls otherwise in
      go l.applies refl e (and_left (absent (number l.gives) rest) (distinct rest) h)
      (taken_none ls (and_right (absent (number l.gives) rest) (distinct rest) h)) i
    where
      go :
          (b : Bool) → l.applies ≡ b → number (cond b l.gives (first_of ls otherwise)) ≡ number otherwise →
          T (absent (number l.gives) (numbers number ls otherwise)) →
          (number (first_of ls otherwise) ≡ number otherwise → (i : ℕ) → applies_at ls i ≡ false) →
          (i : ℕ) → applies_at (l ∷ ls) i ≡ false
      go true a g d ih i = absurd (never_otherwise (number l.gives) ls d (sym g))
      go false a g d ih zero = a
      go false a g d ih (suc i) = ih g i

  pub none_taken : (ls : List (Line A)) → ((i : ℕ) → applies_at ls i ≡ false) → first_of ls otherwise ≡ otherwise
  none_taken [] h = refl
  none_taken (l ∷ ls) h = rw (h zero) (none_taken ls (λ i. h (suc i)))

  -- No line's number is given exactly when no line applies.
  pub taken_exactly :
      (ls : List (Line A)) → T (distinct (numbers number ls otherwise)) →
      (number (first_of ls otherwise) ≡ number otherwise) ↔ ((i : ℕ) → applies_at ls i ≡ false)
  taken_exactly ls h = (taken_none ls h, λ g. ap number (none_taken ls g))
