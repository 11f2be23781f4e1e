-- Laws of the search for the first place at which a test fails: what a loop that searches carries, and what the search
-- says. Assumes nothing.
use mathlib.Core.Path.{◌≡◌, refl, sym, ap, ◌∙◌}
use mathlib.Core.Bool.{Bool, true, false, cond, true≢false}
use mathlib.Core.Logic.{◌⊎◌, inl, inr, ⊎_elim}
use Prim.Native.Nat.{ℕ, zero, suc, ◌+◌, ◌-◌, ◌<◌, ◌≤◌}
use native.Mathlib.Omega.{arith}
use native.Mathlib.Nat.{sub-zero}
use native.Mathlib.Decide.{ℕ_discrete}
use Rattle.meaning.specs.Masks.{all}
use Rattle.meaning.specs.Search.{searched, First, first_wrong}
use Rattle.meaning.proofs.Tests.{T_true, true_T, all_give, all_fails}

-- What is said is said of the first place at which the test fails.
pub record Found {A : Type 0} (at : ℕ → A) (right : ℕ → Bool) (i n : ℕ) (said : A) : Type 0 where
  pub place : ℕ
  pub first : First right i n place
  pub is : said ≡ at place

-- The test fails at none of the places.
abbrev pub Passed : (ℕ → Bool) → ℕ → ℕ → Type 0
Passed right i n = (j : ℕ) → i ≤ j → j < i + n → right j ≡ true

module _ {A : Type 0} (at : ℕ → A) (otherwise : A) (right : ℕ → Bool) where
  pub right_next : (i n : ℕ) → right i ≡ true → searched at otherwise right i (suc n) ≡ searched at otherwise right (i + 1) n
  unfolding searched
  right_next i n e = rw e

  pub wrong_here : (i n : ℕ) → right i ≡ false → searched at otherwise right i (suc n) ≡ at i
  unfolding searched
  wrong_here i n e = rw e

  -- A search says `otherwise`, and every test passed; or it has found the first that did not.
  pub decided :
      (n i : ℕ) → ((searched at otherwise right i n ≡ otherwise) × Passed right i n) ⊎ Found at right i n (searched at otherwise right i n)
  unfolding searched
  decided zero i = inl (refl, λ j l m. absurd (omega arith))
  decided (suc n) i = go (right i) refl (decided n (i + 1))
    where
      passed : right i ≡ true → (k j : ℕ) → ((m : ℕ) → i + 1 ≤ m → m < k → right m ≡ true) → i ≤ j → j < k → right j ≡ true
      passed r k j h l m = elim (ℕ_discrete j i) [ yes q ↦ ap right q ∙ r | no q ↦ h j (omega arith) m ]

      go :
          (b : Bool) → right i ≡ b →
          ((searched at otherwise right (i + 1) n ≡ otherwise) × Passed right (i + 1) n) ⊎ Found at right (i + 1) n (searched at otherwise right (i + 1) n) →
          ((cond b (searched at otherwise right (i + 1) n) (at i) ≡ otherwise) × Passed right i (suc n))
          ⊎ Found at right i (suc n) (cond b (searched at otherwise right (i + 1) n) (at i))
      go true r (inl h) = inl (h.0, λ j l m. passed r (i + 1 + n) j (λ k p q. h.1 k p q) l (omega arith))
      go true r (inr h) =
          inr record {
            place = h.place;
            first = record {
              from = omega (arith, h.first.from);
              to = omega (arith, h.first.to);
              fails = h.first.fails;
              passed = λ k l m. passed r h.place k h.first.passed l m;
            };
            is = h.is;
          }
      go false r h =
          inr record {
            place = i;
            first = record { from = omega arith; to = omega arith; fails = r; passed = λ k l m. absurd (omega arith) };
            is = refl;
          }

  -- A search over n places, of which the first i passed: what is left of it is the whole search.
  module _ (n : ℕ) where
    abbrev pub Rest : ℕ → Type 0
    Rest i = searched at otherwise right i (n - i) ≡ searched at otherwise right 0 n

    pub rest_start : Rest 0
    rest_start = rw (sub-zero n)

    pub rest_end : (i : ℕ) → Rest i → n ≤ i → otherwise ≡ searched at otherwise right 0 n
    unfolding searched
    rest_end i h e = let z : n - i ≡ 0 = omega arith in rw z at h

    pub rest_right : (i j : ℕ) → Rest i → i < n → right i ≡ true → j ≡ i + 1 → Rest j
    rest_right i j h l e q =
        let z : n - i ≡ suc (n - (i + 1)) = omega arith in
        rw q (sym (right_next i _ e) ∙ (rw z at h))

    pub rest_wrong : (i : ℕ) → Rest i → i < n → right i ≡ false → at i ≡ searched at otherwise right 0 n
    rest_wrong i h l e =
        let z : n - i ≡ suc (n - (i + 1)) = omega arith in
        sym (wrong_here i _ e) ∙ (rw z at h)

-- There is one first place.
pub one_first : {right : ℕ → Bool} {i n j k : ℕ} → First right i n j → First right i n k → j ≡ k
one_first {j = j} {k = k} f g =
    let not-before : j < k → ⊥ = λ l. true≢false (sym (g.passed j f.from l) ∙ f.fails) in
    let not_after : k < j → ⊥ = λ l. true≢false (sym (f.passed k g.from l) ∙ g.fails) in
    omega (arith, not-before, not_after)

module _ (n : ℕ) (right : ℕ → Bool) where
  -- Below n it is the first at which the test fails.
  pub first_below : first_wrong n right < n → First right 0 n (first_wrong n right)
  first_below l =
      ⊎_elim (λ h. absurd (omega (arith, h.0))) (λ h. rw h.is h.first) (decided (λ i. i) n right n 0)

  pub first_is : {j : ℕ} → First right 0 n j → first_wrong n right ≡ j
  first_is f =
      ⊎_elim (λ h. absurd (true≢false (sym (h.1 _ f.from f.to) ∙ f.fails))) (λ h. h.is ∙ one_first h.first f)
      (decided (λ i. i) n right n 0)

  -- Whether all pass can be told by it.
  pub some_wrong : first_wrong n right < n → all n right ≡ false
  some_wrong l = let f = first_below l in all_fails n right (first_wrong n right) l f.fails

  pub none_wrong : n ≤ first_wrong n right → all n right ≡ true
  none_wrong l =
      ⊎_elim (λ h. T_true (all n right) (all_give n right (λ i m. true_T (h.1 i (omega arith) (omega arith)))))
      (λ h. absurd (omega (arith, h.is, h.first.to)))
      (decided (λ i. i) n right n 0)

  pub wrong_below : all n right ≡ false → first_wrong n right < n
  wrong_below e =
      let some : n ≤ first_wrong n right → ⊥ = λ l. true≢false (sym (none_wrong l) ∙ e) in
      omega (arith, some)
