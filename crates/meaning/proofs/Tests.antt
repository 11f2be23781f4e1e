-- Laws of tests: what a computed Bool says, and `all` over the numbers below n. Assumes nothing.
use mathlib.Core.Path.{◌≡◌, refl, sym, subst}
use mathlib.Core.Bool.{Bool, true, false, not, ◌&&◌, ◌||◌}
use mathlib.Core.Logic.{◌↔◌}
use Prim.Native.Nat.{ℕ, zero, suc, ◌+◌, ◌<◌, ◌≤◌}
use native.Mathlib.Omega.{arith}
use native.Mathlib.Decide.{dec_le}
use native.Mathlib.Numerals.{add-one}
use lib.Dec.{T}
use Rattle.meaning.specs.Masks.{all}

pub true_T : {b : Bool} → b ≡ true → T b
true_T e = rw e tt

pub T_true : (b : Bool) → T b → b ≡ true
T_true true h = refl
T_true false h = absurd h

-- Two tests that say the same are the same.
pub same_test : (a b : Bool) → T a ↔ T b → a ≡ b
same_test true true h = refl
same_test true false h = absurd (h.0 tt)
same_test false true h = absurd (h.1 tt)
same_test false false h = refl

pub and_both : (a b : Bool) → T a → T b → T (a && b)
and_both true b h g = g
and_both false b h g = absurd h

pub and_left : (a b : Bool) → T (a && b) → T a
and_left true b h = tt
and_left false b h = h

pub and_right : (a b : Bool) → T (a && b) → T b
and_right true b h = h
and_right false b h = absurd h

pub both_true : (a b : Bool) → a && b ≡ true → (a ≡ true) × (b ≡ true)
both_true a b e = (T_true a (and_left a b (true_T e)), T_true b (and_right a b (true_T e)))

-- "not a or b" is "a gives b".
pub implies_give : (a b : Bool) → (T a → T b) → T (not a || b)
implies_give true b h = h tt
implies_give false b h = tt

pub implies_take : (a b : Bool) → T (not a || b) → T a → T b
implies_take true b h g = h
implies_take false b h g = absurd g

pub all_give : (n : ℕ) (test : ℕ → Bool) → ((i : ℕ) → i < n → T (test i)) → T (all n test)
all_give zero test h = tt
all_give (suc n) test h = and_both (all n test) (test n) (all_give n test (λ i l. h i (omega arith))) (h n (omega arith))

pub all_take : (n : ℕ) (test : ℕ → Bool) → T (all n test) → (i : ℕ) → i < n → T (test i)
all_take zero test h i l = absurd (omega arith)
all_take (suc n) test h i l = go (dec_le (suc i) n) (λ m. all_take n test (and_left (all n test) (test n) h) i m)
  where
    go : Dec (i < n) → (i < n → T (test i)) → T (test i)
    go (yes m) ih = ih m
    go (no m) ih = subst (λ (j : ℕ). T (test j)) (omega arith) (and_right (all n test) (test n) h)

-- A loop that tests every number below n carries `all i test ≡ true`, and leaves at the first that fails

-- One test more has passed.
pub all_more : (n : ℕ) (test : ℕ → Bool) → all n test ≡ true → test n ≡ true → all (n + 1) test ≡ true
all_more n test e h = rw (add-one n, e, h)

-- The loop has come to its end with every test passed.
pub all_passed : (n i : ℕ) (test : ℕ → Bool) → i ≤ n → n ≤ i → all i test ≡ true → true ≡ all n test
all_passed n i test l m e = let q : i ≡ n = omega arith in sym (rw q at e)

-- One test that fails is enough.
pub all_fails : (n : ℕ) (test : ℕ → Bool) (i : ℕ) → i < n → test i ≡ false → all n test ≡ false
all_fails n test i l e = go (all n test) refl
  where
    go : (b : Bool) → all n test ≡ b → all n test ≡ false
    go true h = absurd (rw e at (all_take n test (true_T h) i l))
    go false h = h

-- Where all pass, each does.
pub all_holds : (n : ℕ) (test : ℕ → Bool) → all n test ≡ true → (i : ℕ) → i < n → test i ≡ true
all_holds n test e i l = T_true (test i) (all_take n test (true_T e) i l)
