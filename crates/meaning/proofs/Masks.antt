-- Laws of masks: members, one state more, a set in another, and how many states a set has. Assumes nothing.
use mathlib.Core.Path.{◌≡◌, refl, subst, sym}
use mathlib.Core.Logic.{◌↔◌, ◌⊎◌, inl, inr}
use Prim.Native.Nat.{ℕ, zero, suc, ◌+◌, ◌-◌, ◌/◌, ◌%◌, ◌^◌, max, min, ◌<◌, ◌≤◌}
use native.Mathlib.Decide.{dec_lt, ℕ_discrete}
use native.Mathlib.Nat.{div-one, zero-div, div_self, div-eq_of_lt, div-div-eq-div-mul, pow-succ', pow-suc}
use native.Mathlib.Omega.{arith}
use lib.Arith.{bin_ind}
use lib.Bits.{bit_and, bit_or, and_step, and_shr, and_le_r, or_step, or_shr}
use lib.Dec.{T, eqb, eqb→eq, eqb_refl}
use lib.Pow.{pow-add, pow-lt, pow_pos, shl-shr}
use Rattle.meaning.specs.Masks.{has, added, within}

-- Every state of x is one of y.
abbrev pub Within : ℕ → ℕ → Type 0
Within x y = (i : ℕ) → T (has x i) → T (has y i)

-- Every state of x is in X.
abbrev pub Lies : ℕ → (ℕ → Type 0) → Type 0
Lies x X = (i : ℕ) → T (has x i) → X i

-- x is the mask of X, below n.
abbrev pub IsMask : ℕ → ℕ → (ℕ → Type 0) → Type 0
IsMask n x X = (i : ℕ) → i < n → T (has x i) ↔ X i

-- Bits

abbrev bit : ℕ → ℕ → ℕ
bit m i = m / 2 ^ i % 2

bit_one : (m i : ℕ) → T (has m i) → bit m i ≡ 1
bit_one m i h = eqb→eq (bit m i) 1 h

one_bit : (m i : ℕ) → bit m i ≡ 1 → T (has m i)
one_bit m i e = rw e tt

has_suc : (m i : ℕ) → has m (suc i) ≡ has (m / 2) i
has_suc m i = rw (pow-succ', ← div-div-eq-div-mul)

has_zero : (m : ℕ) → has m 0 ≡ eqb (m % 2) 1
has_zero m = rw div-one

pub has_none : (i : ℕ) → T (has 0 i) → ⊥
has_none i h = simp zero-div at h

-- A mask below 2 ^ n has only states below n.
pub has_lt : (n m i : ℕ) → m < 2 ^ n → T (has m i) → i < n
has_lt zero m i h g = absurd (has_none i (subst (λ (x : ℕ). T (has x i)) (omega arith) g))
has_lt (suc n) m zero h g = omega arith
has_lt (suc n) m (suc i) h g = omega (arith, has_lt n (m / 2) i (omega arith) (subst T (has_suc m i) g))

-- The mask of one state

power_itself : (i : ℕ) → bit (2 ^ i) i ≡ 1
power_itself i = rw (div_self (pow_pos i))

power_below : (j d : ℕ) → bit (2 ^ (suc d + j)) j ≡ 0
power_below j d = rw (pow-add 2 (suc d) j, shl-shr (2 ^ suc d) j, pow-suc 2 d) (omega arith)

power_above : (i j : ℕ) → i < j → bit (2 ^ i) j ≡ 0
power_above i j h = rw (div-eq_of_lt (pow-lt h))

pub only_give : (i : ℕ) → T (has (2 ^ i) i)
only_give i = one_bit (2 ^ i) i (power_itself i)

pub only_take : (i r : ℕ) → T (has (2 ^ i) r) → i ≡ r
only_take i r h = go (dec_lt i r) (dec_lt r i)
  where
    go : Dec (i < r) → Dec (r < i) → i ≡ r
    go (yes l) d = absurd (omega (arith, power_above i r l, bit_one (2 ^ i) r h))
    go (no l) (yes m) =
        let e : suc (i - r - 1) + r ≡ i = omega arith in
        absurd (omega (arith, subst (λ (x : ℕ). bit (2 ^ x) r ≡ 0) e (power_below r (i - r - 1)), bit_one (2 ^ i) r h))
    go (no l) (no m) = omega arith

-- One state more

bit_or_lem : (a b i : ℕ) → bit (bit_or a b) i ≡ max (bit a i) (bit b i)
bit_or_lem a b i = rw (or_shr a b i) (omega (arith, or_step (a / 2 ^ i) (b / 2 ^ i)))

pub added_keeps : (m i : ℕ) → Within m (added m i)
unfolding added
added_keeps m i r h = one_bit (added m i) r (omega (arith, bit_or_lem m (2 ^ i) r, bit_one m r h))

pub added_gains : (m i : ℕ) → T (has (added m i) i)
unfolding added
added_gains m i = one_bit (added m i) i (omega (arith, bit_or_lem m (2 ^ i) i, power_itself i))

pub added_cases : (m i r : ℕ) → T (has (added m i) r) → T (has m r) ⊎ (i ≡ r)
unfolding added
added_cases m i r h = go (ℕ_discrete (bit m r) 1) (bit_or_lem m (2 ^ i) r) (bit_one (added m i) r h)
  where
    go : Dec (bit m r ≡ 1) → bit (added m i) r ≡ max (bit m r) (bit (2 ^ i) r) → bit (added m i) r ≡ 1 → T (has m r) ⊎ (i ≡ r)
    go (yes e) f g = inl (one_bit m r e)
    go (no e) f g = inr (only_take i r (one_bit (2 ^ i) r (omega arith)))

-- A set in another

bit_and_lem : (a b i : ℕ) → bit (bit_and a b) i ≡ min (bit a i) (bit b i)
bit_and_lem a b i = rw (and_shr a b i) (omega (arith, and_step (a / 2 ^ i) (b / 2 ^ i)))

pub within_take : (a x : ℕ) → T (within a x) → Within a x
unfolding within
within_take a x h i g =
    let e : bit_and a x ≡ a = eqb→eq (bit_and a x) a h in
    let f : bit a i ≡ min (bit a i) (bit x i) = subst (λ (y : ℕ). bit y i ≡ min (bit a i) (bit x i)) e (bit_and_lem a x i) in
    one_bit x i (omega (arith, bit_one a i g))

within_half : (x y : ℕ) → Within x y → Within (x / 2) (y / 2)
within_half x y h i g = subst T (has_suc y i) (h (suc i) (subst T (sym (has_suc x i)) g))

within_low : (x y : ℕ) → Within x y → x % 2 ≤ y % 2
within_low x y h = go (x % 2) refl
  where
    go : (r : ℕ) → x % 2 ≡ r → x % 2 ≤ y % 2
    go zero e = omega arith
    go (suc zero) e = omega (arith, eqb→eq (y % 2) 1 (rw has_zero at (h 0 (rw (has_zero, e) tt))))
    go (suc (suc r)) e = omega arith

within_and : (a : ℕ) → (x : ℕ) → Within a x → bit_and a x ≡ a
within_and = bin_ind (λ a. (x : ℕ) → Within a x → bit_and a x ≡ a) (λ x h. refl) half
  where
    half :
        (a : ℕ) → ((x : ℕ) → Within (a / 2) x → bit_and (a / 2) x ≡ a / 2) →
        (x : ℕ) → Within a x → bit_and a x ≡ a
    half a ih x h = omega (arith, and_step a x, ih (x / 2) (within_half a x h), within_low a x h)

pub within_give : (a x : ℕ) → Within a x → T (within a x)
unfolding within
within_give a x h = rw (within_and a x h) (eqb_refl a)

-- A set in another is the smaller number.
pub within_le : (x y : ℕ) → Within x y → x ≤ y
within_le x y h = omega (arith, within_and x y h, and_le_r x y)

-- How many states a set has

-- The states below n that m has, counted.
abbrev pub card : ℕ → ℕ → ℕ
card zero m = 0
card (suc n) m = m % 2 + card n (m / 2)

pub card_le : (n m : ℕ) → card n m ≤ n
card_le zero m = omega arith
card_le (suc n) m = omega (arith, card_le n (m / 2))

pub card_within : (n x y : ℕ) → Within x y → card n x ≤ card n y
card_within zero x y h = omega arith
card_within (suc n) x y h = omega (arith, within_low x y h, card_within n (x / 2) (y / 2) (within_half x y h))

-- A set of as many states as a larger one is the larger one.
pub card_same : (n x y : ℕ) → x < 2 ^ n → y < 2 ^ n → Within x y → card n x ≡ card n y → x ≡ y
card_same zero x y a b h e = omega arith
card_same (suc n) x y a b h e =
    let lo = within_low x y h in
    let le = card_within n (x / 2) (y / 2) (within_half x y h) in
    let hi : x / 2 ≡ y / 2 = card_same n (x / 2) (y / 2) (omega arith) (omega arith) (within_half x y h) (omega arith) in
    omega arith

pub card_some : (n m i : ℕ) → i < n → T (has m i) → 1 ≤ card n m
card_some zero m i l h = absurd (omega arith)
card_some (suc n) m zero l h = omega (arith, eqb→eq (m % 2) 1 (rw has_zero at h))
card_some (suc n) m (suc i) l h = omega (arith, card_some n (m / 2) i (omega arith) (subst T (has_suc m i) h))

-- A mask whose states are all below n is below 2 ^ n.

even : (z : ℕ) → (T (has z 0) → ⊥) → z % 2 ≡ 0
even z h = go (z % 2) refl
  where
    go : (m : ℕ) → z % 2 ≡ m → z % 2 ≡ 0
    go zero e = e
    go (suc zero) e = absurd (h (rw (has_zero, e) tt))
    go (suc (suc m)) e = absurd (omega arith)

pub small : (z n : ℕ) → Lies z (λ r. r < n) → z < 2 ^ n
small = bin_ind (λ z. (n : ℕ) → Lies z (λ r. r < n) → z < 2 ^ n) (λ n h. pow_pos n) half
  where
    half : (z : ℕ) → ((n : ℕ) → Lies (z / 2) (λ r. r < n) → z / 2 < 2 ^ n) → (n : ℕ) → Lies z (λ r. r < n) → z < 2 ^ n
    half z ih zero h =
        let e = even z (λ g. absurd (omega (arith, h 0 g))) in
        let l = ih zero (λ r g. absurd (omega (arith, h (suc r) (rw has_suc g)))) in
        omega arith
    half z ih (suc n) h =
        let l = ih n (λ r g. omega (arith, h (suc r) (rw has_suc g))) in
        omega arith
