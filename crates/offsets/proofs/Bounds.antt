-- Every place in a file is a small number, and each body ends within the file. Assumes nothing.
use mathlib.Core.Path.{◌≡◌, refl}
use Prim.Native.Nat.{ℕ, zero, suc, ◌+◌, ◌<◌, ◌≤◌}
use native.Mathlib.Nat.{mul-le-mul}
use native.Mathlib.Omega.{arith}
use Rattle.meaning.specs.Table.{body_at, body_length}

-- The longest file: n = 64 and k = 32.
pub file_small : (n k : ℕ) → n ≤ 64 → k ≤ 32 → body_at n k 5 ≤ 6333
file_small n k h l = omega (arith, mul-le-mul h l, mul-le-mul h h)

-- What holds of each of the five bodies holds of body i.
pub each_body : (P : ℕ → Type 0) → P 0 → P 1 → P 2 → P 3 → P 4 → (i : ℕ) → i < 5 → P i
each_body P a b c d e zero l = a
each_body P a b c d e (suc zero) l = b
each_body P a b c d e (suc (suc zero)) l = c
each_body P a b c d e (suc (suc (suc zero))) l = d
each_body P a b c d e (suc (suc (suc (suc zero)))) l = e
each_body P a b c d e (suc (suc (suc (suc (suc i))))) l = absurd (omega arith)

-- The mark body and the final body are n bytes long.
pub length_else : (n k i : ℕ) → i < 5 → (i ≡ 0 → ⊥) → (i ≡ 1 → ⊥) → (i ≡ 3 → ⊥) → n ≡ body_length n k i
length_else n k =
    each_body (λ i. (i ≡ 0 → ⊥) → (i ≡ 1 → ⊥) → (i ≡ 3 → ⊥) → n ≡ body_length n k i)
    (λ a b c. absurd (a refl))
    (λ a b c. absurd (b refl))
    (λ a b c. refl)
    (λ a b c. absurd (c refl))
    (λ a b c. refl)

-- Each body ends within the file.
pub body_within : (n k i : ℕ) → i < 5 → body_at n k i + body_length n k i ≤ body_at n k 5
body_within n k =
    each_body (λ i. body_at n k i + body_length n k i ≤ body_at n k 5) (omega arith) (omega arith) (omega arith) (omega arith)
    (omega arith)

-- The places and lengths are fixed by n and k alone.
pub place_same : {n k m l : ℕ} → n ≡ m → k ≡ l → (i : ℕ) → body_at n k i ≡ body_at m l i
place_same e h i = rw (e, h)

pub length_same : {n k m l : ℕ} → n ≡ m → k ≡ l → (i : ℕ) → body_length n k i ≡ body_length m l i
length_same e h i = rw (e, h)
