-- One turn of a loop that adds states to a mask, over bare numbers: the loop's paths in, the fold's next step out.
-- Assumes nothing.
use mathlib.Core.Path.{◌≡◌, ap, ap₂, ◌∙◌}
use mathlib.Core.Bool.{Bool, true, false, cond}
use Prim.Native.Nat.{ℕ, ◌*◌, ◌%◌, ◌^◌, ◌<◌}
use native.Mathlib.Nat.{one-mul}
use native.Mathlib.Omega.{arith}
use lib.Pow.{shl_exact}
use Rattle.meaning.specs.Masks.{added}

-- The code's 1 << i.
pub one_shifted : (i : ℕ) → i < 64 → 1 * 2 ^ i % 2 ^ 64 ≡ 2 ^ i
one_shifted i l = shl_exact 1 i 64 (omega arith) (omega arith) ∙ one-mul (2 ^ i)

-- A turn that adds: y stands for u, r for s.
pub turn_added : {y u r s w : ℕ} → y ≡ u → r ≡ s → w ≡ added y r → w ≡ added u s
turn_added e f g = g ∙ ap₂ added e f

-- A turn that changes the set by F where its test passes.
pub turn_taken : (F : ℕ → ℕ) {b h : Bool} {y u w : ℕ} → h ≡ b → h ≡ true → y ≡ u → w ≡ F y → w ≡ cond b (F u) u
turn_taken F e f g k = k ∙ ap F g ∙ rw (← e, f)

pub turn_left : (F : ℕ → ℕ) {b h : Bool} {y u w : ℕ} → h ≡ b → h ≡ false → y ≡ u → w ≡ y → w ≡ cond b (F u) u
turn_left F e f g k = k ∙ g ∙ rw (← e, f)
