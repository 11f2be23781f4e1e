-- The search through numbered places for the first at which a test fails. Definitions only.
use Rattle.std.specs.Prelude.{Bool, true, false, cond, ◌≡◌, ℕ, zero, suc, ◌+◌, ◌<◌, ◌≤◌}

-- What is said of the first place from i on, among n, at which a test fails; `otherwise` where it fails at none.
unfoldable pub searched : {A : Type 0} → (ℕ → A) → A → (ℕ → Bool) → ℕ → ℕ → A
searched at otherwise right i zero = otherwise
searched at otherwise right i (suc n) = cond (right i) (searched at otherwise right (i + 1) n) (at i)

-- Place j is that first one.
pub record First (right : ℕ → Bool) (i n j : ℕ) : Type 0 where
  pub from : i ≤ j
  pub to : j < i + n
  pub fails : right j ≡ false
  pub passed : (k : ℕ) → i ≤ k → k < j → right k ≡ true

-- The first number below n at which a test fails; n where it fails at none.
abbrev pub first_wrong : ℕ → (ℕ → Bool) → ℕ
first_wrong n right = searched (λ i. i) n right 0 n
