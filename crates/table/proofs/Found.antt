-- What a search that goes from place to place answers: nothing where all are right, and else what is said of the first that
-- is not. Assumes nothing.
use mathlib.Core.Bool.{Bool, true, false}
use mathlib.Core.Path.{◌≡◌, refl}
use Prim.Native.Nat.{ℕ, ◌<◌, ◌≤◌}
use native.Mathlib.Omega.{arith}
use Rattle.std.proofs.Common.{Some, None}
use Rattle.meaning.specs.Masks.{all}
use Rattle.meaning.specs.Search.{First, first_wrong}
use Rattle.meaning.proofs.Search.{first_is}
use Rattle.meaning.proofs.Tests.{T_true, true_T, all_give, all_fails}
use Rattle.table.specs.File.{unless}

-- What is said tells whether all was right.
pub is_wrong : {A : Type 0} {right : Bool} {wrong told : A} → Some told ≡ unless right wrong → (right ≡ false) × (told ≡ wrong)
is_wrong {right = true} e = absurd cc
is_wrong {right = false} e = (refl, cc)

module _ (n : ℕ) (right : ℕ → Bool) {A : Type 0} (said : ℕ → A) where
  -- The search stops at the first place that is not right.
  pub stops :
      (i : ℕ) → i < n → ((j : ℕ) → j < i → right j ≡ true) → right i ≡ false →
      Some (said i) ≡ unless (all n right) (said (first_wrong n right))
  stops i l passed fails =
      let first : First right 0 n i =
      record { from = omega arith; to = omega arith; fails = fails; passed = λ j p q. passed j q } in
      rw (all_fails n right i l fails, first_is n right first)

  -- It comes to its end where all are.
  pub ends :
      (i : ℕ) → n ≤ i → ((j : ℕ) → j < i → right j ≡ true) → None ≡ unless (all n right) (said (first_wrong n right))
  ends i l passed = rw (T_true _ (all_give n right (λ j m. true_T (passed j (omega arith)))))
