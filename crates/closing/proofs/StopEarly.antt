-- A loop of rounds that stops at the first one that adds nothing, for any step that only adds: it ends in the set that n
-- rounds reach. Assumes nothing else of the step.
use mathlib.Core.Path.{◌≡◌, refl, sym, ◌∙◌}
use Prim.Native.Nat.{ℕ, ◌-◌, ◌^◌, ◌<◌}
use native.Mathlib.Omega.{arith}
use Rattle.meaning.specs.Masks.{rounds}
use Rattle.meaning.proofs.Rounds.{OnlyAdds, round_first, round_rises, rounds_last}

-- x is on the way from the seed to its closure.
pub record OnTheWay (n : ℕ) (f : ℕ → ℕ) (seed x : ℕ) : Type 0 where
  pub below : x < 2 ^ n
  pub same : rounds n f x ≡ rounds n f seed

-- The seed is on its own way.
pub way_begins : {n : ℕ} (f : ℕ → ℕ) {seed : ℕ} → seed < 2 ^ n → OnTheWay n f seed seed
way_begins f l = record { below = l; same = refl }

module _ {n : ℕ} {f : ℕ → ℕ} (adds : OnlyAdds n f) {seed x next : ℕ} (round : next ≡ f x) (way : OnTheWay n f seed x) where
  -- A round on the way is on the way.
  pub way_goes_on : OnTheWay n f seed next
  way_goes_on = rw round (record { below = adds.bounded x way.below; same = round_first adds x way.below ∙ way.same })

  -- A round that changes the set leaves less to go.
  pub way_shortens : (next ≡ x → ⊥) → 2 ^ n - next < 2 ^ n - x
  way_shortens h = omega (arith, round_rises adds x (λ g. h (round ∙ g)), adds.bounded x way.below)

  -- A set that a round does not change is what n rounds from the seed reach.
  pub way_ends : next ≡ x → x ≡ rounds n f seed
  way_ends h = sym (rounds_last n f x (sym round ∙ h)) ∙ way.same
