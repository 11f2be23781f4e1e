-- What the report words of a row say of its position. Assumes nothing.
use mathlib.Core.Path.{◌≡◌, refl, ap}
use mathlib.Core.Bool.{Bool, true, false, not, cond}
use mathlib.Core.List.{List, [], ◌∷◌}
use mathlib.Core.Logic.{◌↔◌}
use Prim.Native.Nat.{ℕ}
use native.Mathlib.Omega.{arith}
use lib.Dec.{T}
use Rattle.reports.specs.Reports.{selected_word, failed_word}
use Rattle.following.specs.Lists.{In, position_of}
use Rattle.following.proofs.Lists.{in_nil, in_one, in_as, OneAt}

-- The words of a row's two tests: selected by the first, else failed by the second.
abbrev pub says : Bool → Bool → ℕ → List ℕ
says s f p = cond s (selected_word p ∷ []) (cond f (failed_word p ∷ []) [])

-- At the end one test decides.
pub end_says : (b : Bool) (p : ℕ) → cond b (selected_word p) (failed_word p) ∷ [] ≡ says b (not b) p
end_says true p = refl
end_says false p = refl

pub says_selected : (s f : Bool) (i p : ℕ) → In (selected_word i) (says s f p) ↔ ((p ≡ i) × T s)
says_selected true f i p = (λ m. (omega (arith, in_one m), tt), λ h. in_as (selected_word p ∷ []) (ap selected_word h.0) In.first)
says_selected false true i p = (λ m. absurd (omega (arith, in_one m)), λ h. absurd h.1)
says_selected false false i p = (λ m. absurd (in_nil m), λ h. absurd h.1)

pub says_failed : (s f : Bool) (i p : ℕ) → (T s → T f → ⊥) → In (failed_word i) (says s f p) ↔ ((p ≡ i) × T f)
says_failed true f i p n = (λ m. absurd (omega (arith, in_one m)), λ h. absurd (n tt h.1))
says_failed false true i p n = (λ m. (omega (arith, in_one m), tt), λ h. in_as (failed_word p ∷ []) (ap failed_word h.0) In.first)
says_failed false false i p n = (λ m. absurd (in_nil m), λ h. absurd h.1)

-- They say at most one thing, and of the row's own position.
pub says_one : (s f : Bool) (p : ℕ) → OneAt position_of p (says s f p)
says_one true f p = OneAt.one {x = selected_word p} (omega arith)
says_one false true p = OneAt.one {x = failed_word p} (omega arith)
says_one false false p = OneAt.none
