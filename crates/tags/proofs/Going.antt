-- Bytes of a list taken one after another: how far they have gone, and what they come to in the end. Assumes nothing.
use Rattle.std.proofs.Common.{Some, None}
use mathlib.Core.Path.{◌≡◌, refl, ap, ◌∙◌}
use mathlib.Core.List.{List, [], ◌∷◌, ◌++◌, append-nil}
use Prim.Native.Nat.{ℕ, suc, ◌+◌, ◌<◌, ◌≤◌}
use native.Mathlib.Numerals.{add-one}
use native.Mathlib.Omega.{arith}
use lib.ListN.{length, get_or, take, drop}
use lib.Seq.{take-suc, take_all, split_at}
use Rattle.grammar.specs.declared.Fault.{Fault}
use Rattle.grammar.specs.Feeding.{Step, feed}
use Rattle.grammar.proofs.Feeding.{went, broke, went_then, feed_break}

-- The first i bytes of s were taken, gave out and lead to a'.
pub record Gone {A : Type 0} (step : A → ℕ → Step A) (a : A) (s : List ℕ) (i : ℕ) (a' : A) (out : List ℕ) : Type 0 where
  pub within : i ≤ length s
  pub on : feed step a (take i s) ≡ went out i a'

module _ {A : Type 0} (step : A → ℕ → Step A) (a : A) (s : List ℕ) where
  pub gone_none : Gone step a s 0 a []
  gone_none = record { within = omega arith; on = refl }

  -- One byte more.
  one_byte : (a' : A) (b : ℕ) → (step a' b).stops ≡ None → feed step a' (b ∷ []) ≡ went (step a' b).gives 1 (step a' b).next
  one_byte a' b e = rw (e, append-nil)

  pub gone_on : (i : ℕ) {a' : A} {out : List ℕ} → Gone step a s i a' out → i < length s → (step a' (get_or s i 0)).stops ≡ None
      → Gone step a s (i + 1) (step a' (get_or s i 0)).next (out ++ (step a' (get_or s i 0)).gives)
  gone_on i {a'} {out} g l e = record { within = omega arith; on = rw (add-one i, take-suc s i 0 l, ← add-one i) joined }
    where
      joined : feed step a (take i s ++ (get_or s i 0 ∷ [])) ≡ went (out ++ (step a' (get_or s i 0)).gives) (i + 1) (step a' (get_or s i 0)).next
      joined = went_then step a a' _ out _ i 1 (take i s) (get_or s i 0 ∷ []) g.on (one_byte a' (get_or s i 0) e)

  -- The next byte is at fault, or there is none.
  pub gone_stop : (i : ℕ) {a' : A} {out : List ℕ} (k : Fault) → Gone step a s i a' out → i < length s → (step a' (get_or s i 0)).stops ≡ Some k
      → feed step a s ≡ broke out i a' k
  gone_stop i {a'} {out} k g l e =
      ap (λ (u : List ℕ). feed step a u) (split_at s i 0 l) ∙ feed_break step a a' out i k (take i s) (get_or s i 0) (drop (suc i) s) g.on e

  pub gone_all : (i : ℕ) {a' : A} {out : List ℕ} → Gone step a s i a' out → length s ≤ i → feed step a s ≡ went out i a'
  gone_all i g l = (rw (take_all i s l) at g.on)
