-- Laws of lines of refusals: lines before others, and lines beside others that are looser. Assumes nothing.
use mathlib.Core.Bool.{Bool, true, false, cond, true≢false}
use mathlib.Core.List.{List, [], ◌∷◌, ◌++◌}
use mathlib.Core.Path.{◌≡◌, refl, sym}
use Prim.Native.Nat.{ℕ, zero, suc, ◌<◌, ◌≤◌}
use native.Mathlib.Omega.{arith}
use lib.ListN.{length}
use Rattle.meaning.specs.Refusals.{Line, first_of, applies_at}

module _ {A : Type 0} where
  -- Lines before others apply as they do alone, and past the last none does.
  pub front_applies : (xs ys : List (Line A)) (i : ℕ) → i < length xs → applies_at (xs ++ ys) i ≡ applies_at xs i
  front_applies [] ys i h = absurd (omega arith)
  front_applies (x ∷ xs) ys zero h = refl
  front_applies (x ∷ xs) ys (suc i) h = front_applies xs ys i (omega arith)

  pub past_applies : (xs : List (Line A)) (i : ℕ) → length xs ≤ i → applies_at xs i ≡ false
  past_applies [] i h = refl
  past_applies (x ∷ xs) zero h = absurd (omega arith)
  past_applies (x ∷ xs) (suc i) h = past_applies xs i (omega arith)

-- Lines beside others: those that give something of W may apply less often; the others apply alike. Where both stop at a line,
-- what comes after it does not matter.
pub data Looser {A : Type 0} (W : A → Type 0) : List (Line A) → List (Line A) → Type 0 where
  none : Looser W [] []
  same : {b c : Bool} {x : A} {ls ms : List (Line A)} → b ≡ c → Looser W ls ms →
      Looser W (record { applies = b; gives = x } ∷ ls) (record { applies = c; gives = x } ∷ ms)
  never : {b c : Bool} {x y : A} {ls ms : List (Line A)} → b ≡ false → c ≡ false → Looser W ls ms →
      Looser W (record { applies = b; gives = x } ∷ ls) (record { applies = c; gives = y } ∷ ms)
  wants : {b c : Bool} {x : A} {ls ms : List (Line A)} → W x → (c ≡ true → b ≡ true) → Looser W ls ms →
      Looser W (record { applies = b; gives = x } ∷ ls) (record { applies = c; gives = x } ∷ ms)
  stops : {b c : Bool} {x : A} {ls ms : List (Line A)} → b ≡ true → c ≡ true →
      Looser W (record { applies = b; gives = x } ∷ ls) (record { applies = c; gives = x } ∷ ms)

-- Where the first lines give nothing of W, the looser ones give the same.
pub looser_first : {A : Type 0} {W : A → Type 0} {ls ms : List (Line A)} → Looser W ls ms → (o : A) → ¬ W (first_of ls o) → first_of ls o ≡ first_of ms o
looser_first Looser.none o h = refl
looser_first {A} {W} (Looser.same {b = b} {c = c} {x = x} {ls = ls} {ms = ms} e l) o h = go b c e h (λ k. looser_first l o k)
  where
    go : (b c : Bool) → b ≡ c → ¬ W (cond b x (first_of ls o)) → (¬ W (first_of ls o) → first_of ls o ≡ first_of ms o) → cond b x (first_of ls o) ≡ cond c x (first_of ms o)
    go true true e h k = refl
    go false false e h k = k h
    go true false e h k = absurd (true≢false e)
    go false true e h k = absurd (true≢false (sym e))
looser_first {A} {W} (Looser.never {b = b} {c = c} {x = x} {y = y} {ls = ls} {ms = ms} d e l) o h = go b c d e h (λ k. looser_first l o k)
  where
    go : (b c : Bool) → b ≡ false → c ≡ false → ¬ W (cond b x (first_of ls o)) → (¬ W (first_of ls o) → first_of ls o ≡ first_of ms o) → cond b x (first_of ls o) ≡ cond c y (first_of ms o)
    go false false d e h k = k h
    go true c d e h k = absurd (true≢false d)
    go false true d e h k = absurd (true≢false e)
looser_first {A} {W} (Looser.wants {b = b} {c = c} {x = x} {ls = ls} {ms = ms} w e l) o h = go b c e h (λ k. looser_first l o k)
  where
    go : (b c : Bool) → (c ≡ true → b ≡ true) → ¬ W (cond b x (first_of ls o)) → (¬ W (first_of ls o) → first_of ls o ≡ first_of ms o) → cond b x (first_of ls o) ≡ cond c x (first_of ms o)
    go true c e h k = absurd (h w)
    go false true e h k = absurd (true≢false (sym (e refl)))
    go false false e h k = k h
looser_first (Looser.stops d e) o h = rw (d, e)
