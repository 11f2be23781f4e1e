-- Laws of bytes fed in pieces, told by whether they go on: what goes on over all goes on over the front, and a byte after
-- which nothing goes on is where they stop. Assumes nothing.
use Rattle.std.proofs.Common.{Option, Some, None}
use mathlib.Core.Path.{◌≡◌, refl, ap}
use mathlib.Core.Bool.{Bool, true, false}
use mathlib.Core.List.{List, [], ◌∷◌, ◌++◌}
use Prim.Native.Nat.{ℕ, ◌+◌}
use native.Mathlib.Omega.{arith}
use lib.ListN.{length}
use Rattle.grammar.specs.declared.Fault.{Fault}
use Rattle.grammar.specs.Feeding.{Step, goes_on, Fed, feed}
use Rattle.grammar.proofs.Feeding.{then, feed_pieces, all_taken}

-- A test cannot pass and fail.
pub true_false : {b : Bool} → b ≡ true → b ≡ false → ⊥
true_false e f = let z : ◌≡◌ {A = ℕ} 0 1 = cc in omega arith

pub on_none : (x : Option Fault) → goes_on x ≡ true → x ≡ None
on_none None e = refl
on_none (Some k) e = absurd (true_false e refl)

module _ {A : Type 0} (step : A → ℕ → Step A) where
  -- What goes on has taken all.
  pub feed_taken : (a : A) (s : List ℕ) → goes_on (feed step a s).stops ≡ true → (feed step a s).taken ≡ length s
  feed_taken a s e = ap (λ (f : Fed A). f.taken) (all_taken step a s (on_none (feed step a s).stops e))

  -- What goes on over two pieces goes on over the first.
  pub feed_front : (a : A) (s t : List ℕ) → goes_on (feed step a (s ++ t)).stops ≡ true → goes_on (feed step a s).stops ≡ true
  feed_front a s t e = go (goes_on (feed step a s).stops) refl (rw (feed_pieces step a s t) at e)
    where
      go : (x : Bool) → goes_on (feed step a s).stops ≡ x → goes_on (then step (feed step a s) t).stops ≡ true
          → goes_on (feed step a s).stops ≡ true
      go true f h = f
      go false f h = rw f at h

  -- Where the bytes u go on, and no more with the byte after them, u is what is taken.
  pub feed_stops_at : (a : A) (u : List ℕ) (b : ℕ) (v : List ℕ)
      → goes_on (feed step a u).stops ≡ true → goes_on (feed step a (u ++ (b ∷ []))).stops ≡ false
      → (goes_on (feed step a (u ++ (b ∷ v))).stops ≡ false) × ((feed step a (u ++ (b ∷ v))).taken ≡ length u)
  feed_stops_at a u b v e f = rw (feed_pieces step a u (b ∷ v), e) (go (goes_on (step c b).stops) refl)
    where
      c : A
      c = (feed step a u).state

      fails : goes_on (feed step c (b ∷ [])).stops ≡ false
      fails = rw (feed_pieces step a u (b ∷ []), e) at f

      go : (x : Bool) → goes_on (step c b).stops ≡ x
          → (goes_on (feed step c (b ∷ v)).stops ≡ false) × ((feed step a u).taken + (feed step c (b ∷ v)).taken ≡ length u)
      go true t = absurd (true_false refl (rw t at fails))
      go false t = (rw t t, rw t (omega (arith, feed_taken a u e)))
