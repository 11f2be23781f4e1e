-- The open elements, as a list of labels, newest first: how many they are, and what opening and closing make of them.
-- Assumes nothing.
use Rattle.std.proofs.Common.{Some}
use mathlib.Core.Path.{◌≡◌, refl, ap, ◌∙◌}
use mathlib.Core.Bool.{Bool, true, false}
use mathlib.Core.List.{List, ◌∷◌}
use Prim.Native.Nat.{ℕ, zero, suc, ◌+◌, ◌-◌, ◌<◌, ◌≤◌}
use native.Mathlib.Numerals.{add-one}
use native.Mathlib.Omega.{arith}
use borrow.Author.Tests.{lt-ltb, le-ltb, ne_eqb, eqb-true, eqb-false}
use lib.Dec.{eqb}
use lib.ListN.{length, get_or, set, length-set}
use lib.Seq.{get_or-set_same, get_or-set_other}
use Rattle.tags.specs.declared.levels.Levels.{Levels}
use Rattle.tags.specs.Levels.{no_levels, deeper_by, shallower, newest_of, open_from, open_in}

pub open_length : (labels : List ℕ) (d : ℕ) → length (open_from labels d) ≡ d
open_length labels zero = refl
open_length labels (suc d) = ap suc (open_length labels d)

-- What stands after the open labels does not count.
open_set : (labels : List ℕ) (i a d : ℕ) → d ≤ i → open_from (set labels i a) d ≡ open_from labels d
open_set labels i a zero h = refl
open_set labels i a (suc d) h =
    rw (get_or-set_other labels i d a 0 (λ e. omega arith), open_set labels i a d (omega arith))

-- The levels are well kept: at most 40 are open, of 40 there is room for, and each label is below k.
pub record Kept (k : ℕ) (l : Levels) : Type 0 where
  pub few : l.depth ≤ 40
  pub room : length l.labels ≡ 40
  pub known : (i : ℕ) → i < l.depth → get_or l.labels i 0 < k

pub kept_none : (k : ℕ) → Kept k no_levels
kept_none k = record { few = omega arith; room = refl; known = λ i h. absurd (omega arith) }

module _ {k : ℕ} {l : Levels} (h : Kept k l) where
  pub open_deeper : (a : ℕ) → l.depth < 40 → open_in (deeper_by l a) ≡ a ∷ open_in l
  open_deeper a f =
      let s : l.depth < length l.labels = omega (arith, h.room) in
      rw (lt-ltb l.depth 40 f, add-one l.depth, get_or-set_same l.labels l.depth a 0 s, open_set l.labels l.depth a l.depth (omega arith))

  pub kept_deeper : (a : ℕ) → a < k → l.depth < 40 → Kept k (deeper_by l a)
  kept_deeper a b f =
      rw (lt-ltb l.depth 40 f)
      (record { few = omega arith; room = length-set l.labels l.depth a ∙ h.room; known = known_deeper })
    where
      known_deeper : (i : ℕ) → i < l.depth + 1 → get_or (set l.labels l.depth a) i 0 < k
      known_deeper i g = go (eqb i l.depth) refl
        where
          go : (t : Bool) → eqb i l.depth ≡ t → get_or (set l.labels l.depth a) i 0 < k
          go true e =
              let s : l.depth < length l.labels = omega (arith, h.room) in
              rw (eqb-true i l.depth e, get_or-set_same l.labels l.depth a 0 s) b
          go false e =
              let n : ¬ (i ≡ l.depth) = eqb-false i l.depth e in
              rw (get_or-set_other l.labels l.depth i a 0 n) (h.known i (omega arith))

  pub kept_shallower : Kept k (shallower l)
  kept_shallower = record { few = omega (arith, h.few); room = h.room; known = λ i g. h.known i (omega arith) }

  -- The newest, and the others.
  pub newest_is : (d : ℕ) → l.depth ≡ suc d → newest_of l ≡ Some (get_or l.labels d 0)
  newest_is d e =
      let f : suc d ≤ 40 = omega (arith, h.few) in
      let p : suc d - 1 ≡ d = omega arith in
      rw (e, ne_eqb (suc d) 0 (λ q. omega arith), le-ltb 40 (suc d) f, p)

  pub open_shallower : (d : ℕ) → l.depth ≡ suc d → open_in (shallower l) ≡ open_from l.labels d
  open_shallower d e = let p : l.depth - 1 ≡ d = omega arith in rw p
