-- What the bytes of events mean, and what labelling their closes makes of them. Assumes nothing.
use mathlib.Core.Path.{◌≡◌, refl, sym, ap, subst}
use mathlib.Core.Bool.{Bool, true, false, cond}
use mathlib.Core.List.{List, [], ◌∷◌, ◌++◌}
use Prim.Native.Nat.{ℕ, suc, ◌+◌, ◌-◌, ◌<◌, ◌≤◌}
use native.Mathlib.Omega.{arith}
use lib.Dec.{eqb, ltb}
use lib.ListN.{length}
use borrow.Author.Tests.{lt-ltb, le-ltb, ne_eqb, ltb-true, ltb-false, eqb-true, eqb-false}
use Rattle.meaning.specs.Streams.{open_after}
use Rattle.meaning.proofs.Rows.{AllBelow}
use Rattle.answers.specs.declared.Event.{Event}
use Rattle.answers.specs.declared.Event.TheVariants as event
use Rattle.answers.specs.Bytes.{meaning_of, event_of}
use Rattle.grammar.specs.Streams.{labelled_by, labelled}

-- The bytes of labels below 32.
pub byte_opens : (a : ℕ) → a < 32 → meaning_of a ≡ event.Open a
byte_opens a h = rw (lt-ltb a 32 h)

pub byte_points : (a : ℕ) → a < 32 → meaning_of (32 + a) ≡ event.Point a
byte_points a h = rw (le-ltb (32 + a) 32 (omega arith), lt-ltb (32 + a) 64 (omega arith), back)
  where
    back : 32 + a - 32 ≡ a
    back = omega arith

pub byte_closes_its : (a : ℕ) → a < 32 → meaning_of (66 + a) ≡ event.CloseOf a
byte_closes_its a h =
    rw (
      le-ltb (66 + a) 32 (omega arith),
      le-ltb (66 + a) 64 (omega arith),
      ne_eqb (66 + a) 64 (λ e. omega arith),
      ne_eqb (66 + a) 65 (λ e. omega arith),
      lt-ltb (66 + a) 98 (omega arith),
      back,
    )
  where
    back : 66 + a - 66 ≡ a
    back = omega arith

-- A byte and the event that it means.
pub data Means : ℕ → Event → Type 0 where
  opens : {a : ℕ} → a < 32 → Means a (event.Open a)
  points : {a : ℕ} → a < 32 → Means (32 + a) (event.Point a)
  closes : Means 64 event.Close
  closes_its : {a : ℕ} → a < 32 → Means (66 + a) (event.CloseOf a)
  ends : Means 65 event.End
  other : {b : ℕ} → Means b event.Unknown

pub byte_means : (b : ℕ) → Means b (meaning_of b)
byte_means b = low (ltb b 32) refl
  where
    high : (x : Bool) → ltb b 98 ≡ x → 65 < b → Means b (cond x (event.CloseOf (b - 66)) event.Unknown)
    high true e l =
        let q : 66 + (b - 66) ≡ b = omega arith in
        subst (λ (n : ℕ). Means n (event.CloseOf (b - 66))) q (Means.closes_its {a = b - 66} (omega (arith, ltb-true b 98 e)))
    high false e l = Means.other

    last : (x : Bool) → eqb b 65 ≡ x → 64 < b
        → Means b (cond x event.End (cond (ltb b 98) (event.CloseOf (b - 66)) event.Unknown))
    last true e l = subst (λ (n : ℕ). Means n event.End) (sym (eqb-true b 65 e)) Means.ends
    last false e l =
        let n : ¬ (b ≡ 65) = eqb-false b 65 e in
        high (ltb b 98) refl (omega arith)

    late : (x : Bool) → eqb b 64 ≡ x → 64 ≤ b
        → Means b (cond x event.Close (cond (eqb b 65) event.End (cond (ltb b 98) (event.CloseOf (b - 66)) event.Unknown)))
    late true e l = subst (λ (n : ℕ). Means n event.Close) (sym (eqb-true b 64 e)) Means.closes
    late false e l =
        let n : ¬ (b ≡ 64) = eqb-false b 64 e in
        last (eqb b 65) refl (omega arith)

    mid : (x : Bool) → ltb b 64 ≡ x → 32 ≤ b
        → Means b
        (cond x (event.Point (b - 32))
        (cond (eqb b 64) event.Close (cond (eqb b 65) event.End (cond (ltb b 98) (event.CloseOf (b - 66)) event.Unknown))))
    mid true e l =
        let q : 32 + (b - 32) ≡ b = omega arith in
        subst (λ (n : ℕ). Means n (event.Point (b - 32))) q (Means.points {a = b - 32} (omega (arith, ltb-true b 64 e)))
    mid false e l = late (eqb b 64) refl (ltb-false b 64 e)

    low : (x : Bool) → ltb b 32 ≡ x
        → Means b
        (cond x (event.Open b)
        (cond (ltb b 64) (event.Point (b - 32))
        (cond (eqb b 64) event.Close (cond (eqb b 65) event.End (cond (ltb b 98) (event.CloseOf (b - 66)) event.Unknown)))))
    low true e = Means.opens (ltb-true b 32 e)
    low false e = mid (ltb b 64) refl (ltb-false b 32 e)

-- No byte opens a label from 32 on.
pub below_after : {b : ℕ} {e : Event} {o : List ℕ} → Means b e → AllBelow 32 o → AllBelow 32 (open_after o (event_of e))
below_after (Means.opens h) k = AllBelow.more h k
below_after (Means.points h) k = k
below_after Means.closes AllBelow.none = AllBelow.none
below_after Means.closes (AllBelow.more h k) = k
below_after (Means.closes_its h) AllBelow.none = AllBelow.none
below_after (Means.closes_its h) (AllBelow.more l k) = k
below_after Means.ends k = k
below_after Means.other k = k

-- As many bytes as before,
pub labelled_length : (o w : List ℕ) → length (labelled o w) ≡ length w
labelled_length o [] = refl
labelled_length o (b ∷ w) = ap suc (labelled_length (open_after o (event_of (meaning_of b))) w)

-- and a byte 65 at the end stays.
pub labelled_ends : (o w : List ℕ) → labelled o (w ++ (65 ∷ [])) ≡ labelled o w ++ (65 ∷ [])
labelled_ends o [] = refl
labelled_ends o (b ∷ w) =
    ap (λ (l : List ℕ). labelled_by (meaning_of b) o b ∷ l) (labelled_ends (open_after o (event_of (meaning_of b))) w)
