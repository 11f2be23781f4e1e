-- The places that refusals 3 and 5 carry are the first wrong ones in file order, and there is one such place of each kind.
-- Assumes nothing.
use mathlib.Core.Bool.{Bool, true, false, cond, ◌&&◌, true≢false}
use mathlib.Core.List.{List}
use mathlib.Core.Path.{◌≡◌, refl, sym, ap, ap₂, ◌∙◌}
use Prim.Native.Nat.{ℕ, zero, suc, ◌+◌, ◌-◌, ◌*◌, ◌<◌, ◌≤◌}
use native.Mathlib.Decide.{ℕ_discrete, dec_le}
use native.Mathlib.Omega.{arith}
use Rattle.meaning.specs.Search.{First}
use Rattle.meaning.specs.Table.{body_at, body_length}
use Rattle.meaning.proofs.Search.{first_below, wrong_below}
use Rattle.meaning.proofs.Tests.{both_true, all_holds}
use Rattle.bodies.specs.Sound.{states_in, labels_in}
use Rattle.table.specs.File.{field_at, field_right, entry_right, contents_right, wrong_entry, wrong_field}
use Rattle.table.specs.File.{byte_right, body_right, bodies_right, wrong_body, wrong_byte}
use Rattle.table.specs.Named.{FirstField, FirstByte, byte_at, IsByte}
use Rattle.table.specs.declared.Field.{Field}
use Rattle.table.specs.declared.Field.TheVariants.{Kind, Offset, Length}
use Rattle.table.specs.declared.Refusal.TheVariants.{Contents, Body}

---------------------------------------------------------------- the contents

-- A field begins in its entry.
field_in : (i : ℕ) (x : Field) → (4 + 5 * i ≤ field_at i x) × (field_at i x < 4 + 5 * (i + 1))
field_in i Kind = (omega arith, omega arith)
field_in i Offset = (omega arith, omega arith)
field_in i Length = (omega arith, omega arith)

-- Two fields that begin at one place are one.
field_one : (i j : ℕ) (x y : Field) → field_at i x ≡ field_at j y → (i ≡ j) × (x ≡ y)
field_one i j Kind Kind e = (omega arith, refl)
field_one i j Kind Offset e = absurd (omega arith)
field_one i j Kind Length e = absurd (omega arith)
field_one i j Offset Kind e = absurd (omega arith)
field_one i j Offset Offset e = (omega arith, refl)
field_one i j Offset Length e = absurd (omega arith)
field_one i j Length Kind e = absurd (omega arith)
field_one i j Length Offset e = absurd (omega arith)
field_one i j Length Length e = (omega arith, refl)

module _ (f : List ℕ) where
  entry_fields : (i : ℕ) → entry_right f i ≡ true → (x : Field) → field_right f i x ≡ true
  entry_fields i e x = go x
    where
      first : (field_right f i Kind ≡ true) × ((field_right f i Offset && field_right f i Length) ≡ true)
      first = both_true (field_right f i Kind) (field_right f i Offset && field_right f i Length) e

      go : (x : Field) → field_right f i x ≡ true
      go Kind = first.0
      go Offset = (both_true (field_right f i Offset) (field_right f i Length) first.1).0
      go Length = (both_true (field_right f i Offset) (field_right f i Length) first.1).1

  -- An entry is right exactly if the field found in it is; the fields before that one are right anyway.
  pub by_field : (i : ℕ) → entry_right f i ≡ field_right f i (wrong_field f i)
  by_field i = go (field_right f i Kind) (field_right f i Offset) refl refl
    where
      go :
          (a b : Bool) → field_right f i Kind ≡ a → field_right f i Offset ≡ b →
          a && (b && field_right f i Length) ≡ field_right f i (cond a (cond b Length Offset) Kind)
      go false b p q = sym p
      go true false p q = sym q
      go true true p q = refl

  field_passed : (i : ℕ) (y : Field) → field_at i y < field_at i (wrong_field f i) → field_right f i y ≡ true
  field_passed i = go (field_right f i Kind) (field_right f i Offset) refl refl
    where
      go :
          (a b : Bool) → field_right f i Kind ≡ a → field_right f i Offset ≡ b → (y : Field) →
          field_at i y < field_at i (cond a (cond b Length Offset) Kind) → field_right f i y ≡ true
      go false b p q Kind l = absurd (omega arith)
      go false b p q Offset l = absurd (omega arith)
      go false b p q Length l = absurd (omega arith)
      go true b p q Kind l = p
      go true false p q Offset l = absurd (omega arith)
      go true false p q Length l = absurd (omega arith)
      go true true p q Offset l = q
      go true true p q Length l = absurd (omega arith)

  -- The first wrong field of the first wrong entry is the first wrong field of all.
  first_field : (i : ℕ) → First (entry_right f) 0 5 i → FirstField f (i + 1) (wrong_field f i)
  first_field i h =
      let back : i + 1 - 1 ≡ i = omega arith in
      record { an_entry = (omega arith, omega (arith, h.to)); wrong = rw back (sym (by_field i) ∙ h.fails); right_before = rw back before }
    where
      before : (j : ℕ) (y : Field) → field_at j y < field_at i (wrong_field f i) → field_right f j y ≡ true
      before j y l = go (dec_le (suc j) i)
        where
          go : Dec (j < i) → field_right f j y ≡ true
          go (yes m) = entry_fields j (h.passed j (omega arith) m) y
          go (no m) =
              let same : j ≡ i = omega (arith, field_in j y, field_in i (wrong_field f i)) in
              rw same (field_passed i y (rw same at l))

  pub contents_named : contents_right f ≡ false → FirstField f (wrong_entry f + 1) (wrong_field f (wrong_entry f))
  contents_named e = first_field (wrong_entry f) (first_below 5 (entry_right f) (wrong_below 5 (entry_right f) e))

  -- There is one first wrong field.
  pub one_field : {d e : ℕ} {x y : Field} → FirstField f d x → FirstField f e y → Contents d x ≡ Contents e y
  one_field {d = d} {e = e} {x = x} {y = y} g h =
      let not-before : field_at (d - 1) x < field_at (e - 1) y → ⊥ = λ l. true≢false (sym (h.right_before (d - 1) x l) ∙ g.wrong) in
      let not_after : field_at (e - 1) y < field_at (d - 1) x → ⊥ = λ l. true≢false (sym (g.right_before (e - 1) y l) ∙ h.wrong) in
      let one = field_one (d - 1) (e - 1) x y (omega (arith, not-before, not_after)) in
      let same : d ≡ e = omega (arith, one.0, g.an_entry, h.an_entry) in
      ap₂ Contents same one.1

---------------------------------------------------------------- the bodies

-- A body ends where a later one begins, or before.
bodies_follow : (n k i m : ℕ) → i < m → body_at n k i + body_length n k i ≤ body_at n k m
bodies_follow n k i zero l = absurd (omega arith)
bodies_follow n k i (suc m) l =
    elim (ℕ_discrete i m) [ yes e ↦ rw e (omega arith) | no e ↦ omega (arith, bodies_follow n k i m (omega arith)) ]

module _ (f : List ℕ) where
  -- A byte that does not stand after another is not of a later body.
  body_before : (i j a b : ℕ) → IsByte f i j → IsByte f a b → byte_at f i j ≤ byte_at f a b → i ≤ a
  body_before i j a b h g l =
      let later : a < i → ⊥ = λ m. omega (arith, bodies_follow (states_in f) (labels_in f) a i m, g.1, l) in
      omega (arith, later)

  -- The first wrong byte of the first wrong body is the first wrong byte of all.
  first_byte : (i : ℕ) → First (body_right f) 0 5 i → FirstByte f (i + 1) (wrong_byte f i)
  first_byte i h =
      let back : i + 1 - 1 ≡ i = omega arith in
      let size = body_length (states_in f) (labels_in f) i in
      let found = first_below size (byte_right f i) (wrong_below size (byte_right f i) h.fails) in
      record {
        a_body = omega arith;
        inside = rw back (h.to, inside found);
        wrong = rw back found.fails;
        right_before = rw back (before found);
      }
    where
      inside :
          First (byte_right f i) 0 (body_length (states_in f) (labels_in f) i) (wrong_byte f i) →
          wrong_byte f i < body_length (states_in f) (labels_in f) i
      inside found = omega (arith, found.to)

      before :
          First (byte_right f i) 0 (body_length (states_in f) (labels_in f) i) (wrong_byte f i) →
          (a b : ℕ) → IsByte f a b → byte_at f a b < byte_at f i (wrong_byte f i) → byte_right f a b ≡ true
      before found a b g l = go (dec_le (suc a) i)
        where
          go : Dec (a < i) → byte_right f a b ≡ true
          go (yes m) =
              all_holds (body_length (states_in f) (labels_in f) a) (byte_right f a) (h.passed a (omega arith) m) b g.1
          go (no m) =
              let same : a ≡ i = omega (arith, body_before a b i (wrong_byte f i) g (h.to, inside found) (omega arith)) in
              rw same (found.passed b (omega arith) (omega (arith, rw same at l)))

  pub bodies_named : bodies_right f ≡ false → FirstByte f (wrong_body f + 1) (wrong_byte f (wrong_body f))
  bodies_named e = first_byte (wrong_body f) (first_below 5 (body_right f) (wrong_below 5 (body_right f) e))

  -- There is one first wrong byte.
  pub one_byte : {d e a b : ℕ} → FirstByte f d a → FirstByte f e b → Body d a ≡ Body e b
  one_byte {d = d} {e = e} {a = a} {b = b} g h =
      let not-before : byte_at f (d - 1) a < byte_at f (e - 1) b → ⊥ = λ l. true≢false (sym (h.right_before (d - 1) a g.inside l) ∙ g.wrong) in
      let not_after : byte_at f (e - 1) b < byte_at f (d - 1) a → ⊥ = λ l. true≢false (sym (g.right_before (e - 1) b h.inside l) ∙ h.wrong) in
      let up = body_before (d - 1) a (e - 1) b g.inside h.inside (omega (arith, not_after)) in
      let down = body_before (e - 1) b (d - 1) a h.inside g.inside (omega (arith, not-before)) in
      let same : d ≡ e = omega (arith, up, down, g.a_body, h.a_body) in
      ap₂ Body same (omega (arith, not-before, not_after, ap (λ (x : ℕ). byte_at f (x - 1) b) same))
