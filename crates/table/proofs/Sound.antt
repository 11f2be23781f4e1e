-- What reading a file promises, for any list of bytes: exactly the files to which no line applies are taken, and they can
-- be stepped by; a refusal is given for the first line that applies, and for the first wrong place. Assumes nothing.
use mathlib.Core.Bool.{true, false}
use mathlib.Core.List.{List}
use mathlib.Core.Logic.{◌↔◌}
use mathlib.Core.Path.{◌≡◌, refl, sym, ap, subst, ◌∙◌}
use Prim.Native.Nat.{ℕ, ◌+◌, ◌*◌, ◌<◌}
use native.Mathlib.Omega.{arith}
use borrow.Author.Tests.{eqb-true, ltb-true, not-true, not-false}
use lib.Arith.{digits_lt}
use Rattle.std.proofs.Common.{Result, Ok, Err}
use Rattle.meaning.specs.Refusals.{FirstAt, applies_at, gives_at}
use Rattle.meaning.proofs.Refusals
use Rattle.meaning.proofs.Refusals.{given_exactly, first_gives, none_taken}
use Rattle.meaning.specs.Table.{body_length, in_body, table_of}
use Rattle.bodies.specs.Sound.{Sound, states_in, labels_in}
use Rattle.table.specs.File.{header_right, length_right, body_limit, byte_right, body_right, bodies_right, by_contents, by_bodies}
use Rattle.table.specs.File.{lines, Reading, reading_of, refusal_number, number_of}
use Rattle.table.specs.Named.{Named}
use Rattle.table.specs.declared.Refusal.{Refusal}
use Rattle.table.specs.declared.Refusal.TheVariants.{Short, Header, Contents, Length, Body}
use Rattle.meaning.proofs.Tests.{all_holds}
use Rattle.table.proofs.Header.{in_range}
use Rattle.table.proofs.Named.{contents_named, one_field, bodies_named, one_byte}

module _ (f : List ℕ) (bodies : bodies_right f ≡ true) where
  -- Byte j of body i is below the body's limit.
  byte_below : (i : ℕ) → i < 5 → (j : ℕ) → j < body_length (states_in f) (labels_in f) i → in_body f i j < body_limit (states_in f) i
  byte_below i kind j l =
      ltb-true _ _
      (all_holds (body_length (states_in f) (labels_in f) i) (byte_right f i)
      (all_holds 5 (body_right f) bodies i kind) j l)

-- Lines 2, 4 and 5 are what a sound file needs.
sound : (f : List ℕ) → header_right f ≡ true → length_right f ≡ true → bodies_right f ≡ true → Sound f
sound f header size bodies =
    let r = in_range f header in
    record {
      size = eqb-true _ _ size;
      formed = record {
        some_state = r.some_state;
        few_states = r.few_states;
        some_label = r.some_label;
        few_labels = r.few_labels;
        start_is_in = r.start_is_in;
        opening_in = byte_below f bodies 0 (omega arith);
        point_in = λ q a lq la. byte_below f bodies 1 (omega arith) (q * labels_in f + a) (digits_lt lq la);
        mark_in = byte_below f bodies 2 (omega arith);
        apply_in = λ q p lq lp. byte_below f bodies 3 (omega arith) (q * states_in f + p) (digits_lt lq lp);
      };
    }

-- A file is taken exactly when none of the five lines applies.
pub taken_exactly : (f : List ℕ) → (number_of (reading_of f) ≡ 0) ↔ ((i : ℕ) → applies_at (lines f) i ≡ false)
taken_exactly f = Refusals.taken_exactly number_of (Ok (states_in f, labels_in f)) (lines f) tt

-- A refusal is the first reason exactly when it is what its line gives, and its line is the first that applies.
exactly_at :
    (f : List ℕ) (why given : Refusal) (i : ℕ) → i < 5 → gives_at (lines f) (Ok (states_in f, labels_in f)) i ≡ Err given →
    refusal_number given ≡ refusal_number why → (reading_of f ≡ Err why) ↔ (FirstAt (lines f) i × (given ≡ why))
exactly_at f why given i l gives number =
    let otherwise : Reading = Ok (states_in f, labels_in f) in (
      λ e.
          let h = (given_exactly number_of otherwise (lines f) tt i l).0 (ap number_of e ∙ sym number ∙ sym (ap number_of gives)) in
          let told : Err given ≡ Err why = sym gives ∙ sym (first_gives number_of otherwise (lines f) i h) ∙ e in
          let same : given ≡ why = cc in
          (h, same),
      λ h. first_gives number_of otherwise (lines f) i h.0 ∙ gives ∙ ap Err h.1,
    )

-- The place of a refusal's line in the list.
abbrev pub line_of : Refusal → ℕ
line_of Short = 0
line_of Header = 1
line_of (Contents entry x) = 2
line_of Length = 3
line_of (Body body byte) = 4

-- Each refusal is given exactly when its line applies, none before it does, and the place that it names is the first wrong
-- one.
pub refused_exactly : (f : List ℕ) (why : Refusal) → (reading_of f ≡ Err why) ↔ (FirstAt (lines f) (line_of why) × Named f why)
refused_exactly f Short =
    let h = exactly_at f Short Short 0 (omega arith) refl refl in (λ e. ((h.0 e).0, tt), λ g. h.1 (g.0, refl))
refused_exactly f Header =
    let h = exactly_at f Header Header 1 (omega arith) refl refl in (λ e. ((h.0 e).0, tt), λ g. h.1 (g.0, refl))
refused_exactly f (Contents entry x) =
    let h = exactly_at f (Contents entry x) (by_contents f) 2 (omega arith) refl refl in
    let first : FirstAt (lines f) 2 → Named f (by_contents f) = λ g. contents_named f (not-true _ g.applies) in
    (λ e. ((h.0 e).0, subst (Named f) (h.0 e).1 (first (h.0 e).0)), λ g. h.1 (g.0, one_field f (first g.0) g.1))
refused_exactly f Length =
    let h = exactly_at f Length Length 3 (omega arith) refl refl in (λ e. ((h.0 e).0, tt), λ g. h.1 (g.0, refl))
refused_exactly f (Body body byte) =
    let h = exactly_at f (Body body byte) (by_bodies f) 4 (omega arith) refl refl in
    let first : FirstAt (lines f) 4 → Named f (by_bodies f) = λ g. bodies_named f (not-true _ g.applies) in
    (λ e. ((h.0 e).0, subst (Named f) (h.0 e).1 (first (h.0 e).0)), λ g. h.1 (g.0, one_byte f (first g.0) g.1))

same_sizes : {E : Type 0} {n k m l : ℕ} → ◌≡◌ {A = Result (ℕ × ℕ) E} (Ok (n, k)) (Ok (m, l)) → (n ≡ m) × (k ≡ l)
same_sizes {n = n} {k = k} {m = m} {l = l} e =
    let pair : ◌≡◌ {A = ℕ × ℕ} (n, k) (m, l) = cc in (ap (λ p. p.0) pair, ap (λ p. p.1) pair)

-- A file that is taken can be stepped by, and is taken with its own n and k.
pub taken_is_sound :
    (f : List ℕ) (n k : ℕ) → reading_of f ≡ Ok (n, k) → Sound f × (n ≡ (table_of f).states) × (k ≡ (table_of f).labels)
taken_is_sound f n k e =
    let h : (i : ℕ) → applies_at (lines f) i ≡ false = (taken_exactly f).0 (ap number_of e) in
    let sizes = same_sizes (sym e ∙ none_taken number_of (Ok (states_in f, labels_in f)) (lines f) h) in
    (sound f (not-false _ (h 1)) (not-false _ (h 3)) (not-false _ (h 4)), sizes.0, sizes.1)
