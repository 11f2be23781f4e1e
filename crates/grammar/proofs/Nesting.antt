-- Nested tags against the events alone: what nested tags give leads on, with labelled closes; and events that lead on have
-- tags, which give them with their closes labelled. Assumes of the names, where tags are to be found for events, that the
-- list is good.
use mathlib.Core.Path.{◌≡◌, refl}
use mathlib.Core.List.{List, [], ◌∷◌}
use Prim.Native.Nat.{ℕ, ◌<◌}
use native.Mathlib.Omega.{arith}
use lib.ListN.{length}
use Rattle.meaning.proofs.Rows.{AllBelow}
use Rattle.grammar.specs.Names.{name_at}
use Rattle.grammar.specs.Tags.{Tag, Labels, Nested}
use Rattle.grammar.specs.Streams.{Opens, labelled}
use Rattle.grammar.proofs.Names.{GoodList}
use Rattle.grammar.proofs.Labelling.{byte_opens, byte_points, byte_closes_its}

-- The events of nested tags lead from the same open elements to the same,
pub nested_opens : {ns : List (List ℕ)} {o o' es : List ℕ} {ts : List Tag} → Nested ns o ts es o' → Opens (length ns) o es o'
nested_opens Nested.nothing = Opens.nothing
nested_opens (Nested.opening l d n) = Opens.opens l.known d (nested_opens n)
nested_opens (Nested.empty l n) = Opens.points l.known (nested_opens n)
nested_opens (Nested.closing l n) = Opens.closes_its (nested_opens n)

-- and their closes are labelled.
pub nested_labelled : {ns : List (List ℕ)} {o o' es : List ℕ} {ts : List Tag} → length ns < 33 → Nested ns o ts es o'
    → labelled o es ≡ es
nested_labelled few Nested.nothing = refl
nested_labelled few (Nested.opening {a = a} l d n) = rw (byte_opens a (omega (arith, l.known)), nested_labelled few n)
nested_labelled few (Nested.empty {a = a} l n) = rw (byte_points a (omega (arith, l.known)), nested_labelled few n)
nested_labelled few (Nested.closing {a = a} l n) = rw (byte_closes_its a (omega (arith, l.known)), nested_labelled few n)

-- The events es have tags that lead from o to o' and give es with labelled closes.
pub record Tagged (ns : List (List ℕ)) (o es o' : List ℕ) : Type 0 where
  pub tags : List Tag
  pub nested : Nested ns o tags (labelled o es) o'

module _ (ns : List (List ℕ)) (good : GoodList ns) where
  label_at_lem : (a : ℕ) → a < length ns → Labels ns (name_at ns a) a
  label_at_lem a h = record { place = good.placed a h; known = h }

  pub small : (a : ℕ) → a < length ns → a < 32
  small a h = omega (arith, good.few)

  -- Events that lead on have tags.
  pub opens_tagged : {o o' es : List ℕ} → Opens (length ns) o es o' → AllBelow (length ns) o → Tagged ns o es o'
  opens_tagged Opens.nothing k = record { tags = []; nested = Nested.nothing }
  opens_tagged (Opens.opens {a = a} h d r) k =
      let t = opens_tagged r (AllBelow.more h k) in
      record {
        tags = Tag.opening (name_at ns a) ∷ t.tags;
        nested = rw (byte_opens a (small a h)) (Nested.opening (label_at_lem a h) d t.nested);
      }
  opens_tagged (Opens.points {a = a} h r) k =
      let t = opens_tagged r k in
      record {
        tags = Tag.empty (name_at ns a) ∷ t.tags;
        nested = rw (byte_points a (small a h)) (Nested.empty (label_at_lem a h) t.nested);
      }
  opens_tagged (Opens.closes {a = a} r) (AllBelow.more h k) =
      let t = opens_tagged r k in
      record { tags = Tag.closing (name_at ns a) ∷ t.tags; nested = Nested.closing (label_at_lem a h) t.nested }
  opens_tagged (Opens.closes_its {a = a} r) (AllBelow.more h k) =
      let t = opens_tagged r k in
      record {
        tags = Tag.closing (name_at ns a) ∷ t.tags;
        nested = rw (byte_closes_its a (small a h)) (Nested.closing (label_at_lem a h) t.nested);
      }
