-- Laws of the writer's steps: it writes events as the tags that give them, with a label at each close or without. Assumes of
-- the names that the list is good.
use Rattle.std.proofs.Math.Numerals.{one-add}
use mathlib.Core.Path.{◌≡◌, refl, sym, ap, ◌∙◌}
use mathlib.Core.List.{List, [], ◌∷◌, ◌++◌, append-nil}
use Prim.Native.Nat.{ℕ, ◌+◌, ◌<◌}
use lib.ListN.{length}
use borrow.Author.Tests.{lt-ltb, eq-eqb}
use Rattle.meaning.proofs.Rows.{AllBelow}
use Rattle.grammar.specs.Names.{name_at}
use Rattle.grammar.specs.Tags.{Tag, tag_text, tags_text, Holds, Labels, Nested}
use Rattle.grammar.specs.Streams.{labelled}
use Rattle.grammar.specs.Feeding.{stepped, feed}
use Rattle.grammar.specs.Writing.{after_tag, write_step}
use Rattle.grammar.proofs.Feeding.{went, feed_then}
use Rattle.grammar.proofs.Names.{name_placed, GoodList}
use Rattle.grammar.proofs.Labelling.{byte_opens, byte_points, byte_closes_its, labelled_length}
use Rattle.grammar.proofs.Nesting.{small}
use Rattle.grammar.proofs.Wrote.{finished, write_labelled}

-- The name of a label is the one at its place.
label_name : {ns : List (List ℕ)} {x : List ℕ} {a : ℕ} → Labels ns x a → name_at ns a ≡ x
label_name {ns} {x} {a} l =
    let p : name_at ns _ ≡ x = name_placed x ns (rw l.place l.known) in
    rw l.place at p

module _ (ns : List (List ℕ)) (good : GoodList ns) where
  step_opens : (o : List ℕ) (a : ℕ) → a < length ns → length o < 40
      → write_step ns (after_tag o) a ≡ stepped (after_tag (a ∷ o)) (tag_text (Tag.opening (name_at ns a)))
  step_opens o a h d = rw (byte_opens a (small ns good a h), lt-ltb a (length ns) h, lt-ltb (length o) 40 d)

  step_points : (o : List ℕ) (a : ℕ) → a < length ns
      → write_step ns (after_tag o) (32 + a) ≡ stepped (after_tag o) (tag_text (Tag.empty (name_at ns a)))
  step_points o a h = rw (byte_points a (small ns good a h), lt-ltb a (length ns) h)

  step_closes : (o : List ℕ) (a : ℕ) → a < length ns
      → write_step ns (after_tag (a ∷ o)) (66 + a) ≡ stepped (after_tag o) (tag_text (Tag.closing (name_at ns a)))
  step_closes o a h = rw (byte_closes_its a (small ns good a h), eq-eqb a a refl)

  -- What nested tags give is written as those tags,
  nested_written : {o o' es : List ℕ} {ts : List Tag} → Nested ns o ts es o'
      → feed (write_step ns) (after_tag o) es ≡ went (tags_text ts) (length es) (after_tag o')
  nested_written Nested.nothing = refl
  nested_written {o} (Nested.opening {es = es} {a = a} l d n) =
      rw (step_opens o a l.known d, label_name l, nested_written n, one-add (length es))
  nested_written {o} (Nested.empty {es = es} {a = a} l n) =
      rw (step_points o a l.known, label_name l, nested_written n, one-add (length es))
  nested_written (Nested.closing {o = o} {es = es} {a = a} l n) =
      rw (step_closes o a l.known, label_name l, nested_written n, one-add (length es))

  -- and so are events that come to it once their closes are labelled.
  pub write_tags : {o o' : List ℕ} {ts : List Tag} (es : List ℕ) → AllBelow 32 o → Nested ns o ts (labelled o es) o'
      → feed (write_step ns) (after_tag o) es ≡ went (tags_text ts) (length es) (after_tag o')
  write_tags {o} {o'} {ts} es k n =
      sym (write_labelled ns o es k) ∙ nested_written n
      ∙ ap (λ (i : ℕ). went (tags_text ts) i (after_tag o')) (labelled_length o es)

  -- Their text holds those tags.
  pub tags_held : {o o' es : List ℕ} {ts : List Tag} → Nested ns o ts es o' → Holds (tags_text ts) ts
  tags_held Nested.nothing = Holds.nothing
  tags_held (Nested.opening {a = a} l d n) = Holds.tag (rw (label_name l) at (good.names a l.known)) (tags_held n)
  tags_held (Nested.empty {a = a} l n) = Holds.tag (rw (label_name l) at (good.names a l.known)) (tags_held n)
  tags_held (Nested.closing {a = a} l n) = Holds.tag (rw (label_name l) at (good.names a l.known)) (tags_held n)

  -- Where byte 65 follows and nothing is open, the stream is whole.
  pub write_whole : {ts : List Tag} (es : List ℕ) → Nested ns [] ts (labelled [] es) []
      → feed (write_step ns) (after_tag []) (es ++ (65 ∷ [])) ≡ went (tags_text ts) (length es + 1) finished
  write_whole {ts} es n =
      rw (
        feed_then (write_step ns) (after_tag []) (after_tag []) (tags_text ts) (length es) es (65 ∷ []) (write_tags es AllBelow.none n),
        append-nil (tags_text ts),
      )
