-- The round trips of reading and writing. Assumes of the names that they are good, where no answer says so.
use Rattle.std.proofs.Common.{Ok}
use mathlib.Core.Path.{◌≡◌, refl, sym, ap, subst, ◌∙◌}
use mathlib.Core.Bool.{true}
use mathlib.Core.List.{List, [], ◌++◌}
use Prim.Native.Nat.{ℕ, ◌≤◌, ◌<◌}
use lib.ListN.{length, take, drop}
use Rattle.grammar.specs.Names.{lines_of, good_names}
use Rattle.grammar.specs.Tags.{tags_text, Holds, Text}
use Rattle.grammar.specs.Streams.{Stream, labelled}
use Rattle.grammar.specs.Feeding.{Fed}
use Rattle.grammar.specs.Reading.{read_answer, read_out}
use Rattle.grammar.specs.Writing.{Written, write_answer, write_out}
use Rattle.grammar.proofs.Names.{good_list}
use Rattle.grammar.proofs.Labelling.{labelled_length, labelled_ends}
use Rattle.grammar.proofs.Nesting.{nested_opens, nested_labelled}
use Rattle.grammar.proofs.Streams.{Tags, stream_tags, tags_written}
use Rattle.grammar.proofs.Writer.{tags_held}
use Rattle.grammar.proofs.WriterAnswers.{labels, text_for, taken_exactly, taken_front}
use Rattle.grammar.proofs.Texts.{takes, taken_text}

-- What a text gives is a whole stream of depth at most 40,
pub text_stream : {ns : List (List ℕ)} {s w : List ℕ} → Text ns s w → Stream (length ns) w
text_stream t = record { events = t.events; opens = nested_opens t.nested; ends = t.ends }

-- each of whose closes names its label.
pub text_labelled : {ns : List (List ℕ)} {s w : List ℕ} → length ns < 33 → Text ns s w → labelled [] w ≡ w
text_labelled few t =
    rw (t.ends, labelled_ends [] t.events, nested_labelled few t.nested)

module _ (names : List ℕ) (good : good_names names ≡ true) where
  written_tags : {w : List ℕ} (t : Tags (lines_of names) w) → text_for names w ≡ tags_text t.tags
  written_tags {w} t = ap (λ (f : Fed Written). f.gives) (tags_written (lines_of names) (good_list names good) w t)

  -- What is written for a text's stream is the text's tags, without its blanks.
  pub blanks_are_left_out : {s w : List ℕ} (t : Text (lines_of names) s w) → text_for names w ≡ tags_text t.tags
  blanks_are_left_out t =
      written_tags
      (record {
        tags = t.tags;
        events = t.events;
        nested = rw (nested_labelled (good_list names good).few t.nested) t.nested;
        ends = t.ends;
      })

  -- What is written for a whole stream is a text that gives it, each close labelled.
  pub written_is_text : {w : List ℕ} → Stream (labels names) w → Text (lines_of names) (text_for names w) (labelled [] w)
  written_is_text {w} s =
      let t = stream_tags (lines_of names) (good_list names good) w s in
      record {
        tags = t.tags;
        events = labelled [] t.events;
        nested = t.nested;
        ends = ap (labelled []) t.ends ∙ labelled_ends [] t.events;
        holds = subst (λ (u : List ℕ). Holds u t.tags) (sym (written_tags t)) (tags_held (lines_of names) (good_list names good) t.nested);
      }

-- A text s that was read as n events: they are written where there is room, and what is written reads as the same events.
pub record SameAgain (names s : List ℕ) (n : ℕ) (out : List ℕ) : Type 0 where
  pub stream : List ℕ
  pub count : length stream ≡ n
  pub read : read_out names s out ≡ stream ++ drop n out
  pub written : (room : ℕ) → length (text_for names stream) ≤ room
      → write_answer names stream room ≡ Ok (length (text_for names stream))
  pub read_again : (back : List ℕ) → n ≤ length back
      → (read_answer names (text_for names stream) (length back) ≡ Ok n)
      × (read_out names (text_for names stream) back ≡ stream ++ drop n back)

module _ (names : List ℕ) where
  -- What is written for a whole stream reads as that stream, each close labelled.
  pub stream_read_back : good_names names ≡ true → {w : List ℕ} → Stream (labels names) w → (back : List ℕ) → length w ≤ length back
      → (read_answer names (text_for names w) (length back) ≡ Ok (length w))
      × (read_out names (text_for names w) back ≡ labelled [] w ++ drop (length w) back)
  stream_read_back good {w} s back h =
      subst (λ (n : ℕ). n ≤ length back
      → (read_answer names (text_for names w) (length back) ≡ Ok n)
      × (read_out names (text_for names w) back ≡ labelled [] w ++ drop n back))
      (labelled_length [] w) (takes names back good (written_is_text names good s)) h

  -- To write a stream and to read what was written gives the same events, each close labelled.
  pub write_then_read : {n : ℕ} (w out back : List ℕ) → write_answer names w (length out) ≡ Ok n → length w ≤ length back
      → (read_answer names (take n (write_out names w out)) (length back) ≡ Ok (length w))
      × (read_out names (take n (write_out names w out)) back ≡ labelled [] w ++ drop (length w) back)
  write_then_read {n} w out back e h =
      let p = (taken_exactly names w (length out) n).0 e in
      rw (taken_front names w out e) (stream_read_back p.0 p.1 back h)

  -- What is read and then written reads the same.
  pub read_then_write : {n : ℕ} (s out : List ℕ) → read_answer names s (length out) ≡ Ok n → SameAgain names s n out
  read_then_write {n} s out e =
      let p = taken_text names s out e in
      let t = p.1 in
      let whole : Stream (labels names) t.stream = text_stream t.text in
      let same : labelled [] t.stream ≡ t.stream = text_labelled (good_list names p.0).few t.text in
      record {
        stream = t.stream;
        count = t.count;
        read = t.written;
        written = λ room h. (taken_exactly names t.stream room (length (text_for names t.stream))).1 (p.0, whole, refl, h);
        read_again = λ back h.
            subst (λ (m : ℕ). m ≤ length back
            → (read_answer names (text_for names t.stream) (length back) ≡ Ok m)
            × (read_out names (text_for names t.stream) back ≡ t.stream ++ drop m back))
            t.count (rw same at (stream_read_back p.0 whole back)) h;
      }
