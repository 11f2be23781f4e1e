-- How far a stream is written, as the writer holds it, and an event's step in its terms. Definitions only. That this is
-- the writing of `grammar` is proved.
use Rattle.std.specs.Prelude.{Bool, true, false, cond, ◌&&◌, List, [], ◌∷◌, ℕ, ◌-◌, ◌%◌, eqb, ltb, length, Option, Some, None, Result, Ok, Err}
use Rattle.meaning.specs.Lent.{on_front}
use Rattle.answers.specs.declared.Event.{Event}
use Rattle.answers.specs.declared.Event.TheVariants as event
use Rattle.answers.specs.Bytes.{meaning_of}
use Rattle.grammar.specs.declared.Fault.{Fault}
use Rattle.grammar.specs.declared.Fault.TheVariants as fault
use Rattle.grammar.specs.Bytes.{less, slash, greater}
use Rattle.grammar.specs.Tags as tags
use Rattle.grammar.specs.Feeding as feeding
use Rattle.names.specs.declared.Word.{Word}
use Rattle.tags.specs.declared.levels.Levels.{Levels}
use Rattle.tags.specs.declared.writer.Scribe.{Scribe}
use Rattle.tags.specs.declared.writer.Form.{Form}
use Rattle.tags.specs.declared.writer.Form.TheVariants as form
use Rattle.tags.specs.declared.writer.Tag.{Tag}
use Rattle.tags.specs.declared.writer.Spelled.{Spelled}
use Rattle.tags.specs.declared.writer.Follower.{Follower}
use Rattle.tags.specs.declared.feeding.Fed.{Fed}
use Rattle.names.specs.Words.{spelt, word_at, is_label}
use Rattle.tags.specs.Feeding.{feed_in}
use Rattle.tags.specs.Levels.{no_levels, deeper_by, shallower, newest_of}

abbrev pub begin : Scribe
begin = record { levels = no_levels; ended = false }

abbrev pub ended : Scribe → Option Spelled
ended s = cond (eqb s.levels.depth 0) (Some (record { next = record { levels = s.levels; ended = true }; tag = None })) None

abbrev pub written : Levels → Form → Word → Spelled
written l f w = record { next = record { levels = l; ended = false }; tag = Some (record { form = f; name = w }) }

-- A name that can be written has 1 to 16 bytes.
abbrev pub has_name : Word → Bool
has_name w = ltb 0 w.length && ltb w.length 17

abbrev pub open_event : List ℕ → Scribe → ℕ → Option Spelled
open_event names s a =
    cond (has_name (word_at names a) && ltb s.levels.depth 40)
    (Some (written (deeper_by s.levels (a % 256)) form.Opening (word_at names a)))
    None

abbrev pub point_event : List ℕ → Scribe → ℕ → Option Spelled
point_event names s a = cond (has_name (word_at names a)) (Some (written s.levels form.Empty (word_at names a))) None

-- The closing tag of the newest.
abbrev pub close_newest : List ℕ → Scribe → Option ℕ → Option Spelled
close_newest names s None = None
close_newest names s (Some a) = cond (has_name (word_at names a)) (Some (written (shallower s.levels) form.Closing (word_at names a))) None

abbrev pub close_event : List ℕ → Scribe → Option Spelled
close_event names s = close_newest names s (newest_of s.levels)

-- A close that names a label: the newest's.
abbrev pub close_of_event : List ℕ → Scribe → ℕ → Option Spelled
close_of_event names s a = cond (is_label (newest_of s.levels) a) (close_event names s) None

abbrev pub event_step : List ℕ → Scribe → Event → Option Spelled
event_step names s (event.Open a) = open_event names s a
event_step names s (event.Point a) = point_event names s a
event_step names s event.Close = close_event names s
event_step names s (event.CloseOf a) = close_of_event names s a
event_step names s event.End = ended s
event_step names s event.Unknown = None

-- One event byte. The names are the first 32 lines of the list. After byte 65 nothing goes on.
abbrev pub spell_step : List ℕ → Scribe → ℕ → Option Spelled
spell_step names s b = cond s.ended None (event_step names s (meaning_of b))

-- The tag that an event gives, and the scribe after it: one at fault leaves it as it was.
abbrev pub tag_by : Option Spelled → Result (Option Tag) Fault
tag_by None = Err fault.Byte
tag_by (Some x) = Ok x.tag

abbrev pub next_by : Scribe → Option Spelled → Scribe
next_by s None = s
next_by s (Some x) = x.next

---------------------------------------------------------------- a tag's bytes

abbrev pub tag_of : Form → List ℕ → tags.Tag
tag_of form.Opening x = tags.Tag.opening x
tag_of form.Closing x = tags.Tag.closing x
tag_of form.Empty x = tags.Tag.empty x

abbrev pub tag_bytes : Tag → List ℕ
tag_bytes t = tags.tag_text (tag_of t.form (spelt t.name))

-- What stands before a tag's name, and after it.
abbrev pub head_of : Form → List ℕ
head_of form.Opening = less ∷ []
head_of form.Closing = less ∷ slash ∷ []
head_of form.Empty = less ∷ []

abbrev pub tail_of : Form → List ℕ
tail_of form.Opening = greater ∷ []
tail_of form.Closing = greater ∷ []
tail_of form.Empty = slash ∷ greater ∷ []

---------------------------------------------------------------- a piece of a stream

abbrev pub gives_by : Option Tag → List ℕ
gives_by None = []
gives_by (Some t) = tag_bytes t

-- A step as it counts for a feed: an event at fault leaves the scribe as it was.
abbrev pub step_by : Scribe → Option Spelled → feeding.Step Scribe
step_by s None = feeding.stopped s fault.Byte
step_by s (Some x) = feeding.stepped x.next (gives_by x.tag)

abbrev pub scribe_step : List ℕ → Scribe → ℕ → feeding.Step Scribe
scribe_step names s b = step_by s (spell_step names s b)

-- The room that n bytes leave, if they fit, and what n more leave of it.
abbrev pub left_of : ℕ → ℕ → Option ℕ
left_of room n = cond (ltb room n) None (Some (room - n))

abbrev pub less_by : Option ℕ → ℕ → Option ℕ
less_by None n = None
less_by (Some room) n = left_of room n

-- A step that is only followed.
abbrev pub follower_by : Follower → Option Spelled → feeding.Step Follower
follower_by p None = feeding.stopped p fault.Byte
follower_by p (Some x) = feeding.stepped (record { scribe = x.next; left = less_by p.left (length (gives_by x.tag)) }) []

abbrev pub follower_step : List ℕ → Follower → ℕ → feeding.Step Follower
follower_step names p b = follower_by p (spell_step names p.scribe b)

-- Events from a scribe, and the same with room for so many bytes.
abbrev pub follow_in : List ℕ → Scribe → List ℕ → feeding.Fed Scribe
follow_in names s events = feeding.feed (scribe_step names) s events

abbrev pub write_in : List ℕ → Scribe → ℕ → List ℕ → feeding.Fed (feeding.Roomed Scribe)
write_in names s room piece = feed_in (scribe_step names) s room piece

-- What following answers: bytes by what they leave of the room.
abbrev pub follow_of : ℕ → feeding.Fed Scribe → Fed Follower
follow_of room f =
    record { next = record { scribe = f.state; left = left_of room (length f.gives) }; taken = f.taken; given = 0; stop = f.stops }

-- The output after a piece: its tags from the front, and nothing else changed.
abbrev pub written_out : List ℕ → Scribe → List ℕ → List ℕ → List ℕ
written_out names s piece out =
    on_front (write_in names s (length out) piece).gives out
