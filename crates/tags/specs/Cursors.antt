-- How far a text is read, as the reader holds it, and a byte's step in its terms. Definitions only. That this is the
-- reading of `grammar` is proved.
use Rattle.std.specs.Prelude.{Bool, true, false, cond, ◌&&◌, List, [], ◌∷◌, ℕ, ◌+◌, ◌-◌, ◌%◌, eqb, ltb, length, Option, Some, None, Result, Ok, Err}
use Rattle.meaning.specs.Lent.{on_front}
use Rattle.grammar.specs.declared.Fault.{Fault}
use Rattle.grammar.specs.declared.Fault.TheVariants as fault
use Rattle.grammar.specs.declared.Class.{Class}
use Rattle.grammar.specs.Bytes.{class_of, of_blank, of_letter, of_name, of_less, of_slash, of_greater}
use Rattle.grammar.specs.Feeding as feeding
use Rattle.grammar.specs.Reading.{end_stop}
use Rattle.names.specs.declared.Word.{Word}
use Rattle.tags.specs.declared.levels.Levels.{Levels}
use Rattle.tags.specs.declared.reader.Within.{Within}
use Rattle.tags.specs.declared.reader.Within.TheVariants as within
use Rattle.tags.specs.declared.reader.Cursor.{Cursor}
use Rattle.tags.specs.declared.reader.Stepped.{Stepped}
use Rattle.tags.specs.declared.feeding.Fed.{Fed}
use Rattle.tags.specs.Feeding as fed
use Rattle.names.specs.Words.{no_word, with_byte, label_in, is_label}
use Rattle.tags.specs.Levels.{no_levels, deeper_by, shallower, newest_of}

abbrev pub begin : Cursor
begin = record { within = within.Between; name = no_word; levels = no_levels }

abbrev pub moved : Cursor → Within → Word → Stepped
moved c in' w = record { next = record { within = in'; name = w; levels = c.levels }; event = None }

-- After a whole tag.
abbrev pub tag_at : Levels → ℕ → Stepped
tag_at l e = record { next = record { within = within.Between; name = no_word; levels = l }; event = Some e }

abbrev pub open_step : Cursor → ℕ → Result Stepped Fault
open_step c a = cond (ltb c.levels.depth 40) (Ok (tag_at (deeper_by c.levels a) a)) (Err fault.Deep)

abbrev pub close_step : Cursor → ℕ → Result Stepped Fault
close_step c a = cond (is_label (newest_of c.levels) a) (Ok (tag_at (shallower c.levels) (66 + a % 32))) (Err fault.Closing)

abbrev pub point_step : Cursor → ℕ → Stepped
point_step c a = tag_at c.levels (32 + a % 32)

-- A whole tag of label a, by what was begun of it.
abbrev pub judge_in : Within → Cursor → ℕ → Result Stepped Fault
judge_in within.Between c a = Err fault.Byte
judge_in within.Angle c a = Err fault.Byte
judge_in within.Slashed c a = Err fault.Byte
judge_in within.Opening c a = open_step c a
judge_in within.Closing c a = close_step c a
judge_in within.Empty c a = Ok (point_step c a)

abbrev pub judge_by : Option ℕ → Cursor → Result Stepped Fault
judge_by None c = Err fault.Unknown
judge_by (Some a) c = judge_in c.within c a

abbrev pub tag_step : List ℕ → Cursor → Result Stepped Fault
tag_step names c = judge_by (label_in names c.name) c

abbrev pub between : Cursor → Class → Result Stepped Fault
between c k =
    cond (of_blank k) (Ok (moved c within.Between no_word)) (cond (of_less k) (Ok (moved c within.Angle no_word)) (Err fault.Byte))

abbrev pub angle : Cursor → Class → ℕ → Result Stepped Fault
angle c k b =
    cond (of_letter k) (Ok (moved c within.Opening (with_byte no_word b)))
    (cond (of_slash k) (Ok (moved c within.Slashed no_word)) (Err fault.Byte))

abbrev pub slashed : Cursor → Class → ℕ → Result Stepped Fault
slashed c k b = cond (of_letter k) (Ok (moved c within.Closing (with_byte no_word b))) (Err fault.Byte)

abbrev pub opening : List ℕ → Cursor → Class → ℕ → Result Stepped Fault
opening names c k b =
    cond (of_name k) (Ok (moved c within.Opening (with_byte c.name b)))
    (cond (of_greater k) (tag_step names c)
    (cond (of_slash k) (Ok (moved c within.Empty c.name)) (Err fault.Byte)))

abbrev pub closing : List ℕ → Cursor → Class → ℕ → Result Stepped Fault
closing names c k b =
    cond (of_name k) (Ok (moved c within.Closing (with_byte c.name b)))
    (cond (of_greater k) (tag_step names c) (Err fault.Byte))

abbrev pub empty : List ℕ → Cursor → Class → Result Stepped Fault
empty names c k = cond (of_greater k) (tag_step names c) (Err fault.Byte)

-- A byte of class k, by what is begun.
abbrev pub step_within : Within → List ℕ → Cursor → Class → ℕ → Result Stepped Fault
step_within within.Between names c k b = between c k
step_within within.Angle names c k b = angle c k b
step_within within.Slashed names c k b = slashed c k b
step_within within.Opening names c k b = opening names c k b
step_within within.Closing names c k b = closing names c k b
step_within within.Empty names c k b = empty names c k

-- One byte. The names are the first 32 lines of the list.
abbrev pub step_of : List ℕ → Cursor → ℕ → Result Stepped Fault
step_of names c b = step_within c.within names c (class_of b) b

abbrev pub closed_within : Within → Bool
closed_within within.Between = true
closed_within within.Angle = false
closed_within within.Slashed = false
closed_within within.Opening = false
closed_within within.Closing = false
closed_within within.Empty = false

-- Neither a tag nor an element is open.
abbrev pub closed_in : Cursor → Bool
closed_in c = closed_within c.within && eqb c.levels.depth 0

---------------------------------------------------------------- a piece of text

abbrev pub given_by : Option ℕ → List ℕ
given_by None = []
given_by (Some e) = e ∷ []

-- The event that a byte gives, and the cursor after it: one at fault leaves it as it was.
abbrev pub event_by : Result Stepped Fault → Result (Option ℕ) Fault
event_by (Ok x) = Ok x.event
event_by (Err f) = Err f

abbrev pub next_by : Cursor → Result Stepped Fault → Cursor
next_by c (Ok x) = x.next
next_by c (Err f) = c

-- A step as it counts for a feed: a byte at fault leaves the cursor as it was.
abbrev pub step_by : Cursor → Result Stepped Fault → feeding.Step Cursor
step_by c (Ok x) = feeding.stepped x.next (given_by x.event)
step_by c (Err f) = feeding.stopped c f

abbrev pub cursor_step : List ℕ → Cursor → ℕ → feeding.Step Cursor
cursor_step names c b = step_by c (step_of names c b)

-- A piece of text from a cursor, with room for so many events.
abbrev pub feed_in : List ℕ → Cursor → ℕ → List ℕ → feeding.Fed (feeding.Roomed Cursor)
feed_in names c room piece = fed.feed_in (cursor_step names) c room piece

-- The output after a piece: its events from the front, and nothing else changed.
abbrev pub feed_out : List ℕ → Cursor → List ℕ → List ℕ → List ℕ
feed_out names c piece out =
    on_front (feed_in names c (length out) piece).gives out

-- The fault of a whole text, if it has one: the first byte's, or else the end's.
abbrev pub whole_stop : Fed Cursor → ℕ → Option Fault
whole_stop f room = cond (feeding.goes_on f.stop) (end_stop (closed_in f.next) (room - f.given)) f.stop
