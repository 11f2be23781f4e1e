-- Writing a stream as tagged text without blanks (02, K1 and K2): event by event, up to the first at fault. Definitions only.
use Rattle.std.specs.Prelude.{Bool, true, false, not, cond, ◌&&◌, List, [], ◌∷◌, ℕ, eqb, ltb, length, Result, Ok, Err}
use Rattle.meaning.specs.Lent.{on_front}
use Rattle.answers.specs.declared.Event.{Event}
use Rattle.answers.specs.declared.Event.TheVariants as event
use Rattle.answers.specs.Bytes.{meaning_of}
use Rattle.grammar.specs.declared.Fault.TheVariants as fault
use Rattle.grammar.specs.declared.WriteError.{WriteError}
use Rattle.grammar.specs.declared.WriteError.TheVariants as write_error
use Rattle.grammar.specs.Names.{name_at, lines_of, good_names}
use Rattle.grammar.specs.Tags.{Tag, tag_text}
use Rattle.grammar.specs.Feeding.{Step, goes_on, stopped, stepped, Fed, feed}

-- How far a stream is written: the labels of the elements that are open, newest first, and whether byte 65 was read.
pub record Written : Type 0 where
  pub levels : List ℕ
  pub ended : Bool

abbrev pub unwritten : Written
unwritten = record { levels = []; ended = false }

abbrev pub after_tag : List ℕ → Written
after_tag o = record { levels = o; ended = false }

-- A close: the closing tag of the newest.
abbrev pub close_tag : List (List ℕ) → Written → List ℕ → Step Written
close_tag ns w [] = stopped w fault.Byte
close_tag ns w (a ∷ o) = stepped (after_tag o) (tag_text (Tag.closing (name_at ns a)))

-- A close that names a label: the newest's.
abbrev pub close_of_tag : List (List ℕ) → Written → ℕ → List ℕ → Step Written
close_of_tag ns w a [] = stopped w fault.Byte
close_of_tag ns w a (c ∷ o) = cond (eqb a c) (close_tag ns w (c ∷ o)) (stopped w fault.Byte)

-- An event, where byte 65 was not read yet: its tag, or its fault where no whole stream of depth at most 40 goes on.
abbrev pub write_event : List (List ℕ) → Written → Event → Step Written
write_event ns w (event.Open a) =
    cond (ltb a (length ns) && ltb (length w.levels) 40)
    (stepped (after_tag (a ∷ w.levels)) (tag_text (Tag.opening (name_at ns a))))
    (stopped w fault.Byte)
write_event ns w (event.Point a) =
    cond (ltb a (length ns)) (stepped (after_tag w.levels) (tag_text (Tag.empty (name_at ns a)))) (stopped w fault.Byte)
write_event ns w event.Close = close_tag ns w w.levels
write_event ns w (event.CloseOf a) = close_of_tag ns w a w.levels
write_event ns w event.End =
    cond (eqb (length w.levels) 0) (stepped (record { levels = w.levels; ended = true }) []) (stopped w fault.Byte)
write_event ns w event.Unknown = stopped w fault.Byte

-- After byte 65 nothing goes on.
abbrev pub write_step : List (List ℕ) → Written → ℕ → Step Written
write_step ns w b = cond w.ended (stopped w fault.Byte) (write_event ns w (meaning_of b))

abbrev pub write_fed : List (List ℕ) → List ℕ → Fed Written
write_fed ns es = feed (write_step ns) unwritten es

-- The stream is whole: no event is at fault, and byte 65 was read.
abbrev pub whole_stream : Fed Written → Bool
whole_stream f = goes_on f.stops && f.state.ended

-- What the writer answers for names, events and an output with so much room.
abbrev pub write_answer : List ℕ → List ℕ → ℕ → Result ℕ WriteError
write_answer names es room =
    let f = write_fed (lines_of names) es in
    cond (good_names names)
    (cond (whole_stream f)
    (cond (ltb room (length f.gives)) (Err write_error.Short) (Ok (length f.gives)))
    (Err (write_error.Stream f.taken)))
    (Err write_error.Names)

-- What stands in the output afterwards: the text from its front; nothing else of it changes. A refusal writes nothing.
abbrev pub write_out : List ℕ → List ℕ → List ℕ → List ℕ
write_out names es out =
    let f = write_fed (lines_of names) es in
    cond (good_names names && (whole_stream f && not (ltb (length out) (length f.gives))))
    (on_front f.gives out)
    out
