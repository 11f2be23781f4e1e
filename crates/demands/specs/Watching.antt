-- A watched stream: a start call, and then any calls with one table, each with the record and the memory that the call before
-- it gave back, refused calls among them. Definitions only: the calls' answers are those of their contracts.
use Rattle.std.specs.Prelude.{Ok, Err}
use Rattle.std.specs.Prelude.{Bool, true, false, List, [], ◌∷◌, ◌++◌, ◌≡◌, ℕ, length, take}
use Rattle.judge.specs.Judging.{Judged}
use Rattle.meaning.specs.Refusals.{Line}
use Rattle.meaning.specs.Streams as stream
use Rattle.answers.specs.declared.Record.{Record}
use Rattle.answers.specs.declared.Event.{Event}
use Rattle.answers.specs.declared.Event.TheVariants.{Open, Point, Close, CloseOf, End, Unknown}
use Rattle.answers.specs.Bytes.{meaning_of}
use Rattle.answers.specs.Answers.{Outcome, outcome_number}
use Rattle.engine.specs.Calls.{lines, event_answer, event_work, event_reports, start_answer, start_work}

-- What a caller hands to an event call beside the table, the record and work memory: the byte, and the words of the reports
-- slice that it lends.
pub record Call : Type 0 where
  pub byte : ℕ
  pub lent : List ℕ

-- The taken events, and whether the end was taken.
pub record Stream : Type 0 where
  pub events : List stream.Event
  pub ended : Bool

-- One taken event more. Both closes are one event. A byte that means nothing is never taken.
abbrev pub longer : Stream → Event → Stream
longer s (Open a) = record { events = s.events ++ (stream.Open a ∷ []); ended = s.ended }
longer s (Point a) = record { events = s.events ++ (stream.Point a ∷ []); ended = s.ended }
longer s Close = record { events = s.events ++ (stream.Close ∷ []); ended = s.ended }
longer s (CloseOf a) = record { events = s.events ++ (stream.Close ∷ []); ended = s.ended }
longer s End = record { events = s.events; ended = true }
longer s Unknown = s

-- A watch as its caller has it: the events taken so far, the record and the work memory now, and the reports of each taken
-- event.
pub record Watching : Type 0 where
  pub stream : Stream
  pub now : Record
  pub work : List ℕ
  pub reports : List (List ℕ)

-- The number of reports that an answer carries.
abbrev pub count_of : Outcome → ℕ
count_of (Ok reports) = reports
count_of (Err why) = 0

-- The new value where the call was taken, and else the old one.
abbrev pub on_taken : {A : Type 0} → Outcome → A → A → A
on_taken (Ok reports) old new = new
on_taken (Err why) old new = old

---------------------------------------------------------------- the start call

-- What the caller has after a start call over memory that held `work`.
abbrev pub begun : List ℕ → ℕ → ℕ → List ℕ → Watching
begun f rows depth work =
    record {
      stream = record { events = []; ended = false };
      now = (start_answer f rows depth work).next;
      work = start_work f rows depth work;
      reports = [];
    }

-- The start was taken.
abbrev pub Started : List ℕ → ℕ → ℕ → List ℕ → Type 0
Started f rows depth work = outcome_number (start_answer f rows depth work).outcome ≡ 0

---------------------------------------------------------------- an event call

module _ (f : List ℕ) (s : Watching) (c : Call) where
  -- The lines of refusals that it meets.
  abbrev pub lines_of : List (Line Judged)
  lines_of = lines f s.now s.work (length c.lent) (meaning_of c.byte)

  abbrev pub outcome_of : Outcome
  outcome_of = (event_answer f s.now s.work c.lent c.byte).outcome

  -- The reports that the caller then reads: as many words as the answer says, from the front of the slice it lent.
  abbrev pub given : List ℕ
  given = take (count_of outcome_of) (event_reports f s.now s.work c.lent c.byte)

  abbrev pub called : Watching
  called =
      record {
        stream = on_taken outcome_of s.stream (longer s.stream (meaning_of c.byte));
        now = (event_answer f s.now s.work c.lent c.byte).next;
        work = event_work f s.now s.work c.lent c.byte;
        reports = on_taken outcome_of s.reports (s.reports ++ (given ∷ []));
      }

---------------------------------------------------------------- many

abbrev pub called_all : List ℕ → Watching → List Call → Watching
called_all f s [] = s
called_all f s (c ∷ cs) = called_all f (called f s c) cs

-- The bytes of the calls that were taken.
abbrev pub taken_bytes : List ℕ → Watching → List Call → List ℕ
taken_bytes f s [] = []
taken_bytes f s (c ∷ cs) = on_taken (outcome_of f s c) [] (c.byte ∷ []) ++ taken_bytes f (called f s c) cs

-- What a caller learns from a call: the outcome, and the reports that it reads.
pub record Told : Type 0 where
  pub outcome : Outcome
  pub words : List ℕ

abbrev pub told_all : List ℕ → Watching → List Call → List Told
told_all f s [] = []
told_all f s (c ∷ cs) = record { outcome = outcome_of f s c; words = given f s c } ∷ told_all f (called f s c) cs

-- The watched stream.
abbrev pub watching : List ℕ → ℕ → ℕ → List ℕ → List Call → Watching
watching f rows depth work cs = called_all f (begun f rows depth work) cs

-- All reports, in the order in which they came.
abbrev pub joined : List (List ℕ) → List ℕ
joined [] = []
joined (words ∷ rest) = words ++ joined rest
