-- What the start call and the event call answer, and what they leave in lent memory, for any input. Definitions only.
use Rattle.std.specs.Prelude.{Ok, Err, List, [], ◌∷◌, ◌++◌, ◌≡◌, ℕ, ltb, length, replicate}
use Rattle.meaning.specs.Table.{Table, table_of}
use Rattle.meaning.specs.Masks.{accs_of}
use Rattle.meaning.specs.Refusals.{Line, first_of}
use Rattle.meaning.specs.Streams as stream
use Rattle.meaning.specs.Streams.{opened_by}
use Rattle.places.specs.Places.{work_length, rows_part, labels_part}
use Rattle.places.specs.Memory.{Memory, memory_in, open_in, work_words, LabelsIn}
use Rattle.reports.specs.Reports.{reports_of, left_of, end_reports}
use Rattle.meaning.specs.Lent.{on_front}
use Rattle.stepping.specs.declared.Extent.{Extent}
use Rattle.stepping.specs.Stepping.{Stands, start_memory, step_memory, left_memory}
use Rattle.answers.specs.declared.Record.{Record}
use Rattle.answers.specs.declared.Answer.{Answer}
use Rattle.answers.specs.declared.Event.{Event}
use Rattle.answers.specs.declared.Event.TheVariants.{Open, Point, Close, CloseOf, End, Unknown}
use Rattle.answers.specs.declared.Refusal.TheVariants as why
use Rattle.answers.specs.Record.{started_of, no_record, deeper_of, shallower_of, one_more_of, with_alive, finished_of}
use Rattle.answers.specs.Bytes.{meaning_of}
use Rattle.answers.specs.Answers.{refused_of, taken_of}
use Rattle.judge.specs.Judging.{Judged, fine, refuses, judged_lines, start_lines}

-- What a call that is taken makes of the record and of work memory, and the reports that it gives.
pub record After : Type 0 where
  pub next : Record
  pub work : List ℕ
  pub reports : List ℕ

-- Depth and positions after an event.
abbrev pub step_record : stream.Event → Record → Record
step_record (stream.Open a) r = one_more_of (deeper_of r)
step_record (stream.Point a) r = one_more_of r
step_record stream.Close r = shallower_of r

-- The extent of the work memory that a record goes with.
abbrev pub extent_of : Record → Extent
extent_of r = record { rows = r.rows; allowed = r.allowed; depth = r.depth; alive = r.alive }

-- The abstract state that a record and its work memory stand for: the rows, and the labels of the open levels.
abbrev pub memory_of : Record → List ℕ → Memory
memory_of r work = memory_in r.allowed r.depth r.alive (rows_part r.rows r.allowed work)

abbrev pub labels_of : Record → List ℕ → List ℕ
labels_of r work = open_in (labels_part r.rows r.allowed work) r.depth

-- Work memory that can be stepped, for a table of n states: its rows are rows, its labels' words those of the open levels.
pub record Ready (n : ℕ) (r : Record) (work : List ℕ) : Type 0 where
  pub size : length work ≡ work_length r.rows r.allowed
  pub rows : Stands n r.rows r.allowed r.depth r.alive (rows_part r.rows r.allowed work)
  pub labels : LabelsIn r.depth (labels_part r.rows r.allowed work)

-- An open, point or close: the rows step, decided rows are reported and go, and the labels follow.
abbrev pub stepped : Table → Record → List ℕ → stream.Event → After
stepped t r work e =
    let m = step_memory t (accs_of t) e r.positions (memory_of r work) in
    record {
      next = with_alive (length (left_of m.alive)) (step_record e r);
      work = work_words r.rows r.allowed (left_memory m) (opened_by (labels_of r work) e);
      reports = reports_of m.alive;
    }

-- The sets acc that an event needs: an open needs them, a point or close none.
abbrev pub accs_for : Table → stream.Event → List ℕ
accs_for t (stream.Open a) = accs_of t
accs_for t (stream.Point a) = replicate 64 0
accs_for t stream.Close = replicate 64 0

-- The end: every alive row is reported, and every word is 0.
abbrev pub ended : Table → Record → List ℕ → After
ended t r work =
    record { next = finished_of r; work = replicate (length work) 0; reports = end_reports t (memory_of r work).alive }

abbrev pub taking : Table → Record → List ℕ → Event → After
taking t r work (Open a) = stepped t r work (stream.Open a)
taking t r work (Point a) = stepped t r work (stream.Point a)
taking t r work Close = stepped t r work stream.Close
taking t r work (CloseOf a) = stepped t r work stream.Close
taking t r work End = ended t r work
taking t r work Unknown = record { next = r; work = work; reports = [] }

-- 15: more positions would be alive after the event than rows.
abbrev pub rows_lines : Record → After → List (Line Judged)
rows_lines r after = refuses (ltb r.rows after.next.alive) why.Rows ∷ []

-- All refusals of an event, in the order of checking.
abbrev pub lines : List ℕ → Record → List ℕ → ℕ → Event → List (Line Judged)
lines f r work reports e = judged_lines f r work reports e ++ rows_lines r (taking (table_of f) r work e)

-- The new value where nothing is refused, and else the old one.
abbrev pub unless : {A : Type 0} → Judged → A → A → A
unless (Ok done) old new = new
unless (Err why) old new = old

abbrev pub answer_of : Judged → Record → After → Answer
answer_of (Ok done) r after = taken_of after.next (length after.reports)
answer_of (Err why) r after = refused_of r why

---------------------------------------------------------------- 15, once all others are passed

abbrev pub room_judged : Record → After → Judged
room_judged r after = first_of (rows_lines r after) fine

abbrev pub room_answer : Record → After → Answer
room_answer r after = answer_of (room_judged r after) r after

abbrev pub room_work : Record → List ℕ → After → List ℕ
room_work r work after = unless (room_judged r after) work after.work

abbrev pub room_reports : Record → List ℕ → After → List ℕ
room_reports r reports after = unless (room_judged r after) reports (on_front after.reports reports)

---------------------------------------------------------------- the event call

-- The first refusal that applies, if any.
abbrev pub event_judged : List ℕ → Record → List ℕ → List ℕ → ℕ → Judged
event_judged f r work reports byte = first_of (lines f r work (length reports) (meaning_of byte)) fine

-- What the event would make of it all.
abbrev pub event_after : List ℕ → Record → List ℕ → ℕ → After
event_after f r work byte = taking (table_of f) r work (meaning_of byte)

abbrev pub event_answer : List ℕ → Record → List ℕ → List ℕ → ℕ → Answer
event_answer f r work reports byte = answer_of (event_judged f r work reports byte) r (event_after f r work byte)

abbrev pub event_work : List ℕ → Record → List ℕ → List ℕ → ℕ → List ℕ
event_work f r work reports byte = unless (event_judged f r work reports byte) work (event_after f r work byte).work

abbrev pub event_reports : List ℕ → Record → List ℕ → List ℕ → ℕ → List ℕ
event_reports f r work reports byte =
    unless (event_judged f r work reports byte) reports (on_front (event_after f r work byte).reports reports)

---------------------------------------------------------------- the start call

abbrev pub start_judged : List ℕ → ℕ → ℕ → List ℕ → Judged
start_judged f rows depth work = first_of (start_lines f rows depth (length work)) fine

abbrev pub start_after : List ℕ → ℕ → ℕ → After
start_after f rows depth =
    record { next = started_of rows depth; work = work_words rows depth (start_memory (table_of f)) []; reports = [] }

abbrev pub start_answer : List ℕ → ℕ → ℕ → List ℕ → Answer
start_answer f rows depth work = answer_of (start_judged f rows depth work) no_record (start_after f rows depth)

abbrev pub start_work : List ℕ → ℕ → ℕ → List ℕ → List ℕ
start_work f rows depth work = unless (start_judged f rows depth work) work (start_after f rows depth).work
