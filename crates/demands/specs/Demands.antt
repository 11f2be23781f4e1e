-- The demands, each a record with a field for each thing that it asks. Definitions only; that they hold is `demand_1`,
-- `demand_2` and so on in proofs/.
--
-- f is the table file. What is said of a watch s is asked of every watch that a taken start and any calls lead to; what is said
-- of a call c, of every next call.
use Rattle.std.specs.Prelude.{Err}
use Rattle.std.specs.Prelude.{Bool, true, false, not, List, [], ◌∷◌, map, ◌↔◌, ◌⊎◌, ◌≡◌, ℕ, ◌+◌, ◌<◌, T, eqb, ltb, length, get_or, replicate}
use Rattle.meaning.specs.Table.{Table, table_of}
use Rattle.meaning.specs.Streams.{positions, open_after, Prefix, Whole, Selects}
use Rattle.meaning.specs.Hedges.{Hedge, Labelled, stream_of, evaluate}
use Rattle.meaning.specs.Refusals.{FirstAt, applies_at}
use Rattle.meaning.specs.Search.{First}
use Rattle.places.specs.Places.{work_length}
use Rattle.places.specs.Memory.{Held, work_words}
use Rattle.reports.specs.Reports.{selected_word, failed_word}
use Rattle.meaning.specs.Lent.{on_front}
use Rattle.table.specs.declared.Refusal as file
use Rattle.table.specs.Named.{Named}
use Rattle.order.specs.Order.{word_right}
use Rattle.answers.specs.declared.Record.{Record}
use Rattle.answers.specs.declared.Event.{Event}
use Rattle.answers.specs.declared.Event.TheVariants.{Open, Point, Close, CloseOf, End, Unknown}
use Rattle.answers.specs.declared.Refusal.TheVariants as why
use Rattle.answers.specs.Record.{no_record}
use Rattle.answers.specs.Bytes.{meaning_of}
use Rattle.answers.specs.Answers.{refusal_rank, checked, outcome_number, outcome_rank}
use Rattle.judge.specs.Judging.{record_right, shape_of, start_lines}
use Rattle.engine.specs.Calls.{memory_of, labels_of, lines, event_after, event_answer, event_work, event_reports, start_answer, start_work}
use Rattle.following.specs.Lists.{In, Rising, position_of, times}
use Rattle.following.specs.Following.{memory_after, held_after, positions_of}
use Rattle.demands.specs.Watching.{Call, Stream, Watching, longer, count_of, lines_of, outcome_of, given, called, called_all, joined}
use Rattle.demands.specs.Deciding.{Read, CertainIn, RuledOutIn, AliveIn, Pending, AliveAre}

---------------------------------------------------------------- demand 1

-- The place that refusal 7 is to carry, for a table with n states and k labels: the word there is out of order, and all before it
-- are in order.
abbrev pub FaultAt : Record → ℕ → ℕ → List ℕ → ℕ → Type 0
FaultAt r n k work i =
    ((record_right r ≡ false) × (i ≡ length work))
    ⊎ ((record_right r ≡ true) × First (word_right (shape_of r n k) work) 0 (length work) i)

-- Of an event call with any table, record, memory, slice for reports and byte.
pub record Demand1 (f : List ℕ) (r : Record) (work reports : List ℕ) (byte : ℕ) : Type 0 where
  -- The refusal of rank i + 1 is given exactly when its line applies and no line before it does.
  pub refused_exactly :
      (i : ℕ) → i < 16 →
      (outcome_rank (event_answer f r work reports byte).outcome ≡ i + 1) ↔ FirstAt (lines f r work (length reports) (meaning_of byte)) i
  -- Its number is the one that stands at its rank in the order of checking.
  pub numbered : outcome_number (event_answer f r work reports byte).outcome ≡ get_or (0 ∷ checked) (outcome_rank (event_answer f r work reports byte).outcome) 0
  -- The call is taken exactly when no line applies.
  pub taken_exactly :
      (outcome_number (event_answer f r work reports byte).outcome ≡ 0)
      ↔ ((i : ℕ) → applies_at (lines f r work (length reports) (meaning_of byte)) i ≡ false)
  -- It is taken, or refused by one of the sixteen.
  pub answered : outcome_rank (event_answer f r work reports byte).outcome < 17
  -- Refusal 7 carries the place of the first word out of order; the length of memory where the record by itself is.
  pub place :
      (i : ℕ) → (event_answer f r work reports byte).outcome ≡ Err (why.Order i) → FaultAt r (table_of f).states (table_of f).labels work i
  -- Refusals 3 and 5 carry the first wrong place in file order.
  pub named : (w : file.Refusal) → (event_answer f r work reports byte).outcome ≡ Err (why.Table w) → Named f w
  -- Refused, it gives its record back and 0 as the number of reports, and leaves memory and reports as they were.
  pub kept :
      0 < outcome_number (event_answer f r work reports byte).outcome →
      ((event_answer f r work reports byte).next ≡ r)
      × (count_of (event_answer f r work reports byte).outcome ≡ 0)
      × (event_work f r work reports byte ≡ work)
      × (event_reports f r work reports byte ≡ reports)

-- Of a start call with any table, numbers and memory.
pub record StartDemand1 (f : List ℕ) (rows depth : ℕ) (work : List ℕ) : Type 0 where
  pub refused_exactly :
      (i : ℕ) → i < 6 →
      (outcome_rank (start_answer f rows depth work).outcome ≡ i + 1) ↔ FirstAt (start_lines f rows depth (length work)) i
  pub numbered : outcome_number (start_answer f rows depth work).outcome ≡ get_or (0 ∷ checked) (outcome_rank (start_answer f rows depth work).outcome) 0
  pub taken_exactly :
      (outcome_number (start_answer f rows depth work).outcome ≡ 0) ↔ ((i : ℕ) → applies_at (start_lines f rows depth (length work)) i ≡ false)
  pub answered : outcome_rank (start_answer f rows depth work).outcome < 7
  pub named : (w : file.Refusal) → (start_answer f rows depth work).outcome ≡ Err (why.Table w) → Named f w
  -- Refused, it gives a record of zeros and leaves memory as it was.
  pub kept :
      0 < outcome_number (start_answer f rows depth work).outcome →
      ((start_answer f rows depth work).next ≡ no_record) × (start_work f rows depth work ≡ work)

---------------------------------------------------------------- demand 2

-- Of a taken event call, whoever made the record and the memory: it leads to the state that the rules name.
pub record StepDemand2 (f : List ℕ) (r : Record) (work reports : List ℕ) (byte : ℕ) : Type 0 where
  -- Memory is the words of the rows and the open labels that it stands for, and nothing else.
  pub stands : work ≡ work_words r.rows r.allowed (memory_of r work) (labels_of r work)
  -- Those are stepped: the record, every word of memory, the reports and their number afterwards.
  pub next : (event_answer f r work reports byte).next ≡ (event_after f r work byte).next
  pub memory : event_work f r work reports byte ≡ (event_after f r work byte).work
  pub told : event_reports f r work reports byte ≡ on_front (event_after f r work byte).reports reports
  pub counted : count_of (event_answer f r work reports byte).outcome ≡ length (event_after f r work byte).reports

-- The stream is that of a hedge, and the reports say of each position what the published meaning of the automaton says of the hedge
-- marked at it.
pub record Published (t : Table) (s : Stream) (words : List ℕ) : Type 0 where
  pub hedge : Hedge
  pub labelled : Labelled t.labels hedge
  pub stream_is : stream_of hedge ≡ s.events
  pub selected : (i : ℕ) → Read s i → In (selected_word i) words ↔ T (t.final (evaluate t i t.start hedge))
  pub failed : (i : ℕ) → Read s i → In (failed_word i) words ↔ (¬ T (t.final (evaluate t i t.start hedge)))

-- Of a watch with so many rows and levels allowed.
pub record Demand2 (f : List ℕ) (rows depth : ℕ) (s : Watching) : Type 0 where
  -- A stream whose end was taken is whole: each position is reported once, selected exactly if the query selects it there.
  pub whole : s.stream.ended ≡ true → Whole (table_of f) s.stream.events
  pub once : s.stream.ended ≡ true → (i : ℕ) → Read s.stream i → times i (joined s.reports) ≡ 1
  pub selected :
      s.stream.ended ≡ true → (i : ℕ) → Read s.stream i →
      In (selected_word i) (joined s.reports) ↔ Selects (table_of f) i s.stream.events
  pub failed :
      s.stream.ended ≡ true → (i : ℕ) → Read s.stream i →
      In (failed_word i) (joined s.reports) ↔ (¬ Selects (table_of f) i s.stream.events)
  pub published : s.stream.ended ≡ true → Published (table_of f) s.stream (joined s.reports)
  -- Never is a position reported that was not read, or one twice.
  pub no_other : (i : ℕ) → ¬ Read s.stream i → times i (joined s.reports) ≡ 0
  pub never_twice : (i : ℕ) → times i (joined s.reports) < 2
  -- The record's numbers are those of the events taken.
  pub depth_is : Prefix (table_of f) s.stream.events s.now.depth
  pub positions_is : s.now.positions ≡ positions s.stream.events
  pub alive_is : (alive : List ℕ) → AliveAre (table_of f) s.stream alive → s.now.alive ≡ length alive
  pub finished_is : s.now.finished ≡ s.stream.ended
  pub room_is : (s.now.rows ≡ rows) × (s.now.allowed ≡ depth)
  -- Every word of memory is that of the rows built from the start, or of the labels of what is open; after the end every
  -- word is 0.
  pub memory_is :
      s.stream.ended ≡ false →
      s.work ≡ work_words rows depth (memory_after (table_of f) s.stream.events) (open_after [] s.stream.events)
  pub memory_after_end : s.stream.ended ≡ true → s.work ≡ replicate (work_length rows depth) 0

---------------------------------------------------------------- demand 3

-- Words that report each position at the first moment it can: selected exactly if it is certain after the event and waited to be
-- decided, failed exactly if it is ruled out and waited; ascending.
pub record Timely (t : Table) (before after : Stream) (words : List ℕ) : Type 0 where
  pub selected : (i : ℕ) → In (selected_word i) words ↔ (Pending t before after i × CertainIn t after i)
  pub failed : (i : ℕ) → In (failed_word i) words ↔ (Pending t before after i × RuledOutIn t after i)
  pub ascending : Rising (positions after.events) 0 (map position_of words)

-- Of a watch and its next call, where that is taken.
pub record Demand3 (f : List ℕ) (s : Watching) (c : Call) : Type 0 where
  -- What the caller reads is timely, and nothing else is.
  pub timely : Timely (table_of f) s.stream (called f s c).stream (given f s c)
  pub nothing_else : (words : List ℕ) → Timely (table_of f) s.stream (called f s c).stream words → words ≡ given f s c
  -- The end reports all that are left.
  pub end_reports_all :
      (called f s c).stream.ended ≡ true → (i : ℕ) → Read s.stream i → AliveIn (table_of f) s.stream i →
      In (selected_word i) (given f s c) ⊎ In (failed_word i) (given f s c)

-- Of a watch.
pub record StandingDemand3 (f : List ℕ) (s : Watching) : Type 0 where
  -- The rows are exactly the alive positions, ascending, each with the row of its own marked run.
  pub rows_are_alive : AliveAre (table_of f) s.stream (positions_of (memory_of s.now s.work).alive)
  pub rows_are_theirs :
      (h : Held) → In h (memory_of s.now s.work).alive → h ≡ held_after (table_of f) s.stream.events h.position
  -- A decided position is never in a row.
  pub decided_in_no_row :
      (i : ℕ) → CertainIn (table_of f) s.stream i ⊎ RuledOutIn (table_of f) s.stream i →
      ¬ In i (positions_of (memory_of s.now s.work).alive)
  -- A position that was read is alive, or has been reported with the verdict that all completions left have.
  pub reported_selected :
      (i : ℕ) → In (selected_word i) (joined s.reports) ↔ (Read s.stream i × CertainIn (table_of f) s.stream i)
  pub reported_failed :
      (i : ℕ) → In (failed_word i) (joined s.reports) ↔ (Read s.stream i × RuledOutIn (table_of f) s.stream i)
  -- No report is overturned, whatever further calls there are.
  pub never_overturned :
      (i : ℕ) (further : List Call) →
      (In (selected_word i) (joined s.reports) → CertainIn (table_of f) (called_all f s further).stream i)
      × (In (failed_word i) (joined s.reports) → RuledOutIn (table_of f) (called_all f s further).stream i)
  -- The end leaves none undecided.
  pub end_decides :
      s.stream.ended ≡ true → (i : ℕ) → Read s.stream i →
      CertainIn (table_of f) s.stream i ⊎ RuledOutIn (table_of f) s.stream i

---------------------------------------------------------------- handed back as received

-- The event closes with a label that is not the newest's, where o is open.
abbrev pub closes_other : List ℕ → Event → Bool
closes_other o (Open a) = false
closes_other o (Point a) = false
closes_other o Close = false
closes_other [] (CloseOf a) = false
closes_other (b ∷ o) (CloseOf a) = not (eqb a b)
closes_other o End = false
closes_other o Unknown = false

-- Of a watch with so many rows and its next call, the record and memory handed back as received: 1 to 5 and 7 never apply, 6 only to
-- a slice for reports that is too short, and 8 exactly after the end.
pub record Handed (f : List ℕ) (rows : ℕ) (s : Watching) (c : Call) : Type 0 where
  pub file_right : (i : ℕ) → i < 5 → applies_at (lines_of f s c) i ≡ false
  pub size_right : applies_at (lines_of f s c) 5 ≡ ltb (length c.lent) (rows + 1)
  pub in_order : applies_at (lines_of f s c) 6 ≡ false
  pub going_on : applies_at (lines_of f s c) 7 ≡ s.stream.ended
  -- 16, of rank 12, applies exactly to a close with another label than the one that opened the newest level.
  pub labels_right : s.stream.ended ≡ false → applies_at (lines_of f s c) 11 ≡ closes_other (open_after [] s.stream.events) (meaning_of c.byte)

---------------------------------------------------------------- want of rows

-- Where no refusal of a lower rank applies, want of rows is given exactly if more positions would be alive after the event
-- than rows.
abbrev pub WantOfRows : List ℕ → Watching → Call → Type 0
WantOfRows f s c =
    ((i : ℕ) → i + 1 < refusal_rank why.Rows → applies_at (lines_of f s c) i ≡ false) →
    (alive : List ℕ) → AliveAre (table_of f) (longer s.stream (meaning_of c.byte)) alive →
    (outcome_rank (outcome_of f s c) ≡ refusal_rank why.Rows) ↔ (s.now.rows < length alive)
