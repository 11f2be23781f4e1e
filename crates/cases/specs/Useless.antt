-- The four useless watches of 01 ("What the contracts settle"), each as something that a program does. Definitions only.
use Rattle.std.specs.Prelude.{List, ◌≡◌, ℕ, ◌+◌, ◌<◌, length, take}
use Rattle.answers.specs.declared.Record.{Record}
use Rattle.answers.specs.declared.Answer.{Answer}
use Rattle.answers.specs.declared.Event.{Event}
use Rattle.answers.specs.declared.Event.TheVariants.{Open, Point, Close, CloseOf, End, Unknown}
use Rattle.answers.specs.Bytes.{meaning_of}
use Rattle.answers.specs.Answers.{outcome_number}
use Rattle.engine.specs.Calls.{event_after, event_answer, event_work, event_reports, start_answer, start_work}
use Rattle.demands.specs.Watching.{count_of}

-- Any program for the two calls: what it answers, and what it leaves in lent memory.
pub record Program : Type 0 where
  pub start : List ℕ → ℕ → ℕ → List ℕ → Answer
  pub started_work : List ℕ → ℕ → ℕ → List ℕ → List ℕ
  pub event : List ℕ → Record → List ℕ → List ℕ → ℕ → Answer
  pub work : List ℕ → Record → List ℕ → List ℕ → ℕ → List ℕ
  pub reports : List ℕ → Record → List ℕ → List ℕ → ℕ → List ℕ

-- A program that meets the contracts of `start` and `event`.
pub record Meets (p : Program) : Type 0 where
  pub start_is : (f : List ℕ) (rows depth : ℕ) (work : List ℕ) → p.start f rows depth work ≡ start_answer f rows depth work
  pub start_work_is : (f : List ℕ) (rows depth : ℕ) (work : List ℕ) → p.started_work f rows depth work ≡ start_work f rows depth work
  pub event_is :
      (f : List ℕ) (r : Record) (work reports : List ℕ) (byte : ℕ) → p.event f r work reports byte ≡ event_answer f r work reports byte
  pub work_is :
      (f : List ℕ) (r : Record) (work reports : List ℕ) (byte : ℕ) → p.work f r work reports byte ≡ event_work f r work reports byte
  pub reports_is :
      (f : List ℕ) (r : Record) (work reports : List ℕ) (byte : ℕ) → p.reports f r work reports byte ≡ event_reports f r work reports byte

-- How many positions an event has.
abbrev pub positions_in : Event → ℕ
positions_in (Open a) = 1
positions_in (Point a) = 1
positions_in Close = 0
positions_in (CloseOf a) = 0
positions_in End = 0
positions_in Unknown = 0

module _ (p : Program) where
  ---------------------------------------------------------------- one that refuses all

  abbrev pub RefusesStarts : Type 0
  RefusesStarts = (f : List ℕ) (rows depth : ℕ) (work : List ℕ) → 0 < outcome_number (p.start f rows depth work).outcome

  abbrev pub RefusesEvents : Type 0
  RefusesEvents =
      (f : List ℕ) (r : Record) (work reports : List ℕ) (byte : ℕ) → 0 < outcome_number (p.event f r work reports byte).outcome

  ---------------------------------------------------------------- one with constant reports, or that writes nothing

  -- Every taken event reports the same words.
  abbrev pub ReportsAlways : List ℕ → Type 0
  ReportsAlways words =
      (f : List ℕ) (r : Record) (work reports : List ℕ) (byte : ℕ) → outcome_number (p.event f r work reports byte).outcome ≡ 0 →
      take (count_of (p.event f r work reports byte).outcome) (p.reports f r work reports byte) ≡ words

  abbrev pub WritesNoMemory : Type 0
  WritesNoMemory = (f : List ℕ) (r : Record) (work reports : List ℕ) (byte : ℕ) → p.work f r work reports byte ≡ work

  abbrev pub WritesNoReports : Type 0
  WritesNoReports = (f : List ℕ) (r : Record) (work reports : List ℕ) (byte : ℕ) → p.reports f r work reports byte ≡ reports

  ---------------------------------------------------------------- one that pretends, or saves all for the end

  -- Once a position is read its reports are a script's, which does not look at the table.
  abbrev pub IgnoresTable : (Record → List ℕ → ℕ → List ℕ) → Type 0
  IgnoresTable script =
      (f : List ℕ) (r : Record) (work reports : List ℕ) (byte : ℕ) → 0 < r.positions → outcome_number (p.event f r work reports byte).outcome ≡ 0 →
      take (count_of (p.event f r work reports byte).outcome) (p.reports f r work reports byte) ≡ script r work byte

  -- Or does not look at memory.
  abbrev pub IgnoresMemory : (List ℕ → Record → ℕ → List ℕ) → Type 0
  IgnoresMemory script =
      (f : List ℕ) (r : Record) (work reports : List ℕ) (byte : ℕ) → 0 < r.positions → outcome_number (p.event f r work reports byte).outcome ≡ 0 →
      take (count_of (p.event f r work reports byte).outcome) (p.reports f r work reports byte) ≡ script f r byte

  -- Only the end reports.
  abbrev pub SavesAll : Type 0
  SavesAll =
      (f : List ℕ) (r : Record) (work reports : List ℕ) (byte : ℕ) → ¬ (byte ≡ 65) → count_of (p.event f r work reports byte).outcome ≡ 0

  ---------------------------------------------------------------- one that makes up counts

  -- An event call that is taken.
  pub record TakenCall : Type 0 where
    pub f : List ℕ
    pub r : Record
    pub work : List ℕ
    pub reports : List ℕ
    pub byte : ℕ
    pub taken : outcome_number (p.event f r work reports byte).outcome ≡ 0

  -- For some taken event the number of reports is not that of the step.
  abbrev pub MakesUpReports : Type 0
  MakesUpReports =
      (x : TakenCall)
      × (¬ (count_of (p.event x.f x.r x.work x.reports x.byte).outcome ≡ length (event_after x.f x.r x.work x.byte).reports))

  -- For some taken event the number of positions does not go on by the event's.
  abbrev pub MakesUpPositions : Type 0
  MakesUpPositions =
      (x : TakenCall)
      × (¬ ((p.event x.f x.r x.work x.reports x.byte).next.positions ≡ x.r.positions + positions_in (meaning_of x.byte)))
