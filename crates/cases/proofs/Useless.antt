-- No useless watch meets the contracts. Assumes nothing. The first two events of case 7 are enough: table W, an open of label
-- 0, which reports nothing, and in it a point of label 1, which reports both positions.
use mathlib.Core.List.{List, [], ◌∷◌}
use mathlib.Core.Path.{◌≡◌, refl, sym, ap, ◌∙◌}
use Prim.Native.Nat.{ℕ, ◌+◌, ◌<◌}
use native.Mathlib.Omega.{arith}
use lib.ListN.{get_or, set, length, take}
use Rattle.meaning.specs.Masks.{added, within}
use Rattle.meaning.specs.Search.{searched}
use Rattle.order.specs.Order.{first_fault}
use Rattle.answers.specs.declared.Record.{Record}
use Rattle.answers.specs.declared.Answer.{Answer}
use Rattle.answers.specs.declared.Event.{Event}
use Rattle.answers.specs.declared.Event.TheVariants.{Open, Point, Close, CloseOf, End, Unknown}
use Rattle.answers.specs.Bytes.{meaning_of}
use Rattle.answers.specs.Answers.{outcome_number}
use Rattle.engine.specs.Calls.{taking, event_answer, event_work, event_reports, start_answer, start_work}
use Rattle.meaning.specs.Table.{Table, table_of}
use Rattle.demands.specs.Watching.{Watching, count_of, begun, Started, outcome_of, given, called}
use Rattle.demands.proofs.Taking.{step_demand_2}
use Rattle.cases.specs.Tables.{table_w}
use Rattle.cases.specs.Cases.{before, calling}
use Rattle.cases.specs.Useless.{Program, Meets, RefusesStarts, RefusesEvents, ReportsAlways, WritesNoMemory, WritesNoReports, IgnoresTable, IgnoresMemory, SavesAll, positions_in, TakenCall, MakesUpReports, MakesUpPositions}

---------------------------------------------------------------- two events

module _ (f : List ℕ) where
  abbrev at_start : Watching
  at_start = begun f 2 2 (before 2 2)

  abbrev after_open : Watching
  after_open = called f at_start (calling 2 0)

  -- The start and both events are taken. The open writes the state of its level, 4, into row 0, and reports nothing; the point
  -- reports two words into the slice that it is lent.
  abbrev TwoEvents : Type 0
  TwoEvents =
      Started f 2 2 (before 2 2)
      × (outcome_number (outcome_of f at_start (calling 2 0)) ≡ 0)
      × (get_or at_start.work 4 0 ≡ 0)
      × (get_or after_open.work 4 0 ≡ 4)
      × (given f at_start (calling 2 0) ≡ [])
      × (after_open.now.positions ≡ 1)
      × (outcome_number (outcome_of f after_open (calling 2 33)) ≡ 0)
      × (count_of (outcome_of f after_open (calling 2 33)) ≡ 2)
      × (given f after_open (calling 2 33) ≡ 3 ∷ 4 ∷ [])

  -- The table with P(1,1) = 1, and memory in which the state of the open's position is 3: both are in order, and the point reports
  -- something else.
  abbrev other_table : List ℕ
  other_table = set f 34 1

  abbrev other_memory : Watching
  other_memory = record { stream = after_open.stream; now = after_open.now; work = set after_open.work 14 3; reports = after_open.reports }

  abbrev Others : Type 0
  Others =
      (outcome_number (outcome_of other_table after_open (calling 2 33)) ≡ 0)
      × (given other_table after_open (calling 2 33) ≡ 4 ∷ [])
      × (outcome_number (outcome_of f other_memory (calling 2 33)) ≡ 0)
      × (given f other_memory (calling 2 33) ≡ 2 ∷ 4 ∷ [])

two_events : TwoEvents table_w
unfolding added within searched first_fault
two_events = (refl, refl, refl, refl, refl, refl, refl, refl, refl)

others : Others table_w
unfolding added within searched first_fault
others = (refl, refl, refl, refl)

---------------------------------------------------------------- no useless watch

-- There are programs that meet the contracts.
abbrev pub ours : Program
ours = record { start = start_answer; started_work = start_work; event = event_answer; work = event_work; reports = event_reports }

pub ours_meets : Meets ours
ours_meets =
    record {
      start_is = λ f rows depth work. refl;
      start_work_is = λ f rows depth work. refl;
      event_is = λ f r work reports byte. refl;
      work_is = λ f r work reports byte. refl;
      reports_is = λ f r work reports byte. refl;
    }

positions_on : (t : Table) (r : Record) (work : List ℕ) (e : Event) → (taking t r work e).next.positions ≡ r.positions + positions_in e
positions_on t r work (Open a) = refl
positions_on t r work (Point a) = refl
positions_on t r work Close = omega arith
positions_on t r work (CloseOf a) = omega arith
positions_on t r work End = omega arith
positions_on t r work Unknown = omega arith

module _ (p : Program) (meets : Meets p) where
  module _ (f : List ℕ) (r : Record) (work reports : List ℕ) (byte : ℕ) where
    number_is : outcome_number (p.event f r work reports byte).outcome ≡ outcome_number (event_answer f r work reports byte).outcome
    number_is = ap (λ (x : Answer). outcome_number x.outcome) (meets.event_is f r work reports byte)

    count_is : count_of (p.event f r work reports byte).outcome ≡ count_of (event_answer f r work reports byte).outcome
    count_is = ap (λ (x : Answer). count_of x.outcome) (meets.event_is f r work reports byte)

    reads_is :
        take (count_of (p.event f r work reports byte).outcome) (p.reports f r work reports byte)
        ≡ take (count_of (event_answer f r work reports byte).outcome) (event_reports f r work reports byte)
    reads_is =
        ap (λ (n : ℕ). take n (p.reports f r work reports byte)) count_is
        ∙ ap (take (count_of (event_answer f r work reports byte).outcome)) (meets.reports_is f r work reports byte)

  -- The first event of the two, and the second.
  abbrev one : Watching
  one = at_start table_w

  abbrev two : Watching
  two = after_open table_w

  pub refuses_no_start : ¬ RefusesStarts p
  refuses_no_start h =
      let refused = h table_w 2 2 (before 2 2) in
      let taken = ap (λ (x : Answer). outcome_number x.outcome) (meets.start_is table_w 2 2 (before 2 2)) ∙ two_events.0 in
      omega (arith, refused, taken)

  pub refuses_no_event : ¬ RefusesEvents p
  refuses_no_event h =
      let refused = h table_w one.now one.work (calling 2 0).lent 0 in
      let taken = number_is table_w one.now one.work (calling 2 0).lent 0 ∙ two_events.1 in
      omega (arith, refused, taken)

  pub reports_not_always : (words : List ℕ) → ¬ ReportsAlways p words
  reports_not_always words h =
      let first = h table_w one.now one.work (calling 2 0).lent 0 (number_is table_w one.now one.work (calling 2 0).lent 0 ∙ two_events.1) in
      let second = h table_w two.now two.work (calling 2 33).lent 33 (number_is table_w two.now two.work (calling 2 33).lent 33 ∙ two_events.6) in
      let none : words ≡ [] = sym first ∙ reads_is table_w one.now one.work (calling 2 0).lent 0 ∙ two_events.4 in
      let both : words ≡ 3 ∷ 4 ∷ [] = sym second ∙ reads_is table_w two.now two.work (calling 2 33).lent 33 ∙ two_events.8 in
      let z : ◌≡◌ {A = ℕ} 0 2 = ap length (sym none ∙ both) in
      omega (arith, z)

  pub writes_memory : ¬ WritesNoMemory p
  writes_memory h =
      let same = sym (meets.work_is table_w one.now one.work (calling 2 0).lent 0) ∙ h table_w one.now one.work (calling 2 0).lent 0 in
      let z : ◌≡◌ {A = ℕ} 4 0 = sym two_events.3 ∙ ap (λ (ws : List ℕ). get_or ws 4 0) same ∙ two_events.2 in
      omega (arith, z)

  pub writes_reports : ¬ WritesNoReports p
  writes_reports h =
      let same = sym (meets.reports_is table_w two.now two.work (calling 2 33).lent 33) ∙ h table_w two.now two.work (calling 2 33).lent 33 in
      let front = ap (λ (n : ℕ). take n (event_reports table_w two.now two.work (calling 2 33).lent 33)) two_events.7 in
      let lent : take 2 (event_reports table_w two.now two.work (calling 2 33).lent 33) ≡ 9 ∷ 9 ∷ [] = ap (take 2) same in
      let z : ◌≡◌ {A = ℕ} 3 9 = ap (λ (ws : List ℕ). get_or ws 0 0) (sym two_events.8 ∙ front ∙ lent) in
      omega (arith, z)

  read : 0 < two.now.positions
  read = omega (arith, two_events.5)

  -- What the second event is told, with a table and a memory.
  tells : (f : List ℕ) (work words : List ℕ) (given_is : take (count_of (event_answer f two.now work (calling 2 33).lent 33).outcome) (event_reports f two.now work (calling 2 33).lent 33) ≡ words)
      (script : List ℕ) → take (count_of (p.event f two.now work (calling 2 33).lent 33).outcome) (p.reports f two.now work (calling 2 33).lent 33) ≡ script → script ≡ words
  tells f work words given_is script e = sym e ∙ reads_is f two.now work (calling 2 33).lent 33 ∙ given_is

  pub looks_at_the_table : (script : Record → List ℕ → ℕ → List ℕ) → ¬ IgnoresTable p script
  looks_at_the_table script h =
      let other = other_table table_w in
      let said = script two.now two.work 33 in
      let one_way = tells table_w two.work (3 ∷ 4 ∷ []) two_events.8 said (h table_w two.now two.work (calling 2 33).lent 33 read (number_is table_w two.now two.work (calling 2 33).lent 33 ∙ two_events.6)) in
      let other_way = tells other two.work (4 ∷ []) others.1 said (h other two.now two.work (calling 2 33).lent 33 read (number_is other two.now two.work (calling 2 33).lent 33 ∙ others.0)) in
      let z : ◌≡◌ {A = ℕ} 2 1 = ap length (sym one_way ∙ other_way) in
      omega (arith, z)

  pub looks_at_memory : (script : List ℕ → Record → ℕ → List ℕ) → ¬ IgnoresMemory p script
  looks_at_memory script h =
      let other = (other_memory table_w).work in
      let said = script table_w two.now 33 in
      let one_way = tells table_w two.work (3 ∷ 4 ∷ []) two_events.8 said (h table_w two.now two.work (calling 2 33).lent 33 read (number_is table_w two.now two.work (calling 2 33).lent 33 ∙ two_events.6)) in
      let other_way = tells table_w other (2 ∷ 4 ∷ []) others.3 said (h table_w two.now other (calling 2 33).lent 33 read (number_is table_w two.now other (calling 2 33).lent 33 ∙ others.2)) in
      let z : ◌≡◌ {A = ℕ} 3 2 = ap (λ (ws : List ℕ). get_or ws 0 0) (sym one_way ∙ other_way) in
      omega (arith, z)

  pub saves_not : ¬ SavesAll p
  saves_not h =
      let none = h table_w two.now two.work (calling 2 33).lent 33 (λ e. omega (arith, e)) in
      omega (arith, none, count_is table_w two.now two.work (calling 2 33).lent 33, two_events.7)

  -- A taken call of it is one of the contract's.
  taken_too : (x : TakenCall p) → outcome_number (event_answer x.f x.r x.work x.reports x.byte).outcome ≡ 0
  taken_too x = sym (number_is x.f x.r x.work x.reports x.byte) ∙ x.taken

  pub counts_reports : ¬ MakesUpReports p
  counts_reports (x, differs) =
      differs
      (count_is x.f x.r x.work x.reports x.byte ∙ (step_demand_2 x.f x.r x.work x.reports x.byte (taken_too x)).counted)

  pub counts_positions : ¬ MakesUpPositions p
  counts_positions (x, differs) =
      differs
      (ap (λ (y : Answer). y.next.positions) (meets.event_is x.f x.r x.work x.reports x.byte)
      ∙ ap (λ (y : Record). y.positions) (step_demand_2 x.f x.r x.work x.reports x.byte (taken_too x)).next
      ∙ positions_on (table_of x.f) x.r x.work (meaning_of x.byte))
