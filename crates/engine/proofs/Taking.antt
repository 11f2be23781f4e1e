-- The answer of an event whose lines are judged: refused by one of the lines before the last, for want of rows, or taken. Assumes nothing.
use Rattle.std.specs.Prelude.{Err}
use mathlib.Core.Path.{◌≡◌, refl, sym, ap, ◌∙◌, subst}
use mathlib.Core.Bool.{Bool, true, false, cond}
use mathlib.Core.List.{List, [], ◌∷◌, ◌++◌}
use Prim.Native.Nat.{ℕ, suc, ◌<◌}
use native.Mathlib.Omega.{arith}
use lib.Dec.{ltb}
use lib.ListN.{length}
use Rattle.meaning.specs.Table.{Table, table_of}
use Rattle.meaning.specs.Masks.{accs_of}
use Rattle.meaning.specs.Refusals.{Line, first_of}
use Rattle.meaning.specs.Streams as stream
use Rattle.bodies.specs.Sound.{Sound, states_in, labels_in}
use Rattle.places.specs.Places.{row_length}
use Rattle.places.specs.Memory.{Held, Memory}
use Rattle.rows.specs.declared.Step.{Step}
use Rattle.rows.specs.declared.Step.TheVariants as step
use Rattle.rows.specs.Steps.{event_of, Can}
use Rattle.reports.specs.Reports.{end_reports}
use Rattle.meaning.specs.Lent.{on_front}
use Rattle.stepping.specs.Stepping.{Counted, step_memory}
use Rattle.answers.specs.declared.Record.{Record}
use Rattle.answers.specs.declared.Answer.{Answer}
use Rattle.answers.specs.declared.Event.{Event}
use Rattle.answers.specs.declared.Event.TheVariants as event
use Rattle.answers.specs.declared.Refusal.{Refusal}
use Rattle.answers.specs.declared.Refusal.TheVariants as why
use Rattle.answers.specs.Bytes.{meaning_of}
use Rattle.answers.specs.Answers.{refused_of, taken_of}
use Rattle.judge.specs.Judging.{Judged, fine, refuses, judged_lines}
use Rattle.judge.proofs.Following.{first_append}
use Rattle.judge.proofs.Passed.{EventPassed, passed, event_passed}
use Rattle.engine.proofs.Ready.{ready}
use Rattle.engine.specs.Calls.{After, Ready, accs_for, taking, rows_lines, unless, answer_of, room_judged, room_answer, room_work, room_reports}
use Rattle.engine.specs.Calls.{event_after, event_answer, event_work, event_reports}

-- The sets acc that an event is given are all that it needs.
accs_enough : (t : Table) (e : stream.Event) (p : ℕ) (m : Memory) → step_memory t (accs_for t e) e p m ≡ step_memory t (accs_of t) e p m
accs_enough t (stream.Open a) p m = refl
accs_enough t (stream.Point a) p m = refl
accs_enough t stream.Close p m = refl

pub step_same : (t : Table) (e : stream.Event) (p : ℕ) (m : Memory) (accs : List ℕ) → accs ≡ accs_for t e → step_memory t accs e p m ≡ step_memory t (accs_of t) e p m
step_same t e p m accs h = ap (λ a. step_memory t a e p m) h ∙ accs_enough t e p m

pub ends_length : (t : Table) (hs : List Held) → length (end_reports t hs) ≡ length hs
ends_length t [] = refl
ends_length t (h ∷ hs) = ap suc (ends_length t hs)

---------------------------------------------------------------- 15

module _ (r : Record) (after : After) where
  judged_by : (b : Bool) → ltb r.rows after.next.alive ≡ b → room_judged r after ≡ cond b (Err why.Rows) fine
  judged_by b e = ap (λ x. cond x (Err why.Rows) fine) e

  pub room_refused : ltb r.rows after.next.alive ≡ true → (work reports : List ℕ)
      → (refused_of r why.Rows ≡ room_answer r after) × (work ≡ room_work r work after) × (reports ≡ room_reports r reports after)
  room_refused e work reports =
      let j = sym (judged_by true e) in
      (ap (λ x. answer_of x r after) j, ap (λ x. unless x work after.work) j, ap (λ x. unless x reports (on_front after.reports reports)) j)

  pub room_taken : ltb r.rows after.next.alive ≡ false → (work reports : List ℕ)
      → (taken_of after.next (length after.reports) ≡ room_answer r after) × (after.work ≡ room_work r work after) × (on_front after.reports reports ≡ room_reports r reports after)
  room_taken e work reports =
      let j = sym (judged_by false e) in
      (ap (λ x. answer_of x r after) j, ap (λ x. unless x work after.work) j, ap (λ x. unless x reports (on_front after.reports reports)) j)

---------------------------------------------------------------- the lines before, then 15

-- Lines of which each refuses.
data Refusing : List (Line Judged) → Type 0 where
  none : Refusing []
  over : {b : Bool} {w : Refusal} {ls : List (Line Judged)} → Refusing ls → Refusing (refuses b w ∷ ls)

first_then : (ls : List (Line Judged)) → Refusing ls → (o : Judged) → first_of ls o ≡ unless (first_of ls fine) (first_of ls fine) o
first_then [] none o = refl
first_then (l ∷ ls) (over {b} {w} rest) o = go b (first_then ls rest o)
  where
    go : (b : Bool) → first_of ls o ≡ unless (first_of ls fine) (first_of ls fine) o
        → cond b (Err w) (first_of ls o) ≡ unless (cond b (Err w) (first_of ls fine)) (cond b (Err w) (first_of ls fine)) o
    go true h = refl
    go false h = h

judged_refusing : (f : List ℕ) (r : Record) (work : List ℕ) (reports : ℕ) (e : Event) → Refusing (judged_lines f r work reports e)
judged_refusing f r work reports e = over (over (over (over (over (over (over (over (over (over (over (over (over (over (over none))))))))))))))

module _ (f : List ℕ) (r : Record) (work : List ℕ) (reports : ℕ) (e : Event) (after : After) where
  judged_then : first_of (judged_lines f r work reports e ++ rows_lines r after) fine
      ≡ unless (first_of (judged_lines f r work reports e) fine) (first_of (judged_lines f r work reports e) fine) (room_judged r after)
  judged_then =
      first_append (judged_lines f r work reports e) (rows_lines r after) fine
      ∙ first_then (judged_lines f r work reports e) (judged_refusing f r work reports e) (room_judged r after)

  -- Refused by one of the lines before.
  pub judged_stands : (w : Refusal) → first_of (judged_lines f r work reports e) fine ≡ Err w → first_of (judged_lines f r work reports e ++ rows_lines r after) fine ≡ Err w
  judged_stands w h = judged_then ∙ ap (λ x. unless x x (room_judged r after)) h

  -- Not refused by one of them: 15 is left.
  pub judged_passes : first_of (judged_lines f r work reports e) fine ≡ fine → first_of (judged_lines f r work reports e ++ rows_lines r after) fine ≡ room_judged r after
  judged_passes h = judged_then ∙ ap (λ x. unless x x (room_judged r after)) h

-- An event byte's meaning and the step that it is. Both closes are one.
pub data Is : Event → Step → Type 0 where
  opens : {a : ℕ} → Is (event.Open a) (step.Open a)
  points : {a : ℕ} → Is (event.Point a) (step.Point a)
  closes : Is event.Close step.Close
  closes_its : {a : ℕ} → Is (event.CloseOf a) step.Close

---------------------------------------------------------------- the event call

module _ (f : List ℕ) (r : Record) (work reports : List ℕ) (byte : ℕ) where
  -- What it answers and leaves.
  abbrev pub Answers : Answer → List ℕ → List ℕ → Type 0
  Answers x w p = (x ≡ event_answer f r work reports byte) × ((w ≡ event_work f r work reports byte) × (p ≡ event_reports f r work reports byte))

  pub event_refused : (w : Refusal) → first_of (judged_lines f r work (length reports) (meaning_of byte)) fine ≡ Err w → Answers (refused_of r w) work reports
  event_refused w h =
      let after = event_after f r work byte in
      let j = sym (judged_stands f r work (length reports) (meaning_of byte) after w h) in
      (ap (λ x. answer_of x r after) j, (ap (λ x. unless x work after.work) j, ap (λ x. unless x reports (on_front after.reports reports)) j))

  -- Past the lines before: whatever answers by 15 for the byte's meaning answers the call.
  pub event_by : (e : Event) → meaning_of byte ≡ e → first_of (judged_lines f r work (length reports) (meaning_of byte)) fine ≡ fine → (x : Answer) (w p : List ℕ)
      → let after = taking (table_of f) r work e in (x ≡ room_answer r after) × ((w ≡ room_work r work after) × (p ≡ room_reports r reports after)) → Answers x w p
  event_by e m h x w p k =
      let after = event_after f r work byte in
      let j = sym (judged_passes f r work (length reports) (meaning_of byte) after h) in
      let n = sym m in (
        k.0 ∙ ap (λ y. room_answer r (taking (table_of f) r work y)) n ∙ ap (λ y. answer_of y r after) j,
        (
          k.1.0 ∙ ap (λ y. room_work r work (taking (table_of f) r work y)) n ∙ ap (λ y. unless y work after.work) j,
          k.1.1 ∙ ap (λ y. room_reports r reports (taking (table_of f) r work y)) n ∙ ap (λ y. unless y reports (on_front after.reports reports)) j,
        ),
      )

-- What an event to which no line before applies needs to be taken.
can_take : (f : List ℕ) (r : Record) {m : Event} {s : Step} → Is m s → EventPassed (labels_in f) r m
    → Can (table_of f) (row_length r.allowed) r.depth (event_of s) × Counted (event_of s) r.positions
can_take f r Is.opens p = ((p.0, omega (arith, p.1)), p.2)
can_take f r Is.points p = (p.0, p.1)
can_take f r Is.closes p = (p, tt)
can_take f r Is.closes_its p = (p, tt)

module _ (f work : List ℕ) (r : Record) (reports : ℕ) (e m : Event) (is : e ≡ m) (h : first_of (judged_lines f r work reports e) fine ≡ fine) where
  pub passed_as : EventPassed (labels_in f) r m
  passed_as = subst (EventPassed (labels_in f) r) is (event_passed f work r reports e h)

  -- What `step` asks.
  pub step_ready : {s : Step} → Is m s → Sound f
      × (Ready (states_in f) r work × ((Can (table_of f) (row_length r.allowed) r.depth (event_of s) × Counted (event_of s) r.positions) × (r.rows < reports)))
  step_ready b =
      let p = passed f work r reports e h in
      (p.sound, (ready f work r reports p, (can_take f r b passed_as, p.called.enough)))

  -- What `end` asks.
  pub end_ready : m ≡ event.End → Sound f × (Ready (states_in f) r work × ((r.depth ≡ 0) × (r.rows < reports)))
  end_ready b =
      let p = passed f work r reports e h in
      (p.sound, (ready f work r reports p, (subst (EventPassed (labels_in f) r) b passed_as, p.called.enough)))
