-- `step` meets its contract: 15 is settled by counting, and then the event is taken.
use mathlib.Core.Path.{◌≡◌, sym, ap, ap₂, ◌∙◌}
use mathlib.Core.Bool.{Bool, true, false}
use mathlib.Core.List.{List}
use Prim.Native.Nat.{ℕ}
use borrow.Author.Tests.{ltb-false}
use lib.Dec.{ltb}
use lib.ListN.{length, take}
use Rattle.bodies.specs.Automaton.{automaton}
use Rattle.meaning.specs.Table.{Table}
use Rattle.meaning.specs.Streams.{Event, opened_by}
use Rattle.meaning.specs.Lent.{on_front}
use Rattle.answers.specs.declared.Record.{Record}
use Rattle.places.specs.Places.{rows_length, rows_part}
use Rattle.places.specs.Memory.{Memory, work_words}
use Rattle.rows.specs.Steps.{event_of}
use Rattle.reports.specs.Reports.{left_of, reports_of}
use Rattle.stepping.specs.Stepping.{step_memory, left_memory, counts_of}
use Rattle.stepping.proofs.Kept.{moves_of}
use Rattle.answers.specs.Record.{with_alive}
use Rattle.answers.specs.Answers.{taken_of}
use Rattle.engine.specs.Calls.{memory_of, labels_of, accs_for, stepped}
use Rattle.engine.proofs.Taking.{step_same, room_refused, room_taken}
use Rattle.engine.proofs.step.Goals as goal

-- The rows' words are lent.
rows_lent : {n : ℕ} (r : Record) (work : List ℕ) → n ≡ rows_length r.rows r.allowed → take n work ≡ rows_part r.rows r.allowed work
rows_lent r work e = ap (λ (k : ℕ). take k work) e

-- The count of rows that the sets at hand lead to is that of the event.
crowd :
    (t : Table) (e : Event) (r : Record) (work accs : List ℕ) (b d : Bool) → accs ≡ accs_for t e →
    b ≡ ltb r.rows (length (left_of (step_memory t accs e r.positions (memory_of r work)).alive)) → b ≡ d → ltb r.rows (stepped t r work e).next.alive ≡ d
crowd t e r work accs b d same counted is =
    sym (counted ∙ ap (λ m. ltb r.rows (length (left_of m.alive))) (step_same t e r.positions (memory_of r work) accs same)) ∙ is

pub slice_bounds-is_crowded-end-2 : goal.slice_bounds-is_crowded-end-2
slice_bounds-is_crowded-end-2 c =
    c.rows_length-n.ensures ∙ sym c.requires.ready.rows.size ∙ sym (ap length (rows_lent c.args.r c.args.work.now c.rows_length-n.ensures))

pub is_crowded-crowded-requires : goal.is_crowded-crowded-requires
is_crowded-crowded-requires c =
    rw (rows_lent c.args.r c.args.work.now c.rows_length-n.ensures, c.extent.ensures) record { stands = c.requires.ready.rows; can = c.requires.can.0 }

pub returns-then-crowded : goal.returns-then-crowded
returns-then-crowded c =
    let a = c.args in
    let t = automaton a.table.now in
    let e = event_of a.step in
    let counted = rw (rows_lent a.r a.work.now c.rows_length-n.ensures, c.extent.ensures) at (c.is_crowded-crowded.ensures a.r.positions) in
    let told = room_refused a.r (stepped t a.r a.work.now e) (crowd t e a.r a.work.now _ _ true c.accs_for-accs.ensures counted c.if-crowded.true) a.work.now a.reports.now in
    record { value = c.refused.ensures ∙ told.0; work_after = told.1; reports_after = told.2 }

pub take-counts-requires : goal.take-counts-requires
take-counts-requires c =
    let a = c.args in
    let counted = rw (rows_lent a.r a.work.now c.rows_length-n.ensures, c.extent.ensures) at (c.is_crowded-crowded.ensures a.r.positions) in
    let few = ltb-false _ _ (sym counted ∙ c.if-crowded.false) in
    record { ready = c.requires.ready; can = c.requires.can; rows_in_bounds = c.requires.rows_in_bounds; work_len_bound = few }

pub step_record-requires : goal.step_record-requires
step_record-requires c =
    (moves_of (automaton c.args.table.now) c.args.r.allowed c.args.r.depth (event_of c.args.step) c.requires.ready.rows.few_levels c.requires.can.0, c.requires.can.1)

pub returns : goal.returns
returns c =
    let a = c.args in
    let t = automaton a.table.now in
    let e = event_of a.step in
    let counted = rw (rows_lent a.r a.work.now c.rows_length-n.ensures, c.extent.ensures) at (c.is_crowded-crowded.ensures a.r.positions) in
    let told = room_taken a.r (stepped t a.r a.work.now e) (crowd t e a.r a.work.now _ _ false c.accs_for-accs.ensures counted c.if-crowded.false) a.work.now a.reports.now in
    let same = step_same t e a.r.positions (memory_of a.r a.work.now) _ c.accs_for-accs.ensures in
    let g = c.take-counts in
    let counts = g.ensures.value ∙ ap counts_of same in
    let next = c.with_alive-next.ensures ∙ ap₂ with_alive (ap (λ x. x.alive) counts) c.step_record.ensures in
    record {
      value = c.taken.ensures ∙ ap₂ taken_of next (ap (λ x. x.reports) counts) ∙ told.0;
      work_after = g.ensures.work_after ∙ ap (λ m. work_words a.r.rows a.r.allowed (left_memory m) (opened_by (labels_of a.r a.work.now) e)) same ∙ told.1;
      reports_after = g.ensures.reports_after ∙ ap (λ (m : Memory). on_front (reports_of m.alive) a.reports.now) same ∙ told.2;
    }
