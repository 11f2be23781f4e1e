-- `add_position` meets its contract.
use mathlib.Core.Path.{◌≡◌, subst}
use mathlib.Core.List.{List}
use Prim.Native.Nat.{ℕ, ◌+◌, ◌*◌, ◌≤◌}
use native.Mathlib.Omega.{arith}
use lib.ListN.{length, get_or, take}
use Rattle.bodies.specs.Automaton.{automaton}
use Rattle.meaning.specs.Table.{Table}
use Rattle.places.specs.Places.{row_of, state_at}
use Rattle.places.specs.Memory.{Held, row_in, RowIn}
use Rattle.reports.specs.Reports.{left_over}
use Rattle.reports.proofs.Puts.{Put}
use Rattle.rows.specs.Steps.{in_row}
use Rattle.stepping.specs.Stepping.{new_of}
use Rattle.stepping.proofs.Crowded.{one_left, added_row, added_none, First, first_of, new_words, new_as}
use Rattle.stepping.proofs.add_position.Goals as goal

module _ (t : Table) (w d position left : ℕ) (words : List ℕ) where
  -- The row of the new position.
  abbrev new : Held
  new = new_of t position (row_in d (row_of w 0 words))

  module _ (row : RowIn t.states d (row_of w 0 words)) (fits : (left + 1 + length (left_over new)) * w ≤ length words) where
    first : First t w d words
    first = first_of t w d (left + 1 + length (left_over new)) words row (omega arith) fits

    -- What the report of the state that the new position begins in is, is that of its row.
    told :
        (count : ℕ) (reports : List ℕ) {q at after : ℕ} {now : List ℕ} → q ≡ t.mark (get_or words at 0) → at ≡ state_at d →
        Put (record { position = position; row = in_row q (row_in d (take w words)) }) count reports after now → Put new count reports after now
    told count reports {q} {at} {after} {now} e p put =
        subst (λ (h : Held). Put h count reports after now) (new_as t w d words first q at e p position) put

pub add_row-requires-clause-r_nonzero : goal.add_row-requires-clause-r_nonzero
add_row-requires-clause-r_nonzero c =
    let a = c.args in
    let t = automaton a.table.now in
    let r = c.report_state-after.ensures in
    let put = told t a.w a.d a.position a.left a.work.now c.requires.row_in c.requires.w_in_bounds a.count a.reports.now c.mark-s.ensures c.state_at.ensures (r.value, r.reports_after) in
    let one = one_left (new t a.w a.d a.position a.left a.work.now) a.count _ put.0 c.if-after-count.true in
    (omega arith, omega (arith, one, c.requires.w_bound.2), c.requires.w_bound.0, rw one at c.requires.w_in_bounds)

pub returns-then-after-count : goal.returns-then-after-count
returns-then-after-count c =
    let a = c.args in
    let t = automaton a.table.now in
    let r = c.report_state-after.ensures in
    let put = told t a.w a.d a.position a.left a.work.now c.requires.row_in c.requires.w_in_bounds a.count a.reports.now c.mark-s.ensures c.state_at.ensures (r.value, r.reports_after) in
    let long = new_words t a.w a.d a.work.now (first t a.w a.d a.position a.left a.work.now c.requires.row_in c.requires.w_in_bounds) a.position in
    let added = added_row (new t a.w a.d a.position a.left a.work.now) a.w a.left a.count a.work.now a.reports.now _ _ put _ c.if-after-count.true long c.add_row.ensures in
    record { value = added.0; work_after = added.1.0; reports_after = added.1.1 }

pub returns-else-after-count : goal.returns-else-after-count
returns-else-after-count c =
    let a = c.args in
    let t = automaton a.table.now in
    let r = c.report_state-after.ensures in
    let put = told t a.w a.d a.position a.left a.work.now c.requires.row_in c.requires.w_in_bounds a.count a.reports.now c.mark-s.ensures c.state_at.ensures (r.value, r.reports_after) in
    let added = added_none (new t a.w a.d a.position a.left a.work.now) a.w a.left a.count a.work.now a.reports.now _ _ put c.if-after-count.false in
    record { value = added.0; work_after = added.1.0; reports_after = added.1.1 }
