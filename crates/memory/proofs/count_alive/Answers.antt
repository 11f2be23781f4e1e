-- `count_alive` meets its contract. Assumes nothing.
use mathlib.Core.Path.{◌≡◌, sym, ap, ◌∙◌}
use mathlib.Core.Bool.{not}
use Prim.Native.Nat.{◌*◌}
use native.Mathlib.Nat.{add-sub_cancel_left}
use native.Mathlib.Omega.{arith}
use lib.ListN.{length}
use Rattle.places.specs.Places.{row_of}
use Rattle.places.specs.Memory.{Held, row_in, helds_in}
use Rattle.rows.specs.Steps.{on_row, is_decided}
use Rattle.rows.specs.Rules.{step_by}
use Rattle.reports.specs.Reports.{left_over}
use Rattle.places.proofs.Rows.{each_map}
use Rattle.memory.proofs.Turns.{counted_yes, counted_no}
use Rattle.memory.proofs.count_alive.Goals as goal
use Rattle.memory.proofs.count_alive.Goals.{then-stays_after, else-stays_after}

pub loop-r-preserved : goal.loop-r-preserved
loop-r-preserved c =
    let a = c.args in
    let l = c.loop-r in
    let f : Held → Held = on_row (step_by a.rule.now) in
    let told : c.stays_after.result ≡ not (is_decided (step_by a.rule.now (row_in a.d (row_of a.w l.r a.words.now)))) =
    rw (add-sub_cancel_left (l.r * a.w) a.w) at c.stays_after.ensures in
    elim c.if-stays_after.branch [
      | then-stays_after x ↦ rw x.count-is (counted_yes f a.w a.d a.n a.words.now l.count l.r l.invariant c.loop-r-test.true _ told x.if-stays_after.true)
      | else-stays_after x ↦ rw x.count-is (counted_no f a.w a.d a.n a.words.now l.count l.r l.invariant c.loop-r-test.true _ told x.if-stays_after.false)
    ]

pub returns : goal.returns
returns c =
    let a = c.args in
    let l = c.loop-r in
    let q : l.r ≡ a.n = omega arith in
    rw q at l.invariant.counted ∙ ap length (sym (each_map left_over (on_row (step_by a.rule.now)) (helds_in a.w a.d a.n a.words.now)))
