-- `report_ends` meets its contract. The invariant: the rows passed are reported, one report a row.
use mathlib.Core.Path.{refl}
use Prim.Native.Nat.{◌+◌, ◌*◌}
use native.Mathlib.Nat.{add-sub_cancel_left}
use native.Mathlib.Omega.{arith}
use Rattle.bodies.specs.Automaton.{automaton}
use Rattle.reports.specs.Reports.{end_report}
use Rattle.reports.proofs.Puts.{reported_more}
use Rattle.reports.proofs.report_ends.Goals as goal

pub loop-r-preserved : goal.loop-r-preserved
loop-r-preserved c =
    let a = c.args in
    let l = c.loop-r in
    let g = c.report_end in
    let e = rw (add-sub_cancel_left (l.r * a.w) a.w) at g.ensures in
    reported_more (end_report (automaton a.table.now)) (λ h. omega arith) a.w 0 a.n a.words.now a.reports.now l.reports _ l.r l.r (l.r + 1) l.invariant (omega arith) refl e g.auto.reports
