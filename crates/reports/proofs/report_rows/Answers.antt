-- `report_rows` meets its contract. The invariant: the rows passed are reported.
use Prim.Native.Nat.{◌*◌}
use native.Mathlib.Nat.{add-sub_cancel_left}
use native.Mathlib.Omega.{arith}
use Rattle.reports.specs.Reports.{report_of}
use Rattle.reports.proofs.Puts.{reported_more, report_few}
use Rattle.reports.proofs.report_rows.Goals as goal

pub loop-r-preserved : goal.loop-r-preserved
loop-r-preserved c =
    let l = c.loop-r in
    let g = c.report_row-count in
    let k = add-sub_cancel_left (l.r * c.args.w) c.args.w in
    let e = rw k at g.ensures in
    reported_more report_of report_few c.args.w c.args.d c.args.n c.args.words.now c.args.reports.now l.reports _ l.count l.r g.result l.invariant (omega arith) e.value e.reports_after g.auto.reports
