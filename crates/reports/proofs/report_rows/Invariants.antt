-- `report_rows` meets its contract. The invariant: the rows passed are reported.
use Rattle.reports.specs.Reports.{report_of}
use Rattle.reports.proofs.Puts.{Reported}
use Rattle.reports.proofs.report_rows.Given as goal

abbrev pub invariant-loop-r : goal.invariant-loop-r
invariant-loop-r l = Reported report_of l.w l.d l.n l.words l.initial.reports l.reports l.count l.r
