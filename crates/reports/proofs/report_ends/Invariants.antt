-- `report_ends` meets its contract. The invariant: the rows passed are reported, one report a row.
use Rattle.bodies.specs.Automaton.{automaton}
use Rattle.reports.specs.Reports.{end_report}
use Rattle.reports.proofs.Puts.{Reported}
use Rattle.reports.proofs.report_ends.Given as goal

abbrev pub invariant-loop-r : goal.invariant-loop-r
invariant-loop-r l = Reported (end_report (automaton l.table)) l.w 0 l.n l.words l.initial.reports l.reports l.r l.r
