-- `event` meets its contract: refused by a line before the last, or by what `step` and `end` answer.
use mathlib.Core.Path.{◌≡◌, refl, sym, ap, ◌∙◌}
use mathlib.Core.List.{List}
use Prim.Native.Nat.{ℕ}
use lib.ListN.{length}
use Rattle.meaning.specs.Refusals.{first_of}
use Rattle.answers.specs.declared.Record.{Record}
use Rattle.answers.specs.declared.Event.{Event}
use Rattle.answers.specs.declared.Event.TheVariants as event
use Rattle.answers.specs.Bytes.{meaning_of}
use Rattle.judge.specs.Judging.{Judged, fine, judged_lines}
use Rattle.engine.proofs.Taking.{Is, event_refused, event_by, passed_as, step_ready, end_ready}
use Rattle.engine.proofs.event.Goals as goal

-- What judging told of the event, of the byte's meaning.
told :
    (f : List ℕ) (r : Record) (work : List ℕ) (reports byte : ℕ) (e : Event) (j k : Judged) →
    e ≡ meaning_of byte → j ≡ first_of (judged_lines f r work reports e) fine → j ≡ k → first_of (judged_lines f r work reports (meaning_of byte)) fine ≡ k
told f r work reports byte e j k by judged is = ap (λ (x : Event). first_of (judged_lines f r work reports x) fine) (sym by) ∙ sym judged ∙ is

pub returns-in-Err : goal.returns-in-Err
returns-in-Err c =
    let a = c.args in
    let g = event_refused a.table.now a.«record» a.work.now a.reports.now a.byte _ (told a.table.now a.«record» a.work.now (length a.reports.now) a.byte _ _ _ c.from-event.ensures c.judge.ensures c.in-Err.is) in
    record { value = c.refused.ensures ∙ g.0; work_after = g.1.0; reports_after = g.1.1 }

pub invariant_of-table : goal.invariant_of-table
invariant_of-table c =
    let a = c.args in
    record { sound = (step_ready a.table.now a.work.now a.«record» (length a.reports.now) (meaning_of a.byte) (event.Open c.in-Open.a) (sym c.from-event.ensures ∙ c.in-Open.is) (told a.table.now a.«record» a.work.now (length a.reports.now) a.byte _ _ _ c.from-event.ensures c.judge.ensures c.in_default.is) Is.opens).0 }

pub step-requires : goal.step-requires
step-requires c =
    let a = c.args in
    let p = step_ready a.table.now a.work.now a.«record» (length a.reports.now) (meaning_of a.byte) (event.Open c.in-Open.a) (sym c.from-event.ensures ∙ c.in-Open.is) (told a.table.now a.«record» a.work.now (length a.reports.now) a.byte _ _ _ c.from-event.ensures c.judge.ensures c.in_default.is) Is.opens in
    record { ready = p.1.0; can = p.1.1.0; rows_in_bounds = p.1.1.1 }

pub invariant_of-table-in-Point : goal.invariant_of-table-in-Point
invariant_of-table-in-Point c =
    let a = c.args in
    record { sound = (step_ready a.table.now a.work.now a.«record» (length a.reports.now) (meaning_of a.byte) (event.Point c.in-Point.a) (sym c.from-event.ensures ∙ c.in-Point.is) (told a.table.now a.«record» a.work.now (length a.reports.now) a.byte _ _ _ c.from-event.ensures c.judge.ensures c.in_default.is) Is.points).0 }

pub step-requires-in-Point : goal.step-requires-in-Point
step-requires-in-Point c =
    let a = c.args in
    let p = step_ready a.table.now a.work.now a.«record» (length a.reports.now) (meaning_of a.byte) (event.Point c.in-Point.a) (sym c.from-event.ensures ∙ c.in-Point.is) (told a.table.now a.«record» a.work.now (length a.reports.now) a.byte _ _ _ c.from-event.ensures c.judge.ensures c.in_default.is) Is.points in
    record { ready = p.1.0; can = p.1.1.0; rows_in_bounds = p.1.1.1 }

pub invariant_of-table-in-Close : goal.invariant_of-table-in-Close
invariant_of-table-in-Close c =
    let a = c.args in
    record { sound = (step_ready a.table.now a.work.now a.«record» (length a.reports.now) (meaning_of a.byte) (event.Close) (sym c.from-event.ensures ∙ c.in-Close.is) (told a.table.now a.«record» a.work.now (length a.reports.now) a.byte _ _ _ c.from-event.ensures c.judge.ensures c.in_default.is) Is.closes).0 }

pub step-requires-in-Close : goal.step-requires-in-Close
step-requires-in-Close c =
    let a = c.args in
    let p = step_ready a.table.now a.work.now a.«record» (length a.reports.now) (meaning_of a.byte) (event.Close) (sym c.from-event.ensures ∙ c.in-Close.is) (told a.table.now a.«record» a.work.now (length a.reports.now) a.byte _ _ _ c.from-event.ensures c.judge.ensures c.in_default.is) Is.closes in
    record { ready = p.1.0; can = p.1.1.0; rows_in_bounds = p.1.1.1 }

pub invariant_of-table-in-CloseOf : goal.invariant_of-table-in-CloseOf
invariant_of-table-in-CloseOf c =
    let a = c.args in
    record { sound = (step_ready a.table.now a.work.now a.«record» (length a.reports.now) (meaning_of a.byte) (_) (sym c.from-event.ensures ∙ c.in-CloseOf.is) (told a.table.now a.«record» a.work.now (length a.reports.now) a.byte _ _ _ c.from-event.ensures c.judge.ensures c.in_default.is) Is.closes_its).0 }

pub step-requires-in-CloseOf : goal.step-requires-in-CloseOf
step-requires-in-CloseOf c =
    let a = c.args in
    let p = step_ready a.table.now a.work.now a.«record» (length a.reports.now) (meaning_of a.byte) (_) (sym c.from-event.ensures ∙ c.in-CloseOf.is) (told a.table.now a.«record» a.work.now (length a.reports.now) a.byte _ _ _ c.from-event.ensures c.judge.ensures c.in_default.is) Is.closes_its in
    record { ready = p.1.0; can = p.1.1.0; rows_in_bounds = p.1.1.1 }

pub invariant_of-table-in-End : goal.invariant_of-table-in-End
invariant_of-table-in-End c =
    let a = c.args in
    record { sound = (end_ready a.table.now a.work.now a.«record» (length a.reports.now) (meaning_of a.byte) event.End (sym c.from-event.ensures ∙ c.in-End.is) (told a.table.now a.«record» a.work.now (length a.reports.now) a.byte _ _ _ c.from-event.ensures c.judge.ensures c.in_default.is) refl).0 }

pub end-requires : goal.end-requires
end-requires c =
    let a = c.args in
    let p = end_ready a.table.now a.work.now a.«record» (length a.reports.now) (meaning_of a.byte) event.End (sym c.from-event.ensures ∙ c.in-End.is) (told a.table.now a.«record» a.work.now (length a.reports.now) a.byte _ _ _ c.from-event.ensures c.judge.ensures c.in_default.is) refl in
    record { ready = p.1.0; depth_value = p.1.1 }

pub returns-in-Open : goal.returns-in-Open
returns-in-Open c =
    let a = c.args in
    let s = c.step.ensures in
    let g = event_by a.table.now a.«record» a.work.now a.reports.now a.byte (event.Open c.in-Open.a) (sym c.from-event.ensures ∙ c.in-Open.is) (told a.table.now a.«record» a.work.now (length a.reports.now) a.byte _ _ _ c.from-event.ensures c.judge.ensures c.in_default.is) _ _ _ (s.value, (s.work_after, s.reports_after)) in
    record { value = g.0; work_after = g.1.0; reports_after = g.1.1 }

pub returns-in-Point : goal.returns-in-Point
returns-in-Point c =
    let a = c.args in
    let s = c.step-in-Point.ensures in
    let g = event_by a.table.now a.«record» a.work.now a.reports.now a.byte (event.Point c.in-Point.a) (sym c.from-event.ensures ∙ c.in-Point.is) (told a.table.now a.«record» a.work.now (length a.reports.now) a.byte _ _ _ c.from-event.ensures c.judge.ensures c.in_default.is) _ _ _ (s.value, (s.work_after, s.reports_after)) in
    record { value = g.0; work_after = g.1.0; reports_after = g.1.1 }

pub returns-in-Close : goal.returns-in-Close
returns-in-Close c =
    let a = c.args in
    let s = c.step-in-Close.ensures in
    let g = event_by a.table.now a.«record» a.work.now a.reports.now a.byte (event.Close) (sym c.from-event.ensures ∙ c.in-Close.is) (told a.table.now a.«record» a.work.now (length a.reports.now) a.byte _ _ _ c.from-event.ensures c.judge.ensures c.in_default.is) _ _ _ (s.value, (s.work_after, s.reports_after)) in
    record { value = g.0; work_after = g.1.0; reports_after = g.1.1 }

pub returns-in-CloseOf : goal.returns-in-CloseOf
returns-in-CloseOf c =
    let a = c.args in
    let s = c.step-in-CloseOf.ensures in
    let g = event_by a.table.now a.«record» a.work.now a.reports.now a.byte (_) (sym c.from-event.ensures ∙ c.in-CloseOf.is) (told a.table.now a.«record» a.work.now (length a.reports.now) a.byte _ _ _ c.from-event.ensures c.judge.ensures c.in_default.is) _ _ _ (s.value, (s.work_after, s.reports_after)) in
    record { value = g.0; work_after = g.1.0; reports_after = g.1.1 }

pub returns-in-End : goal.returns-in-End
returns-in-End c =
    let a = c.args in
    let s = c.end.ensures in
    let g = event_by a.table.now a.«record» a.work.now a.reports.now a.byte (event.End) (sym c.from-event.ensures ∙ c.in-End.is) (told a.table.now a.«record» a.work.now (length a.reports.now) a.byte _ _ _ c.from-event.ensures c.judge.ensures c.in_default.is) _ _ _ (s.value, (s.work_after, s.reports_after)) in
    record { value = g.0; work_after = g.1.0; reports_after = g.1.1 }

pub returns-in-Unknown : goal.returns-in-Unknown
returns-in-Unknown c =
    let a = c.args in
    absurd (passed_as a.table.now a.work.now a.«record» (length a.reports.now) (meaning_of a.byte) event.Unknown (sym c.from-event.ensures ∙ c.in-Unknown.is) (told a.table.now a.«record» a.work.now (length a.reports.now) a.byte _ _ _ c.from-event.ensures c.judge.ensures c.in_default.is))
