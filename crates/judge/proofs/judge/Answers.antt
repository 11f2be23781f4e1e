-- `judge` meets its contract: the file's lines, then the call's, then the event's. Assumes nothing.
use mathlib.Core.List.{◌++◌}
use mathlib.Core.Path.{sym, ◌∙◌}
use Rattle.std.proofs.lemmas.Result.{err_from_is_err_and}
use Rattle.bodies.specs.Sound.{states_in, labels_in}
use Rattle.judge.specs.Judging.{call_lines, event_lines, newest_word}
use Rattle.judge.proofs.Following.{table_stands, call_stands, call_passes}
use Rattle.judge.proofs.Passed.{call_passed}
use Rattle.judge.proofs.judge.Goals as goal

pub returns-in_err-n : goal.returns-in_err-n
returns-in_err-n c =
    let p = err_from_is_err_and c.from_residual.result c.from_residual.ensures.1 in
    let a = c.args in
    let f = a.table.now in
    rw (p.1, p.2) (table_stands f (call_lines (states_in f) (labels_in f) a.r a.work.now a.reports ++ event_lines (labels_in f) a.r (newest_word a.r a.work.now) a.event) _ (sym c.read.ensures ∙ c.in_err-n.was))

pub returns-in_err-judge_call : goal.returns-in_err-judge_call
returns-in_err-judge_call c =
    let p = err_from_is_err_and c.from_residual-in_err-judge_call.result c.from_residual-in_err-judge_call.ensures.1 in
    let a = c.args in
    rw (p.1, p.2)
    (sym c.in_err-judge_call.was
    ∙ call_stands a.table.now a.r a.work.now a.reports a.event c.in_ok-n.n c.in_ok-n.k (sym c.read.ensures ∙ c.in_ok-n.was) _ _ c.judge_call.ensures c.in_err-judge_call.was)

pub judge_event-requires : goal.judge_event-requires
judge_event-requires c =
    let a = c.args in
    let p = call_passed c.in_ok-n.n c.in_ok-n.k a.r a.work.now a.reports (sym c.judge_call.ensures ∙ c.in_ok-judge_call.was) in
    (p.few_rows, p.few_levels, p.deep, p.size)

pub returns : goal.returns
returns c =
    let a = c.args in
    call_passes a.table.now a.r a.work.now a.reports a.event c.in_ok-n.n c.in_ok-n.k (sym c.read.ensures ∙ c.in_ok-n.was)
    c.judge_call.result c.judge_event.result c.judge_call.ensures c.in_ok-judge_call.was c.judge_event.ensures
