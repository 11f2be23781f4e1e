-- `judge_event` meets its contract, event by event. Assumes nothing.
use Rattle.judge.specs.Judging.{newest_word}
use Rattle.judge.proofs.judge_event.Goals as goal

pub returns-in-Open : goal.returns-in-Open
returns-in-Open c =
    let a = c.args in
    rw c.in-Open.is (c.judge_open.ensures (newest_word a.r a.work.now))

pub returns-in-Point : goal.returns-in-Point
returns-in-Point c =
    let a = c.args in
    rw c.in-Point.is (c.judge_point.ensures (newest_word a.r a.work.now))
