-- `write` meets its contract.
use Rattle.std.proofs.Common.{rules, ap, not}
use Rattle.tags.proofs.WholeStreams.{answers_refused, answers_short, answers_written}
use Rattle.tags.proofs.writer.write.Goals as goal

pub returns-then-not-whole : goal.returns-then-not-whole
returns-then-not-whole c =
    let a = c.args in
    let x =
    answers_refused a.names.now a.events.now a.out.now c.good.result c.good.ensures (ap not c.if-not-good.false)
    c.begin-scribe.result c.begin-scribe.ensures c.follow-all.result c.follow-all.ensures c.whole.result c.whole.ensures (ap not c.if-not-whole.true) in
    record { value = x.0; out_after = x.1 }

pub returns-then-is_none : goal.returns-then-is_none
returns-then-is_none c =
    let a = c.args in
    let x =
    answers_short a.names.now a.events.now a.out.now c.good.result c.good.ensures (ap not c.if-not-good.false)
    c.begin-scribe.result c.begin-scribe.ensures c.follow-all.result c.follow-all.ensures c.whole.result c.whole.ensures (ap not c.if-not-whole.false)
    (search (rules, c.is_none.ensures, c.if-is_none.true)) in
    record { value = x.0; out_after = x.1 }

pub returns : goal.returns
returns c =
    let a = c.args in
    let x =
    answers_written a.names.now a.events.now a.out.now c.good.result c.good.ensures (ap not c.if-not-good.false)
    c.begin-scribe.result c.begin-scribe.ensures c.follow-all.result c.follow-all.ensures c.whole.result c.whole.ensures (ap not c.if-not-whole.false)
    (search (rules, c.is_none.ensures, c.if-is_none.false)) _ _ c.put_events-wrote.ensures.value c.put_events-wrote.ensures.out_after in
    record { value = x.0; out_after = x.1 }
