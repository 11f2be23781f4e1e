-- `read` meets its contract.
use Rattle.std.proofs.Common.{sym, ap, ◌∙◌, length}
use Rattle.tags.specs.declared.reader.Cursor.{Cursor}
use Rattle.tags.specs.Feeding.{fed_of}
use Rattle.tags.specs.Cursors.{feed_in, feed_out}
use Rattle.tags.proofs.Nones.{none_is}
use Rattle.tags.proofs.WholeTexts.{answers_refused, answers_taken}
use Rattle.tags.proofs.reader.read.Goals as goal

pub returns-in-Some : goal.returns-in-Some
returns-in-Some c =
    let a = c.args in
    let x =
    answers_refused a.names.now (sym c.good.ensures ∙ c.if-not-good.false) a.text.now a.out.now
    (c.survey-fed.ensures ∙ ap (λ (x : Cursor). fed_of (feed_in a.names.now x (length a.out.now) a.text.now)) c.begin.ensures)
    c.whole.ensures c.in-Some.is in
    record { value = x.0; out_after = x.1 }

pub returns : goal.returns
returns c =
    let a = c.args in
    let x =
    answers_taken a.names.now (sym c.good.ensures ∙ c.if-not-good.false) a.text.now a.out.now
    (c.survey-fed.ensures ∙ ap (λ (x : Cursor). fed_of (feed_in a.names.now x (length a.out.now) a.text.now)) c.begin.ensures)
    c.whole.ensures (none_is _ c.in_default.not-Some)
    (c.feed.ensures.out_after ∙ ap (λ (y : Cursor). feed_out a.names.now y a.text.now a.out.now) c.begin-2.ensures) in
    record { value = x.0; out_after = x.1 }
