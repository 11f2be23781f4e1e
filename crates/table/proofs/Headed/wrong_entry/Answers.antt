-- `wrong_entry` meets its contract: it stops at the first entry that is not right. Assumes nothing.
use mathlib.Core.Path.{sym, ◌∙◌}
use Rattle.table.specs.File.{entry_right, wrong_field}
use Rattle.table.proofs.Found.{is_wrong, stops, ends}
use Rattle.table.proofs.Headed.wrong_entry.Goals as goal

pub returns-in-Some : goal.returns-in-Some
returns-in-Some c =
    let f = c.args.self.now.file.now in
    let here = is_wrong (sym c.in-Some.is ∙ c.wrong_field.ensures) in
    rw here.1 (stops 5 (entry_right f) (λ i. (i, wrong_field f i)) c.loop-i.i c.loop-i-test.true c.loop-i.invariant here.0)

pub returns : goal.returns
returns c =
    let f = c.args.self.now.file.now in
    ends 5 (entry_right f) (λ i. (i, wrong_field f i)) c.loop-i.i c.loop-i-test.false c.loop-i.invariant
