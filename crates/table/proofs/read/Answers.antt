-- `read` meets its contract: at each return the lines before it are known not to apply. Assumes nothing.
use Rattle.std.proofs.Common.{Err}
use mathlib.Core.Path.{sym, ap, ◌∙◌}
use native.Mathlib.Omega.{arith}
use borrow.Author.Tests.{le-ltb}
use Rattle.table.specs.declared.Refusal.{Refusal}
use Rattle.table.proofs.Lines.{by_entry, by_body}
use Rattle.table.proofs.read.Goals as goal

pub overflow_add-result : goal.overflow_add-result
overflow_add-result c = omega (arith, (by_entry c.args.table.now (sym c.in-Some.is ∙ c.wrong_entry.ensures)).1)

pub returns-in-Some : goal.returns-in-Some
returns-in-Some c =
    let entry = by_entry c.args.table.now (sym c.in-Some.is ∙ c.wrong_entry.ensures) in
    rw (le-ltb _ 29 c.if-table-lt29.false, sym c.header_right.ensures ∙ c.if-not-header_right.false, entry.0)
    (ap (λ (x : Refusal). Err x) entry.2)

pub overflow_add-result-in-Some-wrong_body : goal.overflow_add-result-in-Some-wrong_body
overflow_add-result-in-Some-wrong_body c = omega (arith, (by_body c.args.table.now (sym c.in-Some-wrong_body.is ∙ c.wrong_body.ensures)).1)
