-- `judge_start` meets its contract: the file's lines, then that of the sizes. Assumes nothing.
use mathlib.Core.Bool.{false, not}
use mathlib.Core.List.{[], ◌∷◌}
use mathlib.Core.Path.{sym, ◌∙◌}
use Rattle.std.proofs.lemmas.Result.{err_from_is_err_and}
use Rattle.answers.specs.declared.Refusal.TheVariants.{Sizes}
use Rattle.judge.specs.Judging.{refuses, sizes_right}
use Rattle.judge.proofs.Following.{table_stands, start_judged_lem}
use Rattle.judge.proofs.judge_start.Goals as goal

pub returns-in_err-read : goal.returns-in_err-read
returns-in_err-read c =
    let p = err_from_is_err_and c.from_residual.result c.from_residual.ensures.1 in
    let a = c.args in
    rw (p.1, p.2) (table_stands a.table.now (refuses (not (sizes_right a.rows a.allowed a.size)) Sizes ∷ []) _ (sym c.read.ensures ∙ c.in_err-read.was))

pub returns-else-sizes_right : goal.returns-else-sizes_right
returns-else-sizes_right c =
    let a = c.args in
    start_judged_lem a.table.now a.rows a.allowed a.size _ _ (sym c.read.ensures ∙ c.in_ok-read.was) false (sym c.sizes_right.ensures ∙ c.if-sizes_right.false)
