-- `judge_lent` meets its contract: the file's lines, then the call's.
use mathlib.Core.Path.{sym, ap₂, ◌∙◌}
use Prim.Native.Nat.{ℕ}
use Rattle.std.proofs.lemmas.Result.{err_from_is_err_and}
use Rattle.meaning.specs.Refusals.{first_of}
use Rattle.bodies.specs.Sound.{states_in, labels_in}
use Rattle.table.proofs.Sound.{taken_is_sound}
use Rattle.judge.specs.Judging.{fine, call_lines}
use Rattle.judge.proofs.Following.{table_stands, table_passes}
use Rattle.judge.proofs.judge_lent.Goals as goal

pub returns-in_err-n : goal.returns-in_err-n
returns-in_err-n c =
    let p = err_from_is_err_and c.from_residual.result c.from_residual.ensures.1 in
    let a = c.args in
    let f = a.table.now in
    rw (p.1, p.2) (table_stands f (call_lines (states_in f) (labels_in f) a.r a.work.now a.reports) _ (sym c.read.ensures ∙ c.in_err-n.was))

pub returns : goal.returns
returns c =
    let a = c.args in
    let f = a.table.now in
    let n = c.in_ok-n.n in
    let k = c.in_ok-n.k in
    let read = sym c.read.ensures ∙ c.in_ok-n.was in
    let s = taken_is_sound f n k read in
    c.judge_call.ensures
    ∙ ap₂ (λ (y z : ℕ). first_of (call_lines y z a.r a.work.now a.reports) fine) s.1 s.2
    ∙ sym (table_passes f (call_lines (states_in f) (labels_in f) a.r a.work.now a.reports) n k read)
