-- `judge` is safe: a file that `read` takes is a table, and `show` asks for no more than three states.
use Rattle.std.proofs.Common.{sym, ◌∙◌, arith}
use Rattle.table.proofs.Sound.{taken_is_sound}
use Rattle.tables.proofs.judge.Goals as goal

pub invariant_of-show : goal.invariant_of-show
invariant_of-show g c = record { sound = (taken_is_sound c.args.file.now c.in-Ok.n c.in-Ok.field-0-1 (sym c.read-answer.ensures ∙ c.in-Ok.is)).0 }

pub show-requires : goal.show-requires
show-requires g c =
    let s = taken_is_sound c.args.file.now c.in-Ok.n c.in-Ok.field-0-1 (sym c.read-answer.ensures ∙ c.in-Ok.is) in
    omega (arith, s.1, c.if-n-ge3.true)
