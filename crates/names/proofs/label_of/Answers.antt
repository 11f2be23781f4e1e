use Rattle.std.proofs.Common.{rules, arith}
use Rattle.names.proofs.Seeking.{seek_is}
use Rattle.names.proofs.label_of.Goals as goal

pub loop-byte-init : goal.loop-byte-init
loop-byte-init c = (omega arith, omega arith, seek_is c.args.names.now c.args.word (search rules))
