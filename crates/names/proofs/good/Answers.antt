use Rattle.std.proofs.Common.{arith}
use Rattle.names.proofs.Listing.{good_is}
use Rattle.names.proofs.good.Goals as goal

pub loop-byte-init : goal.loop-byte-init
loop-byte-init c = (omega arith, rw c.none-word.ensures (good_is c.args.names.now))
