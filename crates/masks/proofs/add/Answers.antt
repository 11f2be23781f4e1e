-- `add` meets its contract: 1 << i is 2 ^ i.
use mathlib.Core.Path.{ap}
use lib.Bits.{bit_or}
use Rattle.meaning.specs.Masks.{added}
use Rattle.masks.proofs.Turns.{one_shifted}
use Rattle.masks.proofs.add.Goals as goal

pub returns : goal.returns
unfolding added
returns c = ap (bit_or c.args.m) (one_shifted c.args.i c.requires)
