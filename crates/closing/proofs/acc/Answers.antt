-- `acc` meets its contract: a loop of rounds that stops early ends in the set that n rounds reach.
use lib.Pow.{pow-lt}
use Rattle.meaning.proofs.Smallest.{acc_adds}
use Rattle.closing.proofs.StopEarly.{way_begins, way_goes_on, way_shortens, way_ends}
use Rattle.bodies.proofs.Fits.{state_fits}
use Rattle.masks.proofs.Turns.{one_shifted}
use Rattle.closing.proofs.acc.Goals as goal

pub loop-x-init : goal.loop-x-init
loop-x-init c =
    rw (one_shifted c.args.q (state_fits _ c.args.table.now.sound c.args.q c.requires)) (way_begins _ (pow-lt c.requires))

pub loop-x-smaller : goal.loop-x-smaller
loop-x-smaller c =
    way_shortens (acc_adds _ c.args.table.now.sound.formed c.args.trees) c.round-next.ensures c.loop-x.invariant c.if-next-x.false

pub loop-x-preserved : goal.loop-x-preserved
loop-x-preserved c =
    way_goes_on (acc_adds _ c.args.table.now.sound.formed c.args.trees) c.round-next.ensures c.loop-x.invariant

pub returns : goal.returns
returns c =
    way_ends (acc_adds _ c.args.table.now.sound.formed c.args.trees) c.round-next.ensures c.loop-x.invariant c.if-next-x.true
