-- `trees` meets its contract: a loop of rounds that stops early ends in the set that n rounds reach.
use Rattle.meaning.proofs.Smallest.{trees_adds, openings_lt}
use Rattle.closing.proofs.StopEarly.{way_begins, way_goes_on, way_shortens, way_ends}
use Rattle.closing.proofs.trees.Goals as goal

pub loop-x-init : goal.loop-x-init
loop-x-init c = rw c.openings-x.ensures (way_begins _ (openings_lt _ c.args.table.now.sound.formed))

pub loop-x-smaller : goal.loop-x-smaller
loop-x-smaller c =
    way_shortens (trees_adds _ c.args.table.now.sound.formed) c.round-next.ensures c.loop-x.invariant c.if-next-x.false

pub loop-x-preserved : goal.loop-x-preserved
loop-x-preserved c =
    way_goes_on (trees_adds _ c.args.table.now.sound.formed) c.round-next.ensures c.loop-x.invariant

pub returns : goal.returns
returns c =
    way_ends (trees_adds _ c.args.table.now.sound.formed) c.round-next.ensures c.loop-x.invariant c.if-next-x.true
