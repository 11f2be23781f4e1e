-- `step_record` meets its contract.
use Rattle.engine.proofs.Starting.{asked_as}
use Rattle.engine.proofs.step_record.Goals as goal

pub deeper-requires : goal.deeper-requires
deeper-requires c =
    (asked_as c.args.r.depth c.args.r.positions c.in-Open.is c.requires).0

pub one_more-requires : goal.one_more-requires
one_more-requires c =
    rw c.deeper.ensures (asked_as c.args.r.depth c.args.r.positions c.in-Open.is c.requires).1

pub one_more-requires-in-Point : goal.one_more-requires-in-Point
one_more-requires-in-Point c =
    (asked_as c.args.r.depth c.args.r.positions c.in-Point.is c.requires).1

pub shallower-requires : goal.shallower-requires
shallower-requires c =
    (asked_as c.args.r.depth c.args.r.positions c.in-Close.is c.requires).0

pub returns-in-Open : goal.returns-in-Open
returns-in-Open c = rw (c.one_more.ensures, c.deeper.ensures, c.in-Open.is)

pub returns-in-Point : goal.returns-in-Point
returns-in-Point c = rw (c.one_more-in-Point.ensures, c.in-Point.is)

pub returns-in-Close : goal.returns-in-Close
returns-in-Close c = rw (c.shallower.ensures, c.in-Close.is)
