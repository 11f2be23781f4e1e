-- `cell` meets its contract: the cell is a byte of its body. Assumes nothing.
use native.Mathlib.Omega.{arith}
use Rattle.bodies.proofs.Inside.{cell_inside}
use Rattle.bodies.proofs.Table.cell.Goals as goal

pub overflow_mul-q : goal.overflow_mul-q
overflow_mul-q c = omega (arith, (cell_inside c.args.self.now.sound c.requires).1)

pub overflow_add-q : goal.overflow_add-q
overflow_add-q c = omega (arith, (cell_inside c.args.self.now.sound c.requires).1)

pub in_body-requires : goal.in_body-requires
in_body-requires c = (c.requires.kind, (cell_inside c.args.self.now.sound c.requires).0)
