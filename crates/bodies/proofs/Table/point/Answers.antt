-- `point` meets its contract: its body's rows are k wide. Assumes nothing.
use native.Mathlib.Omega.{arith}
use Rattle.bodies.proofs.Table.point.Goals as goal

pub cell-requires : goal.cell-requires
cell-requires c =
    record { kind = omega arith; rows = rw c.labels.ensures; row_in = omega (arith, c.requires); column_in = omega (arith, c.requires) }

pub returns : goal.returns
returns c = rw c.labels.ensures at c.cell.ensures
