-- `apply` meets its contract: its body's rows are n wide. Assumes nothing.
use native.Mathlib.Omega.{arith}
use Rattle.bodies.proofs.Table.apply.Goals as goal

pub cell-requires : goal.cell-requires
cell-requires c =
    record { kind = omega arith; rows = rw c.states.ensures; row_in = omega (arith, c.requires); column_in = omega (arith, c.requires) }

pub returns : goal.returns
returns c = rw c.states.ensures at c.cell.ensures
