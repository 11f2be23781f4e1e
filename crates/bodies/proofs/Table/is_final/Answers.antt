-- `is_final` meets its contract, by that of `in_body`. Assumes nothing.
use mathlib.Core.Path.{ap}
use Prim.Native.Nat.{ℕ}
use lib.Dec.{eqb}
use Rattle.bodies.proofs.Table.is_final.Goals as goal

pub returns : goal.returns
returns c = ap (λ (b : ℕ). eqb b 1) c.in_body.ensures
