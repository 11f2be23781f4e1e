-- `body_at` meets its contract, case by case of i. Assumes nothing.
use mathlib.Core.Path.{◌≡◌}
use native.Mathlib.Omega.{arith}
use Rattle.offsets.proofs.Sizes.body_at.Goals as goal

pub returns-in-1 : goal.returns-in-1
returns-in-1 c = rw c.in-1.is c.point_at.ensures

pub returns-in-2 : goal.returns-in-2
returns-in-2 c = rw c.in-2.is c.mark_at.ensures

pub returns-in-3 : goal.returns-in-3
returns-in-3 c = rw c.in-3.is c.apply_at.ensures

pub returns-in_default : goal.returns-in_default
returns-in_default c = let e : c.args.i ≡ 4 = omega arith in rw e c.final_at.ensures
