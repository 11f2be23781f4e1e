-- `final_at` meets its contract: nothing that it computes is above the longest file's length. Assumes nothing.
use native.Mathlib.Omega.{arith}
use Rattle.offsets.proofs.Bounds.{file_small}
use Rattle.offsets.proofs.Sizes.final_at.Goals as goal

pub overflow_mul-result : goal.overflow_mul-result
overflow_mul-result c = omega (arith, file_small _ _ c.args.self.few.0 c.args.self.few.1)

pub overflow_add-result : goal.overflow_add-result
overflow_add-result c = omega (arith, file_small _ _ c.args.self.few.0 c.args.self.few.1)
