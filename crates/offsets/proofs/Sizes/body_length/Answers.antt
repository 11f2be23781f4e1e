-- `body_length` meets its contract, case by case of i. Assumes nothing.
use native.Mathlib.Omega.{arith}
use Rattle.offsets.proofs.Bounds.{file_small, length_else}
use Rattle.offsets.proofs.Sizes.body_length.Goals as goal

pub overflow_mul-result : goal.overflow_mul-result
overflow_mul-result c = omega (arith, file_small _ _ c.args.self.few.0 c.args.self.few.1)

pub overflow_mul-result-in-3 : goal.overflow_mul-result-in-3
overflow_mul-result-in-3 c = omega (arith, file_small _ _ c.args.self.few.0 c.args.self.few.1)

pub returns-in_default : goal.returns-in_default
returns-in_default c = length_else _ _ _ c.requires c.in_default.in_default-own.rest.0.0.1 c.in_default.in_default-own.rest.0.1 c.in_default.in_default-own.rest.1
