-- In `follow` nothing waits in the output between two turns.
use Rattle.std.proofs.Common.{◌≡◌, []}
use Rattle.pipes.specs.Outputs.{waiting}
use Rattle.pipes.proofs.filter.follow.Given as goal

abbrev pub invariant-loop : goal.invariant-loop
invariant-loop g l = waiting l.out ≡ []
