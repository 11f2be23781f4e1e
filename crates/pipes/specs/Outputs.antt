-- What waits in an `Output`.
use Rattle.std.specs.Prelude.{ℕ, List, take}
use Rattle.pipes.specs.declared.output.Output.{Output}

-- The bytes: the front of the memory.
abbrev pub waiting : Output → List ℕ
waiting o = take o.filled o.room.now
