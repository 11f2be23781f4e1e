-- `feed` meets its contract. The invariant: the output holds what the bytes so far gave.
use Rattle.std.proofs.Common.{◌≤◌}
use Rattle.tags.proofs.Pieces.{Holds}
use Rattle.tags.proofs.feeding.feed.Given as goal

abbrev pub invariant-loop-taken : goal.invariant-loop-taken
invariant-loop-taken g l = record {
  fits : l.given ≤ l.room;
  holds : Holds (g.S.Steps.step l.names) l.initial.next l.room l.piece l.initial.out l.out l.next l.taken l.given;
}
