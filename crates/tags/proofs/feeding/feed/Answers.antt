use Rattle.tags.proofs.Pieces.{came_stop_at, came_on}
use Rattle.tags.proofs.feeding.feed.Goals as goal

pub returns-in-Err : goal.returns-in-Err
returns-in-Err g c =
    let a = c.args in
    let l = c.loop-taken in
    let x =
    came_stop_at (g.S.Steps.step a.names.now) a.from a.room a.piece.now a.out.now l.taken l.given l.invariant.holds c.loop-taken-test.true
    c.take.ensures.value c.take.ensures.next l.auto.out c.take.ensures.out_after c.in-Err.is in
    record { value = x.0; out_after = x.1 }

pub loop-taken-preserved : goal.loop-taken-preserved
loop-taken-preserved g c =
    let a = c.args in
    let l = c.loop-taken in
    let holds =
    came_on (g.S.Steps.step a.names.now) a.from a.room a.piece.now a.out.now l.taken l.given l.invariant.holds c.loop-taken-test.true
    c.take.ensures.value c.take.ensures.next l.auto.out c.take.ensures.out_after c.in-Ok.is in
    record { fits = holds.so_far.fits; holds = holds }
