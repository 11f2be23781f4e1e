-- `take` of a follower meets the law of steps: it writes nothing. Assumes nothing.
use Rattle.std.proofs.Common.{sym, ap, ◌∙◌, List, ℕ}
use Rattle.meaning.specs.Lent.{put_at}
use Rattle.meaning.proofs.Lent.{put_none}
use Rattle.tags.proofs.Spelling.{a_stop, follows}
use Rattle.tags.proofs.writer.FollowerSteps.take.Goals as goal

pub returns-in-Ok-clause-out_after : goal.returns-in-Ok-clause-out_after
returns-in-Ok-clause-out_after c =
    let a = c.args in
    let w = follows a.names.now a.self.now a._room a.byte (sym c.spells.ensures.value ∙ c.in-Ok.is) in
    λ r. sym (ap (λ (u : List ℕ). put_at a._at u a._out.now) w.2 ∙ put_none a._at a._out.now)

pub returns-in-Err-clause-out_after : goal.returns-in-Err-clause-out_after
returns-in-Err-clause-out_after c =
    let a = c.args in
    let w = a_stop a.names.now a.self.now a._room a.byte (sym c.spells.ensures.value ∙ c.in-Err.is) in
    λ r. sym (ap (λ (u : List ℕ). put_at a._at u a._out.now) w.2 ∙ put_none a._at a._out.now)
