-- `take` of a scribe meets the law of steps, where the search does not see that an answer in place is that of the step. Assumes
-- nothing.
use Rattle.std.proofs.Common.{sym, ap, ◌∙◌, arith, List, ℕ}
use Rattle.meaning.specs.Lent.{put_at}
use Rattle.meaning.proofs.Lent.{put_none}
use Rattle.tags.proofs.Spelling.{a_fault, no_room, a_tag}
use Rattle.tags.proofs.writer.ScribeSteps.take.Goals as goal

pub returns-then-room-given-clause-out_after : goal.returns-then-room-given-clause-out_after
returns-then-room-given-clause-out_after c =
    let a = c.args in
    let w = no_room a.names.now a.self.now a.room a.byte (sym c.spells.ensures.value ∙ c.in-Ok.is) (omega (arith, c.if-room-given.true, c.length-given.ensures)) in
    λ r. sym (ap (λ (u : List ℕ). put_at a.at u a.out.now) w.2 ∙ put_none a.at a.out.now)

pub returns-else-at-out-clause-next : goal.returns-else-at-out-clause-next
returns-else-at-out-clause-next c =
    let a = c.args in
    c.spells.ensures.next
    ∙ (a_tag a.names.now a.self.now a.room a.byte (sym c.spells.ensures.value ∙ c.in-Ok.is) (omega (arith, c.if-room-given.false, c.length-given.ensures))).1

pub returns-in-Err-clause-out_after : goal.returns-in-Err-clause-out_after
returns-in-Err-clause-out_after c =
    let a = c.args in
    let w = a_fault a.names.now a.self.now a.room a.byte (sym c.spells.ensures.value ∙ c.in-Err.is) in
    λ r. sym (ap (λ (u : List ℕ). put_at a.at u a.out.now) w.2 ∙ put_none a.at a.out.now)
