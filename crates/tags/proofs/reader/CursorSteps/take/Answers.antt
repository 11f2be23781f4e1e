-- `take` of a cursor meets the law of steps: each answer in place is that of the step. Assumes nothing.
use Rattle.std.proofs.Common.{sym, ap, ◌∙◌, arith, List, ℕ, Ok}
use Rattle.meaning.specs.Lent.{put_at}
use Rattle.meaning.proofs.Lent.{put_none, put_one}
use Rattle.tags.proofs.Giving.{a_fault, nothing, no_room, an_event}
use Rattle.tags.proofs.reader.CursorSteps.take.Goals as goal

pub returns-then-room-eq0-clause-out_after : goal.returns-then-room-eq0-clause-out_after
returns-then-room-eq0-clause-out_after c =
    let a = c.args in
    let w = no_room a.names.now a.self.now a.room a.byte (sym c.reads.ensures.value ∙ c.in-Ok-Some.is ∙ ap (λ o. Ok o) c.in-Ok-Some.field-0-is) c.if-room-eq0.true in
    λ r. sym (ap (λ (u : List ℕ). put_at a.at u a.out.now) w.2 ∙ put_none a.at a.out.now)

pub returns-then-at-out-clause-next : goal.returns-then-at-out-clause-next
returns-then-at-out-clause-next c =
    let a = c.args in
    c.reads.ensures.next ∙ (an_event a.names.now a.self.now a.room a.byte (sym c.reads.ensures.value ∙ c.in-Ok-Some.is ∙ ap (λ o. Ok o) c.in-Ok-Some.field-0-is) (omega (arith, c.if-room-eq0.false))).1

pub returns-then-at-out-clause-out_after : goal.returns-then-at-out-clause-out_after
returns-then-at-out-clause-out_after c =
    let a = c.args in
    let w = an_event a.names.now a.self.now a.room a.byte (sym c.reads.ensures.value ∙ c.in-Ok-Some.is ∙ ap (λ o. Ok o) c.in-Ok-Some.field-0-is) (omega (arith, c.if-room-eq0.false)) in
    λ r. put_one a.at _ a.out.now (omega arith) ∙ sym (ap (λ (u : List ℕ). put_at a.at u a.out.now) w.2)

pub returns-else-at-out-clause-next : goal.returns-else-at-out-clause-next
returns-else-at-out-clause-next c =
    let a = c.args in
    c.reads.ensures.next ∙ (an_event a.names.now a.self.now a.room a.byte (sym c.reads.ensures.value ∙ c.in-Ok-Some.is ∙ ap (λ o. Ok o) c.in-Ok-Some.field-0-is) (omega (arith, c.if-room-eq0.false))).1

pub returns-in-Ok-None-clause-value : goal.returns-in-Ok-None-clause-value
returns-in-Ok-None-clause-value c =
    let a = c.args in
    (nothing a.names.now a.self.now a.room a.byte (sym c.reads.ensures.value ∙ c.in-Ok-None.is ∙ ap (λ o. Ok o) c.in-Ok-None.field-0-is)).0

pub returns-in-Ok-None-clause-next : goal.returns-in-Ok-None-clause-next
returns-in-Ok-None-clause-next c =
    let a = c.args in
    c.reads.ensures.next ∙ (nothing a.names.now a.self.now a.room a.byte (sym c.reads.ensures.value ∙ c.in-Ok-None.is ∙ ap (λ o. Ok o) c.in-Ok-None.field-0-is)).1

pub returns-in-Ok-None-clause-out_after : goal.returns-in-Ok-None-clause-out_after
returns-in-Ok-None-clause-out_after c =
    let a = c.args in
    let w = nothing a.names.now a.self.now a.room a.byte (sym c.reads.ensures.value ∙ c.in-Ok-None.is ∙ ap (λ o. Ok o) c.in-Ok-None.field-0-is) in
    λ r. sym (ap (λ (u : List ℕ). put_at a.at u a.out.now) w.2 ∙ put_none a.at a.out.now)

pub returns-in-Err-clause-value : goal.returns-in-Err-clause-value
returns-in-Err-clause-value c =
    let a = c.args in
    (a_fault a.names.now a.self.now a.room a.byte (sym c.reads.ensures.value ∙ c.in-Err.is)).0

pub returns-in-Err-clause-next : goal.returns-in-Err-clause-next
returns-in-Err-clause-next c =
    let a = c.args in
    c.reads.ensures.next ∙ (a_fault a.names.now a.self.now a.room a.byte (sym c.reads.ensures.value ∙ c.in-Err.is)).1

pub returns-in-Err-clause-out_after : goal.returns-in-Err-clause-out_after
returns-in-Err-clause-out_after c =
    let a = c.args in
    let w = a_fault a.names.now a.self.now a.room a.byte (sym c.reads.ensures.value ∙ c.in-Err.is) in
    λ r. sym (ap (λ (u : List ℕ). put_at a.at u a.out.now) w.2 ∙ put_none a.at a.out.now)
