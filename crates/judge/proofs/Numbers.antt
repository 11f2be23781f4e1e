-- No refusal is given exactly when no line applies. Assumes nothing.
use mathlib.Core.Bool.{false}
use mathlib.Core.List.{List}
use mathlib.Core.Logic.{◌↔◌}
use mathlib.Core.Path.{◌≡◌}
use Prim.Native.Nat.{ℕ}
use Rattle.meaning.specs.Refusals.{first_of, applies_at}
use Rattle.meaning.proofs.Refusals.{taken_exactly}
use Rattle.answers.specs.declared.Record.{Record}
use Rattle.answers.specs.declared.Event.{Event}
use Rattle.judge.specs.Judging.{fine, judged_number, call_lines, judged_lines, start_lines}

-- An event, of all lines but the last.
pub judged_none :
    (f : List ℕ) (r : Record) (work : List ℕ) (reports : ℕ) (e : Event) →
    (judged_number (first_of (judged_lines f r work reports e) fine) ≡ 0)
    ↔ ((i : ℕ) → applies_at (judged_lines f r work reports e) i ≡ false)
judged_none f r work reports e = taken_exactly judged_number fine (judged_lines f r work reports e) tt

-- The call's lines alone: the same.
pub call_none :
    (n k : ℕ) (r : Record) (work : List ℕ) (reports : ℕ) →
    (judged_number (first_of (call_lines n k r work reports) fine) ≡ 0) ↔ ((i : ℕ) → applies_at (call_lines n k r work reports) i ≡ false)
call_none n k r work reports = taken_exactly judged_number fine (call_lines n k r work reports) tt

-- A start: the same.
pub start_none :
    (f : List ℕ) (rows allowed size : ℕ) →
    (judged_number (first_of (start_lines f rows allowed size) fine) ≡ 0)
    ↔ ((i : ℕ) → applies_at (start_lines f rows allowed size) i ≡ false)
start_none f rows allowed size = taken_exactly judged_number fine (start_lines f rows allowed size) tt
