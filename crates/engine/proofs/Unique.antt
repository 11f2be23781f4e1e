-- Each contract settles its call: any two results that it allows are equal, and so is what they leave in lent memory.
-- Assumes nothing.
use mathlib.Core.List.{List}
use mathlib.Core.Path.{◌≡◌}
use Prim.Native.Nat.{ℕ}
use Rattle.meaning.proofs.Contracts.{one_result}
use Rattle.answers.specs.declared.Record.{Record}
use Rattle.answers.specs.declared.Answer.{Answer}
use Rattle.engine.specs.Calls.{event_answer, event_work, event_reports, start_answer, start_work}

-- Two event calls over the same table, record, work memory, reports and byte: answers x, work memory w, reports p.
pub event_unique :
    (f : List ℕ) (r : Record) (work reports : List ℕ) (byte : ℕ) (x x' : Answer) (w w' p p' : List ℕ) →
    x ≡ event_answer f r work reports byte → w ≡ event_work f r work reports byte → p ≡ event_reports f r work reports byte →
    x' ≡ event_answer f r work reports byte → w' ≡ event_work f r work reports byte → p' ≡ event_reports f r work reports byte →
    (x ≡ x') × (w ≡ w') × (p ≡ p')
event_unique f r work reports byte x x' w w' p p' ex ew ep ex' ew' ep' =
    (one_result ex ex', one_result ew ew', one_result ep ep')

-- Two start calls over the same table, numbers and work memory.
pub start_unique :
    (f : List ℕ) (rows depth : ℕ) (work : List ℕ) (x x' : Answer) (w w' : List ℕ) →
    x ≡ start_answer f rows depth work → w ≡ start_work f rows depth work →
    x' ≡ start_answer f rows depth work → w' ≡ start_work f rows depth work →
    (x ≡ x') × (w ≡ w')
start_unique f rows depth work x x' w w' ex ew ex' ew' = (one_result ex ex', one_result ew ew')
