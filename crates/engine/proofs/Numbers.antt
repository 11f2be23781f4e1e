-- A refusal of each rank is given exactly when its line applies and none before it does, and the call is taken exactly when
-- none applies; a refused call keeps what it was lent. Assumes nothing.
use Rattle.std.specs.Prelude.{Ok, Err}
use mathlib.Core.Bool.{Bool, true, false, cond}
use mathlib.Core.List.{List}
use mathlib.Core.Logic.{◌↔◌}
use mathlib.Core.Path.{◌≡◌, refl, sym, ap, ◌∙◌}
use Prim.Native.Nat.{ℕ, ◌+◌, ◌<◌}
use native.Mathlib.Omega.{arith}
use lib.Dec.{T, eqb}
use lib.ListN.{length}
use borrow.Author.Tests.{eqb-true, ltb-true, lt-ltb}
use Rattle.meaning.specs.Table.{table_of}
use Rattle.meaning.specs.Masks.{all}
use Rattle.meaning.specs.Refusals.{Line, FirstAt, first_of, applies_at, gives_at, numbers, distinct}
use Rattle.meaning.proofs.Refusals.{given_exactly, taken_exactly}
use Rattle.meaning.proofs.Tests.{all_holds}
use Rattle.answers.specs.declared.Record.{Record}
use Rattle.answers.specs.declared.Refusal.TheVariants as why
use Rattle.answers.specs.Record.{no_record}
use Rattle.answers.specs.Bytes.{meaning_of}
use Rattle.answers.specs.Answers.{outcome_number, outcome_rank}
use Rattle.judge.specs.Judging.{Judged, fine, judged_number, judged_rank, judged_lines, start_lines}
use Rattle.engine.specs.Calls.{After, lines, taking, unless, answer_of}
use Rattle.engine.specs.Calls.{event_judged, event_after, event_answer, event_work, event_reports}
use Rattle.engine.specs.Calls.{start_judged, start_after, start_answer, start_work}
use Rattle.engine.proofs.Taking.{judged_passes}

-- An answer has the number and the rank of its judgement.
pub answer_number : (j : Judged) (r : Record) (after : After) → outcome_number (answer_of j r after).outcome ≡ judged_number j
answer_number (Ok done) r after = refl
answer_number (Err why) r after = refl

pub answer_rank : (j : Judged) (r : Record) (after : After) → outcome_rank (answer_of j r after).outcome ≡ judged_rank j
answer_rank (Ok done) r after = refl
answer_rank (Err why) r after = refl

-- A judgement with a number above 0 keeps the old record, and the old of anything else.
old_next : (j : Judged) (r : Record) (after : After) → 0 < outcome_number (answer_of j r after).outcome → (answer_of j r after).next ≡ r
old_next (Ok done) r after h = absurd (omega (arith, h))
old_next (Err why) r after h = refl

old_kept : (j : Judged) (r : Record) (after : After) (old new : List ℕ) → 0 < outcome_number (answer_of j r after).outcome → unless j old new ≡ old
old_kept (Ok done) r after old new h = absurd (omega (arith, h))
old_kept (Err why) r after old new h = refl

-- Lines that give the ranks 1 to `count`, in order: rank i + 1 is given exactly when line i, counted from 0, applies and
-- none before it does.
ranked_exactly :
    (ls : List (Line Judged)) (count : ℕ) → length ls ≡ count → T (distinct (numbers judged_rank ls fine)) →
    all count (λ i. eqb (judged_rank (gives_at ls fine i)) (i + 1)) ≡ true → (x : ℕ) → x ≡ judged_rank (first_of ls fine) →
    (i : ℕ) → i < count → (x ≡ i + 1) ↔ FirstAt ls i
ranked_exactly ls count long different in_order x e i l =
    let rank : judged_rank (gives_at ls fine i) ≡ i + 1 = eqb-true _ _ (all_holds count (λ i. eqb (judged_rank (gives_at ls fine i)) (i + 1)) in_order i l) in
    let exactly = given_exactly judged_rank fine ls different i (omega (arith, long)) in
    (λ h. exactly.0 (sym e ∙ h ∙ sym rank), λ h. e ∙ exactly.1 h ∙ rank)

module _ (f : List ℕ) (r : Record) (work reports : List ℕ) (byte : ℕ) where
  answered : outcome_number (event_answer f r work reports byte).outcome ≡ judged_number (event_judged f r work reports byte)
  answered = answer_number (event_judged f r work reports byte) r (event_after f r work byte)

  -- An event: a refusal of rank i + 1, from 1 to 16, is answered exactly when line i, counted from 0, applies and none
  -- before it does.
  pub event_exactly :
      (i : ℕ) → i < 16 →
      (outcome_rank (event_answer f r work reports byte).outcome ≡ i + 1) ↔ FirstAt (lines f r work (length reports) (meaning_of byte)) i
  event_exactly i l =
      let ranked = answer_rank (event_judged f r work reports byte) r (event_after f r work byte) in
      ranked_exactly (lines f r work (length reports) (meaning_of byte)) 16 refl tt refl _ ranked i l

  -- An event is taken exactly when no line applies.
  pub event_taken :
      (outcome_number (event_answer f r work reports byte).outcome ≡ 0)
      ↔ ((i : ℕ) → applies_at (lines f r work (length reports) (meaning_of byte)) i ≡ false)
  event_taken =
      let exactly = taken_exactly judged_number fine (lines f r work (length reports) (meaning_of byte)) tt in
      (λ h. exactly.0 (sym answered ∙ h), λ h. answered ∙ exactly.1 h)

  -- A refused event gives its record back, and leaves work memory and reports as they were.
  pub refused_keeps :
      0 < outcome_number (event_answer f r work reports byte).outcome →
      ((event_answer f r work reports byte).next ≡ r) × (event_work f r work reports byte ≡ work) × (event_reports f r work reports byte ≡ reports)
  refused_keeps h =
      let j = event_judged f r work reports byte in
      let after = event_after f r work byte in
      (old_next j r after h, old_kept j r after work _ h, old_kept j r after reports _ h)

  -- Where no line before applies: 15 is given exactly when more positions would be alive after the event than rows.
  pub room_exactly :
      first_of (judged_lines f r work (length reports) (meaning_of byte)) fine ≡ fine →
      (event_judged f r work reports byte ≡ Err why.Rows) ↔ (r.rows < (taking (table_of f) r work (meaning_of byte)).next.alive)
  room_exactly h =
      let whole = judged_passes f r work (length reports) (meaning_of byte) (event_after f r work byte) h in
      (λ g. ltb-true _ _ (full _ (sym whole ∙ g)), λ g. whole ∙ ap (λ (b : Bool). cond b (Err why.Rows) fine) (lt-ltb _ _ g))
    where
      full : (b : Bool) → cond b (Err why.Rows) fine ≡ Err why.Rows → b ≡ true
      full true e = refl
      full false e =
          let n : judged_number fine ≡ judged_number (Err why.Rows) = ap judged_number e in
          absurd (omega (arith, n))

module _ (f : List ℕ) (rows depth : ℕ) (work : List ℕ) where
  started : outcome_number (start_answer f rows depth work).outcome ≡ judged_number (start_judged f rows depth work)
  started = answer_number (start_judged f rows depth work) no_record (start_after f rows depth)

  -- A start: the same of ranks 1 to 6.
  pub start_exactly :
      (i : ℕ) → i < 6 →
      (outcome_rank (start_answer f rows depth work).outcome ≡ i + 1) ↔ FirstAt (start_lines f rows depth (length work)) i
  start_exactly i l =
      let ranked = answer_rank (start_judged f rows depth work) no_record (start_after f rows depth) in
      ranked_exactly (start_lines f rows depth (length work)) 6 refl tt refl _ ranked i l

  pub start_taken :
      (outcome_number (start_answer f rows depth work).outcome ≡ 0)
      ↔ ((i : ℕ) → applies_at (start_lines f rows depth (length work)) i ≡ false)
  start_taken =
      let exactly = taken_exactly judged_number fine (start_lines f rows depth (length work)) tt in
      (λ h. exactly.0 (sym started ∙ h), λ h. started ∙ exactly.1 h)

  -- A refused start gives a record of zeros, and leaves work memory as it was.
  pub start_refused_keeps :
      0 < outcome_number (start_answer f rows depth work).outcome →
      ((start_answer f rows depth work).next ≡ no_record) × (start_work f rows depth work ≡ work)
  start_refused_keeps h =
      let j = start_judged f rows depth work in
      let after = start_after f rows depth in
      (old_next j no_record after h, old_kept j no_record after work _ h)
