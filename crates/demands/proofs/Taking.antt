-- What a caller has after a call: nothing new where it was refused, and else what the rules name. Assumes nothing.
use Rattle.std.specs.Prelude.{Ok, Err}
use mathlib.Core.List.{List, [], ◌∷◌, ◌++◌}
use mathlib.Core.Path.{◌≡◌, refl, sym, ap, ◌∙◌}
use Prim.Native.Nat.{ℕ, ◌+◌, ◌-◌}
use native.Mathlib.Omega.{arith}
use lib.ListN.{length, take, drop, length-drop, take-append-drop}
use lib.Seq.{take_at}
use Rattle.meaning.specs.Refusals.{Line, first_of}
use Rattle.meaning.proofs.Refusals.{none_taken}
use Rattle.bodies.specs.Sound.{states_in}
use Rattle.places.specs.Places.{row_at, rows_length, rows_part, labels_part}
use Rattle.places.specs.Memory.{rows_words, labels_words, work_words}
use Rattle.meaning.specs.Lent.{on_front}
use Rattle.stepping.proofs.Whole.{state_words, words_back}
use Rattle.answers.specs.declared.Record.{Record}
use Rattle.answers.specs.declared.Answer.{Answer}
use Rattle.answers.specs.declared.Refusal.{Refusal}
use Rattle.answers.specs.Bytes.{meaning_of}
use Rattle.answers.specs.Answers.{outcome_number, taken_of}
use Rattle.judge.specs.Judging.{Judged, fine, judged_number, judged_lines}
use Rattle.judge.proofs.Passed.{Passed, passed}
use Rattle.engine.specs.Calls.{After, Ready, lines, memory_of, labels_of, unless, answer_of, event_judged, event_after, event_answer, event_work, event_reports}
use Rattle.engine.proofs.Numbers.{event_taken}
use Rattle.engine.proofs.Ready.{ready}
use Rattle.engine.proofs.Taking.{judged_stands}
use Rattle.demands.specs.Watching.{Call, Stream, Watching, longer, count_of, on_taken, given, called}
use Rattle.demands.specs.Demands.{StepDemand2}

-- A refusal is one.
pub not_fine : {why : Refusal} → Err why ≡ fine → ⊥
not_fine e = let z : ◌≡◌ {A = ℕ} 0 1 = cc in omega (arith, z)

-- Work memory that can be stepped is the words of its rows and then those of its labels.
ready_stands : (n : ℕ) (r : Record) (work : List ℕ) → Ready n r work → work ≡ work_words r.rows r.allowed (memory_of r work) (labels_of r work)
ready_stands n r work s =
    let front : List ℕ = rows_part r.rows r.allowed work in
    let after : List ℕ = labels_part r.rows r.allowed work in
    let long : length after ≡ r.allowed = length-drop (rows_length r.rows r.allowed) work ∙ omega (arith, s.size) in
    sym (take-append-drop (rows_length r.rows r.allowed) work)
    ∙ ap (λ (ws : List ℕ). ws ++ after)
    (words_back r.rows r.allowed (length front - row_at r.allowed (r.alive + 1)) (memory_of r work) front
    (state_words n r.rows r.allowed r.depth r.alive front s.rows) s.rows.size)
    ∙ ap (λ (ws : List ℕ). rows_words r.rows r.allowed (memory_of r work) ++ ws)
    (s.labels.same ∙ ap (λ (i : ℕ). labels_words i (labels_of r work)) long)

module _ (f : List ℕ) (r : Record) (work reports : List ℕ) (byte : ℕ) where
  -- A call that was taken was not refused.
  pub taken_judged : outcome_number (event_answer f r work reports byte).outcome ≡ 0 → event_judged f r work reports byte ≡ fine
  taken_judged h = none_taken judged_number fine (lines f r work (length reports) (meaning_of byte)) ((event_taken f r work reports byte).0 h)

  -- By no line before the last either.
  pub early_judged : event_judged f r work reports byte ≡ fine → first_of (judged_lines f r work (length reports) (meaning_of byte)) fine ≡ fine
  early_judged h = go (first_of (judged_lines f r work (length reports) (meaning_of byte)) fine) refl
    where
      go : (j : Judged) → first_of (judged_lines f r work (length reports) (meaning_of byte)) fine ≡ j → j ≡ fine
      go (Ok done) e = refl
      go (Err why) e = absurd (not_fine (sym (judged_stands f r work (length reports) (meaning_of byte) (event_after f r work byte) why e) ∙ h))

  -- What it then answers and leaves.
  pub taken_answer : event_judged f r work reports byte ≡ fine → event_answer f r work reports byte ≡ taken_of (event_after f r work byte).next (length (event_after f r work byte).reports)
  taken_answer e = ap (λ j. answer_of j r (event_after f r work byte)) e

  pub taken_work : event_judged f r work reports byte ≡ fine → event_work f r work reports byte ≡ (event_after f r work byte).work
  taken_work e = ap (λ j. unless j work (event_after f r work byte).work) e

  pub taken_reports : event_judged f r work reports byte ≡ fine → event_reports f r work reports byte ≡ on_front (event_after f r work byte).reports reports
  taken_reports e = ap (λ j. unless j reports (on_front (event_after f r work byte).reports reports)) e

  pub taken_passed : event_judged f r work reports byte ≡ fine → Passed f r work (length reports)
  taken_passed e = passed f work r (length reports) (meaning_of byte) (early_judged e)

  -- Demand 2, of one step.
  pub step_demand_2 : outcome_number (event_answer f r work reports byte).outcome ≡ 0 → StepDemand2 f r work reports byte
  step_demand_2 h =
      let e = taken_judged h in
      record {
        stands = ready_stands (states_in f) r work (ready f work r (length reports) (taken_passed e));
        next = ap (λ (x : Answer). x.next) (taken_answer e);
        memory = taken_work e;
        told = taken_reports e;
        counted = ap (λ (x : Answer). count_of x.outcome) (taken_answer e);
      }

-- What a caller has once a step is taken from s.
abbrev pub having : Watching → Stream → After → Watching
having s x after = record { stream = x; now = after.next; work = after.work; reports = s.reports ++ (after.reports ∷ []) }

module _ (f : List ℕ) (s : Watching) (c : Call) where
  -- The call's judgement, and what it would lead to.
  abbrev pub judged_of : Judged
  judged_of = event_judged f s.now s.work c.lent c.byte

  abbrev pub after_of : After
  after_of = event_after f s.now s.work c.byte

  -- The lines that it meets but the last.
  abbrev pub first_lines : List (Line Judged)
  first_lines = judged_lines f s.now s.work (length c.lent) (meaning_of c.byte)

  -- What the caller has after it, by its judgement and the reports read.
  abbrev called_by : Judged → List ℕ → Watching
  called_by j words =
      record {
        stream = on_taken (answer_of j s.now after_of).outcome s.stream (longer s.stream (meaning_of c.byte));
        now = (answer_of j s.now after_of).next;
        work = unless j s.work after_of.work;
        reports = on_taken (answer_of j s.now after_of).outcome s.reports (s.reports ++ (words ∷ []));
      }

  -- After a refused call: what it had.
  pub refused_call : (why : Refusal) → judged_of ≡ Err why → called f s c ≡ s
  refused_call why e = ap (λ j. called_by j (given f s c)) e

  pub none_given : (why : Refusal) → judged_of ≡ Err why → given f s c ≡ []
  none_given why e = ap (λ j. take (count_of (answer_of j s.now after_of).outcome) (event_reports f s.now s.work c.lent c.byte)) e

  -- After a taken call the caller reads the reports of the step.
  pub given_is : judged_of ≡ fine → given f s c ≡ after_of.reports
  given_is e =
      let xs = after_of.reports in
      ap (λ (x : Answer). take (count_of x.outcome) (event_reports f s.now s.work c.lent c.byte)) (taken_answer f s.now s.work c.lent c.byte e)
      ∙ ap (take (length xs)) (taken_reports f s.now s.work c.lent c.byte e)
      ∙ take_at xs (drop (length xs) c.lent) (length xs) refl

  -- And has what the step makes.
  pub taken_call : judged_of ≡ fine
      → called f s c ≡ having s (longer s.stream (meaning_of c.byte)) after_of
  taken_call e = ap (λ j. called_by j (given f s c)) e ∙ ap (λ words. called_by fine words) (given_is e)
