-- Refusal 7 carries the place of the first word out of order. Assumes nothing.
use Rattle.std.specs.Prelude.{Ok, Option, None, Some, Err}
use mathlib.Core.Bool.{Bool, true, false, cond, true≢false}
use mathlib.Core.List.{List}
use mathlib.Core.Logic.{inl, inr, ⊎_elim}
use mathlib.Core.Path.{◌≡◌, refl, sym, ap, ◌∙◌}
use Prim.Native.Nat.{ℕ}
use native.Mathlib.Omega.{arith}
use lib.ListN.{length}
use Rattle.meaning.specs.Search.{First}
use Rattle.meaning.specs.Table.{table_of}
use Rattle.meaning.proofs.Refusals.{first_gives}
use Rattle.meaning.proofs.Search.{decided}
use Rattle.order.specs.declared.Shape.{Shape}
use Rattle.order.specs.Order.{word_right, first_fault}
use Rattle.answers.specs.declared.Record.{Record}
use Rattle.answers.specs.declared.Refusal.{Refusal}
use Rattle.answers.specs.declared.Refusal.TheVariants as why
use Rattle.answers.specs.Answers.{outcome_rank}
use Rattle.answers.specs.Bytes.{meaning_of}
use Rattle.judge.specs.Judging.{Judged, fine, judged_rank, record_right, shape_of, fault_of, is_fault, fault_at}
use Rattle.engine.specs.Calls.{After, lines, answer_of, event_after, event_answer}
use Rattle.engine.proofs.Numbers.{event_exactly}
use Rattle.demands.specs.Demands.{FaultAt}

first_wrong_lem : (s : Shape) (words : List ℕ) (i : ℕ) → first_fault s words ≡ Some i → First (word_right s words) 0 (length words) i
unfolding first_fault
first_wrong_lem s words i e =
    ⊎_elim (λ h. let no : None ≡ Some i = sym h.0 ∙ e in let z : ◌≡◌ {A = ℕ} 0 1 = cc in absurd (omega (arith, z)))
    (λ h. let same : Some h.place ≡ Some i = sym h.is ∙ e in let x : h.place ≡ i = cc in rw (sym x) h.first)
    (decided Some None (word_right s words) (length words) 0)

fault_at_lem : (r : Record) (n k : ℕ) (work : List ℕ) (i : ℕ) → fault_of r n k work ≡ Some i → FaultAt r n k work i
fault_at_lem r n k work i e = go (record_right r) refl e
  where
    go : (b : Bool) → record_right r ≡ b → cond b (first_fault (shape_of r n k) work) (Some (length work)) ≡ Some i → FaultAt r n k work i
    go true h q = inr (h, first_wrong_lem (shape_of r n k) work i q)
    go false h q = inl (h, cc)

-- A fault that is there is at its place.
at_place : (p : Option ℕ) → is_fault p ≡ true → p ≡ Some (fault_at p)
at_place None e = absurd (true≢false (sym e))
at_place (Some i) e = refl

-- An answer that refuses comes from a judgement that does, by the same reason.
pub by_judgement : (j : Judged) (r : Record) (after : After) (reason : Refusal) → (answer_of j r after).outcome ≡ Err reason → j ≡ Err reason
by_judgement (Ok done) r after reason e = let z : ◌≡◌ {A = ℕ} 0 1 = cc in absurd (omega (arith, z))
by_judgement (Err other) r after reason e = let same : other ≡ reason = cc in ap Err same

pub place_is :
    (f : List ℕ) (r : Record) (work reports : List ℕ) (byte i : ℕ) →
    (event_answer f r work reports byte).outcome ≡ Err (why.Order i) → FaultAt r (table_of f).states (table_of f).labels work i
place_is f r work reports byte i e =
    let first = (event_exactly f r work reports byte 6 (omega arith)).0 (ap outcome_rank e) in
    let p : Option ℕ = fault_of r (table_of f).states (table_of f).labels work in
    let told : Err (why.Order (fault_at p)) ≡ Err (why.Order i) =
    sym (first_gives judged_rank fine (lines f r work (length reports) (meaning_of byte)) 6 first) ∙ by_judgement _ r (event_after f r work byte) (why.Order i) e in
    let same : fault_at p ≡ i = cc in
    fault_at_lem r (table_of f).states (table_of f).labels work i (at_place p first.applies ∙ ap Some same)
