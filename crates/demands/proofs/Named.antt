-- Refusals 3 and 5, of an event and of a start, carry the first wrong place in file order. Assumes nothing.
use Rattle.std.specs.Prelude.{Err}
use mathlib.Core.List.{List, ◌++◌}
use mathlib.Core.Path.{◌≡◌, refl, sym, ap, subst, ◌∙◌}
use Prim.Native.Nat.{ℕ, ◌+◌, ◌<◌}
use native.Mathlib.Omega.{arith}
use borrow.Author.Tests.{not-true}
use Rattle.meaning.specs.Refusals.{Line, FirstAt, first_of}
use Rattle.meaning.proofs.Refusals.{first_gives}
use Rattle.table.specs.declared.Refusal as file
use Rattle.table.specs.declared.Refusal.TheVariants.{Short, Header, Contents, Length, Body}
use Rattle.table.specs.File.{by_contents, by_bodies}
use Rattle.table.specs.Named.{Named}
use Rattle.table.proofs.Named.{contents_named, bodies_named}
use Rattle.answers.specs.declared.Record.{Record}
use Rattle.answers.specs.declared.Refusal.TheVariants as why
use Rattle.answers.specs.Record.{no_record}
use Rattle.answers.specs.Answers.{outcome_rank}
use Rattle.judge.specs.Judging.{Judged, fine, judged_rank, table_lines}
use Rattle.engine.specs.Calls.{event_after, event_answer, start_after, start_answer}
use Rattle.engine.proofs.Numbers.{event_exactly, start_exactly}
use Rattle.demands.proofs.FirstWrong.{by_judgement}

-- Lines of which the table's come first, and of which each rank is given only where its line is the first that applies.
table_named :
    (f : List ℕ) (rest : List (Line Judged)) (w : file.Refusal) → first_of (table_lines f ++ rest) fine ≡ Err (why.Table w) →
    ((i : ℕ) → i < 6 → judged_rank (Err (why.Table w)) ≡ i + 1 → FirstAt (table_lines f ++ rest) i) → Named f w
table_named f rest Short e first = tt
table_named f rest Header e first = tt
table_named f rest (Contents entry x) e first =
    let h = first 2 (omega arith) refl in
    let told : Err (why.Table (by_contents f)) ≡ Err (why.Table (Contents entry x)) = sym (first_gives judged_rank fine (table_lines f ++ rest) 2 h) ∙ e in
    let same : by_contents f ≡ Contents entry x = cc in
    subst (Named f) same (contents_named f (not-true _ h.applies))
table_named f rest Length e first = tt
table_named f rest (Body body byte) e first =
    let h = first 4 (omega arith) refl in
    let told : Err (why.Table (by_bodies f)) ≡ Err (why.Table (Body body byte)) = sym (first_gives judged_rank fine (table_lines f ++ rest) 4 h) ∙ e in
    let same : by_bodies f ≡ Body body byte = cc in
    subst (Named f) same (bodies_named f (not-true _ h.applies))

pub event_named :
    (f : List ℕ) (r : Record) (work reports : List ℕ) (byte : ℕ) (w : file.Refusal) →
    (event_answer f r work reports byte).outcome ≡ Err (why.Table w) → Named f w
event_named f r work reports byte w e =
    table_named f _ w (by_judgement _ r (event_after f r work byte) (why.Table w) e)
    (λ i l q. (event_exactly f r work reports byte i (omega arith)).0 (ap outcome_rank e ∙ q))

pub start_named :
    (f : List ℕ) (rows depth : ℕ) (work : List ℕ) (w : file.Refusal) →
    (start_answer f rows depth work).outcome ≡ Err (why.Table w) → Named f w
start_named f rows depth work w e =
    table_named f _ w (by_judgement _ no_record (start_after f rows depth) (why.Table w) e)
    (λ i l q. (start_exactly f rows depth work i l).0 (ap outcome_rank e ∙ q))
