-- `end` meets its contract: the rows' words are cleared, and no level is open.
use mathlib.Core.Path.{◌≡◌, sym, ap, ap₂, ◌∙◌, subst}
use mathlib.Core.List.{List, ◌++◌}
use Prim.Native.Nat.{ℕ, ◌+◌}
use native.Mathlib.Omega.{arith}
use native.Mathlib.Nat.{sub-zero}
use borrow.Author.Tests.{le-ltb}
use lib.ListN.{length, take, drop, replicate, length-drop, replicate-append-replicate}
use Rattle.bodies.specs.Automaton.{automaton}
use Rattle.meaning.specs.Lent.{on_front}
use Rattle.places.specs.Places.{row_length, rows_length, rows_part, labels_part}
use Rattle.places.specs.Memory.{memory_in, RowsIn, LabelsIn}
use Rattle.places.proofs.Good.{rows_later, helds_length}
use Rattle.reports.specs.Reports.{end_reports}
use Rattle.stepping.proofs.Whole.{start_room}
use Rattle.answers.specs.declared.Record.{Record}
use Rattle.answers.specs.Answers.{taken_of}
use Rattle.engine.specs.Calls.{Ready, memory_of, ended}
use Rattle.engine.proofs.Taking.{ends_length, room_taken}
use Rattle.engine.proofs.end.Goals as goal

-- Cleared rows' words, and labels' words of no open level: every word is 0.
all-zero : (n k m : ℕ) (r : Record) (work : List ℕ) → Ready n r work → r.depth ≡ 0 → k ≡ rows_length r.rows r.allowed → m ≡ rows_length r.rows r.allowed
    → replicate m 0 ++ drop k work ≡ replicate (length work) 0
all-zero n k m r work ready closed e f =
    let labels : List ℕ = labels_part r.rows r.allowed work in
    let none : LabelsIn 0 labels = subst (λ (d : ℕ). LabelsIn d labels) closed ready.labels in
    let sum : rows_length r.rows r.allowed + length labels ≡ length work =
    omega (arith, ready.size, length-drop (rows_length r.rows r.allowed) work) in
    ap₂ (λ (i j : ℕ). replicate i 0 ++ drop j work) f e
    ∙ ap (λ (xs : List ℕ). replicate (rows_length r.rows r.allowed) 0 ++ xs) (none.same ∙ ap (λ (i : ℕ). replicate i 0) (sub-zero (length labels)))
    ∙ replicate-append-replicate (rows_length r.rows r.allowed) (length labels) 0
    ∙ ap (λ (i : ℕ). replicate i 0) sum

-- The rows' words are lent.
rows_lent : {n : ℕ} (r : Record) (work : List ℕ) → n ≡ rows_length r.rows r.allowed → take n work ≡ rows_part r.rows r.allowed work
rows_lent r work e = ap (λ (k : ℕ). take k work) e

pub slice_bounds-take_end-end-2 : goal.slice_bounds-take_end-end-2
slice_bounds-take_end-end-2 c =
    c.rows_length-n.ensures ∙ sym c.requires.ready.rows.size ∙ sym (ap length (rows_lent c.args.r c.args.work.now c.rows_length-n.ensures))

pub take_end-requires : goal.take_end-requires
take_end-requires c =
    let a = c.args in
    let s = c.requires.ready.rows in
    let n = (automaton a.table.now).states in
    let part : List ℕ = rows_part a.r.rows a.r.allowed a.work.now in
    let w : ℕ = row_length a.r.allowed in
    rw (rows_lent a.r a.work.now c.rows_length-n.ensures)
    record {
      depth_bound = (s.few_levels, omega (arith, s.room, s.few_rows), omega (arith, s.room, c.requires.depth_value.1), omega (arith, s.size, start_room a.r.rows a.r.allowed));
      rows_in = subst (λ d. RowsIn n w d a.r.alive (drop w part)) c.requires.depth_value.0 (rows_later n w a.r.depth a.r.alive part s.rows_in);
      by_index = s.positions;
    }

pub returns : goal.returns
returns c =
    let a = c.args in
    let t = automaton a.table.now in
    let rows = rows_lent a.r a.work.now c.rows_length-n.ensures in
    let part : List ℕ = rows_part a.r.rows a.r.allowed a.work.now in
    let zero = c.requires.depth_value.0 in
    let told = room_taken a.r (ended t a.r a.work.now) (le-ltb a.r.rows 0 (omega arith)) a.work.now a.reports.now in
    let g = c.take_end.ensures in
    let count = sym (ends_length t (memory_of a.r a.work.now).alive ∙ helds_length (row_length a.r.allowed) a.r.depth a.r.alive (drop (row_length a.r.allowed) part)) in
    let long : length (take c.rows_length-n.result a.work.now) ≡ rows_length a.r.rows a.r.allowed = ap length rows ∙ c.requires.ready.rows.size in
    record {
      value = c.taken.ensures ∙ ap₂ taken_of c.finish.ensures count ∙ told.0;
      work_after = ap (λ (xs : List ℕ). xs ++ drop c.rows_length-n.result a.work.now) g.work_after ∙ all-zero t.states _ _ a.r a.work.now c.requires.ready zero c.rows_length-n.ensures long ∙ told.1;
      reports_after = (rw rows at g.reports_after) ∙ ap (λ d. on_front (end_reports t (memory_in a.r.allowed d a.r.alive part).alive) a.reports.now) (sym zero) ∙ told.2;
    }
