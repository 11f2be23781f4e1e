-- `start` meets its contract: the labels' words are cleared, then the rows' words made ready. Assumes nothing.
use mathlib.Core.Path.{◌≡◌, sym, ap, ap₂, ◌∙◌}
use mathlib.Core.List.{List, ◌++◌}
use Prim.Native.Nat.{ℕ, ◌-◌, ◌≤◌}
use native.Mathlib.Omega.{arith}
use borrow.Author.Rules.{rules}
use borrow.Rule.Slice.PartMut.{put_mid, take_put}
use lib.ListN.{length, take, drop, replicate, length-drop}
use lib.Seq.{length-take-le}
use Rattle.places.specs.Places.{rows_length}
use Rattle.judge.proofs.Passed.{StartPassed}
use Rattle.engine.proofs.Parts.{whole_rest, rest_after}
use Rattle.engine.proofs.Starting.{refused_start, taken_start, passed_start}
use Rattle.engine.proofs.start.Goals as goal

pub returns-in-Err : goal.returns-in-Err
returns-in-Err c =
    let a = c.args in
    let g = refused_start a.table.now a.rows a.depth a.work.now _ c.judge_start.ensures _ c.in-Err.is in
    record { value = c.refused.ensures ∙ rw c.none.ensures g.0; work_after = g.1 }

-- The labels' words begin within work memory.
module _ {f : List ℕ} (work : List ℕ) {rows depth : ℕ} (passed : StartPassed f rows depth (length work)) {n : ℕ} (from : n ≡ rows_length rows depth) where
  inside : n ≤ length work
  inside = omega (arith, from, passed.size_is)

  -- The rows' words are as they were once the labels' are written.
  rows_long : (labels : List ℕ) → length (take n (put_mid n (length work - n) work labels)) ≡ n
  rows_long labels = ap length (take_put n (length work - n) work labels inside) ∙ length-take-le n work inside

  -- The labels' words, cleared.
  cleared : (labels : List ℕ) → labels ≡ replicate (length (take (length work - n) (drop n work))) 0 → drop n (put_mid n (length work - n) work labels) ≡ replicate (depth - 0) 0
  cleared labels e =
      let long : length (take (length work - n) (drop n work)) ≡ depth - 0 = ap length (whole_rest n work inside) ∙ length-drop n work ∙ omega (arith, passed.size_is, from) in
      rest_after n work inside labels ∙ e ∙ ap (λ (i : ℕ). replicate i 0) long

pub invariant_of-table : goal.invariant_of-table
invariant_of-table c =
    let a = c.args in
    record { sound = (passed_start a.table.now a.rows a.depth a.work.now _ c.judge_start.ensures c.in_default.is).sound }

pub rows_length-n-requires : goal.rows_length-n-requires
rows_length-n-requires c =
    let a = c.args in
    let p = passed_start a.table.now a.rows a.depth a.work.now _ c.judge_start.ensures c.in_default.is in
    (p.few_rows, p.few_levels)

pub offset_bounds-work-n : goal.offset_bounds-work-n
offset_bounds-work-n c =
    let a = c.args in
    let within = inside a.work.now (passed_start a.table.now a.rows a.depth a.work.now _ c.judge_start.ensures c.in_default.is) c.rows_length-n.ensures in
    search (rules, within)

pub slice_bounds-clear-count : goal.slice_bounds-clear-count
slice_bounds-clear-count c =
    let a = c.args in
    omega (arith, inside a.work.now (passed_start a.table.now a.rows a.depth a.work.now _ c.judge_start.ensures c.in_default.is) c.rows_length-n.ensures)

pub slice_bounds-clear-start : goal.slice_bounds-clear-start
slice_bounds-clear-start c =
    let a = c.args in
    omega (arith, inside a.work.now (passed_start a.table.now a.rows a.depth a.work.now _ c.judge_start.ensures c.in_default.is) c.rows_length-n.ensures)

pub slice_bounds-start_memory-end : goal.slice_bounds-start_memory-end
slice_bounds-start_memory-end c =
    let a = c.args in
    let within = inside a.work.now (passed_start a.table.now a.rows a.depth a.work.now _ c.judge_start.ensures c.in_default.is) c.rows_length-n.ensures in
    search (rules, within)

pub slice_bounds-start_memory-end-2 : goal.slice_bounds-start_memory-end-2
slice_bounds-start_memory-end-2 c =
    let a = c.args in
    sym (rows_long a.work.now (passed_start a.table.now a.rows a.depth a.work.now _ c.judge_start.ensures c.in_default.is) c.rows_length-n.ensures c.clear.new.words)

pub start_memory-requires-clause-rows_bound : goal.start_memory-requires-clause-rows_bound
start_memory-requires-clause-rows_bound c =
    let a = c.args in
    let p = passed_start a.table.now a.rows a.depth a.work.now _ c.judge_start.ensures c.in_default.is in
    (p.few_rows, p.few_levels, rows_long a.work.now p c.rows_length-n.ensures c.clear.new.words ∙ c.rows_length-n.ensures)

pub returns-clause-work_after : goal.returns-clause-work_after
returns-clause-work_after c =
    let a = c.args in
    let p = passed_start a.table.now a.rows a.depth a.work.now _ c.judge_start.ensures c.in_default.is in
    let g = taken_start a.table.now a.rows a.depth a.work.now _ c.judge_start.ensures c.in_default.is in
    ap₂ (λ (xs ys : List ℕ). xs ++ ys) c.start_memory.ensures (cleared a.work.now p c.rows_length-n.ensures c.clear.new.words c.clear.ensures) ∙ g.1
