-- `step_rows` meets its contract. Assumes nothing.
use mathlib.Core.Path.{◌≡◌, sym, ap, ◌∙◌}
use mathlib.Core.List.{List, ◌++◌}
use Prim.Native.Nat.{ℕ, ◌+◌, ◌*◌, ◌≤◌}
use native.Mathlib.Nat.{add-sub_cancel_left}
use native.Mathlib.Omega.{arith}
use lib.ListN.{length, drop}
use Rattle.places.specs.Memory.{helds_in, row_words}
use Rattle.rows.specs.Steps.{on_row}
use Rattle.rows.specs.Rules.{states_by, step_by}
use Rattle.places.proofs.Rows.{each_map, row_fits, part_length}
use Rattle.memory.proofs.Turns.{stepped_rest, stepped_next, row_in_lem}
use Rattle.memory.proofs.step_rows.Goals as goal

-- A row that is still to step stands as it stood.
still : (c : goal.After-step_row-arg-1) → drop (c.loop-r.r * c.args.w) c.loop-r.words ≡ drop (c.loop-r.r * c.args.w) c.args.words.now
still c = stepped_rest _ _ _ _ _ c.loop-r.words c.loop-r.r c.loop-r.invariant

pub step_row-requires-clause-row_in : goal.step_row-requires-clause-row_in
step_row-requires-clause-row_in c =
    let a = c.args in
    let l = c.loop-r in
    rw (add-sub_cancel_left (l.r * a.w) a.w) (row_in_lem (states_by a.rule.now) a.w a.d a.n l.r l.words a.words.now c.requires.rows_in c.loop-r-test.true (still c))

pub loop-r-preserved : goal.loop-r-preserved
loop-r-preserved c =
    let a = c.args in
    let l = c.loop-r in
    let g = c.step_row in
    let inside : l.r * a.w + a.w ≤ length l.words = row_fits a.n _ _ _ (omega arith) (omega (arith, l.invariant.len, c.requires.rows_in.fits)) in
    let k = add-sub_cancel_left (l.r * a.w) a.w in
    let size = part_length l.words (l.r * a.w) a.w inside in
    let long = (rw k at g.auto.row) ∙ size in
    let rest = stepped_rest _ _ _ _ _ l.words l.r l.invariant in
    let told = rw (k, size, rest) at g.ensures in
    rw k (stepped_next _ a.w a.d a.n a.words.now l.words l.r l.invariant c.loop-r-test.true inside g.new.row told long)

pub returns : goal.returns
returns c =
    let a = c.args in
    let l = c.loop-r in
    let q : l.r ≡ a.n = omega arith in
    rw q at l.invariant.front
    ∙ ap (λ (xs : List ℕ). xs ++ drop (a.n * a.w) a.words.now) (sym (each_map (row_words a.w) (on_row (step_by a.rule.now)) (helds_in a.w a.d a.n a.words.now)))
