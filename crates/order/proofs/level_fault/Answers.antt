-- `level_fault` meets its contract. Each call of `cell_right` is one turn of the search.
use native.Mathlib.Omega.{arith}
use Rattle.order.proofs.Levels.{state_wrong, selecting_wrong, rejecting_wrong, level_right}
use Rattle.order.proofs.level_fault.Goals as goal

pub returns-then-not-cell_right : goal.returns-then-not-cell_right
returns-then-not-cell_right c =
    state_wrong c.args.s c.args.words.now _ c.args.r c.args.l c.row_length.ensures c.requires.2 (omega arith)
    c.state_at-at.ensures c.cell_right.ensures (c.if-not-cell_right.true)

pub returns-then-not-cell_right-2 : goal.returns-then-not-cell_right-2
returns-then-not-cell_right-2 c =
    selecting_wrong c.args.s c.args.words.now _ c.args.r c.args.l c.row_length.ensures c.requires.2 (omega arith)
    c.state_at-at.ensures c.cell_right.ensures (c.if-not-cell_right.false)
    c.selecting_at-at.ensures c.cell_right-2.ensures (c.if-not-cell_right-2.true)

pub returns-then-not-cell_right-3 : goal.returns-then-not-cell_right-3
returns-then-not-cell_right-3 c =
    rejecting_wrong c.args.s c.args.words.now _ c.args.r c.args.l c.row_length.ensures c.requires.2 (omega arith)
    c.state_at-at.ensures c.cell_right.ensures (c.if-not-cell_right.false)
    c.selecting_at-at.ensures c.cell_right-2.ensures (c.if-not-cell_right-2.false)
    c.rejecting_at-at.ensures c.cell_right-3.ensures (c.if-not-cell_right-3.true)

pub returns : goal.returns
returns c =
    level_right c.args.s c.args.words.now _ c.args.r c.args.l c.row_length.ensures c.requires.2 (omega arith)
    c.state_at-at.ensures c.cell_right.ensures (c.if-not-cell_right.false)
    c.selecting_at-at.ensures c.cell_right-2.ensures (c.if-not-cell_right-2.false)
    c.rejecting_at-at.ensures c.cell_right-3.ensures (c.if-not-cell_right-3.false)
