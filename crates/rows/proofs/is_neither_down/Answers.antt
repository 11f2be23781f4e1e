-- `is_neither_down` meets its contract. Assumes nothing.
use native.Mathlib.Omega.{arith}
use Rattle.bodies.specs.Automaton.{automaton}
use Rattle.rows.proofs.Laws.{state_in, down_holds, neither_both, neither_first}
use mathlib.Core.Path.{ap}
use mathlib.Core.Bool.{not}
use Rattle.rows.proofs.is_neither_down.Goals as goal

pub in_down-requires-then-not-in_down : goal.in_down-requires-then-not-in_down
in_down-requires-then-not-in_down c =
    omega (arith, state_in _ _ _ c.requires.row_in _ _ c.state_at.ensures (omega arith))

pub returns-then-not-in_down : goal.returns-then-not-in_down
returns-then-not-in_down c =
    let a = c.acc_of-acc in
    let holds = down_holds (automaton c.args.table.now) c.args.table.now.sound.formed.few_states c.args.accs.now c.args.row.now c.args.s c.requires.s_bound _ _ _ a.ensures a.type_inv c.state_at.ensures in
    neither_both (holds _ _ _ c.selecting_at.ensures c.in_down.ensures) (holds _ _ _ c.rejecting_at.ensures c.in_down-then-not-in_down.ensures) (ap not c.if-not-in_down.true)

pub returns-else-not-in_down : goal.returns-else-not-in_down
returns-else-not-in_down c =
    let a = c.acc_of-acc in
    let holds = down_holds (automaton c.args.table.now) c.args.table.now.sound.formed.few_states c.args.accs.now c.args.row.now c.args.s c.requires.s_bound _ _ _ a.ensures a.type_inv c.state_at.ensures in
    neither_first (holds _ _ _ c.selecting_at.ensures c.in_down.ensures) _ (ap not c.if-not-in_down.false)
