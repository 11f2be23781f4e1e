-- `open_row` meets its contract. Assumes nothing.
use Rattle.bodies.specs.Automaton.{automaton}
use Rattle.rows.proofs.Laws.{open_words_lem}
use Rattle.rows.proofs.open_row.Goals as goal

pub returns : goal.returns
returns c =
    open_words_lem (automaton c.args.table.now) _ _ _ c.requires.row_in c.args.accs.now _ c.requires.a_bound.1 _ _ _ _ _ _ _ _ _
    c.state_at.ensures
    c.selecting_at.ensures
    c.rejecting_at.ensures
    c.state_at-2.ensures
    c.selecting_at-2.ensures
    c.rejecting_at-2.ensures
    c.opening.ensures
    c.down-selecting.ensures
    c.down-rejecting.ensures
