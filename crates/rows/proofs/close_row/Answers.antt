-- `close_row` meets its contract. Assumes nothing.
use Rattle.bodies.specs.Automaton.{automaton}
use Rattle.rows.proofs.Laws.{close_words}
use Rattle.rows.proofs.close_row.Goals as goal

pub returns : goal.returns
returns c =
    close_words (automaton c.args.table.now) _ _ c.requires.row_in.same c.requires.row_in.deep c.requires.d_nonzero _ _ _ _ _
    c.state_at-from.ensures
    c.state_at-at.ensures
    c.selecting_at.ensures
    c.rejecting_at.ensures
    c.apply.ensures
