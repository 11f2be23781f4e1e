-- `point_row` meets its contract. Assumes nothing.
use Rattle.bodies.specs.Automaton.{automaton}
use Rattle.rows.proofs.Laws.{point_words}
use Rattle.rows.proofs.point_row.Goals as goal

pub returns : goal.returns
returns c =
    point_words (automaton c.args.table.now) _ _ _ c.requires.row_in _ _ _ c.state_at-at.ensures c.point.ensures
