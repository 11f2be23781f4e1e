-- `mark_row` meets its contract. Assumes nothing.
use Rattle.bodies.specs.Automaton.{automaton}
use Rattle.rows.proofs.Laws.{mark_words}
use Rattle.rows.proofs.mark_row.Goals as goal

pub returns : goal.returns
returns c =
    mark_words (automaton c.args.table.now) _ _ _ c.requires _ _ _ c.state_at-at.ensures c.mark.ensures
