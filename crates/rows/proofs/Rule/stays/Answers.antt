-- `stays` meets its contract. Assumes nothing.
use mathlib.Core.Path.{◌∙◌}
use lib.ListN.{length}
use Rattle.bodies.specs.Automaton.{automaton}
use Rattle.rows.proofs.Laws.{can_as, close_sets}
use Rattle.rows.proofs.Rule.stays.Goals as goal

pub returns-in-Close : goal.returns-in-Close
returns-in-Close c =
    rw c.in-Close.is
    (c.is_neither-in-Close.ensures
    ∙ close_sets (automaton c.args.self.now.table) c.args.row.now c.args.d (can_as (automaton c.args.self.now.table) (length c.args.row.now) c.args.d c.in-Close.is c.requires.can) c.args.s)
