-- `report_end` meets its contract.
use mathlib.Core.Path.{sym, ◌∙◌}
use Rattle.bodies.specs.Automaton.{automaton}
use Rattle.places.specs.Memory.{held_in}
use Rattle.reports.proofs.Puts.{put_final, put_other}
use Rattle.reports.proofs.report_end.Goals as goal

pub returns-then-selected : goal.returns-then-selected
returns-then-selected c =
    let e = sym (rw c.state_at.ensures at c.is_final-selected.ensures) ∙ c.if-selected.true in
    put_final (automaton c.args.table.now) (held_in 0 c.args.row.now) c.args.at c.args.reports.now c.requires.position_at_bound.1 e

pub returns-else-selected : goal.returns-else-selected
returns-else-selected c =
    let e = sym (rw c.state_at.ensures at c.is_final-selected.ensures) ∙ c.if-selected.false in
    put_other (automaton c.args.table.now) (held_in 0 c.args.row.now) c.args.at c.args.reports.now c.requires.position_at_bound.1 e
