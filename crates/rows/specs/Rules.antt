-- A row's step by a rule: the table, its sets acc and the event in one. Definitions only.
use Rattle.std.specs.Prelude.{ℕ}
use Rattle.meaning.specs.Rows.{Row}
use Rattle.bodies.specs.Automaton.{automaton}
use Rattle.rows.specs.declared.Rule.{Rule}
use Rattle.rows.specs.Steps.{event_of, Can, step_row}

-- How many states the rule's table has.
abbrev pub states_by : Rule → ℕ
states_by r = (automaton r.table).states

-- A row of w words with newest level d can take the rule's event.
abbrev pub CanBy : Rule → ℕ → ℕ → Type 0
CanBy r w d = Can (automaton r.table) w d (event_of r.step)

abbrev pub step_by : Rule → Row → Row
step_by r = step_row (automaton r.table) r.accs.now (event_of r.step)
