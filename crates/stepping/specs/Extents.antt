-- What stepping says of an extent and of a rule, by its definitions. Definitions only.
use Rattle.std.specs.Prelude.{List, ℕ}
use Rattle.bodies.specs.Automaton.{automaton}
use Rattle.places.specs.Memory.{Memory, memory_in}
use Rattle.rows.specs.declared.Rule.{Rule}
use Rattle.rows.specs.Steps.{event_of}
use Rattle.stepping.specs.declared.Extent.{Extent}
use Rattle.stepping.specs.Stepping.{Stands, Counted, step_memory}

-- Words that are the rows' words of a work memory of that extent, its states below n.
abbrev pub StandsIn : ℕ → Extent → List ℕ → Type 0
StandsIn n e words = Stands n e.rows e.allowed e.depth e.alive words

-- The rows that such words stand for.
abbrev pub memory_at : Extent → List ℕ → Memory
memory_at e words = memory_in e.allowed e.depth e.alive words

-- Another position can be numbered, where the rule's event has one.
abbrev pub CountedBy : Rule → ℕ → Type 0
CountedBy r p = Counted (event_of r.step) p

-- Each row by the rule, and the new row; p positions were read before.
abbrev pub stepped_by : Rule → ℕ → Memory → Memory
stepped_by r p m = step_memory (automaton r.table) r.accs.now (event_of r.step) p m
