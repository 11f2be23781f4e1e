-- Bytes fed with room, in the terms of what feeding answers. Definitions only.
use Rattle.std.specs.Prelude.{cond, List, [], ℕ, length, Option, Some, None, Result, Ok, Err}
use Rattle.grammar.specs.declared.Fault.{Fault}
use Rattle.grammar.specs.Feeding.{Step, Roomed, roomed, feed}
use Rattle.grammar.specs.Feeding as feeding
use Rattle.tags.specs.declared.feeding.Fed.{Fed}

-- One byte, with room for so many bytes of what it gives.
abbrev pub step_in : {A : Type 0} → (A → ℕ → Step A) → A → ℕ → ℕ → Step (Roomed A)
step_in step a room b = roomed step (record { inner = a; left = room }) b

-- A piece, with room.
abbrev pub feed_in : {A : Type 0} → (A → ℕ → Step A) → A → ℕ → List ℕ → feeding.Fed (Roomed A)
feed_in step a room piece = feed (roomed step) (record { inner = a; left = room }) piece

-- The answer: how many bytes a byte gives; of one at fault only the fault.
abbrev pub told_by : Option Fault → ℕ → Result ℕ Fault
told_by None given = Ok given
told_by (Some f) given = Err f

abbrev pub told_of : {A : Type 0} → Step (Roomed A) → Result ℕ Fault
told_of x = told_by x.stops (length x.gives)

-- Where a byte leads: one at fault nowhere.
abbrev pub next_of : {A : Type 0} → A → Step (Roomed A) → A
next_of a x = cond (feeding.goes_on x.stops) x.next.inner a

-- What is written of what a byte gives: nothing, where it is at fault.
abbrev pub written_of : {A : Type 0} → Step (Roomed A) → List ℕ
written_of x = cond (feeding.goes_on x.stops) x.gives []

abbrev pub fed_of : {A : Type 0} → feeding.Fed (Roomed A) → Fed A
fed_of f = record { next = f.state.inner; taken = f.taken; given = length f.gives; stop = f.stops }
