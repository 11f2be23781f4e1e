-- Damaged copies of a table like W, of 76 bytes, and what a start and an event answer for each: the number, then the entry
-- or body, then the field or byte. Definitions only.
use Rattle.std.specs.Prelude.{List, [], ◌∷◌, ℕ, set}
use Rattle.answers.specs.Answers.{Outcome, outcome_number, outcome_place}
use Rattle.engine.specs.Calls.{start_answer}
use Rattle.demands.specs.Watching.{begun, outcome_of}
use Rattle.cases.specs.Cases.{before, calling}

abbrev pub answers : Outcome → List ℕ
answers o = outcome_number o ∷ (outcome_place o).part ∷ (outcome_place o).inside ∷ []

-- A file, and what it is to be refused by.
pub record Damage : Type 0 where
  pub file : List ℕ
  pub refused : List ℕ

-- A byte of the table is another, or two are.
abbrev pub damages : List ℕ → List Damage
damages w =
    record { file = set w 9 3; refused = 3 ∷ 2 ∷ 0 ∷ [] }
    ∷ record { file = set w 10 32; refused = 3 ∷ 2 ∷ 1 ∷ [] }
    ∷ record { file = set w 11 1; refused = 3 ∷ 2 ∷ 1 ∷ [] }
    ∷ record { file = set w 13 1; refused = 3 ∷ 2 ∷ 2 ∷ [] }
    ∷ record { file = set (set w 12 11) 10 32; refused = 3 ∷ 2 ∷ 1 ∷ [] }
    ∷ record { file = set (set w 24 6) 8 1; refused = 3 ∷ 1 ∷ 2 ∷ [] }
    ∷ record { file = set w 29 5; refused = 5 ∷ 1 ∷ 0 ∷ [] }
    ∷ record { file = set w 53 5; refused = 5 ∷ 4 ∷ 7 ∷ [] }
    ∷ record { file = set (set w 75 2) 53 5; refused = 5 ∷ 4 ∷ 7 ∷ [] }
    ∷ record { file = set w 75 2; refused = 5 ∷ 5 ∷ 4 ∷ [] }
    ∷ record { file = set (set w 53 5) 28 1; refused = 3 ∷ 5 ∷ 2 ∷ [] }
    ∷ []

abbrev pub at_start : Damage → List ℕ
at_start d = answers (start_answer d.file 1 1 (before 1 1)).outcome

-- An event of a watch that was started over the table as it was.
abbrev pub at_event : List ℕ → Damage → List ℕ
at_event w d = answers (outcome_of d.file (begun w 1 1 (before 1 1)) (calling 1 0))
