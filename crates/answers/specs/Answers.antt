-- What a call answers, with the refusals' numbers, their order of checking and their places (01, and 02 from K2 on). Definitions only.
use Rattle.std.specs.Prelude.{List, [], ◌∷◌, ℕ, Result, Ok, Err}
use Rattle.table.specs.File as file
use Rattle.answers.specs.declared.Record.{Record}
use Rattle.answers.specs.declared.Answer.{Answer}
use Rattle.answers.specs.declared.Place.{Place}
use Rattle.answers.specs.declared.Refusal.{Refusal}
use Rattle.answers.specs.declared.Refusal.TheVariants as why

-- The refusals' numbers.
abbrev pub refusal_number : Refusal → ℕ
refusal_number (why.Table r) = file.refusal_number r
refusal_number why.Sizes = 6
refusal_number (why.Order place) = 7
refusal_number why.Finished = 8
refusal_number why.Unknown = 9
refusal_number why.Label = 10
refusal_number why.NothingOpen = 11
refusal_number why.ClosingLabel = 16
refusal_number why.TooDeep = 12
refusal_number why.LevelOpen = 13
refusal_number why.Positions = 14
refusal_number why.Rows = 15

-- Their order of checking: the refusal of rank 1 is judged first.
abbrev pub refusal_rank : Refusal → ℕ
refusal_rank (why.Table r) = file.refusal_number r
refusal_rank why.Sizes = 6
refusal_rank (why.Order place) = 7
refusal_rank why.Finished = 8
refusal_rank why.Unknown = 9
refusal_rank why.Label = 10
refusal_rank why.NothingOpen = 11
refusal_rank why.ClosingLabel = 12
refusal_rank why.TooDeep = 13
refusal_rank why.LevelOpen = 14
refusal_rank why.Positions = 15
refusal_rank why.Rows = 16

-- The numbers in that order.
abbrev pub checked : List ℕ
checked = 1 ∷ 2 ∷ 3 ∷ 4 ∷ 5 ∷ 6 ∷ 7 ∷ 8 ∷ 9 ∷ 10 ∷ 11 ∷ 16 ∷ 12 ∷ 13 ∷ 14 ∷ 15 ∷ []

-- What became of a call: taken, with the number of reports, or refused.
abbrev pub Outcome : Type 0
Outcome = Result ℕ Refusal

-- Both are 0 where the call was taken.
abbrev pub outcome_number : Outcome → ℕ
outcome_number (Ok reports) = 0
outcome_number (Err why) = refusal_number why

abbrev pub outcome_rank : Outcome → ℕ
outcome_rank (Ok reports) = 0
outcome_rank (Err why) = refusal_rank why

-- The place that a refusal names.
abbrev pub nowhere : Place
nowhere = record { word = 0; part = 0; inside = 0 }

abbrev pub place_of : Refusal → Place
place_of (why.Table r) = record { word = 0; part = file.refusal_part r; inside = file.refusal_inside r }
place_of why.Sizes = nowhere
place_of (why.Order place) = record { word = place; part = 0; inside = 0 }
place_of why.Finished = nowhere
place_of why.Unknown = nowhere
place_of why.Label = nowhere
place_of why.NothingOpen = nowhere
place_of why.ClosingLabel = nowhere
place_of why.TooDeep = nowhere
place_of why.LevelOpen = nowhere
place_of why.Positions = nowhere
place_of why.Rows = nowhere

abbrev pub outcome_place : Outcome → Place
outcome_place (Ok reports) = nowhere
outcome_place (Err why) = place_of why

abbrev pub refused_of : Record → Refusal → Answer
refused_of r why = record { next = r; outcome = Err why }

abbrev pub taken_of : Record → ℕ → Answer
taken_of r reports = record { next = r; outcome = Ok reports }
