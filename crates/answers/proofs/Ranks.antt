-- A refusal's number is the one that stands at its rank in the order of checking. Assumes nothing.
use Rattle.std.specs.Prelude.{Ok, Err}
use mathlib.Core.Path.{◌≡◌, refl}
use mathlib.Core.List.{◌∷◌}
use lib.ListN.{get_or}
use Rattle.table.specs.declared.Refusal.TheVariants as file
use Rattle.answers.specs.declared.Refusal.{Refusal}
use Rattle.answers.specs.declared.Refusal.TheVariants as why
use Rattle.answers.specs.Answers.{Outcome, refusal_number, refusal_rank, checked, outcome_number, outcome_rank}

pub number_at_rank : (w : Refusal) → refusal_number w ≡ get_or (0 ∷ checked) (refusal_rank w) 0
number_at_rank (why.Table file.Short) = refl
number_at_rank (why.Table file.Header) = refl
number_at_rank (why.Table (file.Contents entry x)) = refl
number_at_rank (why.Table file.Length) = refl
number_at_rank (why.Table (file.Body body byte)) = refl
number_at_rank why.Sizes = refl
number_at_rank (why.Order place) = refl
number_at_rank why.Finished = refl
number_at_rank why.Unknown = refl
number_at_rank why.Label = refl
number_at_rank why.NothingOpen = refl
number_at_rank why.ClosingLabel = refl
number_at_rank why.TooDeep = refl
number_at_rank why.LevelOpen = refl
number_at_rank why.Positions = refl
number_at_rank why.Rows = refl

-- So it is with what a call answers; 0 is before them all.
pub outcome_at_rank : (o : Outcome) → outcome_number o ≡ get_or (0 ∷ checked) (outcome_rank o) 0
outcome_at_rank (Ok reports) = refl
outcome_at_rank (Err w) = number_at_rank w
