-- Each number of the table of refusals is given to some call, and some call is taken: no line of refusals is idle. Assumes nothing.
use mathlib.Core.List.{List, [], ◌∷◌, ◌++◌}
use mathlib.Core.Path.{◌≡◌, refl}
use Prim.Native.Nat.{ℕ}
use Rattle.meaning.specs.Masks.{added, within}
use Rattle.meaning.specs.Search.{searched}
use Rattle.order.specs.Order.{first_fault}
use Rattle.answers.specs.Answers.{checked}
use Rattle.cases.specs.Tables.{table_w}
use Rattle.cases.specs.EachNumber.{numbers_given}

abbrev Gives : List ℕ → Type 0
Gives w = numbers_given w ≡ checked ++ (0 ∷ [])

pub each_number : Gives table_w
unfolding added within searched first_fault
each_number = refl
