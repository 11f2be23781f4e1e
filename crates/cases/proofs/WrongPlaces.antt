-- The refusal of a damaged table names the first wrong place, at a start and at an event. Assumes nothing.
use mathlib.Core.List.{List, map}
use mathlib.Core.Path.{◌≡◌, refl}
use Prim.Native.Nat.{ℕ}
use Rattle.meaning.specs.Search.{searched}
use Rattle.cases.specs.Tables.{table_w}
use Rattle.cases.specs.WrongPlaces.{Damage, damages, at_start, at_event}

abbrev Named : List ℕ → Type 0
Named w =
    (map at_start (damages w) ≡ map (λ (d : Damage). d.refused) (damages w))
    × (map (at_event w) (damages w) ≡ map (λ (d : Damage). d.refused) (damages w))

pub wrong_places : Named table_w
unfolding searched
wrong_places = (refl, refl)
