-- What holds at each turn of the loops of `rows_fault`.
use Rattle.std.specs.Prelude.{Option, None, Some}
use mathlib.Core.Path.{◌≡◌}
use mathlib.Core.List.{List}
use Prim.Native.Nat.{ℕ, ◌+◌, ◌≤◌}
use Rattle.meaning.proofs.Search.{Rest}
use Rattle.places.specs.Places.{row_at}
use Rattle.order.specs.declared.Shape.{Shape}
use Rattle.order.specs.Order.{word_right, labels_from}
use Rattle.order.proofs.Levels.{level_place}

pub record AtRow (s : Shape) (words : List ℕ) (place : Option ℕ) (r : ℕ) : Type 0 where
  pub most : r ≤ s.rows
  pub none : place ≡ None
  pub rest : Rest Some None (word_right s words) (labels_from s) (row_at s.allowed r)

pub record InRow (s : Shape) (words : List ℕ) (place : Option ℕ) (r l : ℕ) : Type 0 where
  pub most : l ≤ s.allowed + 1
  pub none : place ≡ None
  pub rest : Rest Some None (word_right s words) (labels_from s) (level_place s r l)
