-- What holds at each turn of the loops of `labels_fault`.
use Rattle.std.specs.Prelude.{None, Some}
use mathlib.Core.Path.{◌≡◌}
use mathlib.Core.List.{List}
use Prim.Native.Nat.{ℕ, ◌+◌, ◌≤◌}
use Rattle.meaning.proofs.Search.{Rest}
use Rattle.order.specs.declared.Shape.{Shape}
use Rattle.order.specs.Order.{labels_from, word_right}

-- The places that are searched.
abbrev pub all : Shape → ℕ
all s = labels_from s + s.allowed

pub record AtLabel (s : Shape) (words : List ℕ) (from i : ℕ) : Type 0 where
  pub most : i ≤ s.allowed
  pub begins : from ≡ labels_from s
  pub rest : Rest Some None (word_right s words) (all s) (labels_from s + i)
