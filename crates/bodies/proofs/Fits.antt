-- The states that a sound file names are below 64, so each has its bit in a mask.
use mathlib.Core.List.{List}
use mathlib.Core.Path.{◌≡◌}
use Prim.Native.Nat.{ℕ, ◌<◌}
use native.Mathlib.Omega.{arith}
use Rattle.meaning.specs.Table.{table_of}
use Rattle.bodies.specs.Sound.{Sound}

module _ (f : List ℕ) (s : Sound f) where
  pub state_fits : (q : ℕ) → q < (table_of f).states → q < 64
  state_fits q l = omega (arith, s.formed.few_states)

  pub opening_fits : (r a : ℕ) → r ≡ (table_of f).opening a → a < (table_of f).labels → r < 64
  opening_fits r a e l = omega (arith, s.formed.few_states, s.formed.opening_in a l, e)

  pub point_fits : (r q a : ℕ) → r ≡ (table_of f).point q a → q < (table_of f).states → a < (table_of f).labels → r < 64
  point_fits r q a e l m = omega (arith, s.formed.few_states, s.formed.point_in q a l m, e)

  pub apply_fits : (r q p : ℕ) → r ≡ (table_of f).apply q p → q < (table_of f).states → p < (table_of f).states → r < 64
  apply_fits r q p e l m = omega (arith, s.formed.few_states, s.formed.apply_in q p l m, e)
