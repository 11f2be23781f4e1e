-- The search through the three words of level l in row r, where the words have been tested one by one. Assumes nothing.
use Rattle.std.specs.Prelude.{Option, None, Some}
use mathlib.Core.Path.{◌≡◌, sym, ap, ◌∙◌}
use mathlib.Core.Bool.{Bool, true, false}
use mathlib.Core.List.{List}
use Prim.Native.Nat.{ℕ, ◌+◌, ◌*◌, ◌<◌, ◌≤◌}
use native.Mathlib.Omega.{arith}
use Rattle.meaning.specs.Search.{searched}
use Rattle.meaning.proofs.Search.{right_next, wrong_here}
use Rattle.places.specs.Places.{state_at, selecting_at, rejecting_at, row_length, row_at}
use Rattle.order.specs.declared.Shape.{Shape}
use Rattle.order.specs.Order.{cell_right, word_right, first_from}
use Rattle.order.proofs.Search.{at_cell}

abbrev pub level_place : Shape → ℕ → ℕ → ℕ
level_place s r l = row_at s.allowed r + state_at l

abbrev pub level_search : Shape → List ℕ → ℕ → ℕ → Option ℕ
level_search s words r l = first_from (word_right s words) (level_place s r l) 3

-- w is the length of a row as the code has it.
module _ (s : Shape) (words : List ℕ) (w r l : ℕ) (e : w ≡ row_length s.allowed) (m : r < s.rows) (h : l ≤ s.allowed) where
  -- What a test says of the word at its place.
  said : (i at : ℕ) (b : Bool) → i ≡ row_at s.allowed r + at → at ≤ rejecting_at l → b ≡ cell_right s words r at → word_right s words i ≡ b
  said i at b p q f = at_cell s words i r at p (omega arith) m ∙ sym f

  place : (i at : ℕ) → i ≡ row_at s.allowed r + at → Some (r * w + at) ≡ Some i
  place i at p = rw e (ap Some (sym p))

  -- The state's place, and what its test gave.
  module _ {at : ℕ} {b : Bool} (p : at ≡ state_at l) (q : b ≡ cell_right s words r at) where
    pub state_wrong : b ≡ false → Some (r * w + at) ≡ level_search s words r l
    state_wrong f =
        place _ at (omega arith) ∙ sym (wrong_here Some None (word_right s words) (level_place s r l) 2 (said _ at b (omega arith) (omega arith) q ∙ f))

    state_right : b ≡ true → level_search s words r l ≡ first_from (word_right s words) (level_place s r l + 1) 2
    state_right f = right_next Some None (word_right s words) _ 2 (said _ at b (omega arith) (omega arith) q ∙ f)

    -- The same of the selecting set.
    module _ (f : b ≡ true) {at2 : ℕ} {b2 : Bool} (p2 : at2 ≡ selecting_at l) (q2 : b2 ≡ cell_right s words r at2) where
      pub selecting_wrong : b2 ≡ false → Some (r * w + at2) ≡ level_search s words r l
      selecting_wrong g =
          place _ at2 (omega arith)
          ∙ sym (state_right f ∙ wrong_here Some None (word_right s words) (level_place s r l + 1) 1 (said _ at2 b2 (omega arith) (omega arith) q2 ∙ g))

      selecting_right : b2 ≡ true → level_search s words r l ≡ first_from (word_right s words) (level_place s r l + 1 + 1) 1
      selecting_right g = state_right f ∙ right_next Some None (word_right s words) _ 1 (said _ at2 b2 (omega arith) (omega arith) q2 ∙ g)

      -- The same of the rejecting set.
      module _ (g : b2 ≡ true) {at3 : ℕ} {b3 : Bool} (p3 : at3 ≡ rejecting_at l) (q3 : b3 ≡ cell_right s words r at3) where
        pub rejecting_wrong : b3 ≡ false → Some (r * w + at3) ≡ level_search s words r l
        rejecting_wrong i =
            place _ at3 (omega arith)
            ∙ sym (selecting_right g ∙ wrong_here Some None (word_right s words) (level_place s r l + 1 + 1) 0 (said _ at3 b3 (omega arith) (omega arith) q3 ∙ i))

        pub level_right : b3 ≡ true → None ≡ level_search s words r l
        unfolding searched
        level_right i = sym (selecting_right g ∙ right_next Some None (word_right s words) _ 0 (said _ at3 b3 (omega arith) (omega arith) q3 ∙ i))
