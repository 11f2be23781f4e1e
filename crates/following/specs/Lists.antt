-- Members of a list, numbers that rise, and how often a position is reported. Definitions only.
use Rattle.std.specs.Prelude.{cond, List, [], ◌∷◌, ℕ, ◌+◌, ◌/◌, ◌<◌, ◌≤◌, eqb}

pub data In {A : Type 0} (x : A) : List A → Type 0 where
  first : {l : List A} → In x (x ∷ l)
  later : {y : A} {l : List A} → In x l → In x (y ∷ l)

-- Numbers that rise strictly, from above `low` to at most `high`.
pub data Rising (high : ℕ) : ℕ → List ℕ → Type 0 where
  none : {low : ℕ} → Rising high low []
  over : {low x : ℕ} {xs : List ℕ} → low < x → x ≤ high → Rising high x xs → Rising high low (x ∷ xs)

-- The position that a report word speaks of.
abbrev pub position_of : ℕ → ℕ
position_of word = word / 2

-- How many of the reports speak of position i.
abbrev pub times : ℕ → List ℕ → ℕ
times i [] = 0
times i (word ∷ words) = cond (eqb (position_of word) i) 1 0 + times i words
