-- A call's refusals: lines in order of checking, of which the first that applies is given. Definitions only.
use Rattle.std.specs.Prelude.{List, [], ◌∷◌, Bool, true, false, not, cond, ◌&&◌, ◌≡◌, ℕ, zero, suc, ◌<◌, eqb}

-- A line of a table of refusals: when it applies, and what is then given.
pub record Line (A : Type 0) : Type 0 where
  pub applies : Bool
  pub gives : A

-- What the first line that applies gives, and `otherwise` where none does.
abbrev pub first_of : {A : Type 0} → List (Line A) → A → A
first_of [] otherwise = otherwise
first_of (l ∷ ls) otherwise = cond l.applies l.gives (first_of ls otherwise)

-- Line i, counted from 0, applies. Past the last line nothing does.
abbrev pub applies_at : {A : Type 0} → List (Line A) → ℕ → Bool
applies_at [] i = false
applies_at (l ∷ ls) zero = l.applies
applies_at (l ∷ ls) (suc i) = applies_at ls i

-- What line i gives, and `otherwise` past the last line.
abbrev pub gives_at : {A : Type 0} → List (Line A) → A → ℕ → A
gives_at [] otherwise i = otherwise
gives_at (l ∷ ls) otherwise zero = l.gives
gives_at (l ∷ ls) otherwise (suc i) = gives_at ls otherwise i

-- Line i applies and none before it does.
pub record FirstAt {A : Type 0} (ls : List (Line A)) (i : ℕ) : Type 0 where
  pub applies : applies_at ls i ≡ true
  pub none_before : (j : ℕ) → j < i → applies_at ls j ≡ false

-- The numbers of what the lines give, and last that of `otherwise`.
abbrev pub numbers : {A : Type 0} → (A → ℕ) → List (Line A) → A → List ℕ
numbers number [] otherwise = number otherwise ∷ []
numbers number (l ∷ ls) otherwise = number l.gives ∷ numbers number ls otherwise

abbrev pub absent : ℕ → List ℕ → Bool
absent x [] = true
absent x (y ∷ l) = not (eqb x y) && absent x l

-- No number stands twice.
abbrev pub distinct : List ℕ → Bool
distinct [] = true
distinct (x ∷ l) = absent x l && distinct l
