-- What a contract settles. Assumes nothing.
use mathlib.Core.Path.{◌≡◌, sym, ◌∙◌}

-- A contract that gives its result by an equation allows one result: any two that it allows are equal.
pub one_result : {A : Type 0} {meant one other : A} → one ≡ meant → other ≡ meant → one ≡ other
one_result e f = e ∙ sym f
