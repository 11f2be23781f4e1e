-- What stands in a lent slice once something was written into it. Definitions only.
use Rattle.std.specs.Prelude.{List, ◌++◌, ℕ, ◌+◌, length, take, drop}

-- Words or bytes written over others, from a place on; what is before and past them stays.
abbrev pub put_at : ℕ → List ℕ → List ℕ → List ℕ
put_at at xs lent = take at lent ++ xs ++ drop (at + length xs) lent

-- The same from the front.
abbrev pub on_front : List ℕ → List ℕ → List ℕ
on_front xs lent = xs ++ drop (length xs) lent
