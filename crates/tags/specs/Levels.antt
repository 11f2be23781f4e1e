-- The open elements as the reader and the writer hold them. Definitions only.
use Rattle.std.specs.Prelude.{Bool, cond, ◌||◌, List, [], ◌∷◌, ℕ, zero, suc, ◌+◌, ◌-◌, eqb, ltb, get_or, set, replicate, Option, Some, None}
use Rattle.tags.specs.declared.levels.Levels.{Levels}

abbrev pub no_levels : Levels
no_levels = record { labels = replicate 40 0; depth = 0 }

abbrev pub deeper_by : Levels → ℕ → Levels
deeper_by l a = cond (ltb l.depth 40) (record { labels = set l.labels l.depth a; depth = l.depth + 1 }) l

abbrev pub shallower : Levels → Levels
shallower l = record { labels = l.labels; depth = l.depth - 1 }

-- None is open, or more than may be.
abbrev pub no_newest : Levels → Bool
no_newest l = eqb l.depth 0 || ltb 40 l.depth

-- The label of the newest.
abbrev pub newest_of : Levels → Option ℕ
newest_of l = cond (no_newest l) None (Some (get_or l.labels (l.depth - 1) 0))

-- The labels, newest first.
abbrev pub open_from : List ℕ → ℕ → List ℕ
open_from labels zero = []
open_from labels (suc d) = get_or labels d 0 ∷ open_from labels d

abbrev pub open_in : Levels → List ℕ
open_in l = open_from l.labels l.depth
