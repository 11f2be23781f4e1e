-- What the completions decide stays decided, whatever is read further; and positions are counted part by part. Assumes
-- nothing.
use mathlib.Core.List.{List, [], ◌∷◌, ◌++◌, append_assoc}
use mathlib.Core.Path.{◌≡◌}
use Prim.Native.Nat.{ℕ, ◌+◌}
use native.Mathlib.Omega.{arith}
use Rattle.meaning.specs.Table.{Table}
use Rattle.meaning.specs.Streams.{Event, Open, Point, Close, positions, Completes, Selects, Certain, RuledOut, Alive}

pub positions_append : (v w : List Event) → positions (v ++ w) ≡ positions v + positions w
positions_append [] w = omega arith
positions_append (Open a ∷ v) w = omega (arith, positions_append v w)
positions_append (Point a ∷ v) w = omega (arith, positions_append v w)
positions_append (Close ∷ v) w = positions_append v w

-- What all completions of v end in, those of v and c do.
all_stay :
    (t : Table) (P : List Event → Type 0) (v c : List Event) → ((x : List Event) → Completes t v x → P (v ++ x)) →
    (x : List Event) → Completes t (v ++ c) x → P (v ++ c ++ x)
all_stay t P v c h x w = rw append_assoc (h (c ++ x) (rw append_assoc at w))

pub certain_stays : (t : Table) (i : ℕ) (v c : List Event) → Certain t i v → Certain t i (v ++ c)
certain_stays t i = all_stay t (Selects t i)

pub ruled_out_stays : (t : Table) (i : ℕ) (v c : List Event) → RuledOut t i v → RuledOut t i (v ++ c)
ruled_out_stays t i = all_stay t (λ w. ¬ Selects t i w)

pub alive_before : (t : Table) (i : ℕ) (v c : List Event) → Alive t i (v ++ c) → Alive t i v
alive_before t i v c a = (λ h. a.0 (certain_stays t i v c h), λ h. a.1 (ruled_out_stays t i v c h))
