-- The published meaning of a stepwise hedge automaton: what it makes of a hedge, by recursion on the hedge (source
-- document 003, Section 3, with the label folded into the opening). Definitions only.
use Rattle.std.specs.Prelude.{List, [], ◌∷◌, ◌++◌, ℕ, suc, pred, ◌+◌, ◌-◌, ◌<◌}
use Rattle.meaning.specs.Streams.{Event, Open, Point, Close, marking}
use Rattle.meaning.specs.Table.{Table}

-- A hedge: nothing more; or a node of label a with its content, and what follows it; or a point of label a, and what
-- follows it.
pub data Hedge : Type 0 where
  none : Hedge
  node : ℕ → Hedge → Hedge → Hedge
  point : ℕ → Hedge → Hedge

-- Its stream.
abbrev pub stream_of : Hedge → List Event
stream_of Hedge.none = []
stream_of (Hedge.node a h g) = Open a ∷ (stream_of h ++ (Close ∷ stream_of g))
stream_of (Hedge.point a g) = Point a ∷ stream_of g

-- How many positions it has.
abbrev pub size : Hedge → ℕ
size Hedge.none = 0
size (Hedge.node a h g) = suc (size h + size g)
size (Hedge.point a g) = suc (size g)

-- The state that the automaton comes to from q over h, marked at h's position i: a node's content is evaluated from O(a)
-- and its last state p applied to the q outside; i = 0 is without a mark.
abbrev pub evaluate : Table → ℕ → ℕ → Hedge → ℕ
evaluate t i q Hedge.none = q
evaluate t i q (Hedge.node a h g) =
    evaluate t (pred i - size h) (t.apply q (evaluate t (pred i) (marking t i (t.opening a)) h)) g
evaluate t i q (Hedge.point a g) = evaluate t (pred i) (marking t i (t.point q a)) g

-- Its labels are below k.
pub data Labelled (k : ℕ) : Hedge → Type 0 where
  none : Labelled k Hedge.none
  node : {a : ℕ} {h g : Hedge} → a < k → Labelled k h → Labelled k g → Labelled k (Hedge.node a h g)
  point : {a : ℕ} {g : Hedge} → a < k → Labelled k g → Labelled k (Hedge.point a g)
