-- Streams, the marked run, what the query selects, completions, and what they decide (01, "Events and positions").
-- Definitions only, and no safe set among them.
use Rattle.std.specs.Prelude.{List, [], ◌∷◌, ◌++◌, ℕ, zero, suc, pred, ◌<◌, T}
use Rattle.meaning.specs.Table.{Table}

-- An event of a stream; its end is no event.
pub data Event : Type 0 where
  Open : ℕ → Event
  Point : ℕ → Event
  Close : Event

-- How many positions w has: every open and every point is one, numbered from 1.
abbrev pub positions : List Event → ℕ
positions [] = 0
positions (Open a ∷ w) = suc (positions w)
positions (Point a ∷ w) = suc (positions w)
positions (Close ∷ w) = positions w

-- The labels of the open levels, newest first: what an event makes of them. A close with nothing open changes nothing.
abbrev pub all_but_newest : List ℕ → List ℕ
all_but_newest [] = []
all_but_newest (a ∷ o) = o

abbrev pub opened_by : List ℕ → Event → List ℕ
opened_by o (Open a) = a ∷ o
opened_by o (Point a) = o
opened_by o Close = all_but_newest o

abbrev pub open_after : List ℕ → List Event → List ℕ
open_after o [] = o
open_after o (e ∷ w) = open_after (opened_by o e) w

-- A run so far: how many positions are still to come up to and with the marked one (0: no mark is to come), the newest
-- state, and the states put aside, newest first.
pub record Run : Type 0 where
  pub ahead : ℕ
  pub newest : ℕ
  pub aside : List ℕ

-- The newest state right after a position: through M once, where the position is the marked one.
abbrev pub marking : Table → ℕ → ℕ → ℕ
marking t zero q = q
marking t (suc zero) q = t.mark q
marking t (suc (suc m)) q = q

-- A close takes the tree's last state p and the q put aside to A(q,p). With nothing put aside it changes nothing.
abbrev pub closing : Table → ℕ → ℕ → List ℕ → Run
closing t m p [] = record { ahead = m; newest = p; aside = [] }
closing t m p (q ∷ s) = record { ahead = m; newest = t.apply q p; aside = s }

abbrev pub step : Table → Run → Event → Run
step t r (Open a) =
    record { ahead = pred r.ahead; newest = marking t r.ahead (t.opening a); aside = r.newest ∷ r.aside }
step t r (Point a) =
    record { ahead = pred r.ahead; newest = marking t r.ahead (t.point r.newest a); aside = r.aside }
step t r Close = closing t r.ahead r.newest r.aside

abbrev pub run : Table → Run → List Event → Run
run t r [] = r
run t r (e ∷ w) = run t (step t r e) w

-- The run over w marked at position i; with i = 0 the run without a mark.
abbrev pub marked : Table → ℕ → List Event → Run
marked t i w = run t (record { ahead = i; newest = t.start; aside = [] }) w

-- w, with labels below k, leads from d open levels to e, and closes only what is open.
pub data Reads (k : ℕ) : ℕ → List Event → ℕ → Type 0 where
  none : {d : ℕ} → Reads k d [] d
  opens : {d e a : ℕ} {w : List Event} → a < k → Reads k (suc d) w e → Reads k d (Open a ∷ w) e
  points : {d e a : ℕ} {w : List Event} → a < k → Reads k d w e → Reads k d (Point a ∷ w) e
  closes : {d e : ℕ} {w : List Event} → Reads k d w e → Reads k (suc d) (Close ∷ w) e

-- w has been read, and d levels are open after it.
abbrev pub Prefix : Table → List Event → ℕ → Type 0
Prefix t w d = Reads t.labels zero w d

-- A whole stream: nothing is open after it.
abbrev pub Whole : Table → List Event → Type 0
Whole t w = Prefix t w zero

-- The query selects i in the whole stream w: the run marked at i ends in a final state.
abbrev pub Selects : Table → ℕ → List Event → Type 0
Selects t i w = T (t.final (marked t i w).newest)

-- c completes w: after both nothing is open.
abbrev pub Completes : Table → List Event → List Event → Type 0
Completes t w c = Whole t (w ++ c)

-- All completions select i.
abbrev pub Certain : Table → ℕ → List Event → Type 0
Certain t i w = (c : List Event) → Completes t w c → Selects t i (w ++ c)

-- No completion selects i.
abbrev pub RuledOut : Table → ℕ → List Event → Type 0
RuledOut t i w = (c : List Event) → Completes t w c → ¬ Selects t i (w ++ c)

abbrev pub Alive : Table → ℕ → List Event → Type 0
Alive t i w = (¬ Certain t i w) × (¬ RuledOut t i w)
