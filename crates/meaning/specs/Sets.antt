-- T, acc, safe and down as the smallest sets (01, "Safe sets"). Definitions only. A set of states is a predicate.
use Rattle.std.specs.Prelude.{List, [], ◌∷◌, ℕ, ◌<◌}
use Rattle.meaning.specs.Table.{Table}

-- T: it holds every O(a) and is closed under every P(.,a) and under every A(.,p) with p in T.
pub data Tree (t : Table) : ℕ → Type 0 where
  opened : {a : ℕ} → a < t.labels → Tree t (t.opening a)
  pointed : {q a : ℕ} → Tree t q → a < t.labels → Tree t (t.point q a)
  applied : {q p : ℕ} → Tree t q → Tree t p → Tree t (t.apply q p)

-- acc(q): it holds q and is closed under the same steps.
pub data Acc (t : Table) (q : ℕ) : ℕ → Type 0 where
  here : Acc t q q
  pointed : {r a : ℕ} → Acc t q r → a < t.labels → Acc t q (t.point r a)
  applied : {r p : ℕ} → Acc t q r → Tree t p → Acc t q (t.apply r p)

-- safe(X): the q whose acc(q) lies in X.
abbrev pub Safe : Table → (ℕ → Type 0) → ℕ → Type 0
Safe t X q = (r : ℕ) → Acc t q r → X r

-- down(q,X): safe of the set of p with A(q,p) in X.
abbrev pub Down : Table → ℕ → (ℕ → Type 0) → ℕ → Type 0
Down t q X = Safe t (λ p. X (t.apply q p))

-- A level's set, from the states put aside below it, for end states F: safe(F) at the top, down(q, the set below) above q.
abbrev pub LevelSet : Table → (ℕ → Type 0) → List ℕ → ℕ → Type 0
LevelSet t F [] = Safe t F
LevelSet t F (q ∷ s) = Down t q (LevelSet t F s)
