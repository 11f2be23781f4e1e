-- The run over a stream is the published evaluation of its hedge, and the whole streams are the streams of hedges.
-- Assumes nothing of the table.
use mathlib.Core.Path.{◌≡◌, refl, ap, subst, sym, ◌∙◌}
use mathlib.Core.List.{List, [], ◌∷◌, ◌++◌, append_assoc}
use mathlib.Core.Logic.{◌↔◌}
use Prim.Native.Nat.{ℕ, zero, suc, pred, ◌+◌, ◌-◌, ◌<◌}
use native.Mathlib.Omega.{arith}
use lib.Dec.{T}
use lib.ListN.{length}
use Rattle.meaning.specs.Hedges.{Hedge, Labelled, stream_of, size, evaluate}
use Rattle.meaning.specs.Sets.{Tree, Acc}
use Rattle.meaning.specs.Streams.{Event, Open, Point, Close, Run, marking, run, marked, positions, Reads, Whole, Selects}
use Rattle.meaning.specs.Table.{Table}
use Rattle.meaning.proofs.Core.{acc_trans, tree_acc}
use Rattle.meaning.proofs.Streams.{reads_join, run_append}

abbrev at : ℕ → ℕ → List ℕ → Run
at i q s = record { ahead = i; newest = q; aside = s }

module _ (t : Table) where
  -- Over a hedge's stream a run keeps what it put aside, comes to the evaluated state, and has passed the hedge's positions.
  pub run_evaluates : (h : Hedge) (i q : ℕ) (s : List ℕ) → run t (at i q s) (stream_of h) ≡ at (i - size h) (evaluate t i q h) s
  run_evaluates Hedge.none i q s = let e : i ≡ i - 0 = omega arith in ap (λ (j : ℕ). at j q s) e
  run_evaluates (Hedge.node a h g) i q s =
      let m : ℕ = marking t i (t.opening a) in
      let p : ℕ = evaluate t (pred i) m h in
      let e : pred i - size h - size g ≡ i - suc (size h + size g) = omega arith in
      run_append t (stream_of h) (at (pred i) m (q ∷ s)) (Close ∷ stream_of g)
      ∙ ap (λ (r : Run). run t r (Close ∷ stream_of g)) (run_evaluates h (pred i) m (q ∷ s))
      ∙ run_evaluates g (pred i - size h) (t.apply q p) s
      ∙ ap (λ (j : ℕ). at j (evaluate t (pred i - size h) (t.apply q p) g) s) e
  run_evaluates (Hedge.point a g) i q s =
      let e : pred i - size g ≡ i - suc (size g) = omega arith in
      run_evaluates g (pred i) (marking t i (t.point q a)) s
      ∙ ap (λ (j : ℕ). at j (evaluate t (pred i) (marking t i (t.point q a)) g) s) e

  -- The query selects i in a hedge's stream exactly if the automaton evaluates the hedge marked at i to a final state.
  pub selects_is : (i : ℕ) (h : Hedge) → Selects t i (stream_of h) ↔ T (t.final (evaluate t i t.start h))
  selects_is i h =
      let e : (marked t i (stream_of h)).newest ≡ evaluate t i t.start h = ap (λ (r : Run). r.newest) (run_evaluates h i t.start []) in
      (λ x. rw e at x, λ x. rw e x)

-- A hedge's stream closes what it opens, at any depth.
hedge_reads : {k : ℕ} {h : Hedge} → Labelled k h → (d : ℕ) → Reads k d (stream_of h) d
hedge_reads Labelled.none d = Reads.none
hedge_reads (Labelled.node l h g) d = Reads.opens l (reads_join (hedge_reads h (suc d)) (Reads.closes (hedge_reads g d)))
hedge_reads (Labelled.point l g) d = Reads.points l (hedge_reads g d)

-- The stream of a hedge's rest, and of what follows on each level below it.
abbrev rest_of : Hedge → List Hedge → List Event
rest_of h [] = stream_of h
rest_of h (g ∷ gs) = stream_of h ++ (Close ∷ rest_of g gs)

data AllLabelled (k : ℕ) : List Hedge → Type 0 where
  none : AllLabelled k []
  more : {h : Hedge} {gs : List Hedge} → Labelled k h → AllLabelled k gs → AllLabelled k (h ∷ gs)

-- What closes d levels is the rest of one hedge on each of them.
record Parsed (k d : ℕ) (w : List Event) : Type 0 where
  newest : Hedge
  below : List Hedge
  newest_labelled : Labelled k newest
  below_labelled : AllLabelled k below
  depth : length below ≡ d
  stream : rest_of newest below ≡ w

open_parsed : {k d a : ℕ} {w : List Event} → a < k → Parsed k (suc d) w → Parsed k d (Open a ∷ w)
open_parsed {k} {d} {a} {w} l r = go r.below r.below_labelled r.depth r.stream
  where
    split : (h g : Hedge) (gs : List Hedge) → rest_of (Hedge.node a h g) gs ≡ Open a ∷ rest_of h (g ∷ gs)
    split h g [] = refl
    split h g (x ∷ gs) = ap (λ (v : List Event). Open a ∷ v) (append_assoc (stream_of h) (Close ∷ stream_of g) (Close ∷ rest_of x gs))

    go : (gs : List Hedge) → AllLabelled k gs → length gs ≡ suc d → rest_of r.newest gs ≡ w → Parsed k d (Open a ∷ w)
    go [] b e s = absurd (omega arith)
    go (g ∷ gs) (more m b) e s =
        record {
          newest = Hedge.node a r.newest g;
          below = gs;
          newest_labelled = Labelled.node l r.newest_labelled m;
          below_labelled = b;
          depth = omega arith;
          stream = split r.newest g gs ∙ ap (λ (v : List Event). Open a ∷ v) s;
        }

point_parsed : {k d a : ℕ} {w : List Event} → a < k → Parsed k d w → Parsed k d (Point a ∷ w)
point_parsed {k} {d} {a} {w} l r =
    record {
      newest = Hedge.point a r.newest;
      below = r.below;
      newest_labelled = Labelled.point l r.newest_labelled;
      below_labelled = r.below_labelled;
      depth = r.depth;
      stream = split r.below ∙ ap (λ (v : List Event). Point a ∷ v) r.stream;
    }
  where
    split : (gs : List Hedge) → rest_of (Hedge.point a r.newest) gs ≡ Point a ∷ rest_of r.newest gs
    split [] = refl
    split (x ∷ gs) = refl

parsed : {k d e : ℕ} {w : List Event} → Reads k d w e → e ≡ zero → Parsed k d w
parsed Reads.none z =
    record { newest = Hedge.none; below = []; newest_labelled = Labelled.none; below_labelled = none; depth = sym z; stream = refl }
parsed (Reads.opens l c) z = open_parsed l (parsed c z)
parsed (Reads.points l c) z = point_parsed l (parsed c z)
parsed (Reads.closes c) z =
    let r = parsed c z in
    record {
      newest = Hedge.none;
      below = r.newest ∷ r.below;
      newest_labelled = Labelled.none;
      below_labelled = more r.newest_labelled r.below_labelled;
      depth = ap suc r.depth;
      stream = ap (λ (v : List Event). Close ∷ v) r.stream;
    }

-- The whole streams are exactly the streams of hedges with labels below k.
pub whole_is : (t : Table) (w : List Event) → Whole t w ↔ ((h : Hedge) × Labelled t.labels h × (stream_of h ≡ w))
whole_is t w = (λ c. top (parsed c refl), λ x. subst (Whole t) x.2 (hedge_reads x.1 zero))
  where
    top : Parsed t.labels zero w → (h : Hedge) × Labelled t.labels h × (stream_of h ≡ w)
    top r = go r.below r.depth r.stream
      where
        go : (gs : List Hedge) → length gs ≡ zero → rest_of r.newest gs ≡ w → (h : Hedge) × Labelled t.labels h × (stream_of h ≡ w)
        go [] e s = (r.newest, r.newest_labelled, s)
        go (g ∷ gs) e s = absurd (omega arith)

-- acc(q) and T as 003 has them: what some hedge leads to

-- One hedge after another.
abbrev joined : Hedge → Hedge → Hedge
joined Hedge.none x = x
joined (Hedge.node a h g) x = Hedge.node a h (joined g x)
joined (Hedge.point a g) x = Hedge.point a (joined g x)

joined_labelled : {k : ℕ} {h x : Hedge} → Labelled k h → Labelled k x → Labelled k (joined h x)
joined_labelled Labelled.none m = m
joined_labelled (Labelled.node l h g) m = Labelled.node l h (joined_labelled g m)
joined_labelled (Labelled.point l g) m = Labelled.point l (joined_labelled g m)

module _ (t : Table) where
  -- Without a mark, a node's rest is evaluated without one.
  no_mark : (n q : ℕ) (g : Hedge) → evaluate t (0 - n) q g ≡ evaluate t 0 q g
  no_mark n q g = let e : 0 - n ≡ 0 = omega arith in ap (λ (i : ℕ). evaluate t i q g) e

  joined_evaluates : (h x : Hedge) (q : ℕ) → evaluate t 0 q (joined h x) ≡ evaluate t 0 (evaluate t 0 q h) x
  joined_evaluates Hedge.none x q = refl
  joined_evaluates (Hedge.node a h g) x q =
      let p : ℕ = t.apply q (evaluate t 0 (t.opening a) h) in
      no_mark (size h) p (joined g x) ∙ joined_evaluates g x p ∙ ap (λ (r : ℕ). evaluate t 0 r x) (sym (no_mark (size h) p g))
  joined_evaluates (Hedge.point a g) x q = joined_evaluates g x (t.point q a)

  -- r is what some hedge leads q to.
  abbrev Leads : ℕ → ℕ → Type 0
  Leads q r = (h : Hedge) × Labelled t.labels h × (evaluate t 0 q h ≡ r)

  lead_on : (q r s : ℕ) → Leads q r → Leads r s → Leads q s
  lead_on q r s (h, l, e) (x, m, f) =
      (joined h x, joined_labelled l m, joined_evaluates h x q ∙ ap (λ (y : ℕ). evaluate t 0 y x) e ∙ f)

  apply_leads : (q p : ℕ) → (a : ℕ) × (a < t.labels) × Leads (t.opening a) p → Leads q (t.apply q p)
  apply_leads q p (a, l, (h, m, e)) = (Hedge.node a h Hedge.none, Labelled.node l m Labelled.none, no_mark (size h) _ Hedge.none ∙ ap (t.apply q) e)

  tree_leads : {p : ℕ} → Tree t p → (a : ℕ) × (a < t.labels) × Leads (t.opening a) p
  tree_leads (Tree.opened {a = a} l) = (a, l, (Hedge.none, Labelled.none, refl))
  tree_leads (Tree.pointed {q = q} {a = b} h l) =
      let (a, m, x) = tree_leads h in
      (a, m, lead_on (t.opening a) q (t.point q b) x (Hedge.point b Hedge.none, Labelled.point l Labelled.none, refl))
  tree_leads (Tree.applied {q = q} {p = p} h g) =
      let (a, m, x) = tree_leads h in
      (a, m, lead_on (t.opening a) q (t.apply q p) x (apply_leads q p (tree_leads g)))

  acc_leads : {q r : ℕ} → Acc t q r → Leads q r
  acc_leads Acc.here = (Hedge.none, Labelled.none, refl)
  acc_leads {q} (Acc.pointed {r = r} {a = b} h l) =
      lead_on q r (t.point r b) (acc_leads h) (Hedge.point b Hedge.none, Labelled.point l Labelled.none, refl)
  acc_leads {q} (Acc.applied {r = r} {p = p} h g) = lead_on q r (t.apply r p) (acc_leads h) (apply_leads r p (tree_leads g))

  evaluated_acc : {h : Hedge} → Labelled t.labels h → (q : ℕ) → Acc t q (evaluate t 0 q h)
  evaluated_acc Labelled.none q = Acc.here
  evaluated_acc (Labelled.node {a = a} {h = h} {g = g} l m n) q =
      let p : ℕ = evaluate t 0 (t.opening a) h in
      let tree : Tree t p = tree_acc t (Tree.opened l) (evaluated_acc m (t.opening a)) in
      rw (no_mark (size h) (t.apply q p) g) (acc_trans t (Acc.applied Acc.here tree) (evaluated_acc n (t.apply q p)))
  evaluated_acc (Labelled.point {a = a} l n) q = acc_trans t (Acc.pointed Acc.here l) (evaluated_acc n (t.point q a))

  -- acc(q) is the set of states that some hedge leads q to.
  pub acc_is_reached : (q r : ℕ) → Acc t q r ↔ ((h : Hedge) × Labelled t.labels h × (evaluate t 0 q h ≡ r))
  acc_is_reached q r = (acc_leads, λ x. subst (Acc t q) x.2 (evaluated_acc x.1 q))

  -- T is the set of states that some hedge leads some O(a) to: the last states of trees.
  pub trees_are_reached :
      (p : ℕ) → Tree t p ↔ ((a : ℕ) × (a < t.labels) × ((h : Hedge) × Labelled t.labels h × (evaluate t 0 (t.opening a) h ≡ p)))
  trees_are_reached p = (tree_leads, λ x. tree_acc t (Tree.opened x.1) ((acc_is_reached (t.opening x.0) p).1 x.2))
