-- The core theorem, for a stack of states: the newest state is in the newest set exactly when every completion from
-- there ends in F. F is any set of end states, so one proof serves selecting and rejecting. Assumes nothing of the table.
use mathlib.Core.Path.{◌≡◌, refl, ap, subst, ◌∙◌}
use mathlib.Core.List.{List, [], ◌∷◌}
use mathlib.Core.Logic.{◌↔◌}
use Prim.Native.Nat.{ℕ, zero, suc}
use native.Mathlib.Omega.{arith}
use lib.ListN.{length}
use Rattle.meaning.specs.Sets.{Tree, Acc, LevelSet}
use Rattle.meaning.specs.Streams.{Event, Open, Point, Close, run, Reads}
use Rattle.meaning.specs.Table.{Table}

-- The state in which a run with no mark to come, at newest state q above the states s put aside, ends after w.
abbrev pub ends : Table → ℕ → List ℕ → List Event → ℕ
ends t q s w = (run t (record { ahead = zero; newest = q; aside = s }) w).newest

-- w closes the d levels that are open and all that it opens.
abbrev pub Closes : Table → ℕ → List Event → Type 0
Closes t d w = Reads t.labels d w zero

module _ (t : Table) where
  pub acc_trans : {q r x : ℕ} → Acc t q r → Acc t r x → Acc t q x
  acc_trans a Acc.here = a
  acc_trans a (Acc.pointed b l) = Acc.pointed (acc_trans a b) l
  acc_trans a (Acc.applied b p) = Acc.applied (acc_trans a b) p

  -- What is accessible from a tree's state is a tree's state.
  pub tree_acc : {q r : ℕ} → Tree t q → Acc t q r → Tree t r
  tree_acc h Acc.here = h
  tree_acc h (Acc.pointed b l) = Tree.pointed (tree_acc h b) l
  tree_acc h (Acc.applied b p) = Tree.applied (tree_acc h b) p

  module _ (F : ℕ → Type 0) where
    level_acc : (s : List ℕ) {q r : ℕ} → LevelSet t F s q → Acc t q r → LevelSet t F s r
    level_acc [] h a = λ x b. h x (acc_trans a b)
    level_acc (p ∷ s) h a = λ x b. h x (acc_trans a b)

    -- In the newest set: every completion ends in F.
    sound :
        {d e : ℕ} {w : List Event} → Reads t.labels d w e → e ≡ zero →
        (q : ℕ) (s : List ℕ) → length s ≡ d → LevelSet t F s q → F (ends t q s w)
    sound Reads.none z q [] e h = h q Acc.here
    sound Reads.none z q (p ∷ s) e h = absurd (omega arith)
    sound (Reads.opens {a = a} l c) z q s e h =
        sound c z (t.opening a) (q ∷ s) (ap suc e)
        (λ r b. level_acc s h (Acc.applied Acc.here (tree_acc (Tree.opened l) b)))
    sound (Reads.points {a = a} l c) z q s e h = sound c z (t.point q a) s e (level_acc s h (Acc.pointed Acc.here l))
    sound (Reads.closes c) z q [] e h = absurd (omega arith)
    sound (Reads.closes c) z q (p ∷ s) e h = sound c z (t.apply p q) s (omega arith) (h q Acc.here)

  -- Every completion from r above s' gives one from q above s that ends in the same state.
  Onto : ℕ → List ℕ → ℕ → List ℕ → Type 0
  Onto q s r s' =
      (w : List Event) → Closes t (length s') w → (v : List Event) × Closes t (length s) v × (ends t q s v ≡ ends t r s' w)

  tree_onto : {p : ℕ} → Tree t p → (q : ℕ) (s : List ℕ) → Onto q s p (q ∷ s)
  unfolding Onto
  tree_onto (Tree.opened {a = a} l) q s w c = (Open a ∷ w, Reads.opens l c, refl)
  tree_onto (Tree.pointed {a = a} h l) q s w c = tree_onto h q s (Point a ∷ w) (Reads.points l c)
  tree_onto (Tree.applied {q = x} {p = y} h g) q s w c =
      let (v, d, e) = tree_onto g x (q ∷ s) (Close ∷ w) (Reads.closes c) in
      let (u, b, f) = tree_onto h q s v d in
      (u, b, f ∙ e)

  acc_onto : {q r : ℕ} → Acc t q r → (s : List ℕ) → Onto q s r s
  unfolding Onto
  acc_onto Acc.here s w c = (w, c, refl)
  acc_onto (Acc.pointed {a = a} h l) s w c = acc_onto h s (Point a ∷ w) (Reads.points l c)
  acc_onto (Acc.applied {r = x} {p = y} h g) s w c =
      let (v, d, e) = tree_onto g x s (Close ∷ w) (Reads.closes c) in
      let (u, b, f) = acc_onto h s v d in
      (u, b, f ∙ e)

  module _ (F : ℕ → Type 0) where
    -- Every completion ends in F: in the newest set.
    complete : (s : List ℕ) (q : ℕ) → ((w : List Event) → Closes t (length s) w → F (ends t q s w)) → LevelSet t F s q
    unfolding Onto
    complete [] q h = λ r a.
        let (v, d, e) = acc_onto a [] [] Reads.none in
        subst F e (h v d)
    complete (p ∷ s) q h = λ r a. complete s (t.apply p r) (λ w c.
        let (v, d, e) = acc_onto a (p ∷ s) (Close ∷ w) (Reads.closes c) in
        subst F e (h v d))

    -- The newest state is in the newest set exactly when every completion from here ends in F.
    pub core :
        (s : List ℕ) (q : ℕ) → LevelSet t F s q ↔ ((w : List Event) → Closes t (length s) w → F (ends t q s w))
    core s q = (λ h w c. sound F c refl q s refl h, complete s q)
