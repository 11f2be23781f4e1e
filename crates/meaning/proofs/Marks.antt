-- What counts in T and acc: mark steps never do, nested trees do.
use mathlib.Core.Path.{◌≡◌, refl}
use mathlib.Core.Bool.{false, cond}
use mathlib.Core.List.{List}
use mathlib.Core.Logic.{◌↔◌}
use Prim.Native.Nat.{ℕ, ◌+◌}
use lib.Dec.{T, eqb}
use Rattle.meaning.specs.Masks.{has, added, rounds, round_of, openings_of, trees_of, accs_of, down_of}
use Rattle.meaning.specs.Sets.{Tree, Acc}
use Rattle.meaning.specs.Table.{Table, WellFormed}
use Rattle.meaning.proofs.Smallest.{trees_are}

-- The table with other mark steps.
abbrev pub with_mark : Table → (ℕ → ℕ) → Table
with_mark t m =
    record {
      states = t.states;
      labels = t.labels;
      start = t.start;
      opening = t.opening;
      point = t.point;
      mark = m;
      apply = t.apply;
      final = t.final;
    }

-- Mark steps never count: with any other mark steps the masks are the same.
pub marks_never_count :
    (t : Table) (m : ℕ → ℕ) →
    (trees_of (with_mark t m) ≡ trees_of t)
    × (accs_of (with_mark t m) ≡ accs_of t)
    × ((accs : List ℕ) (q x : ℕ) → down_of (with_mark t m) accs q x ≡ down_of t accs q x)
marks_never_count t m = (refl, refl, λ accs q x. refl)

module _ (t : Table) (m n : ℕ → ℕ) where
  tree_unmarked : {r : ℕ} → Tree (with_mark t m) r → Tree (with_mark t n) r
  tree_unmarked (Tree.opened l) = Tree.opened l
  tree_unmarked (Tree.pointed h l) = Tree.pointed (tree_unmarked h) l
  tree_unmarked (Tree.applied h g) = Tree.applied (tree_unmarked h) (tree_unmarked g)

  acc_unmarked : {q r : ℕ} → Acc (with_mark t m) q r → Acc (with_mark t n) q r
  acc_unmarked Acc.here = Acc.here
  acc_unmarked (Acc.pointed h l) = Acc.pointed (acc_unmarked h) l
  acc_unmarked (Acc.applied h g) = Acc.applied (acc_unmarked h) (tree_unmarked g)

-- Nor do they count in the smallest sets: two tables that differ in their mark steps alone have the same T and acc.
pub marks_never_counted :
    (t : Table) (m n : ℕ → ℕ) (q r : ℕ) →
    (Tree (with_mark t m) r ↔ Tree (with_mark t n) r) × (Acc (with_mark t m) q r ↔ Acc (with_mark t n) q r)
marks_never_counted t m n q r = ((tree_unmarked t m n, tree_unmarked t n m), (acc_unmarked t m n, acc_unmarked t n m))

-- Nested trees do count: with q and p in T, A(q,p) is in T.
pub nested_trees_count :
    (t : Table) → WellFormed t → (q p : ℕ) → T (has (trees_of t) q) → T (has (trees_of t) p) → T (has (trees_of t) (t.apply q p))
nested_trees_count t wf q p h g =
    (trees_are t wf (t.apply q p)).1 (Tree.applied ((trees_are t wf q).0 h) ((trees_are t wf p).0 g))

-- A table of three states whose T has state 1 by a tree in a tree, and state 2 by a tree in a tree in a tree.
abbrev nested_table : Table
nested_table =
    record {
      states = 3;
      labels = 1;
      start = 0;
      opening = λ a. 0;
      point = λ q a. q;
      mark = λ q. q;
      apply = λ q p. cond (eqb p 2) 2 (p + 1);
      final = λ q. false;
    }

-- There T is {0, 1, 2}; with nested trees left out it would be {0}.
pub nested_trees_matter :
    (trees_of nested_table ≡ 7) × (rounds 3 (round_of nested_table 0) (openings_of nested_table) ≡ 1)
unfolding added
nested_trees_matter = (refl, refl)
