-- The masks are the smallest sets, for every well-formed table, and closing them takes at most n rounds.
use mathlib.Core.Path.{◌≡◌, subst}
use mathlib.Core.Bool.{Bool, not, cond}
use mathlib.Core.Logic.{◌↔◌}
use Prim.Native.Nat.{ℕ, zero, suc, ◌^◌, ◌<◌}
use native.Mathlib.Omega.{arith}
use lib.Dec.{T, T_not, not_T}
use lib.ListN.{get_or}
use lib.Pow.{pow-lt}
use Rattle.meaning.specs.Masks.{has, added, within, rounds, points_of, applies_of, follow_of, round_of, openings_of, trees_of, acc_of, accs_of, safe_of, into_of, down_of, finals_of, others_of}
use Rattle.meaning.specs.Sets.{Tree, Acc, Safe, Down}
use Rattle.meaning.specs.Table.{Table, WellFormed}
use Rattle.meaning.proofs.Folds.{upto_keeps, upto_gains, upto_lies, cond_keeps, cond_gains, cond_lies, added_lies, collect_give, collect_take, tabulate_at}
use Rattle.meaning.proofs.Masks.{Within, Lies, IsMask, card_some, has_none, has_lt, only_give, only_take, added_keeps, added_gains, within_give, within_take, small}
use Rattle.meaning.proofs.Rounds.{OnlyAdds, LastAfter, rounds_keep, closes, settled}

-- What a round keeps, gains, and stays within

module _ (t : Table) where
  points_keep : (q x : ℕ) → Within x (points_of t q x)
  points_keep q x = upto_keeps (λ a y. added y (t.point q a)) (λ a y. added_keeps y (t.point q a)) t.labels x

  point_in : (q x a : ℕ) → a < t.labels → T (has (points_of t q x) (t.point q a))
  point_in q x a l =
      upto_gains (λ a y. added y (t.point q a)) (λ a y. added_keeps y (t.point q a)) t.labels x a (t.point q a) l
      (λ y h. added_gains y (t.point q a))

  openings_in : (a : ℕ) → a < t.labels → T (has (openings_of t) (t.opening a))
  openings_in a l =
      upto_gains (λ a y. added y (t.opening a)) (λ a y. added_keeps y (t.opening a)) t.labels 0 a (t.opening a) l
      (λ y h. added_gains y (t.opening a))

  openings_lie : (X : ℕ → Type 0) → ((a : ℕ) → a < t.labels → X (t.opening a)) → Lies (openings_of t) X
  openings_lie X h =
      upto_lies (λ a y. added y (t.opening a)) X t.labels (λ a y l g. added_lies y (t.opening a) X g (h a l)) 0
      (λ r g. absurd (has_none r g))

  module _ (trees : ℕ) where
    apply_keeps : (q p y : ℕ) → Within y (cond (has trees p) (added y (t.apply q p)) y)
    apply_keeps q p y = cond_keeps (has trees p) y (added y (t.apply q p)) (added_keeps y (t.apply q p))

    applies_keep : (q x : ℕ) → Within x (applies_of t trees q x)
    applies_keep q x = upto_keeps (λ p y. cond (has trees p) (added y (t.apply q p)) y) (apply_keeps q) t.states x

    apply_in : (q x p : ℕ) → p < t.states → T (has trees p) → T (has (applies_of t trees q x) (t.apply q p))
    apply_in q x p l h =
        upto_gains (λ p y. cond (has trees p) (added y (t.apply q p)) y) (apply_keeps q) t.states x p (t.apply q p) l
        (λ y g. cond_gains (has trees p) y (added y (t.apply q p)) (t.apply q p) h (added_gains y (t.apply q p)))

    steps_keep : (q x : ℕ) → Within x (applies_of t trees q (points_of t q x))
    steps_keep q x r h = applies_keep q (points_of t q x) r (points_keep q x r h)

    follow_keeps : (q x : ℕ) → Within x (follow_of t trees q x)
    follow_keeps q x = cond_keeps (has x q) x (applies_of t trees q (points_of t q x)) (steps_keep q x)

    -- A round loses nothing.
    pub round_keeps : (x : ℕ) → Within x (round_of t trees x)
    round_keeps x = upto_keeps (follow_of t trees) follow_keeps t.states x

    -- A round gains what each state of the set steps to.
    round_gains :
        (x q r : ℕ) → q < t.states → T (has x q) → ((y : ℕ) → T (has (applies_of t trees q (points_of t q y)) r)) → T (has (round_of t trees x) r)
    round_gains x q r l h g =
        upto_gains (follow_of t trees) follow_keeps t.states x q r l
        (λ y w. cond_gains (has y q) y (applies_of t trees q (points_of t q y)) r (w q h) (g y))

    round_points : (x q a : ℕ) → q < t.states → T (has x q) → a < t.labels → T (has (round_of t trees x) (t.point q a))
    round_points x q a l h m = round_gains x q (t.point q a) l h (λ y. applies_keep q (points_of t q y) (t.point q a) (point_in q y a m))

    round_applies : (x q p : ℕ) → q < t.states → T (has x q) → p < t.states → T (has trees p) → T (has (round_of t trees x) (t.apply q p))
    round_applies x q p l h m g = round_gains x q (t.apply q p) l h (λ y. apply_in q (points_of t q y) p m g)

    -- A round stays within every set that is closed under the steps.
    module _ (X Y : ℕ → Type 0)
        (by-point : (q a : ℕ) → X q → a < t.labels → X (t.point q a))
        (by-apply : (q p : ℕ) → X q → p < t.states → Y p → X (t.apply q p)) where
      points_lie : (q x : ℕ) → X q → Lies x X → Lies (points_of t q x) X
      points_lie q x h =
          upto_lies (λ a y. added y (t.point q a)) X t.labels (λ a y l g. added_lies y (t.point q a) X g (by-point q a h l)) x

      applies_lie : (q x : ℕ) → X q → Lies trees Y → Lies x X → Lies (applies_of t trees q x) X
      applies_lie q x h k =
          upto_lies (λ p y. cond (has trees p) (added y (t.apply q p)) y) X t.states
          (λ p y l g. cond_lies (has trees p) y (added y (t.apply q p)) X (λ m. added_lies y (t.apply q p) X g (by-apply q p h l (k p m))) g)
          x

      round_lies : (x : ℕ) → Lies trees Y → Lies x X → Lies (round_of t trees x) X
      round_lies x k =
          upto_lies (follow_of t trees) X t.states
          (λ q y l g.
          cond_lies (has y q) y (applies_of t trees q (points_of t q y)) X
          (λ m. applies_lie q (points_of t q y) (g q m) k (points_lie q y (g q m) g)) g)
          x

-- The masks of T and acc lie in the smallest sets

module _ (t : Table) where
  trees_lie : (j : ℕ) → Lies (rounds j (λ x. round_of t x x) (openings_of t)) (Tree t)
  trees_lie zero = openings_lie t (Tree t) (λ a l. Tree.opened l)
  trees_lie (suc j) =
      let x : ℕ = rounds j (λ x. round_of t x x) (openings_of t) in
      round_lies t x (Tree t) (Tree t) (λ q a h l. Tree.pointed h l) (λ q p h l g. Tree.applied h g) x (trees_lie j) (trees_lie j)

  acc_lies : (trees : ℕ) → Lies trees (Tree t) → (q j : ℕ) → Lies (rounds j (round_of t trees) (2 ^ q)) (Acc t q)
  acc_lies trees k q zero = λ r h. subst (Acc t q) (only_take q r h) Acc.here
  acc_lies trees k q (suc j) =
      round_lies t trees (Acc t q) (Tree t) (λ r a h l. Acc.pointed h l) (λ r p h l g. Acc.applied h g)
      (rounds j (round_of t trees) (2 ^ q)) k (acc_lies trees k q j)

-- A well-formed table

module _ (t : Table) (wf : WellFormed t) where
  tree_in : {r : ℕ} → Tree t r → r < t.states
  tree_in (Tree.opened l) = wf.opening_in _ l
  tree_in (Tree.pointed h l) = wf.point_in _ _ (tree_in h) l
  tree_in (Tree.applied h g) = wf.apply_in _ _ (tree_in h) (tree_in g)

  acc_in : {q r : ℕ} → q < t.states → Acc t q r → r < t.states
  acc_in l Acc.here = l
  acc_in l (Acc.pointed h m) = wf.point_in _ _ (acc_in l h) m
  acc_in l (Acc.applied h g) = wf.apply_in _ _ (acc_in l h) (tree_in g)

  -- A round over a set of states is a set of states.
  round_lt : (trees x : ℕ) → x < 2 ^ t.states → round_of t trees x < 2 ^ t.states
  round_lt trees x b =
      small (round_of t trees x) t.states
      (round_lies t trees (λ r. r < t.states) (λ p. Unit {0}) (λ q a l m. wf.point_in q a l m) (λ q p l m u. wf.apply_in q p l m)
      x (λ r h. tt) (λ r h. has_lt t.states x r b h))

  -- The rounds by which T and acc are closed only add.
  pub acc_adds : (trees : ℕ) → OnlyAdds t.states (round_of t trees)
  acc_adds trees = record { bounded = round_lt trees; grows = round_keeps t trees }

  pub trees_adds : OnlyAdds t.states (λ x. round_of t x x)
  trees_adds = record { bounded = λ x. round_lt x x; grows = λ x. round_keeps t x x }

  -- The opening states are a set of states.
  pub openings_lt : openings_of t < 2 ^ t.states
  openings_lt = small (openings_of t) t.states (openings_lie t (λ r. r < t.states) (λ a l. wf.opening_in a l))

  trees_fixed : round_of t (trees_of t) (trees_of t) ≡ trees_of t
  trees_fixed = settled trees_adds (openings_of t) openings_lt

  trees_complete : {r : ℕ} → Tree t r → T (has (trees_of t) r)
  trees_complete (Tree.opened {a = a} l) =
      rounds_keep trees_adds t.states (openings_of t) (t.opening a) (openings_in t a l)
  trees_complete (Tree.pointed {q = q} {a = a} h l) =
      rw (← trees_fixed) (round_points t (trees_of t) (trees_of t) q a (tree_in h) (trees_complete h) l)
  trees_complete (Tree.applied {q = q} {p = p} h g) =
      rw (← trees_fixed) (round_applies t (trees_of t) (trees_of t) q p (tree_in h) (trees_complete h) (tree_in g) (trees_complete g))

  -- The mask of T is T, the smallest set.
  pub trees_are : (r : ℕ) → T (has (trees_of t) r) ↔ Tree t r
  trees_are r = (trees_lie t t.states r, trees_complete)

  -- Closing T takes at most n rounds: j < n of them add a state each, and the next is the last.
  pub trees_close : (j : ℕ) × (j < t.states) × LastAfter t.states (λ x. round_of t x x) (openings_of t) j
  trees_close =
      let (j, h, c) = closes trees_adds (openings_of t) openings_lt in
      let s = card_some t.states (openings_of t) (t.opening 0) (wf.opening_in 0 wf.some_label) (openings_in t 0 wf.some_label) in
      (j, omega arith, c)

  module _ (q : ℕ) (lq : q < t.states) where
    acc_fixed : round_of t (trees_of t) (acc_of t (trees_of t) q) ≡ acc_of t (trees_of t) q
    acc_fixed =
        settled (acc_adds (trees_of t)) (2 ^ q) (pow-lt lq)

    acc_complete : {r : ℕ} → Acc t q r → T (has (acc_of t (trees_of t) q) r)
    acc_complete Acc.here =
        rounds_keep (acc_adds (trees_of t)) t.states (2 ^ q) q (only_give q)
    acc_complete (Acc.pointed {r = r} {a = a} h l) =
        rw (← acc_fixed) (round_points t (trees_of t) (acc_of t (trees_of t) q) r a (acc_in lq h) (acc_complete h) l)
    acc_complete (Acc.applied {r = r} {p = p} h g) =
        rw (← acc_fixed) (round_applies t (trees_of t) (acc_of t (trees_of t) q) r p (acc_in lq h) (acc_complete h) (tree_in g) (trees_complete g))

    -- The mask of acc(q) is acc(q), the smallest set.
    pub acc_is : (r : ℕ) → T (has (acc_of t (trees_of t) q) r) ↔ Acc t q r
    acc_is r = (acc_lies t (trees_of t) (trees_lie t t.states) q t.states r, acc_complete)

    -- Closing acc(q) takes at most n rounds: j < n of them add a state each, and the next is the last.
    pub acc_closes : (j : ℕ) × (j < t.states) × LastAfter t.states (round_of t (trees_of t)) (2 ^ q) j
    acc_closes =
        let (j, h, c) = closes (acc_adds (trees_of t)) (2 ^ q) (pow-lt lq) in
        let s = card_some t.states (2 ^ q) q lq (only_give q) in
        (j, omega arith, c)

    -- The list of acc's masks has acc(q) at q.
    pub accs_at : get_or (accs_of t) q 0 ≡ acc_of t (trees_of t) q
    accs_at = tabulate_at t.states (acc_of t (trees_of t)) _ q lq

  -- The mask of safe(x) is safe(X), where x is X's mask.
  pub safe_is : (x : ℕ) (X : ℕ → Type 0) → IsMask t.states x X → IsMask t.states (safe_of t.states (accs_of t) x) (Safe t X)
  safe_is x X same q l =
      let inX : ℕ → Bool = λ q. within (get_or (accs_of t) q 0) x in (
        λ h r a.
            (same r (acc_in l a)).0
            (within_take (acc_of t (trees_of t) q) x (rw (accs_at q l) at (collect_take t.states inX q h).1) r ((acc_is q l r).1 a)),
        λ h.
            collect_give t.states inX q l
            (rw (accs_at q l) (within_give (acc_of t (trees_of t) q) x (λ r g.
            let a = (acc_is q l r).0 g in
            (same r (acc_in l a)).1 (h r a)))),
      )

  into_is :
      (x : ℕ) (X : ℕ → Type 0) → IsMask t.states x X → (q : ℕ) → q < t.states → IsMask t.states (into_of t q x) (λ p. X (t.apply q p))
  into_is x X same q l p m =
      let into : ℕ → Bool = λ p. has x (t.apply q p) in (
        λ h. (same (t.apply q p) (wf.apply_in q p l m)).0 (collect_take t.states into p h).1,
        λ h. collect_give t.states into p m ((same (t.apply q p) (wf.apply_in q p l m)).1 h),
      )

  -- The mask of down(q,x) is down(q,X), where x is X's mask.
  pub down_is :
      (x : ℕ) (X : ℕ → Type 0) → IsMask t.states x X → (q : ℕ) → q < t.states → IsMask t.states (down_of t (accs_of t) q x) (Down t q X)
  down_is x X same q l = safe_is (into_of t q x) (λ p. X (t.apply q p)) (into_is x X same q l)

-- The mask of the final states is the set of final states.
pub finals_are : (t : Table) → IsMask t.states (finals_of t) (λ q. T (t.final q))
finals_are t q l = (λ h. (collect_take t.states t.final q h).1, λ h. collect_give t.states t.final q l h)

-- The mask of the others is the set of states that are not final.
pub others_are : (t : Table) → IsMask t.states (others_of t) (λ q. ¬ T (t.final q))
others_are t q l =
    let other : ℕ → Bool = λ q. not (t.final q) in (
      λ h g. T_not (t.final q) (collect_take t.states other q h).1 g,
      λ h. collect_give t.states other q l (not_T (t.final q) h),
    )
