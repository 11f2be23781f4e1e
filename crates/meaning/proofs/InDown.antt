-- Membership of one state in down(q,x), told without the set. Assumes nothing of the masks but that they are 64-bit words.
use mathlib.Core.Path.{◌≡◌}
use mathlib.Core.Bool.{Bool, not, ◌&&◌, ◌||◌}
use mathlib.Core.List.{List}
use Prim.Native.Nat.{ℕ, ◌^◌, ◌<◌, ◌≤◌}
use lib.Dec.{ltb, ltb→lt, lt→ltb}
use lib.ListN.{get_or}
use Rattle.meaning.specs.Masks.{has, within, into_of, down_of, in_down}
use Rattle.meaning.specs.Table.{Table}
use Rattle.meaning.proofs.Folds.{collect_give, collect_take}
use Rattle.meaning.proofs.Masks.{has_lt, within_give, within_take, small}
use Rattle.meaning.proofs.Tests.{same_test, and_both, and_left, and_right, implies_give, implies_take, all_give, all_take}

-- Membership in down(q,x) without the set: r is in it exactly when acc(r) passes `in_down`, for any list of 64-bit masks.
pub in_down_lem :
    (t : Table) → t.states ≤ 64 → (accs : List ℕ) (q x r : ℕ) → r < t.states → get_or accs r 0 < 2 ^ 64 →
    has (down_of t accs q x) r ≡ in_down t (get_or accs r 0) q x
in_down_lem t few accs q x r l small =
    let acc : ℕ = get_or accs r 0 in
    let into : ℕ → Bool = λ p. has x (t.apply q p) in
    let inX : ℕ → Bool = λ r. within (get_or accs r 0) (into_of t q x) in
    let test : ℕ → Bool = λ p. not (has acc p) || (ltb p t.states && into p) in
    same_test _ _ (
      λ h. all_give 64 test (λ p m.
          implies_give (has acc p) (ltb p t.states && into p) (λ g.
          let k = collect_take t.states into p (within_take acc (into_of t q x) (collect_take t.states inX r h).1 p g) in
          and_both (ltb p t.states) (into p) (lt→ltb p t.states k.0) k.1)),
      λ h. collect_give t.states inX r l (within_give acc (into_of t q x) (λ p g.
          let k = implies_take (has acc p) (ltb p t.states && into p) (all_take 64 test h p (has_lt 64 acc p small g)) g in
          collect_give t.states into p (ltb→lt p t.states (and_left (ltb p t.states) (into p) k)) (and_right (ltb p t.states) (into p) k))),
    )
