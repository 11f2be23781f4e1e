-- The room that tags leave, told at once and tag by tag. Assumes nothing.
use Rattle.std.proofs.Common.{Option, Some, None}
use mathlib.Core.Path.{◌≡◌, sym, ap, ◌∙◌}
use Prim.Native.Nat.{ℕ, ◌+◌, ◌-◌, ◌<◌, ◌≤◌}
use native.Mathlib.Decide.{dec_le}
use native.Mathlib.Omega.{arith}
use borrow.Author.Tests.{lt-ltb, le-ltb}
use Rattle.tags.specs.Writers.{left_of, less_by}

-- Where n bytes fit, and where they do not.
fit : (room n : ℕ) → n ≤ room → left_of room n ≡ Some (room - n)
fit room n h = rw (le-ltb room n h)

do_not_fit : (room n : ℕ) → room < n → left_of room n ≡ None
do_not_fit room n h = rw (lt-ltb room n h)

pub left_all : (room : ℕ) → Some room ≡ left_of room 0
left_all room = let e : room - 0 ≡ room = omega arith in sym (fit room 0 (omega arith) ∙ rw e)

pub left_less : (room n m : ℕ) → less_by (left_of room n) m ≡ left_of room (n + m)
left_less room n m = go (dec_le n room) (dec_le (n + m) room)
  where
    go : Dec (n ≤ room) → Dec (n + m ≤ room) → less_by (left_of room n) m ≡ left_of room (n + m)
    go (yes h) (yes k) =
        let e : room - n - m ≡ room - (n + m) = omega arith in
        ap (λ (s : Option ℕ). less_by s m) (fit room n h) ∙ fit (room - n) m (omega arith) ∙ ap Some e ∙ sym (fit room (n + m) k)
    go (yes h) (no k) =
        ap (λ (s : Option ℕ). less_by s m) (fit room n h) ∙ do_not_fit (room - n) m (omega arith) ∙ sym (do_not_fit room (n + m) (omega arith))
    go (no h) k = ap (λ (s : Option ℕ). less_by s m) (do_not_fit room n (omega arith)) ∙ sym (do_not_fit room (n + m) (omega arith))
