-- The labels of what is open after a stream that was read: as many as levels are open, and all of them labels of the table.
-- Assumes nothing.
use mathlib.Core.Path.{◌≡◌, refl, ap}
use mathlib.Core.List.{List, [], ◌∷◌, ◌++◌}
use Prim.Native.Nat.{ℕ, suc}
use native.Mathlib.Omega.{arith}
use lib.ListN.{length}
use Rattle.meaning.specs.Streams.{Event, opened_by, open_after, Reads}
use Rattle.meaning.proofs.Rows.{AllBelow}
use Rattle.meaning.proofs.Rows as below

-- After one part and then another.
pub open_append : (o : List ℕ) (v w : List Event) → open_after o (v ++ w) ≡ open_after (open_after o v) w
open_append o [] w = refl
open_append o (e ∷ v) w = open_append (opened_by o e) v w

module _ {k : ℕ} where
  pub open_levels : {d e : ℕ} {w : List Event} → Reads k d w e → (o : List ℕ) → length o ≡ d → length (open_after o w) ≡ e
  open_levels Reads.none o h = h
  open_levels (Reads.opens {a = a} l r) o h = open_levels r (a ∷ o) (ap suc h)
  open_levels (Reads.points l r) o h = open_levels r o h
  open_levels (Reads.closes r) [] h = absurd (omega (arith, h))
  open_levels (Reads.closes r) (a ∷ o) h = open_levels r o (omega (arith, h))

  pub open_labels : {d e : ℕ} {w : List Event} → Reads k d w e → (o : List ℕ) → AllBelow k o → AllBelow k (open_after o w)
  open_labels Reads.none o b = b
  open_labels (Reads.opens {a = a} l r) o b = open_labels r (a ∷ o) (below.more l b)
  open_labels (Reads.points l r) o b = open_labels r o b
  open_labels (Reads.closes r) [] b = open_labels r [] b
  open_labels (Reads.closes r) (a ∷ o) (below.more l b) = open_labels r o b
