-- What a header that passes says of n, k and the start state. Assumes nothing.
use mathlib.Core.Bool.{true, ◌&&◌}
use mathlib.Core.List.{List}
use mathlib.Core.Path.{◌≡◌}
use Prim.Native.Nat.{ℕ, ◌<◌, ◌≤◌}
use borrow.Author.Tests.{ltb-true, leb-true}
use lib.Dec.{eqb, leb, ltb}
use lib.ListN.{get_or}
use Rattle.bodies.specs.Sound.{states_in, labels_in, start_in}
use Rattle.table.specs.File.{header_right, between}
use Rattle.meaning.proofs.Tests.{both_true}

between_bounds : (low high x : ℕ) → between low high x ≡ true → (low ≤ x) × (x ≤ high)
between_bounds low high x e =
    let h = both_true (leb low x) (leb x high) e in
    (leb-true low x h.0, leb-true x high h.1)

pub record InRange (f : List ℕ) : Type 0 where
  pub some_state : 1 ≤ states_in f
  pub few_states : states_in f ≤ 64
  pub some_label : 1 ≤ labels_in f
  pub few_labels : labels_in f ≤ 32
  pub start_is_in : start_in f < states_in f

pub in_range : (f : List ℕ) → header_right f ≡ true → InRange f
in_range f e =
    let start = ltb (start_in f) (states_in f) in
    let bodies = eqb (get_or f 3 0) 5 in
    let h = both_true (between 1 64 (states_in f)) (between 1 32 (labels_in f) && (start && bodies)) e in
    let g = both_true (between 1 32 (labels_in f)) (start && bodies) h.1 in
    let n = between_bounds 1 64 (states_in f) h.0 in
    let k = between_bounds 1 32 (labels_in f) g.0 in
    record {
      some_state = n.0;
      few_states = n.1;
      some_label = k.0;
      few_labels = k.1;
      start_is_in = ltb-true (start_in f) (states_in f) (both_true start bodies g.1).0;
    }
