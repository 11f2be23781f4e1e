-- What memory in order is: its rows in use can be stepped, all other words are 0, and each row has a position it may have;
-- its labels' words are those of the open levels. Assumes nothing.
use Rattle.std.specs.Prelude.{None}
use mathlib.Core.Path.{◌≡◌, refl, sym, ap, ◌∙◌}
use mathlib.Core.Bool.{Bool, true, ◌&&◌}
use mathlib.Core.List.{List}
use Prim.Native.Nat.{ℕ, ◌+◌, ◌-◌, ◌*◌, ◌/◌, ◌%◌, ◌<◌, ◌≤◌}
use native.Mathlib.Omega.{arith}
use native.Mathlib.Nat.{mul-le-mul_right, div-add-mod', le-div_iff_mul-le, div-lt_iff_lt-mul, mod-lt}
use borrow.Author.Tests.{ltb-true, leb-true, eqb-true, le-leb, lt-leb}
use lib.Dec.{ltb, leb}
use lib.ListN.{length, get_or, take, drop, replicate, length-drop}
use lib.Seq.{length-take-le, get_or-take, get_or-drop}
use Rattle.meaning.proofs.Tests.{both_true}
use Rattle.places.specs.Places.{state_at, row_length, row_at, row_of, label_level}
use Rattle.places.specs.Memory.{RowIn, RowsIn, LabelsIn}
use Rattle.places.proofs.Zeros.{rest_of_zeros, row_of_zeros}
use Rattle.places.proofs.Labels.{labels_of_zeros}
use Rattle.order.specs.declared.Shape.{Shape}
use Rattle.order.specs.Order.{cell_right, label_right, labels_from, word_right, first_fault}
use Rattle.order.proofs.Cells.{row_fits, cell_in_rows, row_unused, first_position, later_position, level_unused, state_used}
use Rattle.order.proofs.Search.{at_cell, at_label, fine_all}

-- How many words a row has.
abbrev width : Shape → ℕ
width s = row_length s.allowed

-- The rows' words, each of which is in order.
module _ (s : Shape) (words : List ℕ) (right : (r c : ℕ) → r < s.rows → c < width s → cell_right s words r c ≡ true) (small : s.allowed ≤ 40)
    (deep : s.depth ≤ s.allowed) (most : s.used ≤ s.rows) (long : labels_from s ≡ length words) where
  within : (r : ℕ) → r < s.used → row_at s.allowed r + width s ≤ length words
  within r h = row_fits s.rows r (width s) _ _ refl (omega arith) (omega (arith, long))

  right_cell : (r c : ℕ) → r < s.used → c < width s → cell_right s words r c ≡ true
  right_cell r c h l = right r c (omega arith) l

  row_long : (r : ℕ) → r < s.used → length (row_of (width s) r words) ≡ width s
  row_long r h = length-take-le (width s) (drop (row_at s.allowed r) words) (omega (arith, within r h, length-drop (row_at s.allowed r) words))

  row_word : (r c : ℕ) → c < width s → get_or (row_of (width s) r words) c 0 ≡ get_or words (row_at s.allowed r + c) 0
  row_word r c h = get_or-take (width s) (drop (row_at s.allowed r) words) c 0 h ∙ get_or-drop (row_at s.allowed r) words c 0

  row_in_lem : (r : ℕ) → r < s.used → RowIn s.states s.depth (row_of (width s) r words)
  row_in_lem r h =
      record {
        short = omega (arith, row_long r h);
        deep = omega (arith, row_long r h);
        same = row_of_zeros _ s.depth (row_of (width s) r words) refl (omega (arith, row_long r h))
            (λ c p q.
            let l : c < width s = omega (arith, row_long r h) in
            row_word r c l ∙ eqb-true _ 0 (level_unused s words _ r c refl h (omega arith) (omega arith) ∙ right_cell r c h l));
        states = λ l p.
            rw (row_word r (state_at l) (omega arith)) (ltb-true _ _ (state_used s words _ r (state_at l) refl h (omega arith) (omega arith) (omega arith) ∙ right_cell r (state_at l) h (omega arith)));
      }

  -- The rows in use are rows whose states are states of the table.
  pub rows_in : RowsIn s.states (row_length s.allowed) s.depth s.used words
  rows_in = record { short = omega arith; deep = omega arith; fits = omega (arith, mul-le-mul_right (width s) most); each = row_in_lem }

  beyond : (i : ℕ) → row_at s.allowed s.used ≤ i → i < length words → get_or words i 0 ≡ 0
  beyond i h l =
      let unused : s.used ≤ i / width s = (le-div_iff_mul-le {k = width s} (omega arith)).1 h in
      let there : i / width s < s.rows = (div-lt_iff_lt-mul {k = width s} (omega arith)).1 (omega (arith, long)) in
      let z : get_or words (i / width s * width s + i % width s) 0 ≡ 0 =
      eqb-true _ 0 (row_unused s words _ (i / width s) (i % width s) refl unused ∙ right (i / width s) (i % width s) there (mod-lt i (omega arith))) in
      rw (div-add-mod' i (width s)) at z

  -- All words beyond the rows in use are 0.
  pub rest_zero : drop (row_at s.allowed s.used) words ≡ replicate (length words - row_at s.allowed s.used) 0
  rest_zero = rest_of_zeros (row_at s.allowed s.used) words beyond

  -- The run without a mark has position 0.
  pub run_position : 0 < s.used → get_or words 0 0 ≡ 0
  run_position h =
      let e : row_at s.allowed 0 + 0 ≡ 0 = omega arith in
      let z : get_or words (row_at s.allowed 0 + 0) 0 ≡ 0 = eqb-true _ 0 (first_position s words _ 0 0 refl h refl refl ∙ right_cell 0 0 h (omega arith)) in
      rw e at z

  -- Every other row in use has a position that was read.
  pub positions_in_lem : (r : ℕ) → r < s.used → 0 < r → get_or words (row_at s.allowed r) 0 ≤ s.positions
  positions_in_lem r h p =
      let e : row_at s.allowed r + 0 ≡ row_at s.allowed r = omega arith in
      let rises : Bool = ltb (get_or words (row_at s.allowed (r - 1) + 0) 0) (get_or words (row_at s.allowed r + 0) 0) in
      let z : get_or words (row_at s.allowed r + 0) 0 ≤ s.positions = leb-true _ _ (both_true rises _ (later_position s words _ r 0 refl h refl p ∙ right_cell r 0 h (omega arith))).1 in
      rw e at z

-- Memory in order: each word of its rows is, and its labels' words are those of the open levels.
module _ (s : Shape) (words : List ℕ) (fine : first_fault s words ≡ None) (long : labels_from s + s.allowed ≡ length words) where
  right_at : (i : ℕ) → i < length words → word_right s words i ≡ true
  unfolding first_fault
  right_at i h = fine_all (word_right s words) (length words) 0 fine i (omega arith) (omega arith)

  pub cells_right : (r c : ℕ) → r < s.rows → c < width s → cell_right s (take (labels_from s) words) r c ≡ true
  cells_right r c h l =
      let inside = row_fits s.rows r (width s) _ (labels_from s) refl h (omega arith) in
      cell_in_rows s words r c (omega (arith, inside))
      ∙ sym (at_cell s words _ r c refl l h) ∙ right_at (row_at s.allowed r + c) (omega (arith, inside))

  label_right_lem : (l : ℕ) → l < s.allowed → label_right s (label_level l) (get_or (drop (labels_from s) words) l 0) ≡ true
  label_right_lem l h =
      ap (label_right s (label_level l)) (get_or-drop (labels_from s) words l 0)
      ∙ sym (at_label s words _ l refl) ∙ right_at (labels_from s + l) (omega arith)

  labels_long : length (drop (labels_from s) words) ≡ s.allowed
  labels_long = length-drop (labels_from s) words ∙ omega (arith, long)

  -- A level's word, where it is open and where it is not.
  pub label_open : (l : ℕ) → l < s.allowed → l < s.depth → (0 < get_or (drop (labels_from s) words) l 0) × (get_or (drop (labels_from s) words) l 0 ≤ s.labels)
  label_open l h o =
      let x : ℕ = get_or (drop (labels_from s) words) l 0 in
      let both : (ltb 0 x && leb x s.labels) ≡ true = rw (le-leb (label_level l) s.depth (omega arith)) at (label_right_lem l h) in
      let p = both_true (ltb 0 x) (leb x s.labels) both in
      (ltb-true 0 x p.0, leb-true x s.labels p.1)

  label_closed : (l : ℕ) → l < s.allowed → s.depth ≤ l → get_or (drop (labels_from s) words) l 0 ≡ 0
  label_closed l h o = eqb-true _ 0 (rw (lt-leb (label_level l) s.depth (omega arith)) at (label_right_lem l h))

  pub labels_in_lem : s.allowed ≤ 40 → s.depth ≤ s.allowed → LabelsIn s.depth (drop (labels_from s) words)
  labels_in_lem small deep =
      record {
        short = omega (arith, labels_long);
        deep = omega (arith, labels_long);
        same = labels_of_zeros (drop (labels_from s) words) s.depth (omega (arith, labels_long))
            (λ i h. (label_open i (omega arith) h).0)
            (λ i h l. label_closed i (omega (arith, labels_long)) h);
      }
