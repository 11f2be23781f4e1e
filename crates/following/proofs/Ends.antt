-- What the end of a stream reports: every alive position, selected or failed as the query selects it, ascending. Assumes a
-- well-formed table and a whole stream.
use mathlib.Core.Bool.{not}
use mathlib.Core.List.{List, map}
use mathlib.Core.Logic.Iff
use mathlib.Core.Logic.{◌↔◌}
use Prim.Native.Nat.{ℕ, ◌≤◌}
use lib.Dec.{T_not, not_T}
use Rattle.meaning.specs.Table.{Table, WellFormed}
use Rattle.meaning.specs.Streams.{Event, positions, marked, Whole, Selects, Alive}
use Rattle.meaning.proofs.Rows.{row_is}
use Rattle.places.specs.Memory.{Held}
use Rattle.reports.specs.Reports.{selected_word, failed_word, end_report, end_reports}
use Rattle.following.specs.Lists.{In, Rising, position_of}
use Rattle.following.specs.Following.{memory_after}
use Rattle.following.proofs.Lists.{OneAt, each_rise}
use Rattle.following.proofs.Words.{end_says, says_selected, says_failed, says_one}
use Rattle.following.proofs.Exactly.{exactly_each}
use Rattle.following.proofs.Held.{held_rise, held_alive}

-- They ascend.
pub ends_rise : (t : Table) (w : List Event) → Rising (positions w) 0 (map position_of (end_reports t (memory_after t w).alive))
ends_rise t w = each_rise position_of (end_report t) one_word (memory_after t w).alive (held_rise t w)
  where
    one_word : (h : Held) → OneAt position_of h.position (end_report t h)
    one_word h = let b = t.final h.row.newest.state in rw (end_says b h.position) (says_one b (not b) h.position)

module _ (t : Table) (wf : WellFormed t) {w : List Event} (r : Whole t w) where
  -- Selected are the alive positions that the query selects.
  pub end_selected :
      (i : ℕ) →
      In (selected_word i) (end_reports t (memory_after t w).alive) ↔ (((1 ≤ i) × (i ≤ positions w) × Alive t i w) × Selects t i w)
  end_selected =
      exactly_each (held_alive t wf r) (end_report t) selected_word (λ i. Selects t i w)
      (λ i j h. let b = t.final (marked t j w).newest in rw (row_is t j w, end_says b j) (says_selected b (not b) i j))

  -- Failed are the alive positions that it does not select.
  pub end_failed :
      (i : ℕ) →
      In (failed_word i) (end_reports t (memory_after t w).alive) ↔ (((1 ≤ i) × (i ≤ positions w) × Alive t i w) × (¬ Selects t i w))
  end_failed =
      exactly_each (held_alive t wf r) (end_report t) failed_word (λ i. ¬ Selects t i w)
      (λ i j h.
      let b = t.final (marked t j w).newest in
      rw (row_is t j w, end_says b j) (Iff.trans (says_failed b (not b) i j (λ x y. T_not b y x)) (Iff.and Iff.rfl (T_not b, not_T b))))
