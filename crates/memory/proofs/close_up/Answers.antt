-- `close_up` meets its contract. Assumes nothing.
use mathlib.Core.Path.{◌≡◌, sym, ◌∙◌}
use mathlib.Core.Bool.{not}
use Prim.Native.Nat.{◌+◌, ◌-◌, ◌*◌, ◌≤◌}
use native.Mathlib.Nat.{add-sub_cancel_left}
use native.Mathlib.Omega.{arith}
use lib.ListN.{length, drop}
use lib.Seq.{paste}
use Rattle.places.specs.Places.{row_of}
use Rattle.places.specs.Memory.{row_in}
use Rattle.rows.specs.Steps.{is_decided}
use Rattle.places.proofs.Rows.{row_fits}
use Rattle.memory.proofs.Turns.{closed_yes, closed_no, copied_onto, row_words_lem}
use Rattle.memory.proofs.close_up.Goals as goal
use Rattle.memory.proofs.close_up.Goals.{then-is_left, then-left-r, else-left-r, else-is_left}

pub loop-r-preserved : goal.loop-r-preserved
loop-r-preserved c =
    let a = c.args in
    let l = c.loop-r in
    let inside : l.r * a.w + a.w ≤ length l.words = row_fits a.n _ _ _ (omega arith) (omega (arith, l.invariant.len, c.requires.rows_in.fits)) in
    let told : c.is_left.result ≡ not (is_decided (row_in a.d (row_of a.w l.r a.words.now))) =
    rw (add-sub_cancel_left (l.r * a.w) a.w, l.invariant.back) at c.is_left.ensures in
    elim c.if-is_left.branch [
      | then-is_left x ↦
          let moved : x.if-left-r.words ≡ paste l.words (l.left * a.w) (drop (l.r * a.w) l.words) a.w =
          elim x.if-left-r.branch [
            | then-left-r y ↦ y.words-is ∙ y.copy_words.ensures
            | else-left-r y ↦
                let k : l.left ≡ l.r = omega (arith, l.invariant.left_max, y.if-left-r.false) in
                y.words-is ∙ sym (rw k (copied_onto l.words (l.r * a.w) a.w))
          ] in
          rw (x.words-is, moved, x.left-is)
          (closed_yes a.w a.d a.n a.words.now l.words l.r l.left l.invariant c.loop-r-test.true inside _ told
          (row_words_lem 64 a.w a.d a.n l.r a.words.now c.requires.rows_in c.loop-r-test.true) x.if-is_left.true)
      | else-is_left x ↦
          rw (x.words-is, x.left-is) (closed_no a.w a.d a.n a.words.now l.words l.r l.left l.invariant c.loop-r-test.true inside _ told x.if-is_left.false)
    ]
