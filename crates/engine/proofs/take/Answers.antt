-- `take` meets its contract: the labels' words and the rows' words are lent one after the other.
use mathlib.Core.Path.{◌≡◌, sym, ap, ap₂, subst, ◌∙◌}
use mathlib.Core.List.{List, ◌++◌}
use Prim.Native.Nat.{ℕ, ◌-◌, ◌≤◌}
use native.Mathlib.Omega.{arith}
use borrow.Rule.Slice.PartMut.{put_mid, take_put}
use lib.ListN.{length, take, drop, length-drop}
use Rattle.bodies.specs.Automaton.{automaton}
use Rattle.meaning.specs.Streams.{opened_by}
use Rattle.answers.specs.declared.Record.{Record}
use Rattle.places.specs.Places.{rows_length, rows_part, labels_part}
use Rattle.places.specs.Memory.{labels_words, open_in, rows_words}
use Rattle.stepping.specs.Stepping.{left_memory}
use Rattle.stepping.specs.Extents.{memory_at, stepped_by}
use Rattle.stepping.specs.declared.Extent.{Extent}
use Rattle.rows.specs.Steps.{event_of}
use Rattle.engine.specs.Calls.{Ready, memory_of}
use Rattle.engine.proofs.Parts.{whole_rest, rest_after, fits_of}
use Rattle.engine.proofs.take.Goals as goal

-- The parts of work memory that are lent, where the labels' words begin at n.
module _ {s : ℕ} {r : Record} {work : List ℕ} (ready : Ready s r work) {n : ℕ} (from : n ≡ rows_length r.rows r.allowed) where
  inside : n ≤ length work
  inside = omega (arith, from, ready.size)

  labels_lent : take (length work - n) (drop n work) ≡ labels_part r.rows r.allowed work
  labels_lent = whole_rest n work inside ∙ ap (λ (k : ℕ). drop k work) from

  labels_long : length (labels_part r.rows r.allowed work) ≡ r.allowed
  labels_long = length-drop (rows_length r.rows r.allowed) work ∙ omega (arith, ready.size)

  -- The rows' words are as they were once the labels' are written.
  rows_lent : (labels : List ℕ) → take n (put_mid n (length work - n) work labels) ≡ rows_part r.rows r.allowed work
  rows_lent labels = take_put n (length work - n) work labels inside ∙ ap (λ (k : ℕ). take k work) from

pub slice_bounds-take_label-count : goal.slice_bounds-take_label-count
slice_bounds-take_label-count c = omega (arith, inside c.requires.ready c.rows_length-n.ensures)

pub take_label-requires : goal.take_label-requires
take_label-requires c =
    let a = c.args in
    rw (labels_lent c.requires.ready c.rows_length-n.ensures, labels_long c.requires.ready c.rows_length-n.ensures)
    (c.requires.ready.labels, fits_of (automaton a.rule.now.table) a.rule.now.table.sound.formed a.r.allowed a.r.depth (event_of a.rule.now.step) c.requires.can.0)

pub slice_bounds-take_step-end-2 : goal.slice_bounds-take_step-end-2
slice_bounds-take_step-end-2 c =
    c.rows_length-n.ensures ∙ sym c.requires.ready.rows.size ∙ sym (ap length (rows_lent c.requires.ready c.rows_length-n.ensures c.take_label.new.words))

pub take_step-requires : goal.take_step-requires
take_step-requires c =
    rw (rows_lent c.requires.ready c.rows_length-n.ensures c.take_label.new.words, c.extent.ensures)
    record { stands = c.requires.ready.rows; can = c.requires.can; rows_in_bounds = c.requires.rows_in_bounds; work_len_bound = c.requires.work_len_bound }

pub returns : goal.returns
returns c =
    let a = c.args in
    let rows = rows_lent c.requires.ready c.rows_length-n.ensures c.take_label.new.words in
    let g = c.take_step.ensures in
    let words : c.take_step.new.work ≡ rows_words a.r.rows a.r.allowed (left_memory (stepped_by a.rule.now a.r.positions (memory_of a.r a.work.now))) =
    subst (λ (e : Extent). c.take_step.new.work ≡ rows_words e.rows e.allowed (left_memory (stepped_by a.rule.now a.r.positions (memory_at e (rows_part a.r.rows a.r.allowed a.work.now))))) c.extent.ensures (rw rows at g.work_after) in
    let labels : c.take_label.new.words ≡ labels_words a.r.allowed (opened_by (open_in (labels_part a.r.rows a.r.allowed a.work.now) a.r.depth) (event_of a.rule.now.step)) =
    rw (labels_lent c.requires.ready c.rows_length-n.ensures, labels_long c.requires.ready c.rows_length-n.ensures) at c.take_label.ensures in
    record {
      value = rw (rows, c.extent.ensures) at g.value;
      work_after = ap₂ (λ (xs ys : List ℕ). xs ++ ys) words (rest_after c.rows_length-n.result a.work.now (inside c.requires.ready c.rows_length-n.ensures) c.take_label.new.words ∙ labels);
      reports_after = rw (rows, c.extent.ensures) at g.reports_after;
    }
