-- `take_step` meets its contract: the laws of Taken, one after the other.
use mathlib.Core.Path.{◌≡◌}
use mathlib.Core.List.{◌++◌, map}
use Prim.Native.Nat.{◌+◌, ◌*◌, ◌≤◌}
use native.Mathlib.Omega.{arith}
use lib.ListN.{drop}
use Rattle.bodies.specs.Automaton.{automaton}
use Rattle.places.specs.Places.{row_length}
use Rattle.places.specs.Memory.{helds_in, all_words}
use Rattle.rows.specs.Steps.{event_of, step_row, on_row}
use Rattle.stepping.proofs.Kept.{other_of, counted_of}
use Rattle.stepping.proofs.Whole.{rest_part}
use Rattle.stepping.proofs.Taken.{later_in, later_small}
use Rattle.stepping.proofs.Ends.{report_fits, close_counts, close_words, close_reports, run_row, left_fits, row_fits, other_counts, other_words, other_reports}
use Rattle.stepping.proofs.take_step.Goals as goal

pub report_rows-count-requires : goal.report_rows-count-requires
report_rows-count-requires c =
    let stepped-is : c.step_rows.new.words ≡ all_words (row_length c.args.extent.allowed) (map (on_row (step_row (automaton c.args.rule.now.table) c.args.rule.now.accs.now (event_of c.args.rule.now.step))) (helds_in (row_length c.args.extent.allowed) c.args.extent.depth (c.args.extent.alive + 1) c.args.work.now)) ++ drop ((c.args.extent.alive + 1) * row_length c.args.extent.allowed) c.args.work.now = rw c.row_length-w.ensures at c.step_rows.ensures in
    let a = c.args in
    let next = c.step_rows.new.words in
    let is = stepped-is in
    let w-is = c.row_length-w.ensures in
    let d-is = c.depth_after-d.ensures in
    rw (w-is, d-is, rest_part next (row_length a.extent.allowed))
    record { rows_in = later_in (automaton a.rule.now.table) c.args.rule.now.table.sound.formed a.rule.now.accs.now (event_of a.rule.now.step) a.extent.rows a.extent.allowed a.extent.depth a.extent.alive a.work.now c.requires.stands c.requires.can.0 next is; n_bound = (omega (arith, c.requires.stands.room, c.requires.stands.few_rows), omega (arith, c.requires.stands.room, c.requires.rows_in_bounds)); by_index = later_small (automaton a.rule.now.table) c.args.rule.now.table.sound.formed a.rule.now.accs.now (event_of a.rule.now.step) a.extent.rows a.extent.allowed a.extent.depth a.extent.alive a.work.now c.requires.stands c.requires.can.0 next is }

pub close_rows-left-requires : goal.close_rows-left-requires
close_rows-left-requires c =
    let stepped-is : c.step_rows.new.words ≡ all_words (row_length c.args.extent.allowed) (map (on_row (step_row (automaton c.args.rule.now.table) c.args.rule.now.accs.now (event_of c.args.rule.now.step))) (helds_in (row_length c.args.extent.allowed) c.args.extent.depth (c.args.extent.alive + 1) c.args.work.now)) ++ drop ((c.args.extent.alive + 1) * row_length c.args.extent.allowed) c.args.work.now = rw c.row_length-w.ensures at c.step_rows.ensures in
    let a = c.args in
    let next = c.step_rows.new.words in
    let is = stepped-is in
    let w-is = c.row_length-w.ensures in
    let d-is = c.depth_after-d.ensures in record { rows_in = rw (w-is, d-is, rest_part next (row_length a.extent.allowed)) (later_in (automaton a.rule.now.table) c.args.rule.now.table.sound.formed a.rule.now.accs.now (event_of a.rule.now.step) a.extent.rows a.extent.allowed a.extent.depth a.extent.alive a.work.now c.requires.stands c.requires.can.0 next is); n_bound = (omega (arith, c.requires.stands.room, c.requires.stands.few_rows), c.report_rows-count.ensures.value) }

pub returns-in-Close : goal.returns-in-Close
returns-in-Close c =
    let a = c.args in
    record {
      value = close_counts _ c.args.rule.now.table.sound.formed _ a.rule.now.step _ _ _ _ a.positions _ a.reports.now c.requires.stands c.requires.can.0 _ _ c.row_length-w.ensures c.depth_after-d.ensures _ c.step_rows.ensures _ _ c.report_rows-count.ensures.value c.report_rows-count.ensures.reports_after _ _ c.close_rows-left.ensures.value c.close_rows-left.ensures.words_after c.step_rows.auto.words c.close_rows-left.auto.words c.in-Close.is;
      work_after = close_words _ c.args.rule.now.table.sound.formed _ a.rule.now.step _ _ _ _ a.positions _ a.reports.now c.requires.stands c.requires.can.0 _ _ c.row_length-w.ensures c.depth_after-d.ensures _ c.step_rows.ensures _ _ c.report_rows-count.ensures.value c.report_rows-count.ensures.reports_after _ _ c.close_rows-left.ensures.value c.close_rows-left.ensures.words_after c.step_rows.auto.words c.close_rows-left.auto.words c.in-Close.is;
      reports_after = close_reports _ c.args.rule.now.table.sound.formed _ a.rule.now.step _ _ _ _ a.positions _ a.reports.now c.requires.stands c.requires.can.0 _ _ c.row_length-w.ensures c.depth_after-d.ensures _ c.step_rows.ensures _ _ c.report_rows-count.ensures.value c.report_rows-count.ensures.reports_after _ _ c.close_rows-left.ensures.value c.close_rows-left.ensures.words_after c.step_rows.auto.words c.close_rows-left.auto.words c.in-Close.is;
    }

pub add_position-requires : goal.add_position-requires
add_position-requires c =
    let a = c.args in
    let other = other_of a.rule.now.step c.in_default.not-Close in
    let few = counted_of a.rule.now.step a.positions other c.requires.can.1 in
    let rows_few : a.extent.rows ≤ 64 = c.requires.stands.few_rows in
    let levels_few : a.extent.allowed ≤ 40 = c.requires.stands.few_levels in
    let left_few = left_fits _ c.args.rule.now.table.sound.formed _ a.rule.now.step _ _ _ _ a.positions _ a.reports.now c.requires.stands c.requires.can.0 _ _ c.row_length-w.ensures c.depth_after-d.ensures _ c.step_rows.ensures _ _ c.report_rows-count.ensures.value c.report_rows-count.ensures.reports_after _ _ c.close_rows-left.ensures.value c.close_rows-left.ensures.words_after c.step_rows.auto.words c.close_rows-left.auto.words other c.requires.work_len_bound in
    record {
      row_in = run_row _ c.args.rule.now.table.sound.formed _ a.rule.now.step _ _ _ _ a.positions _ a.reports.now c.requires.stands c.requires.can.0 _ _ c.row_length-w.ensures c.depth_after-d.ensures _ c.step_rows.ensures _ _ c.report_rows-count.ensures.value c.report_rows-count.ensures.reports_after _ _ c.close_rows-left.ensures.value c.close_rows-left.ensures.words_after c.step_rows.auto.words c.close_rows-left.auto.words;
      w_bound = (omega (arith, c.row_length-w.ensures, levels_few), omega (arith, few), omega (arith, left_few, rows_few), report_fits _ c.args.rule.now.table.sound.formed _ a.rule.now.step _ _ _ _ a.positions _ a.reports.now c.requires.stands c.requires.can.0 _ _ c.row_length-w.ensures c.depth_after-d.ensures _ c.step_rows.ensures _ _ c.report_rows-count.ensures.value c.report_rows-count.ensures.reports_after c.report_rows-count.auto.reports c.requires.rows_in_bounds);
      w_in_bounds = row_fits _ c.args.rule.now.table.sound.formed _ a.rule.now.step _ _ _ _ a.positions _ a.reports.now c.requires.stands c.requires.can.0 _ _ c.row_length-w.ensures c.depth_after-d.ensures _ c.step_rows.ensures _ _ c.report_rows-count.ensures.value c.report_rows-count.ensures.reports_after _ _ c.close_rows-left.ensures.value c.close_rows-left.ensures.words_after c.step_rows.auto.words c.close_rows-left.auto.words other c.requires.work_len_bound;
    }

pub returns : goal.returns
returns c =
    let a = c.args in
    let other = other_of a.rule.now.step c.in_default.not-Close in
    let g = c.add_position in
    record {
      value = other_counts _ c.args.rule.now.table.sound.formed _ a.rule.now.step _ _ _ _ a.positions _ a.reports.now c.requires.stands c.requires.can.0 _ _ c.row_length-w.ensures c.depth_after-d.ensures _ c.step_rows.ensures _ _ c.report_rows-count.ensures.value c.report_rows-count.ensures.reports_after _ _ c.close_rows-left.ensures.value c.close_rows-left.ensures.words_after c.step_rows.auto.words c.close_rows-left.auto.words other g.result g.ensures.value;
      work_after = other_words _ c.args.rule.now.table.sound.formed _ a.rule.now.step _ _ _ _ a.positions _ a.reports.now c.requires.stands c.requires.can.0 _ _ c.row_length-w.ensures c.depth_after-d.ensures _ c.step_rows.ensures _ _ c.report_rows-count.ensures.value c.report_rows-count.ensures.reports_after _ _ c.close_rows-left.ensures.value c.close_rows-left.ensures.words_after c.step_rows.auto.words c.close_rows-left.auto.words other g.new.work g.ensures.work_after g.auto.work;
      reports_after = other_reports _ c.args.rule.now.table.sound.formed _ a.rule.now.step _ _ _ _ a.positions _ a.reports.now c.requires.stands c.requires.can.0 _ _ c.row_length-w.ensures c.depth_after-d.ensures _ c.step_rows.ensures _ _ c.report_rows-count.ensures.value c.report_rows-count.ensures.reports_after _ _ c.close_rows-left.ensures.value c.close_rows-left.ensures.words_after c.step_rows.auto.words c.close_rows-left.auto.words other g.new.reports g.ensures.reports_after;
    }
