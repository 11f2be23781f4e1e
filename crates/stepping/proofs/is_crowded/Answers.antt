-- `is_crowded` meets its contract.
use mathlib.Core.Path.{sym}
use Prim.Native.Nat.{◌≤◌}
use native.Mathlib.Omega.{arith}
use Rattle.bodies.specs.Automaton.{automaton}
use Rattle.places.specs.Places.{row_length}
use Rattle.places.proofs.Good.{rows_later}
use Rattle.rows.specs.Steps.{event_of}
use Rattle.stepping.proofs.Kept.{other_of}
use Rattle.stepping.proofs.Whole.{rest_part}
use Rattle.stepping.proofs.Crowded.{run_part, room_free, room_close, room_decided, room_asked, run_length, run_in}
use mathlib.Core.Path.{ap}
use mathlib.Core.Bool.{not}
use Rattle.stepping.proofs.is_crowded.Goals as goal

pub new_stays-requires : goal.new_stays-requires
new_stays-requires c =
    let a = c.args in
    rw (c.row_length-w.ensures, run_length (automaton a.rule.now.table).states a.extent.rows a.extent.allowed a.extent.depth a.extent.alive a.work.now c.requires.stands) record { row_in = run_in (automaton a.rule.now.table).states a.extent.rows a.extent.allowed a.extent.depth a.extent.alive a.work.now c.requires.stands; can = c.requires.can }

pub count_alive-requires : goal.count_alive-requires
count_alive-requires c =
    let a = c.args in
    let few : a.extent.alive ≤ 65 = omega (arith, c.requires.stands.room, c.requires.stands.few_rows) in
    let e = c.row_length-w.ensures in
    rw (rest_part a.work.now c.row_length-w.result, e)
    record { rows_in = rows_later (automaton a.rule.now.table).states (row_length a.extent.allowed) a.extent.depth a.extent.alive a.work.now c.requires.stands.rows_in; n_bound = (few, c.requires.can) }

pub returns-in-Close : goal.returns-in-Close
returns-in-Close c p =
    let a = c.args in
    room_close (automaton a.rule.now.table) a.rule.now.accs.now a.extent.rows a.extent.allowed a.extent.depth a.extent.alive a.work.now a.rule.now.step p c.requires.stands.room c.in-Close.is

pub returns-then-not-new_stays : goal.returns-then-not-new_stays
returns-then-not-new_stays c p =
    let a = c.args in
    let told = rw (c.row_length-w.ensures, sym (run_part (row_length a.extent.allowed) a.work.now)) at c.new_stays.ensures in
    room_decided (automaton a.rule.now.table) a.rule.now.accs.now a.extent.rows a.extent.allowed a.extent.depth a.extent.alive a.work.now (event_of a.rule.now.step) p _ c.requires.stands.room told (ap not c.if-not-new_stays.true)

pub returns : goal.returns
returns c p =
    let a = c.args in
    let e = c.row_length-w.ensures in
    let told = rw (e, sym (run_part (row_length a.extent.allowed) a.work.now)) at c.new_stays.ensures in
    let counted = rw (rest_part a.work.now c.row_length-w.result, e) at c.count_alive.ensures in
    room_asked (automaton a.rule.now.table) a.rule.now.accs.now a.extent.rows a.extent.allowed a.extent.depth a.extent.alive a.work.now a.rule.now.step p _ _ c.requires.stands.room (other_of a.rule.now.step c.in_default.not-Close) told (ap not c.if-not-new_stays.false) counted

pub returns-then-extent : goal.returns-then-extent
returns-then-extent c p =
    let a = c.args in
    room_free (automaton a.rule.now.table) a.rule.now.accs.now a.extent.rows a.extent.allowed a.extent.depth a.extent.alive a.work.now (event_of a.rule.now.step) p c.if-extent.true
