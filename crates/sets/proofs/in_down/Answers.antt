-- `in_down` meets its contract. The invariant: the states of acc passed lead into x.
use mathlib.Core.Path.{ap, sym, ◌∙◌}
use Prim.Native.Nat.{ℕ}
use Rattle.meaning.specs.Table.{Table}
use native.Mathlib.Omega.{arith}
use mathlib.Core.Bool.{Bool, not, ◌&&◌, ◌||◌}
use borrow.Author.Tests.{lt-ltb, le-ltb}
use lib.Dec.{ltb}
use Rattle.meaning.specs.Masks.{has}
use Rattle.bodies.specs.Automaton.{automaton}
use Rattle.meaning.proofs.Tests.{all_passed, all_fails}
use Rattle.sets.proofs.Member.{no_state, leads_out}
use Rattle.sets.proofs.in_down.Goals as goal

-- State p, if it is one of acc, is a state of the table that leads into x.
test : Table → (acc q x p : ℕ) → Bool
test t acc q x p = not (has acc p) || (ltb p t.states && has x (t.apply q p))

pub returns-then-n-p : goal.returns-then-n-p
unfolding test
returns-then-n-p c =
    let l = c.loop-p in
    let t = automaton c.args.table.now in
    sym (all_fails 64 (test t c.args.acc c.args.q c.args.x) l.p (omega arith) (no_state c.holds.ensures _ _ c.if-holds.true (le-ltb l.p t.states (omega arith))))

pub returns-then-not-holds : goal.returns-then-not-holds
unfolding test
returns-then-not-holds c =
    let l = c.loop-p in
    let t = automaton c.args.table.now in
    let in_x = c.holds-then-holds.ensures ∙ ap (has c.args.x) c.apply.ensures in
    sym (all_fails 64 (test t c.args.acc c.args.q c.args.x) l.p (omega arith) (leads_out c.holds.ensures _ _ c.if-holds.true (lt-ltb l.p t.states (omega arith)) in_x (ap not c.if-not-holds.true)))

pub returns : goal.returns
unfolding test
returns c = all_passed 64 c.loop-p.p (test (automaton c.args.table.now) c.args.acc c.args.q c.args.x) (omega arith) (omega arith) c.loop-p.invariant
