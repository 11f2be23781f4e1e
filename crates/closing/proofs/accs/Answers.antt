-- `accs` meets its contract. The invariant: the states passed have their sets, the others 0.
use mathlib.Core.Path.{ap, ◌∙◌}
use Prim.Native.Nat.{ℕ}
use native.Mathlib.Omega.{arith}
use mathlib.Core.List.{List}
use lib.ListN.{set}
use Rattle.meaning.specs.Masks.{acc_of}
use Rattle.bodies.specs.Automaton.{automaton}
use Rattle.meaning.proofs.Folds.{tabulate_more}
use Rattle.bodies.proofs.Fits.{state_fits}
use Rattle.closing.proofs.accs.Goals as goal

pub loop-q-preserved : goal.loop-q-preserved
loop-q-preserved c =
    let l = c.loop-q in
    let t = automaton c.args.table.now in
    let fits = state_fits _ c.args.table.now.sound l.q (omega arith) in
    ap (λ (xs : List ℕ). set xs l.q c.acc.result) l.invariant ∙ tabulate_more 64 l.q c.acc.result (acc_of t c.args.trees) fits c.acc.ensures
