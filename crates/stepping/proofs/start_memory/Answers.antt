-- `start_memory` meets its contract.
use mathlib.Core.Path.{ap, ap₂, ◌∙◌}
use mathlib.Core.List.{[]}
use lib.ListN.{set, replicate}
use Rattle.bodies.specs.Automaton.{automaton}
use Rattle.meaning.specs.Masks.{accs_of}
use Rattle.meaning.specs.Rows.{start_row}
use Rattle.places.specs.Places.{state_at, selecting_at, rejecting_at, rows_length}
use Rattle.places.specs.Memory.{rows_words}
use Rattle.stepping.proofs.Whole.{start_words}
use Rattle.stepping.proofs.start_memory.Goals as goal

pub returns : goal.returns
returns c =
    let rows = c.args.rows in
    let depth = c.args.depth in
    let t = automaton c.args.table.now in
    let q = c.start.result in
    let zeros = c.clear.ensures ∙ ap (λ k. replicate k 0) c.requires.rows_bound.2 in
    let selecting = rw (c.ends-finals.ensures, c.states-n.ensures, c.requires.accs_value) at c.safe-selecting.ensures in
    let rejecting = rw (c.ends-others.ensures, c.states-n.ensures, c.requires.accs_value) at c.safe-rejecting.ensures in
    rw (zeros, c.state_at.ensures, c.selecting_at.ensures, c.rejecting_at.ensures)
    (ap₂ (λ x y. set (set (set (replicate (rows_length rows depth) 0) (state_at 0) q) (selecting_at 0) x) (rejecting_at 0) y) selecting rejecting
    ∙ start_words rows depth q _ _
    ∙ ap (λ z. rows_words rows depth (record { run = record { newest = record { state = z; selecting = (start_row t (accs_of t)).newest.selecting; rejecting = (start_row t (accs_of t)).newest.rejecting }; below = [] }; alive = [] })) c.start.ensures)
