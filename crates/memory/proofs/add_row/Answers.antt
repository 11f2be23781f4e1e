-- `add_row` meets its contract. Assumes nothing.
use mathlib.Core.Path.{◌≡◌}
use mathlib.Core.List.{List}
use Prim.Native.Nat.{ℕ, ◌+◌, ◌*◌, ◌≤◌}
use native.Mathlib.Nat.{add-sub_cancel_left}
use native.Mathlib.Omega.{arith}
use lib.ListN.{length}
use Rattle.bodies.specs.Automaton.{automaton}
use Rattle.meaning.specs.Rows.{mark_row}
use Rattle.places.specs.Memory.{Held, row_in, row_words}
use Rattle.places.proofs.Rows.{next_row}
use Rattle.memory.proofs.Turns.{copied_row, copied_end}
use mathlib.Core.Path.{subst}
use lib.ListN.{take}
use lib.ListN.{drop}
use Rattle.memory.proofs.add_row.Goals as goal

pub mark_row-requires : goal.mark_row-requires
mark_row-requires c =
    let fits : c.args.r * c.args.w + c.args.w ≤ length c.args.words.now = omega (arith, next_row c.args.r c.args.w) in
    let a = c.args in
    rw (add-sub_cancel_left (a.r * a.w) a.w, copied_row a.w a.r a.words.now _ fits c.copy_words.ensures) c.requires.row_in

pub returns : goal.returns
returns c =
    let a = c.args in
    let fits : a.r * a.w + a.w ≤ length a.words.now = omega (arith, next_row a.r a.w) in
    let last = c.copy_words.new.words in
    let e = add-sub_cancel_left (a.r * a.w) a.w in
    let f : List ℕ → Held = λ row. record { position = a.position; row = mark_row (automaton a.table.now) (row_in a.d row) } in
    let row : ℕ → List ℕ = λ k. take k (drop (a.r * a.w) last) in
    let told : c.mark_row.new.row ≡ row_words (length (row a.w)) (f (row a.w)) =
    subst (λ (k : ℕ). c.mark_row.new.row ≡ row_words (length (row k)) (f (row k))) e c.mark_row.ensures in
    rw e (copied_end a.w a.r a.words.now last fits c.copy_words.ensures f c.mark_row.new.row told)
