-- A call to which no line but the last applies has a work memory that can be stepped. Assumes nothing.
use mathlib.Core.Path.{◌≡◌, sym, ap, ◌∙◌}
use mathlib.Core.Bool.{Bool, cond}
use mathlib.Core.List.{List}
use Prim.Native.Nat.{ℕ, suc, ◌+◌, ◌*◌, ◌<◌, ◌≤◌}
use native.Mathlib.Nat.{suc-mul}
use native.Mathlib.Omega.{arith}
use lib.ListN.{length, get_or, drop}
use lib.Seq.{length-take-le, get_or-take, get_or-drop}
use Rattle.bodies.specs.Sound.{states_in, labels_in}
use Rattle.places.specs.Places.{position_at, row_length, rows_length, row_of, rows_part}
use Rattle.order.specs.declared.Shape.{Shape}
use Rattle.order.proofs.InOrder.{rows_in, rest_zero, run_position, positions_in_lem, cells_right, labels_in_lem}
use Rattle.order.specs.Order.{first_fault}
use Rattle.answers.specs.declared.Record.{Record}
use Rattle.judge.proofs.Passed.{Passed}
use Rattle.engine.specs.Calls.{Ready}

-- The position of a row among the alive ones.
position_at_lem : (w r : ℕ) (words : List ℕ) → 0 < w → get_or (row_of w r (drop w words)) position_at 0 ≡ get_or words (suc r * w) 0
position_at_lem w r words h =
    let e : w + (r * w + 0) ≡ suc r * w = omega (arith, suc-mul r w) in
    get_or-take w (drop (r * w) (drop w words)) 0 0 h ∙ get_or-drop (r * w) (drop w words) 0 0 ∙ get_or-drop w words (r * w + 0) 0 ∙ ap (λ k. get_or words k 0) e

pub ready : (f work : List ℕ) (r : Record) (reports : ℕ) → Passed f r work reports → Ready (states_in f) r work
ready f work r reports p =
    let shape : Bool → Shape = λ b.
    record {
      rows = r.rows + 1;
      allowed = r.allowed;
      used = cond b 0 (r.alive + 1);
      depth = r.depth;
      states = states_in f;
      positions = r.positions;
      labels = labels_in f;
    } in
    let s : Shape =
    record {
      rows = r.rows + 1;
      allowed = r.allowed;
      used = r.alive + 1;
      depth = r.depth;
      states = states_in f;
      positions = r.positions;
      labels = labels_in f;
    } in
    let c = p.called in
    let fine = sym (ap (λ b. first_fault (shape b) work) c.going_on) ∙ c.in_order in
    let part : List ℕ = rows_part r.rows r.allowed work in
    let part_long : rows_length r.rows r.allowed ≡ length part = sym (length-take-le (rows_length r.rows r.allowed) work (omega (arith, c.size))) in
    let most : r.alive + 1 ≤ r.rows + 1 = omega (arith, c.room) in
    let right = cells_right s work fine (sym c.size) in
    record {
      size = c.size;
      labels = labels_in_lem s work fine (sym c.size) c.few_levels c.deep;
      rows = record {
        few_rows = c.few_rows;
        few_levels = c.few_levels;
        deep = c.deep;
        room = c.room;
        size = sym part_long;
        rows_in = rows_in s part right c.few_levels c.deep most part_long;
        rest = rest_zero s part right c.few_levels c.deep most part_long;
        run_position = run_position s part right c.few_levels c.deep most part_long (omega arith);
        positions = λ i l.
            let h = positions_in_lem s part right c.few_levels c.deep most part_long (suc i) (omega arith) (omega arith) in
            omega (arith, position_at_lem (row_length r.allowed) i part (omega arith), h, c.numbered);
      };
    }
