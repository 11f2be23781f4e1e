-- `rows_fault` meets its contract. The invariant of either loop: what is left of the search is the whole search.
use Rattle.std.specs.Prelude.{None, Some}
use mathlib.Core.Path.{◌≡◌, refl, sym, ap, subst, ◌∙◌}
use mathlib.Core.List.{List}
use mathlib.Core.Bool.{Bool}
use Prim.Native.Nat.{ℕ, ◌+◌, ◌*◌, ◌<◌, ◌≤◌}
use native.Mathlib.Omega.{arith}
use native.Mathlib.Nat.{mul-le-mul_right}
use Rattle.meaning.proofs.Search.{Rest, rest_end, rest_right, rest_wrong}
use Rattle.places.specs.Places.{row_at, row_length}
use Rattle.order.specs.declared.Shape.{Shape}
use Rattle.order.specs.Order.{word_right, cell_right, labels_from}
use Rattle.order.proofs.Cells.{row_fits}
use Rattle.places.proofs.Rows.{next_row}
use Rattle.order.proofs.Levels.{level_place}
use Rattle.order.proofs.Search.{at_cell, rest_fine, rest_fault}
use Rattle.order.proofs.rows_fault.Goals as goal

-- Row r ends where the labels begin, or before.
within : (s : Shape) (r : ℕ) → r < s.rows → row_at s.allowed r + row_length s.allowed ≤ labels_from s
within s r l = row_fits s.rows r (row_length s.allowed) _ _ refl l (omega arith)

-- The position of row r is the word at its place.
said : (s : Shape) (words : List ℕ) (r : ℕ) (b : Bool) → r < s.rows → b ≡ cell_right s words r 0 → word_right s words (row_at s.allowed r) ≡ b
said s words r b l e = at_cell s words (row_at s.allowed r) r 0 (omega arith) (omega arith) l ∙ sym e

pub loop-l-init : goal.loop-l-init
loop-l-init c =
    let s = c.args.s in
    let i = c.rows in
    record {
      most = omega arith;
      none = i.invariant.none;
      rest = rest_right Some None (word_right s c.args.words.now) (labels_from s) (row_at s.allowed i.r) _ i.invariant.rest (omega (arith, within s i.r c.rows-test.true)) (said s c.args.words.now i.r _ c.rows-test.true c.cell_right.ensures ∙ c.if-not-cell_right.false) (omega arith);
    }

pub loop-l-preserved : goal.loop-l-preserved
loop-l-preserved c =
    let s = c.args.s in
    let l = c.loop-l in
    record {
      most = omega arith;
      none = l.invariant.none;
      rest = rest_fine (word_right s c.args.words.now) (labels_from s) 3 (level_place s c.rows.r l.l) _ l.invariant.rest (omega (arith, within s c.rows.r c.rows-test.true)) (sym c.level_fault.ensures ∙ c.in_default.is) (omega arith);
    }

pub rows-preserved : goal.rows-preserved
rows-preserved c =
    let s = c.args.s in
    let l = c.loop-l in
    let r = c.rows.r in
    let e : level_place s r l.l ≡ row_at s.allowed (r + 1) = omega (arith, next_row r (row_length s.allowed)) in
    record {
      most = omega arith;
      none = l.invariant.none;
      rest = subst (λ (k : ℕ). Rest Some None (word_right s c.args.words.now) (labels_from s) k) e l.invariant.rest;
    }

pub returns-after-rows : goal.returns-after-rows
returns-after-rows c =
    let s = c.args.s in
    let i = c.rows in
    let all : row_at s.allowed s.rows ≤ row_at s.allowed i.r = mul-le-mul_right (row_length s.allowed) (omega arith) in
    i.invariant.none ∙ rest_end Some None (word_right s c.args.words.now) (labels_from s) _ i.invariant.rest (omega arith)

pub returns-then-not-cell_right : goal.returns-then-not-cell_right
returns-then-not-cell_right c =
    let s = c.args.s in
    let i = c.rows in
    let start : i.r * c.row_length-w.result ≡ row_at s.allowed i.r = ap (λ w. i.r * w) c.row_length-w.ensures in
    ap Some (omega (arith, start))
    ∙ rest_wrong Some None (word_right s c.args.words.now) (labels_from s) (row_at s.allowed i.r) i.invariant.rest (omega (arith, within s i.r c.rows-test.true)) (said s c.args.words.now i.r _ c.rows-test.true c.cell_right.ensures ∙ c.if-not-cell_right.true)

pub returns-in-Some : goal.returns-in-Some
returns-in-Some c =
    let s = c.args.s in
    let l = c.loop-l in
    rest_fault (word_right s c.args.words.now) (labels_from s) 3 (level_place s c.rows.r l.l) _ l.invariant.rest (omega (arith, within s c.rows.r c.rows-test.true)) (sym c.level_fault.ensures ∙ c.in-Some.is)
