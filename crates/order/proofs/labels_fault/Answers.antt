-- `labels_fault` meets its contract. The invariant of the loop: what is left of the search is the whole search.
use Rattle.std.specs.Prelude.{Option, None, Some}
use mathlib.Core.Path.{◌≡◌, refl, sym, ap, ◌∙◌}
use mathlib.Core.Bool.{Bool}
use mathlib.Core.List.{List}
use Prim.Native.Nat.{ℕ, ◌+◌, ◌*◌}
use native.Mathlib.Omega.{arith}
use lib.ListN.{length, get_or}
use Rattle.meaning.proofs.Search.{rest_start, rest_end, rest_right, rest_wrong}
use Rattle.places.specs.Places.{label_level}
use Rattle.order.specs.declared.Shape.{Shape}
use Rattle.order.specs.Order.{label_right, labels_from, word_right, first_from, first_fault}
use Rattle.order.proofs.Search.{at_label, rest_fine}
use Rattle.order.proofs.LabelsFaultTurns.{all}
use Rattle.order.proofs.labels_fault.Goals as goal

-- The search over so many places is the whole.
whole : (s : Shape) (words : List ℕ) (p : Option ℕ) → all s ≡ length words → p ≡ first_from (word_right s words) 0 (all s) → p ≡ first_fault s words
unfolding first_fault
whole s words p e h = h ∙ ap (first_from (word_right s words) 0) e

-- The word of label i is in order exactly if its test says so.
said : (s : Shape) (words : List ℕ) (from level i : ℕ) (b : Bool) → from ≡ labels_from s → level ≡ label_level i → b ≡ label_right s level (get_or words (from + i) 0)
    → word_right s words (labels_from s + i) ≡ b
said s words from level i b e f g = at_label s words _ i refl ∙ sym (rw (e, f) at g)

pub loop-i-init : goal.loop-i-init
loop-i-init c =
    let s = c.args.s in
    record {
      most = omega arith;
      begins = ap (λ (w : ℕ). s.rows * w) c.row_length.ensures;
      rest = rest_fine (word_right s c.args.words.now) (all s) (labels_from s) 0 (labels_from s + 0)
          (rest_start Some None (word_right s c.args.words.now) (all s)) (omega arith) (sym c.requires.value) (omega arith);
    }

pub loop-i-preserved : goal.loop-i-preserved
loop-i-preserved c =
    let s = c.args.s in
    let l = c.loop-i in
    let right = said s c.args.words.now _ _ l.i _ l.invariant.begins c.label_level.ensures c.label_right.ensures ∙ c.if-not-label_right.false in
    record {
      most = omega arith;
      begins = l.invariant.begins;
      rest = rest_right Some None (word_right s c.args.words.now) (all s) (labels_from s + l.i) (labels_from s + (l.i + 1)) l.invariant.rest (omega arith) right (omega arith);
    }

pub returns-then-not-label_right : goal.returns-then-not-label_right
returns-then-not-label_right c =
    let s = c.args.s in
    let l = c.loop-i in
    let wrong = said s c.args.words.now _ _ l.i _ l.invariant.begins c.label_level.ensures c.label_right.ensures ∙ c.if-not-label_right.true in
    whole s c.args.words.now _ c.requires.allowed_bound.2
    (ap (λ (n : ℕ). Some (n + l.i)) l.invariant.begins
    ∙ rest_wrong Some None (word_right s c.args.words.now) (all s) (labels_from s + l.i) l.invariant.rest (omega arith) wrong)

pub returns : goal.returns
returns c =
    let s = c.args.s in
    let l = c.loop-i in
    whole s c.args.words.now _ c.requires.allowed_bound.2 (rest_end Some None (word_right s c.args.words.now) (all s) (labels_from s + l.i) l.invariant.rest (omega arith))
