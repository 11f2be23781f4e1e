-- The loop of `label_of` as a recursion over the rest of the list, and what it finds: the label by place among the lines.
-- Assumes nothing.
use Rattle.std.proofs.Common.{Option, Some, None}
use mathlib.Core.Path.{◌≡◌, refl, sym, ◌∙◌}
use mathlib.Core.Bool.{Bool, true, false, cond, ◌&&◌}
use mathlib.Core.List.{List, [], ◌∷◌, ◌++◌}
use Prim.Native.Nat.{ℕ, zero, suc, ◌+◌, ◌<◌, ◌≤◌}
use native.Mathlib.Decide.{dec_le}
use native.Mathlib.Omega.{arith}
use borrow.Author.Tests.{ltb-true, ltb-false, lt-ltb, le-ltb, ne_eqb}
use lib.Dec.{eqb, ltb}
use lib.ListN.{length, take}
use lib.Seq.{length-take-le}
use Rattle.grammar.specs.Names.{lines_from, named}
use Rattle.meaning.proofs.Tests.{both_true}
use Rattle.names.specs.declared.Word.{Word}
use Rattle.names.specs.Words.{has_byte, spelt, known, labelled, label_in}
use Rattle.names.proofs.Spelling.{Spells, length_more, spells_itself, spelt_is, length_short, length_long, has_byte_lem}
use Rattle.names.proofs.Finding.{begins, begins_more, begins_whole, label_from, label_is_place, no_label}

-- The label of w, sought from the middle of line l on, where `at` bytes of the line stand before, which agree with w or not.
abbrev pub seek : List ℕ → Word → ℕ → Bool → ℕ → Option ℕ
seek [] w at agrees l = None
seek (b ∷ s) w at agrees l =
    cond (ltb l 32)
    (cond (eqb b 10)
    (cond (agrees && eqb at w.length) (Some l) (seek s w 0 true (l + 1)))
    (seek s w (at + 1) (agrees && has_byte w at b) l))
    None

-- Where y stands before on line l, and n lines are left, a short name is found at its place.
seek_lines : {w : Word} {x : List ℕ} → Spells w x → length x ≤ 16 → (s y : List ℕ) (n l : ℕ) → l + n ≡ 32
    → seek s w (length y) (begins y x) l ≡ label_from (take n (lines_from y s)) x l
seek_lines h short [] y zero l e = refl
seek_lines h short [] y (suc n) l e = refl
seek_lines h short (b ∷ s) y zero l e = rw (le-ltb l 32 (omega arith))
seek_lines {w} {x} h short (b ∷ s) y (suc n) l e =
    go (eqb b 10) refl (seek_lines h short s [] n (l + 1) (omega arith)) (seek_lines h short s (y ++ (b ∷ [])) (suc n) l e)
  where
    go : (t : Bool) → eqb b 10 ≡ t
        → seek s w 0 true (l + 1) ≡ label_from (take n (lines_from [] s)) x (l + 1)
        → seek s w (length (y ++ (b ∷ []))) (begins (y ++ (b ∷ [])) x) l ≡ label_from (take (suc n) (lines_from (y ++ (b ∷ [])) s)) x l
        → seek (b ∷ s) w (length y) (begins y x) l ≡ label_from (take (suc n) (lines_from y (b ∷ s))) x l
    go true q next more = rw (lt-ltb l 32 (omega arith), q, next, h.length_is short, begins_whole y x)
    go false q next more = rw (lt-ltb l 32 (omega arith), q, has_byte_lem h short (length y) b, ← begins_more y x b, ← length_more y b) more

-- A word of more than 16 bytes is not found: no more than 16 bytes ever agree.
seek_long : (w : Word) → 16 < w.length → (s : List ℕ) (at : ℕ) (agrees : Bool) (l : ℕ) → (agrees ≡ true → at ≤ 16) → seek s w at agrees l ≡ None
seek_long w long [] at agrees l h = refl
seek_long w long (b ∷ s) at agrees l h =
    go (ltb l 32) (eqb b 10)
    (seek_long w long s 0 true (l + 1) (λ e. omega arith))
    (seek_long w long s (at + 1) (agrees && has_byte w at b) l further)
  where
    further : agrees && has_byte w at b ≡ true → at + 1 ≤ 16
    further e =
        let has = both_true (ltb at w.length) _ (both_true agrees _ e).1 in
        omega (arith, ltb-true at 16 (both_true (ltb at 16) _ has.1).0)

    never : (t : Bool) → agrees ≡ t → agrees && eqb at w.length ≡ false
    never true e = rw e (ne_eqb at w.length (λ q. omega (arith, h e)))
    never false e = rw e

    go : (t u : Bool) → seek s w 0 true (l + 1) ≡ None → seek s w (at + 1) (agrees && has_byte w at b) l ≡ None
        → cond t (cond u (cond (agrees && eqb at w.length) (Some l) (seek s w 0 true (l + 1))) (seek s w (at + 1) (agrees && has_byte w at b) l)) None ≡ None
    go true true next more = rw (never agrees refl) next
    go true false next more = more
    go false u next more = refl

-- The search from the beginning finds the label.
pub seek_is : (names : List ℕ) (w : Word) → length w.bytes ≡ 16 → seek names w 0 true 0 ≡ label_in names w
seek_is names w room = go (ltb w.length 17) refl
  where
    go : (t : Bool) → ltb w.length 17 ≡ t → seek names w 0 true 0 ≡ cond t (labelled (known names) (spelt w)) None
    go true e =
        let short : w.length ≤ 16 = omega (arith, ltb-true w.length 17 e) in
        let spells : Spells w (spelt w) = spells_itself w room short in
        seek_lines spells (omega (arith, length-take-le w.length w.bytes (omega arith))) names [] 32 0 refl ∙ label_is_place (known names) (spelt w)
    go false e = seek_long w (ltb-false w.length 17 e) names 0 true 0 (λ q. omega arith)

pub label_of_short : (names : List ℕ) {w : Word} {x : List ℕ} → Spells w x → length x ≤ 16 → label_in names w ≡ labelled (known names) x
label_of_short names h short = rw (length_short h short, spelt_is h short)

-- The label of a word is that of the name that it spells, also where the word has no room for all of it.
pub label_of_spelt : (names : List ℕ) {w : Word} {x : List ℕ} → Spells w x → named (known names) ≡ true → label_in names w ≡ labelled (known names) x
label_of_spelt names {w} {x} h e = go (dec_le (length x) 16)
  where
    go : Dec (length x ≤ 16) → label_in names w ≡ labelled (known names) x
    go (yes short) = label_of_short names h short
    go (no long) = rw (length_long h (omega arith)) (sym (no_label (known names) x e (omega arith)))
