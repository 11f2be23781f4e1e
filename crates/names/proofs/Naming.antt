-- The word of a label spells the line at that place. Assumes nothing.
use mathlib.Core.Path.{◌≡◌, refl}
use mathlib.Core.Bool.{Bool, true, false, cond}
use mathlib.Core.List.{List, [], ◌∷◌, ◌++◌}
use Prim.Native.Nat.{ℕ, zero, suc, ◌-◌, ◌<◌, ◌≤◌}
use native.Mathlib.Omega.{arith}
use borrow.Author.Tests.{lt-ltb}
use lib.Dec.{eqb, ltb, eqb-suc-zero}
use lib.ListN.{length}
use Rattle.grammar.specs.Names.{lines_from, lines_of, name_at}
use Rattle.names.specs.declared.Word.{Word}
use Rattle.names.specs.Words.{no_word, with_byte, word_from, word_at}
use Rattle.names.proofs.Spelling.{Spells, spells_none, spells_more}

one_less : (a : ℕ) → suc a - 1 ≡ a
one_less a = omega arith

-- Where the line on which w spells x is the first.
word_from_lem : (s : List ℕ) {w : Word} {x : List ℕ} → Spells w x → (a : ℕ) → a < length (lines_from x s) → Spells (word_from w s a) (name_at (lines_from x s) a)
word_from_lem [] h a l = absurd (omega arith)
word_from_lem (b ∷ s) {w} {x} h a l = go (eqb b 10) refl a l (word_from_lem s spells_none) (word_from_lem s (spells_more h b))
  where
    go : (t : Bool) → eqb b 10 ≡ t → (a : ℕ) → a < length (lines_from x (b ∷ s))
        → ((a : ℕ) → a < length (lines_from [] s) → Spells (word_from no_word s a) (name_at (lines_from [] s) a))
        → ((a : ℕ) → a < length (lines_from (x ++ (b ∷ [])) s) → Spells (word_from (with_byte w b) s a) (name_at (lines_from (x ++ (b ∷ [])) s) a))
        → Spells (word_from w (b ∷ s) a) (name_at (lines_from x (b ∷ s)) a)
    go true e zero l next more = rw e h
    go true e (suc a) l next more = rw (e, eqb-suc-zero a, one_less a) (next a (omega (arith, rw e at l)))
    go false e a l next more = rw e (more a (rw e at l))

pub word_spells : (names : List ℕ) (a : ℕ) → a < length (lines_of names) → a < 32 → Spells (word_at names a) (name_at (lines_of names) a)
word_spells names a l room = rw (lt-ltb a 32 room) (word_from_lem names spells_none a l)

-- After the last line there is no word.
none_from : (s : List ℕ) (w : Word) (x : List ℕ) (a : ℕ) → length (lines_from x s) ≤ a → word_from w s a ≡ no_word
none_from [] w x a l = refl
none_from (b ∷ s) w x a l = go (eqb b 10) refl a l (none_from s no_word []) (none_from s (with_byte w b) (x ++ (b ∷ [])))
  where
    go : (t : Bool) → eqb b 10 ≡ t → (a : ℕ) → length (lines_from x (b ∷ s)) ≤ a
        → ((a : ℕ) → length (lines_from [] s) ≤ a → word_from no_word s a ≡ no_word)
        → ((a : ℕ) → length (lines_from (x ++ (b ∷ [])) s) ≤ a → word_from (with_byte w b) s a ≡ no_word)
        → word_from w (b ∷ s) a ≡ no_word
    go true e zero l next more = absurd (omega (arith, rw e at l))
    go true e (suc a) l next more = rw (e, eqb-suc-zero a, one_less a) (next a (omega (arith, rw e at l)))
    go false e a l next more = rw e (more a (rw e at l))

pub no_word_lem : (names : List ℕ) (a : ℕ) → length (lines_of names) ≤ a → word_at names a ≡ no_word
no_word_lem names a l = go (ltb a 32)
  where
    go : (t : Bool) → cond t (word_from no_word names a) no_word ≡ no_word
    go true = none_from names no_word [] a l
    go false = refl
