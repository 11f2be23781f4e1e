-- What a word spells: the list of bytes that it holds, or that there are more than it has room for. Assumes nothing.
use mathlib.Core.Path.{◌≡◌, refl, sym, ap, ◌∙◌}
use mathlib.Core.Bool.{Bool, true, false, ◌&&◌}
use mathlib.Core.List.{List, [], ◌∷◌, ◌++◌}
use Prim.Native.Nat.{ℕ, ◌+◌, ◌<◌, ◌≤◌}
use native.Mathlib.Decide.{dec_le}
use native.Mathlib.Numerals.{add-one}
use native.Mathlib.Omega.{arith}
use borrow.Author.Tests.{ltb-true, ltb-false, lt-ltb, le-ltb}
use lib.Dec.{eqb, ltb}
use lib.ListN.{length, get_or, set, take, length-append, length-set}
use lib.Seq.{length-take-le, take-suc-set, get_or-take}
use Rattle.names.specs.declared.Word.{Word}
use Rattle.names.specs.Words.{no_word, with_byte, has_byte, spelt}

pub record Spells (w : Word) (x : List ℕ) : Type 0 where
  pub room : length w.bytes ≡ 16
  pub length_is : length x ≤ 16 → w.length ≡ length x
  pub bytes_are : length x ≤ 16 → take (length x) w.bytes ≡ x
  pub longer : 16 < length x → 16 < w.length

pub spells_none : Spells no_word []
spells_none = record { room = refl; length_is = λ h. refl; bytes_are = λ h. refl; longer = λ h. absurd (omega arith) }

pub length_more : (x : List ℕ) (b : ℕ) → length (x ++ (b ∷ [])) ≡ length x + 1
length_more x b = length-append x (b ∷ [])

-- One byte more.
pub spells_more : {w : Word} {x : List ℕ} → Spells w x → (b : ℕ) → Spells (with_byte w b) (x ++ (b ∷ []))
spells_more {w} {x} h b = go (ltb w.length 16) refl
  where
    more : length (x ++ (b ∷ [])) ≡ length x + 1
    more = length_more x b

    short : w.length < 16 → length x ≤ 16
    short l = at_most (dec_le (length x) 16)
      where
        at_most : Dec (length x ≤ 16) → length x ≤ 16
        at_most (yes s) = s
        at_most (no s) = absurd (omega (arith, h.longer (omega arith)))

    full : 16 ≤ w.length → length x + 1 ≤ 16 → ⊥
    full l s = omega (arith, h.length_is (omega arith))

    joined : w.length < 16 → take (length x + 1) (set w.bytes w.length b) ≡ x ++ (b ∷ [])
    joined l =
        let n : w.length ≡ length x = h.length_is (short l) in
        let fits : length x < length w.bytes = omega (arith, h.room) in
        rw (n, add-one (length x), take-suc-set w.bytes (length x) b fits, h.bytes_are (short l))

    go : (t : Bool) → ltb w.length 16 ≡ t → Spells (with_byte w b) (x ++ (b ∷ []))
    go true e =
        let l : w.length < 16 = ltb-true w.length 16 e in
        rw e record {
          room = length-set w.bytes w.length b ∙ h.room;
          length_is = λ s. omega (arith, more, h.length_is (short l));
          bytes_are = λ s. rw more (joined l);
          longer = λ s. omega (arith, more, h.length_is (short l));
        }
    go false e =
        let l : 16 ≤ w.length = ltb-false w.length 16 e in
        rw e record {
          room = h.room;
          length_is = λ s. absurd (full l (omega (arith, more)));
          bytes_are = λ s. absurd (full l (omega (arith, more)));
          longer = λ s. omega arith;
        }

-- A word of at most 16 bytes spells them.
pub spells_itself : (w : Word) → length w.bytes ≡ 16 → w.length ≤ 16 → Spells w (spelt w)
spells_itself w room h =
    let long : length (spelt w) ≡ w.length = length-take-le w.length w.bytes (omega arith) in
    record { room = room; length_is = λ s. sym long; bytes_are = λ s. ap (λ (n : ℕ). take n w.bytes) long; longer = λ s. absurd (omega arith) }

module _ {w : Word} {x : List ℕ} (h : Spells w x) where
  pub spelt_is : length x ≤ 16 → spelt w ≡ x
  spelt_is s = rw (h.length_is s) (h.bytes_are s)

  pub length_short : length x ≤ 16 → ltb w.length 17 ≡ true
  length_short s = lt-ltb w.length 17 (omega (arith, h.length_is s))

  pub length_long : 16 < length x → ltb w.length 17 ≡ false
  length_long s = le-ltb w.length 17 (h.longer s)

  -- The byte at a place of the word is the one there of what it spells.
  pub has_byte_lem : length x ≤ 16 → (at b : ℕ) → has_byte w at b ≡ ltb at (length x) && eqb (get_or x at 0) b
  has_byte_lem s at b = go (ltb at (length x)) refl
    where
      go : (t : Bool) → ltb at (length x) ≡ t → has_byte w at b ≡ t && eqb (get_or x at 0) b
      go true e =
          let l : at < length x = ltb-true at (length x) e in
          let same_byte : get_or w.bytes at 0 ≡ get_or x at 0 = sym (get_or-take (length x) w.bytes at 0 l) ∙ ap (λ (y : List ℕ). get_or y at 0) (h.bytes_are s) in
          rw (h.length_is s, e, lt-ltb at 16 (omega arith), same_byte)
      go false e = rw (h.length_is s, e)
