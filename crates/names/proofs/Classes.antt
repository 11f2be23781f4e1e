-- What the class of a byte tells of it. Assumes nothing.
use mathlib.Core.Path.{◌≡◌, refl, sym, ◌∙◌}
use mathlib.Core.Bool.{Bool, true, false, cond, ◌||◌, true≢false}
use Prim.Native.Nat.{ℕ}
use borrow.Author.Tests.{eqb-true}
use lib.Dec.{eqb}
use Rattle.grammar.specs.Bytes.{is_letter, is_name_byte, is_blank, less, slash, greater, class_of, of_blank, of_letter, of_name, of_less, of_slash, of_greater}
use Rattle.grammar.specs.declared.Class.{Class}
use Rattle.grammar.specs.declared.Class.TheVariants as class

-- A blank is no byte of a name.
pub blank_no_name : (b : ℕ) → is_blank b ≡ true → is_name_byte b ≡ false
blank_no_name b e = go (eqb b 32) (eqb b 10) (eqb b 13) refl refl refl e
  where
    go : (x y z : Bool) → eqb b 32 ≡ x → eqb b 10 ≡ y → eqb b 13 ≡ z → x || (y || z) ≡ true → is_name_byte b ≡ false
    go true y z p q r e = rw (eqb-true b 32 p)
    go false true z p q r e = rw (eqb-true b 10 q)
    go false false true p q r e = rw (eqb-true b 13 r)
    go false false false p q r e = absurd (true≢false (sym e))

letter_is_name : (b : ℕ) → is_letter b ≡ true → is_name_byte b ≡ true
letter_is_name b e = rw e

-- The class over bare tests, in their order.
abbrev by_tests : Bool → Bool → Bool → Bool → Bool → Bool → Class
by_tests blank letter name lt sl gt = cond blank class.Blank (cond letter class.Letter (cond name class.Name (cond lt class.Less (cond sl class.Slash (cond gt class.Greater class.Other)))))

others_no_name : (lt sl gt : Bool) → of_name (by_tests false false false lt sl gt) ≡ false
others_no_name true sl gt = refl
others_no_name false true gt = refl
others_no_name false false true = refl
others_no_name false false false = refl

-- A byte of a letter's or a name's class is one of a name.
pub class_name : (b : ℕ) → of_name (class_of b) ≡ is_name_byte b
class_name b = go (is_blank b) (is_letter b) (is_name_byte b) (blank_no_name b) (letter_is_name b)
  where
    go : (blank letter name : Bool) → (blank ≡ true → name ≡ false) → (letter ≡ true → name ≡ true)
        → of_name (by_tests blank letter name (eqb b less) (eqb b slash) (eqb b greater)) ≡ name
    go true letter name h g = sym (h refl)
    go false true name h g = sym (g refl)
    go false false true h g = refl
    go false false false h g = others_no_name (eqb b less) (eqb b slash) (eqb b greater)

others_no_letter : (name lt sl gt : Bool) → of_letter (by_tests false false name lt sl gt) ≡ false
others_no_letter true lt sl gt = refl
others_no_letter false true sl gt = refl
others_no_letter false false true gt = refl
others_no_letter false false false true = refl
others_no_letter false false false false = refl

-- A byte of a letter's class is a letter.
pub class_letter : (b : ℕ) → of_letter (class_of b) ≡ is_letter b
class_letter b = go (is_blank b) (is_letter b) (is_name_byte b) (blank_no_name b) (letter_is_name b)
  where
    go : (blank letter name : Bool) → (blank ≡ true → name ≡ false) → (letter ≡ true → name ≡ true)
        → of_letter (by_tests blank letter name (eqb b less) (eqb b slash) (eqb b greater)) ≡ letter
    go true true name h g = absurd (true≢false (sym (g refl) ∙ h refl))
    go true false name h g = refl
    go false true name h g = refl
    go false false name h g = others_no_letter name (eqb b less) (eqb b slash) (eqb b greater)

-- The classes of blanks and of the three marks.

others_no_blank : (letter name lt sl gt : Bool) → of_blank (by_tests false letter name lt sl gt) ≡ false
others_no_blank true name lt sl gt = refl
others_no_blank false true lt sl gt = refl
others_no_blank false false true sl gt = refl
others_no_blank false false false true gt = refl
others_no_blank false false false false true = refl
others_no_blank false false false false false = refl

pub class_blank : (b : ℕ) → of_blank (class_of b) ≡ is_blank b
class_blank b = go (is_blank b)
  where
    go : (blank : Bool) → of_blank (by_tests blank (is_letter b) (is_name_byte b) (eqb b less) (eqb b slash) (eqb b greater)) ≡ blank
    go true = refl
    go false = others_no_blank (is_letter b) (is_name_byte b) (eqb b less) (eqb b slash) (eqb b greater)

-- No class is a mark's where the mark's test fails.
no_less : (blank letter name sl gt : Bool) → of_less (by_tests blank letter name false sl gt) ≡ false
no_less true letter name sl gt = refl
no_less false true name sl gt = refl
no_less false false true sl gt = refl
no_less false false false true gt = refl
no_less false false false false true = refl
no_less false false false false false = refl

no_slash : (blank letter name lt gt : Bool) → of_slash (by_tests blank letter name lt false gt) ≡ false
no_slash true letter name lt gt = refl
no_slash false true name lt gt = refl
no_slash false false true lt gt = refl
no_slash false false false true gt = refl
no_slash false false false false true = refl
no_slash false false false false false = refl

no_greater : (blank letter name lt sl : Bool) → of_greater (by_tests blank letter name lt sl false) ≡ false
no_greater true letter name lt sl = refl
no_greater false true name lt sl = refl
no_greater false false true lt sl = refl
no_greater false false false true sl = refl
no_greater false false false false true = refl
no_greater false false false false false = refl

-- A byte is of a class exactly where it is the byte m, if m is and no other byte.
mark : (of : Class → Bool) (b m : ℕ) → of (class_of m) ≡ true → (eqb b m ≡ false → of (class_of b) ≡ false) → of (class_of b) ≡ eqb b m
mark of b m has others = go (eqb b m) refl
  where
    go : (t : Bool) → eqb b m ≡ t → of (class_of b) ≡ t
    go true e = rw (eqb-true b m e) has
    go false e = others e

pub class_less : (b : ℕ) → of_less (class_of b) ≡ eqb b less
class_less b = mark of_less b less refl (λ e. rw e (no_less (is_blank b) (is_letter b) (is_name_byte b) (eqb b slash) (eqb b greater)))

pub class_slash : (b : ℕ) → of_slash (class_of b) ≡ eqb b slash
class_slash b = mark of_slash b slash refl (λ e. rw e (no_slash (is_blank b) (is_letter b) (is_name_byte b) (eqb b less) (eqb b greater)))

pub class_greater : (b : ℕ) → of_greater (class_of b) ≡ eqb b greater
class_greater b = mark of_greater b greater refl (λ e. rw e (no_greater (is_blank b) (is_letter b) (is_name_byte b) (eqb b less) (eqb b slash)))
