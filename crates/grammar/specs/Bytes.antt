-- The bytes of tagged text (02, K1). Definitions only.
use Rattle.std.specs.Prelude.{Bool, true, false, not, cond, ◌&&◌, ◌||◌, ℕ, suc, eqb, ltb}
use Rattle.grammar.specs.declared.Class.{Class}
use Rattle.grammar.specs.declared.Class.TheVariants as class

-- The byte is one of low to high, both counted.
abbrev pub within : ℕ → ℕ → ℕ → Bool
within low high b = not (ltb b low) && ltb b (suc high)

-- An ASCII letter, A to Z or a to z.
abbrev pub is_letter : ℕ → Bool
is_letter b = within 65 90 b || within 97 122 b

-- A letter, a digit, a hyphen, a dot or an underscore.
abbrev pub is_name_byte : ℕ → Bool
is_name_byte b = is_letter b || (within 48 57 b || (eqb b 45 || (eqb b 46 || eqb b 95)))

-- What may stand between tags: a space, a line feed, a carriage return.
abbrev pub is_blank : ℕ → Bool
is_blank b = eqb b 32 || (eqb b 10 || eqb b 13)

-- "<", "/" and ">".
abbrev pub less : ℕ
less = 60

abbrev pub slash : ℕ
slash = 47

abbrev pub greater : ℕ
greater = 62

-- The class of a byte, by the first of these tests that it passes.
abbrev pub class_of : ℕ → Class
class_of b =
    cond (is_blank b) class.Blank
    (cond (is_letter b) class.Letter
    (cond (is_name_byte b) class.Name
    (cond (eqb b less) class.Less
    (cond (eqb b slash) class.Slash
    (cond (eqb b greater) class.Greater class.Other)))))

---------------------------------------------------------------- tests of a class

abbrev pub of_blank : Class → Bool
of_blank class.Blank = true
of_blank k = false

abbrev pub of_letter : Class → Bool
of_letter class.Letter = true
of_letter k = false

-- A letter, or another byte of a name.
abbrev pub of_name : Class → Bool
of_name class.Letter = true
of_name class.Name = true
of_name k = false

abbrev pub of_less : Class → Bool
of_less class.Less = true
of_less k = false

abbrev pub of_slash : Class → Bool
of_slash class.Slash = true
of_slash k = false

abbrev pub of_greater : Class → Bool
of_greater class.Greater = true
of_greater k = false
