-- The list of names, which gives the labels by place (02, K1; each name stands on a line of its own). Definitions only.
use Rattle.std.specs.Prelude.{Bool, true, false, cond, ◌&&◌, List, [], ◌∷◌, ◌++◌, ℕ, zero, suc, eqb, ltb, length}
use Rattle.grammar.specs.Bytes.{is_letter, is_name_byte}

-- Two names are the same.
abbrev pub same : List ℕ → List ℕ → Bool
same [] [] = true
same [] (c ∷ y) = false
same (b ∷ x) [] = false
same (b ∷ x) (c ∷ y) = eqb b c && same x y

abbrev pub name_bytes : List ℕ → Bool
name_bytes [] = true
name_bytes (b ∷ x) = is_name_byte b && name_bytes x

-- A name begins with a letter and goes on in name bytes.
abbrev pub is_name : List ℕ → Bool
is_name [] = false
is_name (b ∷ x) = is_letter b && name_bytes x

-- The lines of a slice, each ended by a byte 10, where x stands before it on the first line. What stands after the last
-- byte 10 is no line.
abbrev pub lines_from : List ℕ → List ℕ → List (List ℕ)
lines_from x [] = []
lines_from x (b ∷ s) = cond (eqb b 10) (x ∷ lines_from [] s) (lines_from (x ++ (b ∷ [])) s)

abbrev pub lines_of : List ℕ → List (List ℕ)
lines_of s = lines_from [] s

-- Each name, followed by one byte 10.
abbrev pub on_lines : List (List ℕ) → List ℕ
on_lines [] = []
on_lines (x ∷ ns) = (x ++ (10 ∷ [])) ++ on_lines ns

-- The place of a name in the list, from 0: its label. The list's length where it is none of them.
abbrev pub place_of : List ℕ → List (List ℕ) → ℕ
place_of x [] = 0
place_of x (y ∷ ns) = cond (same x y) 0 (suc (place_of x ns))

-- The name at a place of the list.
abbrev pub name_at : List (List ℕ) → ℕ → List ℕ
name_at [] a = []
name_at (x ∷ ns) zero = x
name_at (x ∷ ns) (suc a) = name_at ns a

-- Each is a name of at most 16 bytes.
abbrev pub named : List (List ℕ) → Bool
named [] = true
named (x ∷ ns) = (is_name x && ltb (length x) 17) && named ns

-- The names ms, which stand in ns from place a on, are found there first: no name stands twice.
abbrev pub found : List (List ℕ) → ℕ → List (List ℕ) → Bool
found ns a [] = true
found ns a (x ∷ ms) = eqb (place_of x ns) a && found ns (suc a) ms

-- A good list: 1 to 32 different names of 1 to 16 bytes, each on a line of its own, and nothing else.
abbrev pub good_names : List ℕ → Bool
good_names s =
    let ns = lines_of s in
    same s (on_lines ns) && (ltb 0 (length ns) && (ltb (length ns) 33 && (named ns && found ns 0 ns)))
