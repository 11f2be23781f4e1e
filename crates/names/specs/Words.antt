-- A name as the reader and the writer hold it, and the list of names in its terms. Definitions only.
use Rattle.std.specs.Prelude.{Bool, false, not, cond, ◌&&◌, List, [], ◌∷◌, ℕ, ◌+◌, ◌-◌, eqb, ltb, length, get_or, set, replicate, take, Option, Some, None}
use Rattle.grammar.specs.Bytes.{is_letter, is_name_byte}
use Rattle.grammar.specs.Names.{lines_of, place_of}
use Rattle.names.specs.declared.Word.{Word}

abbrev pub no_word : Word
no_word = record { bytes = replicate 16 0; length = 0 }

-- One byte more; a word of more than 16 bytes keeps none of those after.
abbrev pub with_byte : Word → ℕ → Word
with_byte w b =
    cond (ltb w.length 16) (record { bytes = set w.bytes w.length b; length = w.length + 1 }) (record { bytes = w.bytes; length = 17 })

abbrev pub has_byte : Word → ℕ → ℕ → Bool
has_byte w at b = ltb at w.length && (ltb at 16 && eqb (get_or w.bytes at 0) b)

-- The bytes of the name.
abbrev pub spelt : Word → List ℕ
spelt w = take w.length w.bytes

-- The names that the reader and the writer know: the first 32 lines.
abbrev pub known : List ℕ → List (List ℕ)
known names = take 32 (lines_of names)

abbrev pub labelled : List (List ℕ) → List ℕ → Option ℕ
labelled ns x = cond (ltb (place_of x ns) (length ns)) (Some (place_of x ns)) None

-- A word of more than 16 bytes is none of the list's.
abbrev pub label_in : List ℕ → Word → Option ℕ
label_in names w = cond (ltb w.length 17) (labelled (known names) (spelt w)) None

-- A name of the list can go on with b.
abbrev pub goes_on_by : Word → ℕ → Bool
goes_on_by w b = cond (eqb w.length 0) (is_letter b) (ltb w.length 16 && is_name_byte b)

abbrev pub is_label : Option ℕ → ℕ → Bool
is_label (Some a) l = eqb a l
is_label None l = false

abbrev pub stands_at : List ℕ → Word → ℕ → Bool
stands_at names w l = not (eqb w.length 0) && is_label (label_in names w) l

-- The word on line a, where w stands before the first.
abbrev pub word_from : Word → List ℕ → ℕ → Word
word_from w [] a = no_word
word_from w (b ∷ s) a = cond (eqb b 10) (cond (eqb a 0) w (word_from no_word s (a - 1))) (word_from (with_byte w b) s a)

-- Of the first 32 lines.
abbrev pub word_at : List ℕ → ℕ → Word
word_at names a = cond (ltb a 32) (word_from no_word names a) no_word
