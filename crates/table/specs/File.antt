-- Which files are tables: refusals 1 to 5 of 01, line by line, 3 and 5 with the places of 02's K3. Definitions only.
-- A file is the list of its bytes; past its end it reads as 0, so each line is a test on any file.
use Rattle.std.specs.Prelude.{List, [], ◌∷◌, Bool, not, cond, ◌&&◌, ℕ, ◌+◌, ◌*◌, eqb, leb, ltb, get_or, length, Option, Some, None, Result, Ok, Err}
use Rattle.meaning.specs.Masks.{all}
use Rattle.meaning.specs.Refusals.{Line, first_of}
use Rattle.meaning.specs.Search.{first_wrong}
use Rattle.meaning.specs.Table.{body_at, body_length, in_body}
use Rattle.bodies.specs.Sound.{states_in, labels_in, start_in}
use Rattle.table.specs.declared.Field.{Field}
use Rattle.table.specs.declared.Field.TheVariants as field
use Rattle.table.specs.declared.Refusal.{Refusal}
use Rattle.table.specs.declared.Refusal.TheVariants.{Short, Header, Contents, Length, Body}

-- x is from low to high.
abbrev pub between : ℕ → ℕ → ℕ → Bool
between low high x = leb low x && leb x high

-- 1: the file has under 29 bytes.
abbrev pub is_short : List ℕ → Bool
is_short f = ltb (length f) 29

-- 2, put the other way: n and k in range, start state < n, and byte 3 is 5.
abbrev pub header_right : List ℕ → Bool
header_right f =
    between 1 64 (states_in f) && (between 1 32 (labels_in f) && (ltb (start_in f) (states_in f) && eqb (get_or f 3 0) 5))

-- Two bytes, the low one first.
abbrev pub two_bytes : List ℕ → ℕ → ℕ
two_bytes f at = get_or f at 0 + 256 * get_or f (at + 1) 0

-- Where a field of contents entry i, counted from 0, begins in the file: the kind has one byte, offset and length have two.
abbrev pub field_at : ℕ → Field → ℕ
field_at i field.Kind = 4 + 5 * i
field_at i field.Offset = 4 + 5 * i + 1
field_at i field.Length = 4 + 5 * i + 3

-- It is the one that n and k fix: the kind is i + 1, then come its body's offset and length.
abbrev pub field_right : List ℕ → ℕ → Field → Bool
field_right f i field.Kind = eqb (get_or f (field_at i field.Kind) 0) (i + 1)
field_right f i field.Offset = eqb (two_bytes f (field_at i field.Offset)) (body_at (states_in f) (labels_in f) i)
field_right f i field.Length = eqb (two_bytes f (field_at i field.Length)) (body_length (states_in f) (labels_in f) i)

-- So is the whole entry.
abbrev pub entry_right : List ℕ → ℕ → Bool
entry_right f i = field_right f i field.Kind && (field_right f i field.Offset && field_right f i field.Length)

-- 3, put the other way: each contents entry is right.
abbrev pub contents_right : List ℕ → Bool
contents_right f = all 5 (entry_right f)

-- 4, put the other way: the file's length is the one that n and k fix.
abbrev pub length_right : List ℕ → Bool
length_right f = eqb (length f) (body_at (states_in f) (labels_in f) 5)

-- What each byte of body i is below: n for kinds 1 to 4, and 2 for kind 5.
abbrev pub body_limit : ℕ → ℕ → ℕ
body_limit n i = get_or (n ∷ n ∷ n ∷ n ∷ 2 ∷ []) i 0

-- Byte j of body i is below its limit, and so is every byte of it.
abbrev pub byte_right : List ℕ → ℕ → ℕ → Bool
byte_right f i j = ltb (in_body f i j) (body_limit (states_in f) i)

abbrev pub body_right : List ℕ → ℕ → Bool
body_right f i = all (body_length (states_in f) (labels_in f) i) (byte_right f i)

-- 5, put the other way: no body of kind 1 to 4 names a state ≥ n, and kind 5 holds no byte above 1.
abbrev pub bodies_right : List ℕ → Bool
bodies_right f = all 5 (body_right f)

-- The first entry that is not right, and the first field of entry i that is not; the length where the others are.
abbrev pub wrong_entry : List ℕ → ℕ
wrong_entry f = first_wrong 5 (entry_right f)

abbrev pub wrong_field : List ℕ → ℕ → Field
wrong_field f i = cond (field_right f i field.Kind) (cond (field_right f i field.Offset) field.Length field.Offset) field.Kind

-- The first body that is not right, and the first byte of body i that is not.
abbrev pub wrong_body : List ℕ → ℕ
wrong_body f = first_wrong 5 (body_right f)

abbrev pub wrong_byte : List ℕ → ℕ → ℕ
wrong_byte f i = first_wrong (body_length (states_in f) (labels_in f) i) (byte_right f i)

-- What the searches for these answer: nothing where all is right.
abbrev pub unless : {A : Type 0} → Bool → A → Option A
unless right wrong = cond right None (Some wrong)

abbrev pub field_found : List ℕ → ℕ → Option Field
field_found f i = unless (entry_right f i) (wrong_field f i)

abbrev pub entry_found : List ℕ → Option (ℕ × Field)
entry_found f = unless (contents_right f) (wrong_entry f, wrong_field f (wrong_entry f))

abbrev pub byte_found : List ℕ → ℕ → Option ℕ
byte_found f i = unless (body_right f i) (wrong_byte f i)

abbrev pub body_found : List ℕ → Option (ℕ × ℕ)
body_found f = unless (bodies_right f) (wrong_body f, wrong_byte f (wrong_body f))

-- 3 and 5 with their places: entries and bodies are counted from 1, the bytes of a body from 0.
abbrev pub by_contents : List ℕ → Refusal
by_contents f = Contents (wrong_entry f + 1) (wrong_field f (wrong_entry f))

abbrev pub by_bodies : List ℕ → Refusal
by_bodies f = Body (wrong_body f + 1) (wrong_byte f (wrong_body f))

-- What reading a file answers: n and k, or why it is refused.
abbrev pub Reading : Type 0
Reading = Result (ℕ × ℕ) Refusal

-- The refusals of a table file, in order of checking.
abbrev pub lines : List ℕ → List (Line Reading)
lines f =
    record { applies = is_short f; gives = Err Short }
    ∷ record { applies = not (header_right f); gives = Err Header }
    ∷ record { applies = not (contents_right f); gives = Err (by_contents f) }
    ∷ record { applies = not (length_right f); gives = Err Length }
    ∷ record { applies = not (bodies_right f); gives = Err (by_bodies f) }
    ∷ []

-- What reading a file answers.
abbrev pub reading_of : List ℕ → Reading
reading_of f = first_of (lines f) (Ok (states_in f, labels_in f))

-- 01's numbers of the refusals.
abbrev pub refusal_number : Refusal → ℕ
refusal_number Short = 1
refusal_number Header = 2
refusal_number (Contents entry x) = 3
refusal_number Length = 4
refusal_number (Body body byte) = 5

-- A field's number.
abbrev pub field_number : Field → ℕ
field_number field.Kind = 0
field_number field.Offset = 1
field_number field.Length = 2

-- The values that 3 and 5 carry: the entry or the body, and then the field or the byte in it. The others carry none.
abbrev pub refusal_part : Refusal → ℕ
refusal_part Short = 0
refusal_part Header = 0
refusal_part (Contents entry x) = entry
refusal_part Length = 0
refusal_part (Body body byte) = body

abbrev pub refusal_inside : Refusal → ℕ
refusal_inside Short = 0
refusal_inside Header = 0
refusal_inside (Contents entry x) = field_number x
refusal_inside Length = 0
refusal_inside (Body body byte) = byte

-- The number that a reading answers with: 0 where the file is taken.
abbrev pub number_of : Reading → ℕ
number_of (Ok sizes) = 0
number_of (Err why) = refusal_number why
