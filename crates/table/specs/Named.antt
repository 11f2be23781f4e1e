-- Which place of a file refusals 3 and 5 are to name: the first wrong one, in the order in which the bytes stand in the file.
-- Definitions only.
use Rattle.std.specs.Prelude.{true, false, List, ◌≡◌, ℕ, ◌+◌, ◌-◌, ◌<◌, ◌≤◌}
use Rattle.meaning.specs.Table.{body_at, body_length}
use Rattle.bodies.specs.Sound.{states_in, labels_in}
use Rattle.table.specs.File.{field_at, field_right, byte_right}
use Rattle.table.specs.declared.Field.{Field}
use Rattle.table.specs.declared.Refusal.{Refusal}
use Rattle.table.specs.declared.Refusal.TheVariants.{Short, Header, Contents, Length, Body}

-- Field x of an entry, counted from 1, is not the one that n and k fix, and every field before it in the file is.
pub record FirstField (f : List ℕ) (entry : ℕ) (x : Field) : Type 0 where
  pub an_entry : (1 ≤ entry) × (entry ≤ 5)
  pub wrong : field_right f (entry - 1) x ≡ false
  pub right_before : (i : ℕ) (y : Field) → field_at i y < field_at (entry - 1) x → field_right f i y ≡ true

-- Where byte j of body i, both counted from 0, stands in the file.
abbrev pub byte_at : List ℕ → ℕ → ℕ → ℕ
byte_at f i j = body_at (states_in f) (labels_in f) i + j

-- Byte j of body i is there.
abbrev pub IsByte : List ℕ → ℕ → ℕ → Type 0
IsByte f i j = (i < 5) × (j < body_length (states_in f) (labels_in f) i)

-- A byte of a body, the body counted from 1, is one that the body may not hold, and every byte of a body before it in the
-- file is one that it may.
pub record FirstByte (f : List ℕ) (body byte : ℕ) : Type 0 where
  pub a_body : 1 ≤ body
  pub inside : IsByte f (body - 1) byte
  pub wrong : byte_right f (body - 1) byte ≡ false
  pub right_before : (i j : ℕ) → IsByte f i j → byte_at f i j < byte_at f (body - 1) byte → byte_right f i j ≡ true

-- The place that a refusal names is the first wrong one.
abbrev pub Named : List ℕ → Refusal → Type 0
Named f Short = Unit {0}
Named f Header = Unit {0}
Named f (Contents entry x) = FirstField f entry x
Named f Length = Unit {0}
Named f (Body body byte) = FirstByte f body byte
