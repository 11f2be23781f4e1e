-- Which place of a text is the first at fault, and by what kind, told by the grammar and not by how a text is read.
-- Definitions only.
use Rattle.std.specs.Prelude.{◌≡◌, true, List, [], ◌∷◌, ◌++◌, ℕ, ◌<◌, ◌≤◌, length}
use Rattle.grammar.specs.declared.Fault.{Fault}
use Rattle.grammar.specs.declared.Fault.TheVariants as fault
use Rattle.grammar.specs.Names.{is_name, place_of}
use Rattle.grammar.specs.Tags.{Tag, name_of, tag_text, Holds, Labels, Nested, Begun, begun_text, is_begun}

-- Some text of tags and blanks begins with s.
pub record Begins (s : List ℕ) : Type 0 where
  pub rest : List ℕ
  pub tags : List Tag
  pub holds : Holds (s ++ rest) tags

-- s is without a fault so far: tags and blanks, and then q, perhaps, is begun; the tags give the events es, for which there
-- is room, and leave o open.
pub record Good (ns : List (List ℕ)) (room : ℕ) (s : List ℕ) (q : Begun) (o es : List ℕ) : Type 0 where
  pub before : List ℕ
  pub tags : List Tag
  pub parts : s ≡ before ++ begun_text q
  pub holds : Holds before tags
  pub begun : is_begun q ≡ true
  pub nested : Nested ns [] tags es o
  pub fits : length es ≤ room

-- With the byte b the tag t is whole. What it names is a name: "</>" is no tag, though it is the text of an opening tag of "/".
pub record Whole (q : Begun) (b : ℕ) (t : Tag) : Type 0 where
  pub text : begun_text q ++ (b ∷ []) ≡ tag_text t
  pub named : is_name (name_of t) ≡ true

-- The first place of a text at fault, and the first kind that applies there, in 02's order. All before that place is good.
-- The place of a byte that is not allowed is that byte; of a tag, its ">"; of the text's end, the text's length.
pub data Faulty (ns : List (List ℕ)) (room : ℕ) : List ℕ → Fault → ℕ → Type 0 where
  byte : {s o es : List ℕ} {q : Begun} (b : ℕ) (v : List ℕ)
      → Good ns room s q o es → ¬ Begins (s ++ (b ∷ [])) → Faulty ns room (s ++ (b ∷ v)) fault.Byte (length s)
  unknown : {s o es : List ℕ} {q : Begun} {t : Tag} (b : ℕ) (v : List ℕ)
      → Good ns room s q o es → Whole q b t → ¬ (place_of (name_of t) ns < length ns)
      → Faulty ns room (s ++ (b ∷ v)) fault.Unknown (length s)
  closing : {s o es x : List ℕ} {q : Begun} {a : ℕ} (b : ℕ) (v : List ℕ)
      → Good ns room s q o es → Whole q b (Tag.closing x) → Labels ns x a → ((o' : List ℕ) → ¬ (o ≡ a ∷ o'))
      → Faulty ns room (s ++ (b ∷ v)) fault.Closing (length s)
  deep : {s o es x : List ℕ} {q : Begun} {a : ℕ} (b : ℕ) (v : List ℕ)
      → Good ns room s q o es → Whole q b (Tag.opening x) → Labels ns x a → 40 ≤ length o
      → Faulty ns room (s ++ (b ∷ v)) fault.Deep (length s)
  short : {s o o' es w : List ℕ} {q : Begun} {t : Tag} (b : ℕ) (v : List ℕ)
      → Good ns room s q o es → Whole q b t → Nested ns o (t ∷ []) w o' → length es ≡ room
      → Faulty ns room (s ++ (b ∷ v)) fault.Short (length s)
  ended : {s o es : List ℕ} {q : Begun}
      → Good ns room s q o es → ¬ ((q ≡ Begun.nothing) × (o ≡ [])) → Faulty ns room s fault.Ended (length s)
  end_short : {s es : List ℕ}
      → Good ns room s Begun.nothing [] es → length es ≡ room → Faulty ns room s fault.Short (length s)
