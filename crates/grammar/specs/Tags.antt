-- The grammar of tagged text (02, K1 and K2): what a text holds, and how its tags are nested. Definitions only; none speaks of
-- how a text is read.
use Rattle.std.specs.Prelude.{◌≡◌, Bool, true, List, [], ◌∷◌, ◌++◌, ℕ, ◌+◌, ◌<◌, length}
use Rattle.grammar.specs.Bytes.{is_blank, less, slash, greater}
use Rattle.grammar.specs.Names.{is_name, place_of}

-- A tag with its name: an opening tag, a closing tag, or, for a point, an empty-element tag.
pub data Tag : Type 0 where
  opening : List ℕ → Tag
  closing : List ℕ → Tag
  empty : List ℕ → Tag

abbrev pub name_of : Tag → List ℕ
name_of (Tag.opening x) = x
name_of (Tag.closing x) = x
name_of (Tag.empty x) = x

-- <x>, </x> and <x/>.
abbrev pub tag_text : Tag → List ℕ
tag_text (Tag.opening x) = less ∷ (x ++ (greater ∷ []))
tag_text (Tag.closing x) = less ∷ slash ∷ (x ++ (greater ∷ []))
tag_text (Tag.empty x) = less ∷ (x ++ (slash ∷ greater ∷ []))

-- The texts of tags, one after another, without blanks.
abbrev pub tags_text : List Tag → List ℕ
tags_text [] = []
tags_text (t ∷ ts) = tag_text t ++ tags_text ts

-- A text, and the tags that it holds: tags one after another, and blanks before, between and after them.
pub data Holds : List ℕ → List Tag → Type 0 where
  nothing : Holds [] []
  blank : {s : List ℕ} {ts : List Tag} {b : ℕ} → is_blank b ≡ true → Holds s ts → Holds (b ∷ s) ts
  tag : {s : List ℕ} {ts : List Tag} {t : Tag} → is_name (name_of t) ≡ true → Holds s ts → Holds (tag_text t ++ s) (t ∷ ts)

-- x is the name of label a.
pub record Labels (ns : List (List ℕ)) (x : List ℕ) (a : ℕ) : Type 0 where
  pub place : place_of x ns ≡ a
  pub known : a < length ns

-- Tags that lead from the open elements o to others, both told by their labels, newest first, and the events that they
-- give. A closing tag has the name of the newest, and its event names the label; an opening one is none of more than 40.
pub data Nested (ns : List (List ℕ)) : List ℕ → List Tag → List ℕ → List ℕ → Type 0 where
  nothing : {o : List ℕ} → Nested ns o [] [] o
  opening : {o o' es x : List ℕ} {ts : List Tag} {a : ℕ}
      → Labels ns x a → length o < 40 → Nested ns (a ∷ o) ts es o' → Nested ns o (Tag.opening x ∷ ts) (a ∷ es) o'
  empty : {o o' es x : List ℕ} {ts : List Tag} {a : ℕ}
      → Labels ns x a → Nested ns o ts es o' → Nested ns o (Tag.empty x ∷ ts) ((32 + a) ∷ es) o'
  closing : {o o' es x : List ℕ} {ts : List Tag} {a : ℕ}
      → Labels ns x a → Nested ns o ts es o' → Nested ns (a ∷ o) (Tag.closing x ∷ ts) ((66 + a) ∷ es) o'

-- The text s gives the stream w: after its tags nothing is open, and its end gives byte 65.
pub record Text (ns : List (List ℕ)) (s w : List ℕ) : Type 0 where
  pub tags : List Tag
  pub events : List ℕ
  pub holds : Holds s tags
  pub nested : Nested ns [] tags events []
  pub ends : w ≡ events ++ (65 ∷ [])

-- A tag that is not yet whole: nothing of it, "<", "</", "<x", "</x" or "<x/".
pub data Begun : Type 0 where
  nothing : Begun
  angle : Begun
  slashed : Begun
  opening : List ℕ → Begun
  closing : List ℕ → Begun
  empty : List ℕ → Begun

abbrev pub begun_text : Begun → List ℕ
begun_text Begun.nothing = []
begun_text Begun.angle = less ∷ []
begun_text Begun.slashed = less ∷ slash ∷ []
begun_text (Begun.opening x) = less ∷ x
begun_text (Begun.closing x) = less ∷ slash ∷ x
begun_text (Begun.empty x) = less ∷ (x ++ (slash ∷ []))

-- What stands of its name is a name.
abbrev pub is_begun : Begun → Bool
is_begun Begun.nothing = true
is_begun Begun.angle = true
is_begun Begun.slashed = true
is_begun (Begun.opening x) = is_name x
is_begun (Begun.closing x) = is_name x
is_begun (Begun.empty x) = is_name x
