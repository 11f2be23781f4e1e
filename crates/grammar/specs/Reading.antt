-- Reading tagged text (02, K1 and K2): byte by byte, up to the first at fault. Definitions only.
use Rattle.std.specs.Prelude.{Bool, true, false, cond, ◌&&◌, List, [], ◌∷◌, ◌++◌, ℕ, suc, ◌+◌, eqb, ltb, length, drop, Option, Some, None, Result, Ok, Err}
use Rattle.grammar.specs.declared.Fault.{Fault}
use Rattle.grammar.specs.declared.Fault.TheVariants as fault
use Rattle.grammar.specs.declared.ReadError.{ReadError}
use Rattle.grammar.specs.declared.ReadError.TheVariants as read_error
use Rattle.grammar.specs.Bytes.{is_blank, is_letter, is_name_byte, less, slash, greater}
use Rattle.grammar.specs.Names.{place_of, lines_of, good_names}
use Rattle.grammar.specs.Tags.{Tag, name_of, Begun}
use Rattle.grammar.specs.Feeding.{Step, goes_on, stopped, stepped, Fed, feed, Roomed, roomed}

-- What a byte makes of it: it is not allowed, more is begun, or the tag is whole.
pub data Next : Type 0 where
  no : Next
  more : Begun → Next
  whole : Tag → Next

-- Between tags a blank or "<" is allowed; after "<" a letter or "/"; after "</" a letter; in a name a name byte, ">" and,
-- in an opening tag, "/"; after the "/" of an empty-element tag ">".
abbrev pub extend : Begun → ℕ → Next
extend Begun.nothing b = cond (is_blank b) (Next.more Begun.nothing) (cond (eqb b less) (Next.more Begun.angle) Next.no)
extend Begun.angle b =
    cond (is_letter b) (Next.more (Begun.opening (b ∷ []))) (cond (eqb b slash) (Next.more Begun.slashed) Next.no)
extend Begun.slashed b = cond (is_letter b) (Next.more (Begun.closing (b ∷ []))) Next.no
extend (Begun.opening x) b =
    cond (is_name_byte b) (Next.more (Begun.opening (x ++ (b ∷ []))))
    (cond (eqb b greater) (Next.whole (Tag.opening x)) (cond (eqb b slash) (Next.more (Begun.empty x)) Next.no))
extend (Begun.closing x) b =
    cond (is_name_byte b) (Next.more (Begun.closing (x ++ (b ∷ [])))) (cond (eqb b greater) (Next.whole (Tag.closing x)) Next.no)
extend (Begun.empty x) b = cond (eqb b greater) (Next.whole (Tag.empty x)) Next.no

-- How far a text is read: the tag that is begun, and the labels of the elements that are open, newest first.
pub record Place : Type 0 where
  pub begun : Begun
  pub levels : List ℕ

abbrev pub fresh : Place
fresh = record { begun = Begun.nothing; levels = [] }

-- After a whole tag, o is open.
abbrev pub between : List ℕ → Place
between o = record { begun = Begun.nothing; levels = o }

-- A closing tag of label a gives the close that names it.
abbrev pub close : Place → ℕ → List ℕ → Step Place
close p a [] = stopped p fault.Closing
close p a (c ∷ o) = cond (eqb a c) (stepped (between o) ((66 + a) ∷ [])) (stopped p fault.Closing)

-- A tag judged at its ">", by its label.
abbrev pub judge : Place → ℕ → Tag → Step Place
judge p a (Tag.opening x) =
    cond (ltb (length p.levels) 40) (stepped (between (a ∷ p.levels)) (a ∷ [])) (stopped p fault.Deep)
judge p a (Tag.closing x) = close p a p.levels
judge p a (Tag.empty x) = stepped (between p.levels) ((32 + a) ∷ [])

-- First of all its name is one of the list's.
abbrev pub judged : List (List ℕ) → Place → List ℕ → Tag → Step Place
judged ns p x t = cond (ltb (place_of x ns) (length ns)) (judge p (place_of x ns) t) (stopped p fault.Unknown)

-- A byte that is not allowed is at fault as such; a tag is judged when it is whole.
abbrev pub moved : List (List ℕ) → Place → Next → Step Place
moved ns p Next.no = stopped p fault.Byte
moved ns p (Next.more q) = stepped (record { begun = q; levels = p.levels }) []
moved ns p (Next.whole t) = judged ns p (name_of t) t

abbrev pub read_step : List (List ℕ) → Place → ℕ → Step Place
read_step ns p b = moved ns p (extend p.begun b)

-- No tag is begun.
abbrev pub unbegun : Begun → Bool
unbegun Begun.nothing = true
unbegun Begun.angle = false
unbegun Begun.slashed = false
unbegun (Begun.opening x) = false
unbegun (Begun.closing x) = false
unbegun (Begun.empty x) = false

-- Neither a tag nor an element is open.
abbrev pub closed : Place → Bool
closed p = unbegun p.begun && eqb (length p.levels) 0

-- The bytes of a text, with room for so many events.
abbrev pub read_fed : List (List ℕ) → ℕ → List ℕ → Fed (Roomed Place)
read_fed ns room s = feed (roomed (read_step ns)) (record { inner = fresh; left = room }) s

-- The text's end, after which byte 65 is given: nothing is open, and there is room for it.
abbrev pub end_stop : Bool → ℕ → Option Fault
end_stop closed left = cond closed (cond (ltb 0 left) None (Some fault.Short)) (Some fault.Ended)

-- The whole text: the first byte at fault, or else the end.
abbrev pub text_stop : Fed (Roomed Place) → Option Fault
text_stop f = cond (goes_on f.stops) (end_stop (closed f.state.inner) f.state.left) f.stops

abbrev pub answer_of : Option Fault → ℕ → ℕ → Result ℕ ReadError
answer_of None taken events = Ok (suc events)
answer_of (Some k) taken events = Err (read_error.Text k taken)

-- What the reader answers for names, a text and an output with so much room.
abbrev pub read_answer : List ℕ → List ℕ → ℕ → Result ℕ ReadError
read_answer names s room =
    let f = read_fed (lines_of names) room s in
    cond (good_names names) (answer_of (text_stop f) f.taken (length f.gives)) (Err read_error.Names)

-- What stands in the output afterwards: from its front the events and byte 65; nothing else of it changes. A refusal
-- writes nothing.
abbrev pub read_out : List ℕ → List ℕ → List ℕ → List ℕ
read_out names s out =
    let f = read_fed (lines_of names) (length out) s in
    cond (good_names names && goes_on (text_stop f)) (f.gives ++ (65 ∷ drop (suc (length f.gives)) out)) out
