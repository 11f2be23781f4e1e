-- Reading and the grammar: what a text of tags leads to, and what a text was that was read. Assumes nothing.
use Rattle.std.proofs.Math.Numerals.{one-add}
use Rattle.std.proofs.Common.{None}
use mathlib.Core.Path.{◌≡◌, refl, ◌∙◌}
use mathlib.Core.Bool.{true}
use mathlib.Core.List.{List, [], ◌∷◌, ◌++◌, append-nil, append_assoc}
use Prim.Native.Nat.{ℕ, ◌+◌}
use lib.ListN.{length, length-append}
use borrow.Author.Tests.{lt-ltb, eq-eqb}
use Rattle.grammar.specs.Tags.{Tag, name_of, tag_text, Holds, Labels, Nested, Begun, begun_text, is_begun}
use Rattle.grammar.specs.Feeding.{stepped, feed}
use Rattle.grammar.specs.Reading.{Next, extend, Place, between, judge, judged, read_step}
use Rattle.grammar.proofs.Feeding.{went, went_then}
use Rattle.grammar.proofs.Tagging.{begun_on, tag_on}

-- Texts and nestings, one after another

pub holds_append : {s s' : List ℕ} {ts ts' : List Tag} → Holds s ts → Holds s' ts' → Holds (s ++ s') (ts ++ ts')
holds_append Holds.nothing k = k
holds_append (Holds.blank b h) k = Holds.blank b (holds_append h k)
holds_append {s' = s'} (Holds.tag {s} {ts} {t} n h) k = rw (append_assoc (tag_text t) s s') (Holds.tag n (holds_append h k))

pub nested_append : {ns : List (List ℕ)} {o o' o'' es es' : List ℕ} {ts ts' : List Tag}
    → Nested ns o ts es o' → Nested ns o' ts' es' o'' → Nested ns o (ts ++ ts') (es ++ es') o''
nested_append Nested.nothing k = k
nested_append (Nested.opening l d n) k = Nested.opening l d (nested_append n k)
nested_append (Nested.empty l n) k = Nested.empty l (nested_append n k)
nested_append (Nested.closing l n) k = Nested.closing l (nested_append n k)

-- A first tag, and the tags after it.
pub record First (ns : List (List ℕ)) (o : List ℕ) (t : Tag) (ts : List Tag) (es o' : List ℕ) : Type 0 where
  pub gives : List ℕ
  pub rest : List ℕ
  pub between : List ℕ
  pub parts : es ≡ gives ++ rest
  pub first : Nested ns o (t ∷ []) gives between
  pub others : Nested ns between ts rest o'

pub nested_first : {ns : List (List ℕ)} {o es o' : List ℕ} {t : Tag} {ts : List Tag} → Nested ns o (t ∷ ts) es o' → First ns o t ts es o'
nested_first (Nested.opening {o} {o'} {es} {x} {ts} {a} l d n) =
    record { gives = a ∷ []; rest = es; between = a ∷ o; parts = refl; first = Nested.opening l d Nested.nothing; others = n }
nested_first (Nested.empty {o} {o'} {es} {x} {ts} {a} l n) =
    record { gives = (32 + a) ∷ []; rest = es; between = o; parts = refl; first = Nested.empty l Nested.nothing; others = n }
nested_first (Nested.closing {o} {o'} {es} {x} {ts} {a} l n) =
    record { gives = (66 + a) ∷ []; rest = es; between = o; parts = refl; first = Nested.closing l Nested.nothing; others = n }

-- The place after a text of tags that leave o open, and then q.
abbrev pub placed : Begun → List ℕ → Place
placed q o = record { begun = q; levels = o }

module _ (ns : List (List ℕ)) where
  pub label_judged : {x : List ℕ} {a : ℕ} (p : Place) (t : Tag) → Labels ns x a → judged ns p x t ≡ judge p a t
  label_judged {a = a} p t l = rw (l.place, lt-ltb a (length ns) l.known)

  -- The nesting of one tag is what the reader judges.
  pub nested_judged : {o o' w : List ℕ} {t : Tag} (q : Begun) → Nested ns o (t ∷ []) w o'
      → judged ns (placed q o) (name_of t) t ≡ stepped (between o') w
  nested_judged q (Nested.opening {o = o} {x = x} l d Nested.nothing) = label_judged (placed q o) (Tag.opening x) l ∙ rw (lt-ltb (length o) 40 d)
  nested_judged q (Nested.empty {o = o} {x = x} l Nested.nothing) = label_judged (placed q o) (Tag.empty x) l
  nested_judged q (Nested.closing {o = o} {x = x} {a = a} l Nested.nothing) = label_judged (placed q (a ∷ o)) (Tag.closing x) l ∙ rw (eq-eqb a a refl)

  moves : (o : List ℕ) (q q' : Begun) (b : ℕ) → extend q b ≡ Next.more q' → read_step ns (placed q o) b ≡ stepped (placed q' o) []
  moves o q q' b e = rw e

  -- Tags and blanks are read as their nesting says.
  pub read_tags : {s : List ℕ} {ts : List Tag} {o es o' : List ℕ} → Holds s ts → Nested ns o ts es o'
      → feed (read_step ns) (between o) s ≡ record { gives = es; taken = length s; state = between o'; stops = None }
  read_tags Holds.nothing Nested.nothing = refl
  read_tags {o = o} (Holds.blank {s = s} {b = b} e h) n = rw (moves o Begun.nothing Begun.nothing b (rw e), read_tags h n, one-add (length s))
  read_tags {o = o} {o' = o'} (Holds.tag {s = s} {t = t} x h) n =
      let f = nested_first n in
      rw (
        f.parts,
        went_then (read_step ns) (between o) (between f.between) (between o') f.gives f.rest (length (tag_text t)) (length s)
            (tag_text t) s
            (tag_on (read_step ns) placed moves o f.between f.gives t x (λ q b e. rw e (nested_judged q f.first)))
            (read_tags h f.others),
        length-append (tag_text t) s,
      )

  -- And then, perhaps, a tag is begun.
  pub read_begun : {s : List ℕ} {ts : List Tag} {o es o' : List ℕ} (q : Begun) → Holds s ts → Nested ns o ts es o' → is_begun q ≡ true
      → feed (read_step ns) (between o) (s ++ begun_text q) ≡ went es (length (s ++ begun_text q)) (record { begun = q; levels = o' })
  read_begun {s} {o = o} {es} {o'} q h n g =
      rw (
        went_then (read_step ns) (between o) (between o') (placed q o') es [] (length s) (length (begun_text q)) s (begun_text q)
            (read_tags h n) (begun_on (read_step ns) placed moves o' q g),
        append-nil es,
        length-append s (begun_text q),
      )
