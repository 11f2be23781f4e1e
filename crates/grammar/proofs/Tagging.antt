-- The text of a tag, fed to whatever takes a tag byte by byte: the reader, and what only collects tags. Assumes nothing.
use Rattle.std.proofs.Math.Numerals.{one-add}
use mathlib.Core.Path.{◌≡◌, refl}
use mathlib.Core.Bool.{true, false}
use mathlib.Core.List.{List, [], ◌∷◌, ◌++◌, append-nil, append_assoc}
use Prim.Native.Nat.{ℕ, suc, ◌+◌}
use native.Mathlib.Omega.{arith}
use lib.ListN.{length, length-append}
use Rattle.meaning.proofs.Tests.{true_T, both_true}
use Rattle.grammar.specs.Bytes.{is_letter, is_name_byte, less, slash, greater}
use Rattle.grammar.specs.Names.{name_bytes, is_name}
use Rattle.grammar.specs.Tags.{Tag, name_of, tag_text, Begun, begun_text, is_begun}
use Rattle.grammar.specs.Feeding.{Step, stepped, feed}
use Rattle.grammar.specs.Reading.{Next, extend}
use Rattle.grammar.proofs.Feeding.{went, feed_on, went_then}

-- All of a tag but its ">".
abbrev pub all_but : Tag → Begun
all_but (Tag.opening x) = Begun.opening x
all_but (Tag.closing x) = Begun.closing x
all_but (Tag.empty x) = Begun.empty x

pub all_but_text : (t : Tag) → begun_text (all_but t) ++ (greater ∷ []) ≡ tag_text t
all_but_text (Tag.opening x) = refl
all_but_text (Tag.closing x) = refl
all_but_text (Tag.empty x) = rw (append_assoc x (slash ∷ []) (greater ∷ []))

pub all_but_begun : (t : Tag) → is_name (name_of t) ≡ true → is_begun (all_but t) ≡ true
all_but_begun (Tag.opening x) h = h
all_but_begun (Tag.closing x) h = h
all_but_begun (Tag.empty x) h = h

pub all_but_whole : (t : Tag) → extend (all_but t) greater ≡ Next.whole t
all_but_whole (Tag.opening x) = refl
all_but_whole (Tag.closing x) = refl
all_but_whole (Tag.empty x) = refl

-- Where more of a tag is begun the step gives nothing.
module _ {A S : Type 0} (step : S → ℕ → Step S) (at : Begun → A → S)
    (moves : (a : A) (q q' : Begun) (b : ℕ) → extend q b ≡ Next.more q' → step (at q a) b ≡ stepped (at q' a) []) where
  name_on : (c : List ℕ → Begun) → ((y : List ℕ) (b : ℕ) → is_name_byte b ≡ true → extend (c y) b ≡ Next.more (c (y ++ (b ∷ []))))
      → (a : A) (y x : List ℕ) → name_bytes x ≡ true → feed step (at (c y) a) x ≡ went [] (length x) (at (c (y ++ x)) a)
  name_on c grows a y [] h = rw (append-nil y)
  name_on c grows a y (b ∷ x) h =
      let n = both_true (is_name_byte b) (name_bytes x) h in
      rw (
        feed_on step (at (c y) a) (at (c (y ++ (b ∷ []))) a) [] b x (moves a (c y) (c (y ++ (b ∷ []))) b (grows y b n.0)),
        name_on c grows a (y ++ (b ∷ [])) x n.1,
        append_assoc y (b ∷ []) x,
        one-add (length x),
      )

  -- A name from its first letter on, after "<" or "</".
  named_on : (c : List ℕ → Begun) → ((y : List ℕ) (b : ℕ) → is_name_byte b ≡ true → extend (c y) b ≡ Next.more (c (y ++ (b ∷ []))))
      → (q : Begun) → ((b : ℕ) → is_letter b ≡ true → extend q b ≡ Next.more (c (b ∷ [])))
      → (a : A) (x : List ℕ) → is_name x ≡ true → feed step (at q a) x ≡ went [] (length x) (at (c x) a)
  named_on c grows q begins a [] h = absurd (true_T {b = false} h)
  named_on c grows q begins a (b ∷ x) h =
      let n = both_true (is_letter b) (name_bytes x) h in
      rw (
        feed_on step (at q a) (at (c (b ∷ [])) a) [] b x (moves a q (c (b ∷ [])) b (begins b n.0)),
        name_on c grows a (b ∷ []) x n.1,
        one-add (length x),
      )

  opening_on : (a : A) (x : List ℕ) → is_name x ≡ true
      → feed step (at Begun.nothing a) (less ∷ x) ≡ went [] (suc (length x)) (at (Begun.opening x) a)
  opening_on a x h =
      rw (
        moves a Begun.nothing Begun.angle less refl,
        named_on Begun.opening (λ y b n. rw n) Begun.angle (λ b n. rw n) a x h,
        one-add (length x),
      )

  -- What is begun, from where nothing is.
  pub begun_on : (a : A) (q : Begun) → is_begun q ≡ true
      → feed step (at Begun.nothing a) (begun_text q) ≡ went [] (length (begun_text q)) (at q a)
  begun_on a Begun.nothing h = refl
  begun_on a Begun.angle h = rw (moves a Begun.nothing Begun.angle less refl)
  begun_on a Begun.slashed h = rw (moves a Begun.nothing Begun.angle less refl, moves a Begun.angle Begun.slashed slash refl)
  begun_on a (Begun.opening x) h = opening_on a x h
  begun_on a (Begun.closing x) h =
      rw (
        moves a Begun.nothing Begun.angle less refl,
        moves a Begun.angle Begun.slashed slash refl,
        named_on Begun.closing (λ y b n. rw n) Begun.slashed (λ b n. rw n) a x h,
        one-add (length x),
        one-add (suc (length x)),
      )
  begun_on a (Begun.empty x) h =
      let n : suc (length x) + 1 ≡ suc (length (x ++ (slash ∷ []))) = rw length-append (omega arith) in
      rw (
        went_then step (at Begun.nothing a) (at (Begun.opening x) a) (at (Begun.empty x) a) [] [] (suc (length x)) 1 (less ∷ x) (slash ∷ [])
            (opening_on a x h) (rw (moves a (Begun.opening x) (Begun.empty x) slash refl)),
        n,
      )

  -- A whole tag.
  pub tag_on : (a a' : A) (out : List ℕ) (t : Tag) → is_name (name_of t) ≡ true
      → ((q : Begun) (b : ℕ) → extend q b ≡ Next.whole t → step (at q a) b ≡ stepped (at Begun.nothing a') out)
      → feed step (at Begun.nothing a) (tag_text t) ≡ went out (length (tag_text t)) (at Begun.nothing a')
  tag_on a a' out t h whole =
      rw (
        ← all_but_text t,
        went_then step (at Begun.nothing a) (at (all_but t) a) (at Begun.nothing a') [] out (length (begun_text (all_but t))) 1
            (begun_text (all_but t)) (greater ∷ []) (begun_on a (all_but t) (all_but_begun t h))
            (rw (whole (all_but t) greater (all_but_whole t), append-nil out)),
        length-append (begun_text (all_but t)) (greater ∷ []),
      )
