-- What one byte of a text is, in the words of the grammar, beside what the reader makes of it. Assumes nothing.
use mathlib.Core.Path.{◌≡◌, refl, sym}
use mathlib.Core.Bool.{Bool, true, false}
use mathlib.Core.List.{List, [], ◌∷◌, ◌++◌, append_assoc, nil≢cons, head-eq_of_cons-eq}
use Prim.Native.Nat.{ℕ, ◌<◌, ◌≤◌}
use native.Mathlib.Omega.{arith}
use lib.Dec.{eqb, ltb}
use lib.ListN.{length}
use borrow.Author.Tests.{ltb-true, ltb-false, eqb-true, eqb-false}
use Rattle.meaning.proofs.Tests.{true_T, both_true}
use Rattle.grammar.specs.declared.Fault.TheVariants as fault
use Rattle.grammar.specs.Bytes.{is_blank, is_letter, is_name_byte, less, slash, greater}
use Rattle.grammar.specs.Names.{name_bytes, is_name, place_of}
use Rattle.grammar.specs.Tags.{Tag, name_of, Labels, Nested, Begun, begun_text, is_begun}
use Rattle.grammar.specs.Feeding.{Step, stopped, stepped}
use Rattle.grammar.specs.Reading.{Next, extend, Place, between, close, judge, judged, moved, read_step}
use Rattle.grammar.specs.Faults.{Whole}
use Rattle.grammar.proofs.ReadingTags.{placed}

-- A byte after q: not allowed, a blank where nothing is begun, more of a tag, or the last of one.
data Extends (q : Begun) (b : ℕ) : Next → Type 0 where
  not_allowed : Extends q b Next.no
  blank : q ≡ Begun.nothing → is_blank b ≡ true → Extends q b (Next.more Begun.nothing)
  longer : {q' : Begun} → begun_text q ++ (b ∷ []) ≡ begun_text q' → is_begun q' ≡ true → Extends q b (Next.more q')
  last : {t : Tag} → Whole q b t → Extends q b (Next.whole t)

one_letter : (b : ℕ) → is_letter b ≡ true → is_name (b ∷ []) ≡ true
one_letter b h = rw h

name_longer : (x : List ℕ) (b : ℕ) → name_bytes x ≡ true → is_name_byte b ≡ true → name_bytes (x ++ (b ∷ [])) ≡ true
name_longer [] b h e = rw e
name_longer (c ∷ x) b h e =
    let n = both_true (is_name_byte c) (name_bytes x) h in
    rw (n.0, name_longer x b n.1 e)

is_name_longer : (x : List ℕ) (b : ℕ) → is_name x ≡ true → is_name_byte b ≡ true → is_name (x ++ (b ∷ [])) ≡ true
is_name_longer [] b h e = absurd (true_T {b = false} h)
is_name_longer (c ∷ x) b h e =
    let n = both_true (is_letter c) (name_bytes x) h in
    rw (n.0, name_longer x b n.1 e)

extends : (q : Begun) (b : ℕ) → is_begun q ≡ true → Extends q b (extend q b)
extends Begun.nothing b g = go (is_blank b) refl
  where
    angle : is_blank b ≡ false → (y : Bool) → eqb b less ≡ y → Extends Begun.nothing b (extend Begun.nothing b)
    angle h true k = rw (eqb-true b less k) (Extends.longer refl refl)
    angle h false k = rw (h, k) Extends.not_allowed

    go : (x : Bool) → is_blank b ≡ x → Extends Begun.nothing b (extend Begun.nothing b)
    go true h = rw h (Extends.blank refl h)
    go false h = angle h (eqb b less) refl
extends Begun.angle b g = go (is_letter b) refl
  where
    slashed : is_letter b ≡ false → (y : Bool) → eqb b slash ≡ y → Extends Begun.angle b (extend Begun.angle b)
    slashed h true k = rw (eqb-true b slash k) (Extends.longer refl refl)
    slashed h false k = rw (h, k) Extends.not_allowed

    go : (x : Bool) → is_letter b ≡ x → Extends Begun.angle b (extend Begun.angle b)
    go true h = rw h (Extends.longer refl (one_letter b h))
    go false h = slashed h (eqb b slash) refl
extends Begun.slashed b g = go (is_letter b) refl
  where
    go : (x : Bool) → is_letter b ≡ x → Extends Begun.slashed b (extend Begun.slashed b)
    go true h = rw h (Extends.longer refl (one_letter b h))
    go false h = rw h Extends.not_allowed
extends (Begun.opening x) b g = go (is_name_byte b) refl
  where
    slashed : is_name_byte b ≡ false → eqb b greater ≡ false → (y : Bool) → eqb b slash ≡ y
        → Extends (Begun.opening x) b (extend (Begun.opening x) b)
    slashed h k true j = rw (eqb-true b slash j) (Extends.longer refl g)
    slashed h k false j = rw (h, k, j) Extends.not_allowed

    ends : is_name_byte b ≡ false → (y : Bool) → eqb b greater ≡ y → Extends (Begun.opening x) b (extend (Begun.opening x) b)
    ends h true k = rw (eqb-true b greater k) (Extends.last (record { text = refl; named = g }))
    ends h false k = slashed h k (eqb b slash) refl

    go : (y : Bool) → is_name_byte b ≡ y → Extends (Begun.opening x) b (extend (Begun.opening x) b)
    go true h = rw h (Extends.longer refl (is_name_longer x b g h))
    go false h = ends h (eqb b greater) refl
extends (Begun.closing x) b g = go (is_name_byte b) refl
  where
    ends : is_name_byte b ≡ false → (y : Bool) → eqb b greater ≡ y → Extends (Begun.closing x) b (extend (Begun.closing x) b)
    ends h true k = rw (eqb-true b greater k) (Extends.last (record { text = refl; named = g }))
    ends h false k = rw (h, k) Extends.not_allowed

    go : (y : Bool) → is_name_byte b ≡ y → Extends (Begun.closing x) b (extend (Begun.closing x) b)
    go true h = rw h (Extends.longer refl (is_name_longer x b g h))
    go false h = ends h (eqb b greater) refl
extends (Begun.empty x) b g = go (eqb b greater) refl
  where
    go : (y : Bool) → eqb b greater ≡ y → Extends (Begun.empty x) b (extend (Begun.empty x) b)
    go true k = rw (eqb-true b greater k) (Extends.last {t = Tag.empty x} (record { text = rw (append_assoc x (slash ∷ []) (greater ∷ [])); named = g }))
    go false k = rw k Extends.not_allowed

-- The byte b, after q and where o is open, and what the reader makes of it.
pub data Verdict (ns : List (List ℕ)) (q : Begun) (o : List ℕ) (b : ℕ) : Step Place → Type 0 where
  blank : q ≡ Begun.nothing → is_blank b ≡ true → Verdict ns q o b (stepped (placed Begun.nothing o) [])
  longer : {q' : Begun} → begun_text q ++ (b ∷ []) ≡ begun_text q' → is_begun q' ≡ true → Verdict ns q o b (stepped (placed q' o) [])
  tag : {t : Tag} {w o' : List ℕ} → Whole q b t → Nested ns o (t ∷ []) w o' → Verdict ns q o b (stepped (between o') w)
  byte : extend q b ≡ Next.no → Verdict ns q o b (stopped (placed q o) fault.Byte)
  unknown : {t : Tag} → Whole q b t → ¬ (place_of (name_of t) ns < length ns) → Verdict ns q o b (stopped (placed q o) fault.Unknown)
  closing : {x : List ℕ} {a : ℕ} → Whole q b (Tag.closing x) → Labels ns x a → ((o' : List ℕ) → ¬ (o ≡ a ∷ o'))
      → Verdict ns q o b (stopped (placed q o) fault.Closing)
  deep : {x : List ℕ} {a : ℕ} → Whole q b (Tag.opening x) → Labels ns x a → 40 ≤ length o
      → Verdict ns q o b (stopped (placed q o) fault.Deep)

module _ (ns : List (List ℕ)) (q : Begun) (b : ℕ) where
  closes : (o : List ℕ) {x : List ℕ} {a : ℕ} → Whole q b (Tag.closing x) → Labels ns x a → Verdict ns q o b (close (placed q o) a o)
  closes [] w l = Verdict.closing w l (λ o' e. nil≢cons e)
  closes (c ∷ o) {x} {a} w l = go (eqb a c) refl
    where
      go : (y : Bool) → eqb a c ≡ y → Verdict ns q (c ∷ o) b (close (placed q (c ∷ o)) a (c ∷ o))
      go true h = rw h (rw (← eqb-true a c h) (Verdict.tag w (Nested.closing l Nested.nothing)))
      go false h = rw h (Verdict.closing w l (λ o' e. eqb-false a c h (sym (head-eq_of_cons-eq e))))

  judges : (o : List ℕ) (t : Tag) {a : ℕ} → Whole q b t → Labels ns (name_of t) a → Verdict ns q o b (judge (placed q o) a t)
  judges o (Tag.opening x) {a} w l = go (ltb (length o) 40) refl
    where
      go : (y : Bool) → ltb (length o) 40 ≡ y → Verdict ns q o b (judge (placed q o) a (Tag.opening x))
      go true h = rw h (Verdict.tag w (Nested.opening l (ltb-true (length o) 40 h) Nested.nothing))
      go false h = rw h (Verdict.deep w l (ltb-false (length o) 40 h))
  judges o (Tag.closing x) w l = closes o w l
  judges o (Tag.empty x) w l = Verdict.tag w (Nested.empty l Nested.nothing)

  known : (o : List ℕ) (t : Tag) → Whole q b t → Verdict ns q o b (judged ns (placed q o) (name_of t) t)
  known o t w = go (ltb (place_of (name_of t) ns) (length ns)) refl
    where
      go : (y : Bool) → ltb (place_of (name_of t) ns) (length ns) ≡ y → Verdict ns q o b (judged ns (placed q o) (name_of t) t)
      go true h = rw h (judges o t w (record { place = refl; known = ltb-true (place_of (name_of t) ns) (length ns) h }))
      go false h = rw h (Verdict.unknown w (λ l. let m = ltb-false (place_of (name_of t) ns) (length ns) h in omega arith))

  pub verdict : (o : List ℕ) → is_begun q ≡ true → Verdict ns q o b (read_step ns (placed q o) b)
  verdict o g = go (extend q b) refl (extends q b g)
    where
      go : (x : Next) → extend q b ≡ x → Extends q b x → Verdict ns q o b (moved ns (placed q o) x)
      go Next.no e Extends.not_allowed = Verdict.byte e
      go (Next.more q') e (Extends.blank f h) = Verdict.blank f h
      go (Next.more q') e (Extends.longer f h) = Verdict.longer f h
      go (Next.whole t) e (Extends.last w) = known o t w
