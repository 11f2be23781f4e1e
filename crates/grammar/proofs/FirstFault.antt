-- The first place at fault is where the reader stops, and it stops by the kind that applies there first; and the other
-- way round. Assumes nothing.
use Rattle.std.proofs.lemmas.Option.{same_Some}
use Rattle.std.proofs.Common.{Option, Some, None}
use mathlib.Core.Path.{◌≡◌, refl, sym, ap, subst, ◌∙◌}
use mathlib.Core.Bool.{Bool, true, false}
use mathlib.Core.List.{List, [], ◌∷◌, ◌++◌, append-nil, append_assoc}
use Prim.Native.Nat.{ℕ, ◌-◌, ◌<◌, ◌≤◌}
use native.Mathlib.Omega.{arith}
use native.Mathlib.Nat.{le_refl}
use native.Mathlib.Decide.{dec_le}
use lib.Dec.{eqb, ltb}
use lib.ListN.{length}
use borrow.Author.Tests.{le-ltb, eqb-true, ltb-false}
use Rattle.meaning.proofs.Tests.{true_T}
use Rattle.grammar.specs.declared.Fault.{Fault}
use Rattle.grammar.specs.declared.Fault.TheVariants as fault
use Rattle.grammar.specs.Bytes.{greater}
use Rattle.grammar.specs.Names.{is_name, place_of}
use Rattle.grammar.specs.Tags.{Tag, name_of, tag_text, Holds, Nested, Begun, begun_text, is_begun}
use Rattle.grammar.specs.Feeding.{Step, stepped, Fed, Roomed, roomed}
use Rattle.grammar.specs.Reading.{Next, extend, Place, fresh, between, close, closed, read_step, read_fed, text_stop}
use Rattle.grammar.specs.Faults.{Begins, Good, Whole, Faulty}
use Rattle.grammar.proofs.Feeding.{broke, no_fault, feed_break, roomed_fits, roomed_short, roomed_stop, Broken, where_broken}
use Rattle.grammar.proofs.Tagging.{all_but, all_but_text}
use Rattle.grammar.proofs.ReadingTags.{placed, holds_append, label_judged, nested_judged}
use Rattle.grammar.proofs.Lexing.{no_begins, whole_extends}
use Rattle.grammar.proofs.Verdicts.{Verdict, verdict}
use Rattle.grammar.proofs.Refusing.{byte_more, good_step, read_good, good_read}
use Rattle.grammar.proofs.Texts.{closed_place, ended_good, left_over_lem}

-- Texts that begin

holds_tag : (t : Tag) → is_name (name_of t) ≡ true → Holds (tag_text t) (t ∷ [])
holds_tag t n = rw (append-nil (tag_text t)) at (Holds.tag {t = t} n Holds.nothing)

-- All of a tag but its ">" goes on to the tag.
with_greater : (t : Tag) → is_name (name_of t) ≡ true → Begins (begun_text (all_but t))
with_greater t n = record { rest = greater ∷ []; tags = t ∷ []; holds = rw (all_but_text t) (holds_tag t n) }

goes_on : (q : Begun) → is_begun q ≡ true → Begins (begun_text q)
goes_on Begun.nothing h = record { rest = []; tags = []; holds = Holds.nothing }
goes_on Begun.angle h = record { rest = 97 ∷ greater ∷ []; tags = Tag.opening (97 ∷ []) ∷ []; holds = holds_tag (Tag.opening (97 ∷ [])) refl }
goes_on Begun.slashed h = record { rest = 97 ∷ greater ∷ []; tags = Tag.closing (97 ∷ []) ∷ []; holds = holds_tag (Tag.closing (97 ∷ [])) refl }
goes_on (Begun.opening x) h = with_greater (Tag.opening x) h
goes_on (Begun.closing x) h = with_greater (Tag.closing x) h
goes_on (Begun.empty x) h = with_greater (Tag.empty x) h

begins_after : {s v : List ℕ} {ts : List Tag} → Holds s ts → Begins v → Begins (s ++ v)
begins_after {s} {v} {ts} h k = record { rest = k.rest; tags = ts ++ k.tags; holds = rw (append_assoc s v k.rest) (holds_append h k.holds) }

module _ {ns : List (List ℕ)} {r : ℕ} {u o es : List ℕ} {q : Begun} where
  good_begins : Good ns r u q o es → Begins u
  good_begins g = rw g.parts (begins_after g.holds (goes_on q g.begun))

  whole_begins : {b : ℕ} {t : Tag} → Good ns r u q o es → Whole q b t → Begins (u ++ (b ∷ []))
  whole_begins {b} {t} g w =
      rw (byte_more b g w.text)
      (begins_after g.holds (record { rest = []; tags = t ∷ []; holds = rw (append-nil (tag_text t)) (holds_tag t w.named) }))

-- A byte with which no text begins is not allowed.
module _ {ns : List (List ℕ)} {r : ℕ} {u o es : List ℕ} {q : Begun} where
  byte_no : (b : ℕ) → Good ns r u q o es → ¬ Begins (u ++ (b ∷ [])) → extend q b ≡ Next.no
  byte_no b g n = go (verdict ns q b o g.begun)
    where
      go : {x : Step Place} → Verdict ns q o b x → extend q b ≡ Next.no
      go (Verdict.blank e h) = absurd (n (good_begins (good_step g (Verdict.blank e h) refl (le_refl (length (es ++ []))))))
      go (Verdict.longer {q'} e h) = absurd (n (good_begins (good_step g (Verdict.longer {q' = q'} e h) refl (le_refl (length (es ++ []))))))
      go (Verdict.tag w h) = absurd (n (whole_begins g w))
      go (Verdict.byte e) = e
      go (Verdict.unknown w h) = absurd (n (whole_begins g w))
      go (Verdict.closing w l h) = absurd (n (whole_begins g w))
      go (Verdict.deep w l h) = absurd (n (whole_begins g w))

-- The reader stops at place i, by the kind k.
pub record StopsAt (ns : List (List ℕ)) (room : ℕ) (s : List ℕ) (k : Fault) (i : ℕ) : Type 0 where
  pub stop : text_stop (read_fed ns room s) ≡ Some k
  pub place : (read_fed ns room s).taken ≡ i

-- A tag gives one event.
one_event : {ns : List (List ℕ)} {o o' w : List ℕ} {t : Tag} → Nested ns o (t ∷ []) w o' → length w ≡ 1
one_event (Nested.opening l d Nested.nothing) = refl
one_event (Nested.empty l Nested.nothing) = refl
one_event (Nested.closing l Nested.nothing) = refl

closes_another_lem : (p : Place) (a : ℕ) (o : List ℕ) → ((o' : List ℕ) → ¬ (o ≡ a ∷ o')) → (close p a o).stops ≡ Some fault.Closing
closes_another_lem p a [] n = refl
closes_another_lem p a (c ∷ o) n = go (eqb a c) refl
  where
    go : (x : Bool) → eqb a c ≡ x → (close p a (c ∷ o)).stops ≡ Some fault.Closing
    go true h = absurd (n o (ap (λ (d : ℕ). d ∷ o) (sym (eqb-true a c h))))
    go false h = rw h

module _ {ns : List (List ℕ)} {room : ℕ} {u o es : List ℕ} {q : Begun} (g : Good ns room u q o es) (b : ℕ) (v : List ℕ) where
  stops_here : (k : Fault) → (roomed (read_step ns) (record { inner = placed q o; left = room - length es }) b).stops ≡ Some k
      → StopsAt ns room (u ++ (b ∷ v)) k (length u)
  stops_here k h =
      let f : read_fed ns room (u ++ (b ∷ v)) ≡ broke es (length u) (record { inner = placed q o; left = room - length es }) k =
      feed_break (roomed (read_step ns)) (record { inner = fresh; left = room }) (record { inner = placed q o; left = room - length es })
      es (length u) k u b v (good_read g) h in
      record { stop = rw f; place = rw f }

  stops_itself : (k : Fault) → (read_step ns (placed q o) b).stops ≡ Some k → StopsAt ns room (u ++ (b ∷ v)) k (length u)
  stops_itself k h = stops_here k (roomed_stop (read_step ns) (placed q o) (room - length es) b k h)

pub faulty_stops : {ns : List (List ℕ)} {room i : ℕ} {s : List ℕ} {k : Fault} → Faulty ns room s k i → StopsAt ns room s k i
faulty_stops (Faulty.byte b v g n) = stops_itself g b v fault.Byte (rw (byte_no b g n))
faulty_stops {ns} (Faulty.unknown {q = q} {t = t} b v g w n) =
    stops_itself g b v fault.Unknown
    (rw (whole_extends q b t g.begun w, le-ltb (place_of (name_of t) ns) (length ns) (omega arith)))
faulty_stops {ns} (Faulty.closing {o = o} {x = x} {q = q} {a = a} b v g w l n) =
    stops_itself g b v fault.Closing
    (rw (whole_extends q b (Tag.closing x) g.begun w, label_judged ns (placed q o) (Tag.closing x) l) (closes_another_lem (placed q o) a o n))
faulty_stops {ns} (Faulty.deep {o = o} {x = x} {q = q} {a = a} b v g w l d) =
    stops_itself g b v fault.Deep
    (rw (whole_extends q b (Tag.opening x) g.begun w, label_judged ns (placed q o) (Tag.opening x) l, le-ltb (length o) 40 d))
faulty_stops {ns} {room} (Faulty.short {o = o} {o' = o'} {es = es} {w = out} {q = q} {t = t} b v g w n e) =
    let steps : read_step ns (placed q o) b ≡ stepped (between o') out = rw (whole_extends q b t g.begun w) (nested_judged ns q n) in
    let one : length (read_step ns (placed q o) b).gives ≡ 1 = rw steps (one_event n) in
    stops_here g b v fault.Short
    (ap (λ (x : Step (Roomed Place)). x.stops) (roomed_short (read_step ns) (placed q o) (room - length es) b (rw steps) (omega arith)))
faulty_stops {ns} {room} {s = s} (Faulty.ended {o = o} {es = es} {q = q} g n) = go (closed (placed q o)) refl
  where
    go : (x : Bool) → closed (placed q o) ≡ x → StopsAt ns room s fault.Ended (length s)
    go true h =
        let shut = closed_place (placed q o) h in
        absurd (n (ap (λ (p : Place). p.begun) shut, ap (λ (p : Place). p.levels) shut))
    go false h = record { stop = rw (good_read g, h); place = rw (good_read g) }
faulty_stops {ns} {room} {s = s} (Faulty.end_short {es = es} g e) =
    record { stop = rw (good_read g, le-ltb 0 (room - length es) (omega arith)); place = rw (good_read g) }

-- The other way round

not_closed : {p : Place} → p.begun ≡ Begun.nothing → p.levels ≡ [] → closed p ≡ false → ⊥
not_closed e f h = true_T {b = false} (sym (rw (e, f) at h))

-- A byte at which the reader stops, after a good text.
module _ {ns : List (List ℕ)} {room : ℕ} {u o es : List ℕ} {q : Begun} (g : Good ns room u q o es) (b : ℕ) (v : List ℕ) {k : Fault}
    (stops : (roomed (read_step ns) (record { inner = placed q o; left = room - length es }) b).stops ≡ Some k) where
  -- A byte for which there is room goes on.
  fits_not : {P : Type 0} → (read_step ns (placed q o) b).stops ≡ None → length (read_step ns (placed q o) b).gives ≤ room - length es → P
  fits_not h l =
      no_fault k (sym (ap (λ (x : Step (Roomed Place)). x.stops) (roomed_fits (read_step ns) (placed q o) (room - length es) b h l)) ∙ stops)

  -- A byte that is at fault itself.
  itself : (j : Fault) → (read_step ns (placed q o) b).stops ≡ Some j → j ≡ k
  itself j h = same_Some _ _ (sym (roomed_stop (read_step ns) (placed q o) (room - length es) b j h) ∙ stops)

  no_room : (read_step ns (placed q o) b).stops ≡ None → room - length es < length (read_step ns (placed q o) b).gives → fault.Short ≡ k
  no_room h l = same_Some _ _ (sym (ap (λ (x : Step (Roomed Place)). x.stops) (roomed_short (read_step ns) (placed q o) (room - length es) b h l)) ∙ stops)

  stop_fault : {x : Step Place} → read_step ns (placed q o) b ≡ x → Verdict ns q o b x → Faulty ns room (u ++ (b ∷ v)) k (length u)
  stop_fault e (Verdict.blank f h) = fits_not (rw e) (rw e (omega arith))
  stop_fault e (Verdict.longer f h) = fits_not (rw e) (rw e (omega arith))
  stop_fault e (Verdict.tag {t} {w} {o'} h n) = go (dec_le (length w) (room - length es))
    where
      go : Dec (length w ≤ room - length es) → Faulty ns room (u ++ (b ∷ v)) k (length u)
      go (yes l) = fits_not (rw e) (rw e l)
      go (no l) =
          rw (← no_room (rw e) (rw e (omega arith)))
          (Faulty.short b v g h n (omega (arith, one_event n, g.fits)))
  stop_fault e (Verdict.byte h) = rw (← itself fault.Byte (rw e)) (Faulty.byte b v g (rw g.parts (no_begins q b g.holds g.begun h)))
  stop_fault e (Verdict.unknown w n) = rw (← itself fault.Unknown (rw e)) (Faulty.unknown b v g w n)
  stop_fault e (Verdict.closing w l n) = rw (← itself fault.Closing (rw e)) (Faulty.closing b v g w l n)
  stop_fault e (Verdict.deep w l d) = rw (← itself fault.Deep (rw e)) (Faulty.deep b v g w l d)

module _ (ns : List (List ℕ)) (room : ℕ) (s : List ℕ) {k : Fault} where
  broken_faulty : Broken (roomed (read_step ns)) (record { inner = fresh; left = room }) s k → Faulty ns room s k (read_fed ns room s).taken
  broken_faulty w =
      let p = (read_fed ns room s).state.inner in
      let g : Good ns room w.before (read_fed ns room s).state.inner.begun (read_fed ns room s).state.inner.levels (read_fed ns room s).gives =
      rw w.on at (read_good {ns = ns} room w.before (ap (λ (f : Fed (Roomed Place)). f.stops) w.on)) in
      let stops : (roomed (read_step ns) (record { inner = p; left = room - length (read_fed ns room s).gives }) w.byte).stops ≡ Some k =
      subst (λ (r : Roomed Place). (roomed (read_step ns) r w.byte).stops ≡ Some k)
      (ap (λ (f : Fed (Roomed Place)). f.state) (sym w.on ∙ good_read g)) w.at in
      let fault : Faulty ns room (w.before ++ (w.byte ∷ w.rest)) k (length w.before) =
      stop_fault g w.byte w.rest stops refl (verdict ns p.begun w.byte p.levels g.begun) in
      rw w.place (subst (λ (t : List ℕ). Faulty ns room t k (length w.before)) (sym w.parts) fault)

  pub stops_faulty : text_stop (read_fed ns room s) ≡ Some k → Faulty ns room s k (read_fed ns room s).taken
  stops_faulty e = go (read_fed ns room s).stops refl
    where
      all : (read_fed ns room s).stops ≡ None → (read_fed ns room s).taken ≡ length s
      all h = ap (λ (f : Fed (Roomed Place)). f.taken) (good_read (read_good {ns = ns} room s h))

      last : (read_fed ns room s).stops ≡ None → (x : Bool) → closed (read_fed ns room s).state.inner ≡ x
          → (y : Bool) → ltb 0 (read_fed ns room s).state.left ≡ y → Faulty ns room s k (read_fed ns room s).taken
      last h true c true l = no_fault k (rw (h, c, l) at e)
      last h true c false l =
          let g = ended_good ns room s h (closed_place (read_fed ns room s).state.inner c) in
          rw (← same_Some _ _ (rw (h, c, l) at e), all h)
          (Faulty.end_short g (omega (arith, left_over_lem ns room s h, ltb-false 0 (read_fed ns room s).state.left l, g.fits)))
      last h false c y l =
          rw (← same_Some _ _ (rw (h, c) at e), all h)
          (Faulty.ended (read_good room s h) (λ p. not_closed p.0 p.1 c))

      go : (x : Option Fault) → (read_fed ns room s).stops ≡ x → Faulty ns room s k (read_fed ns room s).taken
      go None h = last h (closed (read_fed ns room s).state.inner) refl (ltb 0 (read_fed ns room s).state.left) refl
      go (Some j) h = broken_faulty (where_broken (roomed (read_step ns)) (record { inner = fresh; left = room }) s k (h ∙ (rw h at e)))
