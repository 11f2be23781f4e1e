-- Good texts are those that are read without a fault: one more byte that goes on keeps a text good, and what is good is
-- read to its end, with and without room. Assumes nothing.
use Rattle.std.proofs.Common.{Option, Some, None}
use mathlib.Core.Path.{◌≡◌, refl, sym, ap, ◌∙◌}
use mathlib.Core.List.{List, [], ◌∷◌, ◌++◌, append-nil, append_assoc}
use Prim.Native.Nat.{ℕ, ◌-◌, ◌≤◌}
use native.Mathlib.Nat.{le_refl}
use lib.ListN.{length}
use Rattle.grammar.specs.declared.Fault.{Fault}
use Rattle.grammar.specs.declared.Fault.TheVariants as fault
use Rattle.grammar.specs.Tags.{tag_text, Holds, Nested, Begun, begun_text}
use Rattle.grammar.specs.Feeding.{Step, Fed, feed}
use Rattle.grammar.specs.Reading.{Place, fresh, read_step, read_fed}
use Rattle.grammar.specs.Faults.{Good}
use Rattle.grammar.proofs.Feeding.{went, no_fault, with_room, room_enough, room_inner}
use Rattle.grammar.proofs.ReadingTags.{placed, holds_append, nested_append, read_begun}
use Rattle.grammar.proofs.Verdicts.{Verdict, verdict}

module _ {ns : List (List ℕ)} {r : ℕ} {u o es : List ℕ} {q : Begun} where
  -- A good text is read to its end.
  pub good_fed : Good ns r u q o es → feed (read_step ns) fresh u ≡ went es (length u) (placed q o)
  good_fed g = rw g.parts (read_begun ns q g.holds g.nested g.begun)

  ended : (g : Good ns r u q o es) → q ≡ Begun.nothing → u ≡ g.before
  ended g e = (rw e at g.parts) ∙ append-nil g.before

  pub byte_more : (b : ℕ) {v : List ℕ} (g : Good ns r u q o es) → begun_text q ++ (b ∷ []) ≡ v → u ++ (b ∷ []) ≡ g.before ++ v
  byte_more b g e =
      ap (λ (s : List ℕ). s ++ (b ∷ [])) g.parts
      ∙ append_assoc g.before (begun_text q) (b ∷ [])
      ∙ ap (λ (s : List ℕ). g.before ++ s) e

  -- One more byte that goes on.
  pub good_step : {b r' : ℕ} {x : Step Place} → Good ns r u q o es → Verdict ns q o b x → x.stops ≡ None → length (es ++ x.gives) ≤ r'
      → Good ns r' (u ++ (b ∷ [])) x.next.begun x.next.levels (es ++ x.gives)
  good_step {b} g (Verdict.blank e h) s l =
      record {
        before = g.before ++ (b ∷ []);
        tags = g.tags ++ [];
        parts = ap (λ (v : List ℕ). v ++ (b ∷ [])) (ended g e) ∙ sym (append-nil (g.before ++ (b ∷ [])));
        holds = holds_append g.holds (Holds.blank h Holds.nothing);
        begun = refl;
        nested = nested_append g.nested Nested.nothing;
        fits = l;
      }
  good_step {b} g (Verdict.longer {q'} e h) s l =
      record {
        before = g.before;
        tags = g.tags;
        parts = byte_more b g e;
        holds = g.holds;
        begun = h;
        nested = rw (append-nil es) g.nested;
        fits = l;
      }
  good_step {b} g (Verdict.tag {t} w n) s l =
      record {
        before = g.before ++ (tag_text t ++ []);
        tags = g.tags ++ (t ∷ []);
        parts = byte_more b g w.text ∙ rw (append-nil (tag_text t), append-nil (g.before ++ tag_text t));
        holds = holds_append g.holds (Holds.tag w.named Holds.nothing);
        begun = refl;
        nested = nested_append g.nested n;
        fits = l;
      }
  good_step g (Verdict.byte e) s l = no_fault fault.Byte (sym s)
  good_step g (Verdict.unknown w n) s l = no_fault fault.Unknown (sym s)
  good_step g (Verdict.closing w n c) s l = no_fault fault.Closing (sym s)
  good_step g (Verdict.deep w n d) s l = no_fault fault.Deep (sym s)

-- The text s is good: it led to where f stands, and gave es and then what f gave.
abbrev pub GoodFed : List (List ℕ) → ℕ → List ℕ → List ℕ → Fed Place → Type 0
GoodFed ns r s es f = Good ns r s f.state.begun f.state.levels (es ++ f.gives)

module _ {ns : List (List ℕ)} where
  good_room : {r r' : ℕ} {u o es : List ℕ} {q : Begun} → Good ns r u q o es → length es ≤ r' → Good ns r' u q o es
  good_room g l =
      record { before = g.before; tags = g.tags; parts = g.parts; holds = g.holds; begun = g.begun; nested = g.nested; fits = l }

  -- A text that is read on from a good one, without a fault, is good.
  pub read_on_good : {r r' : ℕ} {u o es : List ℕ} {q : Begun} (v : List ℕ) → Good ns r u q o es
      → (feed (read_step ns) (placed q o) v).stops ≡ None → length (es ++ (feed (read_step ns) (placed q o) v).gives) ≤ r'
      → GoodFed ns r' (u ++ v) es (feed (read_step ns) (placed q o) v)
  read_on_good {u = u} {es = es} [] g s l = rw (append-nil u, append-nil es) (good_room g (rw (append-nil es) at l))
  read_on_good {r = r} {r' = r'} {u = u} {o} {es} {q} (b ∷ v) g s l =
      go (read_step ns (placed q o) b).stops refl
      (λ k t m. read_on_good {r = length (es ++ (read_step ns (placed q o) b).gives)} {r' = r'} {u = u ++ (b ∷ [])} {es = es ++ (read_step ns (placed q o) b).gives} v k t m)
    where
      go : (y : Option Fault) → (read_step ns (placed q o) b).stops ≡ y
          → (Good ns (length (es ++ (read_step ns (placed q o) b).gives)) (u ++ (b ∷ []))
          (read_step ns (placed q o) b).next.begun (read_step ns (placed q o) b).next.levels (es ++ (read_step ns (placed q o) b).gives)
          → (feed (read_step ns) (read_step ns (placed q o) b).next v).stops ≡ None
          → length ((es ++ (read_step ns (placed q o) b).gives) ++ (feed (read_step ns) (read_step ns (placed q o) b).next v).gives) ≤ r'
          → GoodFed ns r' ((u ++ (b ∷ [])) ++ v) (es ++ (read_step ns (placed q o) b).gives) (feed (read_step ns) (read_step ns (placed q o) b).next v))
          → GoodFed ns r' (u ++ (b ∷ v)) es (feed (read_step ns) (placed q o) (b ∷ v))
      go None h ih =
          let together : (es ++ (read_step ns (placed q o) b).gives) ++ (feed (read_step ns) (read_step ns (placed q o) b).next v).gives
          ≡ es ++ ((read_step ns (placed q o) b).gives ++ (feed (read_step ns) (read_step ns (placed q o) b).next v).gives) =
          append_assoc es (read_step ns (placed q o) b).gives (feed (read_step ns) (read_step ns (placed q o) b).next v).gives in
          let one = good_step g (verdict ns q b o g.begun) h (le_refl (length (es ++ (read_step ns (placed q o) b).gives))) in
          let all = ih one (rw h at s) (rw together (rw h at l)) in
          rw h (rw (append_assoc u (b ∷ []) v, together) at all)
      go (Some k) h ih = no_fault k (sym (rw h at s))

  -- What is read without a fault, from the front of the text and with room, is good; and what is good is read so.
  pub read_good : (r : ℕ) (s : List ℕ) → (read_fed ns r s).stops ≡ None
      → Good ns r s (read_fed ns r s).state.inner.begun (read_fed ns r s).state.inner.levels (read_fed ns r s).gives
  read_good r s e =
      let i = room_inner (read_step ns) fresh r s e in
      rw (room_enough (read_step ns) fresh r s i.1) (read_on_good s start i.0 i.1)
    where
      start : Good ns 0 [] Begun.nothing [] []
      start =
          record { before = []; tags = []; parts = refl; holds = Holds.nothing; begun = refl; nested = Nested.nothing; fits = le_refl 0 }

  pub good_read : {r : ℕ} {s o es : List ℕ} {q : Begun} → Good ns r s q o es
      → read_fed ns r s ≡ went es (length s) (record { inner = placed q o; left = r - length es })
  good_read {r} {s} {o} {es} {q} g =
      let fed = good_fed g in
      room_enough (read_step ns) fresh r s (rw fed g.fits) ∙ ap (λ (f : Fed Place). with_room r f) fed
