-- The reader takes exactly the texts of the grammar, and gives their streams. Assumes nothing.
use Rattle.std.proofs.Common.{Option, Some, None, Result, Ok, Err}
use mathlib.Core.Path.{◌≡◌, refl, sym, ap, ◌∙◌}
use mathlib.Core.Bool.{Bool, true, false}
use mathlib.Core.List.{List, [], ◌∷◌, ◌++◌, append-nil, append_assoc}
use Prim.Native.Nat.{ℕ, suc, ◌+◌, ◌-◌, ◌<◌, ◌≤◌}
use native.Mathlib.Omega.{arith}
use lib.Dec.{eqb, ltb}
use lib.ListN.{length, drop, length-append}
use borrow.Author.Tests.{ltb-true, lt-ltb, eqb-true}
use Rattle.meaning.proofs.Tests.{true_T, both_true}
use Rattle.grammar.specs.declared.Fault.{Fault}
use Rattle.grammar.specs.declared.Fault.TheVariants as fault
use Rattle.grammar.specs.declared.ReadError.{ReadError}
use Rattle.grammar.specs.declared.ReadError.TheVariants as read_error
use Rattle.grammar.specs.Names.{lines_of, good_names}
use Rattle.grammar.specs.Tags.{Text, Begun}
use Rattle.grammar.specs.Feeding.{Fed, Roomed}
use Rattle.grammar.specs.Reading.{Place, fresh, unbegun, closed, read_fed, text_stop, read_answer, read_out}
use Rattle.grammar.specs.Faults.{Good}
use Rattle.grammar.proofs.Feeding.{went, no_fault}
use Rattle.grammar.proofs.ReadingTags.{placed, read_tags}
use Rattle.grammar.proofs.Refusing.{read_good, good_read}

-- Equal answers have equal parts, and different ones are not equal.
same_count : {m n : ℕ} → ◌≡◌ {A = Result ℕ ReadError} (Ok m) (Ok n) → m ≡ n
same_count e = cc

pub refused_taken : {P : Type 0} {k : Fault} {i n : ℕ} → ◌≡◌ {A = Result ℕ ReadError} (Err (read_error.Text k i)) (Ok n) → P
refused_taken e = let z : ◌≡◌ {A = ℕ} 0 1 = cc in absurd (omega arith)

pub names_taken : {P : Type 0} {n : ℕ} → ◌≡◌ {A = Result ℕ ReadError} (Err read_error.Names) (Ok n) → P
names_taken e = let z : ◌≡◌ {A = ℕ} 0 1 = cc in absurd (omega arith)

-- A text is good up to its end, with nothing open.
pub text_good : {ns : List (List ℕ)} {room : ℕ} {s w : List ℕ} (t : Text ns s w) → length t.events ≤ room
    → Good ns room s Begun.nothing [] t.events
text_good {s = s} t l =
    record { before = s; tags = t.tags; parts = sym (append-nil s); holds = t.holds; begun = refl; nested = t.nested; fits = l }

-- A text has one stream.
pub one_stream : {ns : List (List ℕ)} {s w w' : List ℕ} → Text ns s w → Text ns s w' → w ≡ w'
one_stream {ns} t t' =
    t.ends
    ∙ ap (λ (f : Fed Place). f.gives ++ (65 ∷ [])) (sym (read_tags ns t.holds t.nested) ∙ read_tags ns t'.holds t'.nested)
    ∙ sym t'.ends

-- What a taken text led to.
module _ (ns : List (List ℕ)) (room : ℕ) {s w : List ℕ} (t : Text ns s w) (l : length w ≤ room) where
  events_fit : length t.events < room
  events_fit = let m : length t.events + 1 ≤ room = rw (t.ends, length-append t.events (65 ∷ [])) at l in omega arith

  text_read : read_fed ns room s
      ≡ went t.events (length s) (record { inner = placed Begun.nothing []; left = room - length t.events })
  text_read = let m = events_fit in good_read (text_good t (omega arith))

  text_taken : text_stop (read_fed ns room s) ≡ None
  text_taken = let m = events_fit in rw (text_read, lt-ltb 0 (room - length t.events) (omega arith))

-- Where neither a tag nor an element is open, the place is that of the text's front.
pub closed_place : (p : Place) → closed p ≡ true → p ≡ fresh
closed_place p h =
    let b = both_true (unbegun p.begun) (eqb (length p.levels) 0) h in
    ends p.begun p.levels b.0 (eqb-true (length p.levels) 0 b.1)
  where
    ends : (q : Begun) (o : List ℕ) → unbegun q ≡ true → length o ≡ 0 → placed q o ≡ fresh
    ends Begun.nothing [] g e = refl
    ends Begun.nothing (a ∷ o) g e = absurd (omega arith)
    ends Begun.angle o g e = absurd (true_T {b = false} g)
    ends Begun.slashed o g e = absurd (true_T {b = false} g)
    ends (Begun.opening x) o g e = absurd (true_T {b = false} g)
    ends (Begun.closing x) o g e = absurd (true_T {b = false} g)
    ends (Begun.empty x) o g e = absurd (true_T {b = false} g)

-- The text's end was reached, nothing was open there, and there was room for byte 65.
pub record Ended (f : Fed (Roomed Place)) : Type 0 where
  pub on : f.stops ≡ None
  pub shut : f.state.inner ≡ fresh
  pub room : 0 < f.state.left

pub ended : (f : Fed (Roomed Place)) → text_stop f ≡ None → Ended f
ended f e = go f.stops refl
  where
    last : f.stops ≡ None → (x y : Bool) → closed f.state.inner ≡ x → ltb 0 f.state.left ≡ y → Ended f
    last h true true c l = record { on = h; shut = closed_place f.state.inner c; room = ltb-true 0 f.state.left l }
    last h true false c l = no_fault fault.Short (sym (rw (h, c, l) at e))
    last h false true c l = no_fault fault.Ended (sym (rw (h, c) at e))
    last h false false c l = no_fault fault.Ended (sym (rw (h, c) at e))

    go : (x : Option Fault) → f.stops ≡ x → Ended f
    go None h = last h (closed f.state.inner) (ltb 0 f.state.left) refl refl
    go (Some k) h = no_fault k (sym (rw h at e))

good_text : {ns : List (List ℕ)} {room : ℕ} {s es : List ℕ} → Good ns room s Begun.nothing [] es → Text ns s (es ++ (65 ∷ []))
good_text {es = es} g =
    record { tags = g.tags; events = es; holds = rw (g.parts, append-nil g.before) g.holds; nested = g.nested; ends = refl }

module _ (ns : List (List ℕ)) (room : ℕ) (s : List ℕ) where
  -- What was read to an end that is not at fault.
  pub ended_good : (read_fed ns room s).stops ≡ None → (read_fed ns room s).state.inner ≡ fresh → Good ns room s Begun.nothing [] (read_fed ns room s).gives
  ended_good e h = rw h at (read_good room s e)

  read_text : text_stop (read_fed ns room s) ≡ None → Text ns s ((read_fed ns room s).gives ++ (65 ∷ []))
  read_text e = let d = ended (read_fed ns room s) e in good_text (ended_good d.on d.shut)

  pub left_over_lem : (read_fed ns room s).stops ≡ None → (read_fed ns room s).state.left ≡ room - length (read_fed ns room s).gives
  left_over_lem e = ap (λ (f : Fed (Roomed Place)). f.state.left) (good_read (read_good room s e))

  read_fits : text_stop (read_fed ns room s) ≡ None → length ((read_fed ns room s).gives ++ (65 ∷ [])) ≤ room
  read_fits e =
      let d = ended (read_fed ns room s) e in
      let l : 0 < room - length (read_fed ns room s).gives = rw (left_over_lem d.on) at d.room in
      rw length-append (omega arith)

-- A text that was taken, and its stream w, of n events.
pub record TakenText (ns : List (List ℕ)) (s : List ℕ) (n : ℕ) (out after : List ℕ) : Type 0 where
  pub stream : List ℕ
  pub text : Text ns s stream
  pub count : length stream ≡ n
  pub fits : n ≤ length out
  pub written : after ≡ stream ++ drop n out

-- The events, byte 65, and what stood after so many.
written_after : (es out : List ℕ) → es ++ (65 ∷ drop (suc (length es)) out) ≡ (es ++ (65 ∷ [])) ++ drop (length (es ++ (65 ∷ []))) out
written_after es out =
    let n : length (es ++ (65 ∷ [])) ≡ suc (length es) = rw length-append (omega arith) in
    rw (n, append_assoc es (65 ∷ []) (drop (suc (length es)) out))

module _ (names : List ℕ) where
  -- The reader takes each text of the grammar,
  pub takes : {s w : List ℕ} (out : List ℕ) → good_names names ≡ true → Text (lines_of names) s w → length w ≤ length out
      → (read_answer names s (length out) ≡ Ok (length w)) × (read_out names s out ≡ w ++ drop (length w) out)
  takes {s} {w} out h t l =
      let stop = text_taken (lines_of names) (length out) t l in
      let read = text_read (lines_of names) (length out) t l in
      let n : length w ≡ suc (length t.events) = rw (t.ends, length-append) (omega arith) in (
        rw (h, stop, read, n),
        rw (h, stop, read, t.ends) (written_after t.events out),
      )

  -- and no other.
  pub taken_text : {n : ℕ} (s out : List ℕ) → read_answer names s (length out) ≡ Ok n
      → (good_names names ≡ true) × TakenText (lines_of names) s n out (read_out names s out)
  taken_text {n} s out e = go (good_names names) refl (text_stop (read_fed (lines_of names) (length out) s)) refl
    where
      go : (x : Bool) → good_names names ≡ x → (y : Option Fault) → text_stop (read_fed (lines_of names) (length out) s) ≡ y
          → (good_names names ≡ true) × TakenText (lines_of names) s n out (read_out names s out)
      go true h None k =
          let es = (read_fed (lines_of names) (length out) s).gives in
          let c : suc (length es) ≡ n = same_count (rw (h, k) at e) in
          let m : length (es ++ (65 ∷ [])) ≡ n = rw length-append (omega arith) in (
            h,
            record {
              stream = es ++ (65 ∷ []);
              text = read_text (lines_of names) (length out) s k;
              count = m;
              fits = rw m at (read_fits (lines_of names) (length out) s k);
              written = rw (h, k) (rw m at (written_after es out));
            },
          )
      go true h (Some j) k = refused_taken (rw (h, k) at e)
      go false h y k = names_taken (rw h at e)
