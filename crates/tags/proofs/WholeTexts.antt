-- What `read` answers and leaves, from what its survey found. Assumes nothing.
use Rattle.std.proofs.Common.{Option, Some, None, Ok, Err}
use mathlib.Core.Path.{◌≡◌, refl, sym, ap, ap₂, ◌∙◌}
use mathlib.Core.Bool.{Bool, true, false, cond, true≢false}
use mathlib.Core.List.{List, ◌∷◌, ◌++◌}
use Prim.Native.Nat.{ℕ, suc, ◌+◌, ◌-◌, ◌<◌}
use native.Mathlib.Numerals.{add-one}
use native.Mathlib.Omega.{arith}
use borrow.Author.Tests.{ltb-true}
use lib.Dec.{ltb}
use lib.ListN.{length, drop, set}
use lib.Seq.{set_at, drop-cons}
use Rattle.grammar.specs.declared.Fault.{Fault}
use Rattle.grammar.specs.declared.Fault.TheVariants as fault
use Rattle.grammar.specs.declared.ReadError.TheVariants as read_error
use Rattle.grammar.specs.Names.{lines_of, good_names}
use Rattle.grammar.specs.Feeding.{goes_on, Fed, Roomed, feed}
use Rattle.grammar.specs.Reading.{Place, fresh, closed, read_fed, end_stop, text_stop, read_answer, read_out}
use Rattle.grammar.proofs.Pieces.{on_none}
use Rattle.grammar.proofs.Feeding.{room_inner, room_enough, no_fault}
use Rattle.tags.specs.declared.reader.Cursor.{Cursor}
use Rattle.tags.specs.declared.feeding.Fed as fed
use Rattle.tags.specs.Feeding.{fed_of}
use Rattle.tags.specs.Cursors.{begin, cursor_step, feed_in, feed_out, whole_stop}
use Rattle.tags.proofs.Agreeing.{FeedsAgree, InRoom}
use Rattle.tags.proofs.Places.{Stands, stands_begin, closed_is, piece_agrees}

module _ (names : List ℕ) (good : good_names names ≡ true) (text : List ℕ) (room : ℕ) where
  abbrev pub mine : Fed (Roomed Cursor)
  mine = feed_in names begin room text

  abbrev pub meant : Fed (Roomed Place)
  meant = read_fed (lines_of names) room text

  pub same : FeedsAgree (InRoom (Stands (length (lines_of names)))) mine meant
  same = piece_agrees names good begin fresh room text (stands_begin (length (lines_of names)))

  -- The room that is left after a text that goes on.
  left_is : goes_on meant.stops ≡ true → room - length mine.gives ≡ meant.state.left
  left_is e =
      let n : mine.stops ≡ None = same.stops ∙ on_none meant.stops e in
      let f = room_enough (cursor_step names) begin room text (room_inner (cursor_step names) begin room text n).1 in
      let g : mine.gives ≡ (feed (cursor_step names) begin text).gives = ap (λ (x : Fed (Roomed Cursor)). x.gives) f in
      let h : mine.state.left ≡ room - length (feed (cursor_step names) begin text).gives = ap (λ (x : Fed (Roomed Cursor)). x.state.left) f in
      ap (λ (u : List ℕ). room - length u) g ∙ sym h ∙ same.state.left

  -- The survey's verdict is the text's.
  pub stop_is : whole_stop (fed_of mine) room ≡ text_stop meant
  stop_is = go (goes_on meant.stops) refl
    where
      go : (t : Bool) → goes_on meant.stops ≡ t → whole_stop (fed_of mine) room ≡ text_stop meant
      go true e =
          let f : goes_on mine.stops ≡ true = ap goes_on same.stops ∙ e in
          rw (e, f) (ap₂ end_stop (closed_is same.state.inner) (left_is e))
      go false e = let f : goes_on mine.stops ≡ false = ap goes_on same.stops ∙ e in rw (e, f) same.stops

  -- A text without a fault has left room for byte 65.
  end_fits : (c : Bool) (l : ℕ) → end_stop c l ≡ None → 0 < l
  end_fits true l e = go (ltb 0 l) refl e
    where
      go : (t : Bool) → ltb 0 l ≡ t → cond t None (Some fault.Short) ≡ None → 0 < l
      go true h f = ltb-true 0 l h
      go false h f = no_fault fault.Short (sym f)
  end_fits false l e = no_fault fault.Ended (sym e)

  pub room_for_end : text_stop meant ≡ None → length mine.gives < room
  room_for_end n = go (goes_on meant.stops) refl
    where
      go : (t : Bool) → goes_on meant.stops ≡ t → length mine.gives < room
      go true e =
          let h : 0 < meant.state.left = end_fits (closed meant.state.inner) meant.state.left (rw e at n) in
          let g = left_is e in
          omega (arith, g, h)
      go false e =
          let h : meant.stops ≡ None = rw e at n in
          absurd (true≢false (sym (ap goes_on h) ∙ e))

-- The list of names is bad.
pub answers_names : (names text out : List ℕ) → good_names names ≡ false
    → (Err read_error.Names ≡ read_answer names text (length out)) × (out ≡ read_out names text out)
answers_names names text out bad = rw bad (refl, refl)

module _ (names : List ℕ) (good : good_names names ≡ true) (text out : List ℕ) {f : fed.Fed Cursor} {stop : Option Fault}
    (e : f ≡ fed_of (feed_in names begin (length out) text)) (v : stop ≡ whole_stop f (length out)) where
  verdict : stop ≡ text_stop (read_fed (lines_of names) (length out) text)
  verdict = v ∙ ap (λ (x : fed.Fed Cursor). whole_stop x (length out)) e ∙ stop_is names good text (length out)

  taken_is : f.taken ≡ (read_fed (lines_of names) (length out) text).taken
  taken_is = ap (λ (x : fed.Fed Cursor). x.taken) e ∙ (same names good text (length out)).taken

  gives_are : (feed_in names begin (length out) text).gives ≡ (read_fed (lines_of names) (length out) text).gives
  gives_are = (same names good text (length out)).gives

  given_is : f.given ≡ length (read_fed (lines_of names) (length out) text).gives
  given_is = ap (λ (x : fed.Fed Cursor). x.given) e ∙ ap length gives_are

  -- The text is at fault.
  pub answers_refused : {k : Fault} → stop ≡ Some k
      → (Err (read_error.Text k f.taken) ≡ read_answer names text (length out)) × (out ≡ read_out names text out)
  answers_refused {k} h =
      let t = sym verdict ∙ h in
      rw (good, t) (ap (λ (n : ℕ). Err (read_error.Text k n)) taken_is, refl)

  pub given_fits : stop ≡ None → f.given < length out
  given_fits h =
      let t = sym verdict ∙ h in
      let l = room_for_end names good text (length out) t in
      omega (arith, l, ap (λ (x : fed.Fed Cursor). x.given) e)

  -- It is not, and its events stand in the output.
  pub answers_taken : {out' : List ℕ} → stop ≡ None → out' ≡ feed_out names begin text out
      → (Ok (f.given + 1) ≡ read_answer names text (length out)) × (set out' f.given 65 ≡ read_out names text out)
  answers_taken {out'} h p =
      let t = sym verdict ∙ h in
      let u = (read_fed (lines_of names) (length out) text).gives in
      let l : length u < length out = omega (arith, given_is, given_fits h) in
      let o : out' ≡ u ++ drop (length u) out = p ∙ ap (λ (z : List ℕ). z ++ drop (length z) out) gives_are in
      let w : set (u ++ drop (length u) out) (length u) 65 ≡ u ++ (65 ∷ drop (suc (length u)) out) =
      rw (drop-cons out (length u) 0 l) (set_at u _ (drop (suc (length u)) out) 65 (length u) refl) in
      rw (good, t) (ap Ok (add-one f.given ∙ ap suc given_is), rw (o, given_is) w)
