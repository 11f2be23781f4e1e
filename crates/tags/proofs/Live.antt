-- A text that comes in pieces, as a program reads it. Feeding the pieces is the same as reading the whole text at once, up to its
-- first fault: where each piece is lent the room that the ones before have left, for any room; and where each is lent room for
-- as many events as it has bytes, for room enough. Assumes nothing.
use Rattle.std.proofs.Common.{Option, Some, None, Result, Ok, Err}
use mathlib.Core.Path.{◌≡◌, refl, sym, ap, ◌∙◌}
use mathlib.Core.Bool.{Bool, true, false, cond}
use mathlib.Core.List.{List, [], ◌∷◌}
use Prim.Native.Nat.{ℕ, ◌-◌, ◌<◌, ◌≤◌}
use native.Mathlib.Omega.{arith}
use borrow.Author.Tests.{lt-ltb}
use lib.ListN.{length, length-append}
use Rattle.grammar.specs.declared.Fault.{Fault}
use Rattle.grammar.specs.Names.{lines_of, good_names}
use Rattle.grammar.specs.Feeding.{goes_on, Fed, Roomed, after, feed, roomed}
use Rattle.grammar.specs.Reading.{read_fed, end_stop, text_stop, answer_of, read_answer}
use Rattle.grammar.proofs.Feeding.{then, joined, feed_all, in_pieces, room_enough, with_room}
use Rattle.tags.specs.declared.reader.Cursor.{Cursor}
use Rattle.tags.specs.declared.reader.Stepped.{Stepped}
use Rattle.tags.specs.Cursors.{begin, closed_in, step_of, given_by, step_by, cursor_step, feed_in, whole_stop}
use Rattle.tags.specs.Feeding.{fed_of}
use Rattle.tags.proofs.Places.{closed_is}
use Rattle.tags.proofs.WholeTexts.{mine, same, stop_is}

---------------------------------------------------------------- room handed on

-- Nothing is read yet, and there is room for so many events.
abbrev pub unread_in : ℕ → Fed (Roomed Cursor)
unread_in room = record { gives = []; taken = 0; state = record { inner = begin; left = room }; stops = None }

-- The calls of `feed` for pieces, one after another, each from the cursor and with the room that the one before left, up to a
-- fault.
abbrev pub handed : List ℕ → Fed (Roomed Cursor) → List (List ℕ) → Fed (Roomed Cursor)
handed names f [] = f
handed names f (s ∷ ss) =
    handed names (cond (goes_on f.stops) (after f.gives f.taken (feed_in names f.state.inner f.state.left s)) f) ss

-- The fault of a text that was read so: a byte's, or else the end's.
abbrev pub end_in : Fed (Roomed Cursor) → Option Fault
end_in f = cond (goes_on f.stops) (end_stop (closed_in f.state.inner) f.state.left) f.stops

handed_are : (names : List ℕ) (f : Fed (Roomed Cursor)) (ss : List (List ℕ)) → handed names f ss ≡ feed_all (roomed (cursor_step names)) f ss
handed_are names f [] = refl
handed_are names f (s ∷ ss) = handed_are names (then (roomed (cursor_step names)) f s) ss

module _ (names : List ℕ) (good : good_names names ≡ true) (room : ℕ) (ss : List (List ℕ)) where
  all_handed : handed names (unread_in room) ss ≡ mine names good (joined ss) room
  all_handed =
      handed_are names (unread_in room) ss ∙ in_pieces (roomed (cursor_step names)) (record { inner = begin; left = room }) [] ss

  end_is : end_in (mine names good (joined ss) room) ≡ text_stop (read_fed (lines_of names) room (joined ss))
  end_is =
      let s = same names good (joined ss) room in
      rw (s.stops, closed_is s.state.inner, s.state.left)

  -- The same answer, whatever the room: how many events, or which fault at which place.
  pub handed_answer : read_answer names (joined ss) room
      ≡ answer_of (end_in (handed names (unread_in room) ss)) (handed names (unread_in room) ss).taken (length (handed names (unread_in room) ss).gives)
  handed_answer =
      let s = same names good (joined ss) room in
      rw (good, all_handed, end_is, s.taken, s.gives)

  -- And the same events.
  pub handed_events : (read_fed (lines_of names) room (joined ss)).gives ≡ (handed names (unread_in room) ss).gives
  handed_events = sym (same names good (joined ss) room).gives ∙ ap (λ (x : Fed (Roomed Cursor)). x.gives) (sym all_handed)

---------------------------------------------------------------- room enough

-- A byte gives at most one event.
one_at_most : (c : Cursor) (x : Result Stepped Fault) → length (step_by c x).gives ≤ 1
one_at_most c (Ok x) = of_event x.event
  where
    of_event : (e : Option ℕ) → length (given_by e) ≤ 1
    of_event None = omega arith
    of_event (Some e) = omega arith
one_at_most c (Err f) = omega arith

few_given : (names : List ℕ) (c : Cursor) (s : List ℕ) → length (feed (cursor_step names) c s).gives ≤ length s
few_given names c [] = omega arith
few_given names c (b ∷ s) = go (goes_on (cursor_step names c b).stops) refl (few_given names (cursor_step names c b).next s)
  where
    go : (t : Bool) → goes_on (cursor_step names c b).stops ≡ t
        → length (feed (cursor_step names) (cursor_step names c b).next s).gives ≤ length s
        → length (feed (cursor_step names) c (b ∷ s)).gives ≤ length (b ∷ s)
    go true e h =
        let o : length (cursor_step names c b).gives ≤ 1 = one_at_most c (step_of names c b) in
        rw (e, length-append) (omega (arith, o, h))
    go false e h = rw e (omega arith)

-- A piece, and the room that is lent for its events.
pub record Piece : Type 0 where
  pub bytes : List ℕ
  pub room : ℕ
  pub enough : length bytes ≤ room

abbrev pub bytes_of : List Piece → List (List ℕ)
bytes_of [] = []
bytes_of (p ∷ ps) = p.bytes ∷ bytes_of ps

-- What a call of `feed` came to, without its room.
abbrev pub unroomed : Fed (Roomed Cursor) → Fed Cursor
unroomed f = record { gives = f.gives; taken = f.taken; state = f.state.inner; stops = f.stops }

-- The calls of `feed` for pieces, one after another, each from the cursor that the one before left, up to a fault.
abbrev pub calls : List ℕ → Fed Cursor → List Piece → Fed Cursor
calls names f [] = f
calls names f (p ∷ ps) =
    calls names (cond (goes_on f.stops) (after f.gives f.taken (unroomed (feed_in names f.state p.room p.bytes))) f) ps

-- Room changes nothing.
call_is : (names : List ℕ) (c : Cursor) (p : Piece) → unroomed (feed_in names c p.room p.bytes) ≡ feed (cursor_step names) c p.bytes
call_is names c p =
    let h : length (feed (cursor_step names) c p.bytes).gives ≤ p.room = omega (arith, few_given names c p.bytes, p.enough) in
    ap unroomed (room_enough (cursor_step names) c p.room p.bytes h)

calls_are : (names : List ℕ) (f : Fed Cursor) (ps : List Piece) → calls names f ps ≡ feed_all (cursor_step names) f (bytes_of ps)
calls_are names f [] = refl
calls_are names f (p ∷ ps) =
    ap (λ (g : Fed Cursor). calls names (cond (goes_on f.stops) (after f.gives f.taken g) f) ps) (call_is names f.state p)
    ∙ calls_are names (then (cursor_step names) f p.bytes) ps

-- Nothing is read yet.
abbrev pub unread : Fed Cursor
unread = record { gives = []; taken = 0; state = begin; stops = None }

-- The fault of a text that was read in pieces: a byte's, or else the end's, where there is room for byte 65.
abbrev pub end_of : Fed Cursor → Option Fault
end_of f = cond (goes_on f.stops) (end_stop (closed_in f.state) 1) f.stops

module _ (names : List ℕ) (good : good_names names ≡ true) (ps : List Piece) where
  abbrev text : List ℕ
  text = joined (bytes_of ps)

  all_calls : calls names unread ps ≡ feed (cursor_step names) begin text
  all_calls = calls_are names unread ps ∙ in_pieces (cursor_step names) begin [] (bytes_of ps)

  module _ (room : ℕ) (enough : length text < room) where
    at_once : mine names good text room ≡ with_room room (feed (cursor_step names) begin text)
    at_once = room_enough (cursor_step names) begin room text (omega (arith, few_given names begin text))

    -- Room is left for byte 65, as with room for one.
    end_same : (c : Bool) (l : ℕ) → 0 < l → end_stop c l ≡ end_stop c 1
    end_same c l h = rw (lt-ltb 0 l h)

    verdict_same : whole_stop (fed_of (mine names good text room)) room ≡ end_of (feed (cursor_step names) begin text)
    verdict_same =
        let f = feed (cursor_step names) begin text in
        ap (λ (x : Fed (Roomed Cursor)). whole_stop (fed_of x) room) at_once
        ∙ ap (λ (e : Option Fault). cond (goes_on f.stops) e f.stops) (end_same (closed_in f.state) (room - length f.gives) (omega (arith, few_given names begin text, enough)))

    -- The same answer: how many events, or which fault at which place.
    pub live_answer : read_answer names text room
        ≡ answer_of (end_of (calls names unread ps)) (calls names unread ps).taken (length (calls names unread ps).gives)
    live_answer =
        let f = feed (cursor_step names) begin text in
        let s = same names good text room in
        let v : text_stop (read_fed (lines_of names) room text) ≡ end_of f = sym (stop_is names good text room) ∙ verdict_same in
        let t : (read_fed (lines_of names) room text).taken ≡ f.taken = sym s.taken ∙ ap (λ (x : Fed (Roomed Cursor)). x.taken) at_once in
        let g : (read_fed (lines_of names) room text).gives ≡ f.gives = sym s.gives ∙ ap (λ (x : Fed (Roomed Cursor)). x.gives) at_once in
        rw (good, v, t, g, all_calls)

    -- And the same events.
    pub live_events : (read_fed (lines_of names) room text).gives ≡ (calls names unread ps).gives
    live_events =
        sym (same names good text room).gives ∙ ap (λ (x : Fed (Roomed Cursor)). x.gives) at_once
        ∙ ap (λ (x : Fed Cursor). x.gives) (sym all_calls)
