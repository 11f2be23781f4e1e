-- What the writer answers, and when exactly; and what then stands in the output. Assumes nothing.
use Rattle.std.proofs.Common.{Result, Ok, Err}
use mathlib.Core.Path.{◌≡◌, refl, ap, ◌∙◌}
use mathlib.Core.Bool.{Bool, true, false, cond}
use mathlib.Core.List.{List, ◌++◌}
use mathlib.Core.Logic.{◌↔◌}
use Prim.Native.Nat.{ℕ, ◌<◌, ◌≤◌}
use native.Mathlib.Omega.{arith}
use lib.Dec.{ltb}
use lib.ListN.{length, take, drop}
use lib.Seq.{take_at}
use borrow.Author.Tests.{ltb-true, ltb-false, lt-ltb, le-ltb}
use Rattle.grammar.specs.declared.WriteError.{WriteError}
use Rattle.grammar.specs.declared.WriteError.TheVariants as write_error
use Rattle.grammar.specs.Names.{lines_of, good_names}
use Rattle.grammar.specs.Streams.{Stream, Stuck}
use Rattle.grammar.specs.Feeding.{Fed}
use Rattle.grammar.specs.Writing.{Written, write_fed, whole_stream, write_answer, write_out}
use Rattle.grammar.proofs.Names.{good_list}
use Rattle.grammar.proofs.Streams.{stream_whole, whole_stream_lem, refused_stuck, stuck_refused}

-- How many labels the names give.
abbrev pub labels : List ℕ → ℕ
labels names = length (lines_of names)

-- The text that is written for events.
abbrev pub text_for : List ℕ → List ℕ → List ℕ
text_for names w = (write_fed (lines_of names) w).gives

-- An answer, and what it says of the names, the events and the room.
data Says (names w : List ℕ) (room : ℕ) : Result ℕ WriteError → Type 0 where
  taken : good_names names ≡ true → Stream (labels names) w → length (text_for names w) ≤ room
      → Says names w room (Ok (length (text_for names w)))
  short : good_names names ≡ true → Stream (labels names) w → room < length (text_for names w) → Says names w room (Err write_error.Short)
  refused : {i : ℕ} → good_names names ≡ true → Stuck (labels names) w i → Says names w room (Err (write_error.Stream i))
  unnamed : good_names names ≡ false → Says names w room (Err write_error.Names)

module _ (names w : List ℕ) (room : ℕ) where
  says : Says names w room (write_answer names w room)
  says = go (good_names names) refl
    where
      f : Fed Written
      f = write_fed (lines_of names) w

      roomy : (x : Bool) → ltb room (length f.gives) ≡ x → good_names names ≡ true → Stream (labels names) w
          → Says names w room (cond x (Err write_error.Short) (Ok (length f.gives)))
      roomy true e g s = Says.short g s (ltb-true room (length f.gives) e)
      roomy false e g s = Says.taken g s (ltb-false room (length f.gives) e)

      streams : (x : Bool) → whole_stream f ≡ x → good_names names ≡ true
          → Says names w room
          (cond x (cond (ltb room (length f.gives)) (Err write_error.Short) (Ok (length f.gives))) (Err (write_error.Stream f.taken)))
      streams true e g = roomy (ltb room (length f.gives)) refl g (whole_stream_lem (lines_of names) (good_list names g) w e)
      streams false e g = Says.refused g (refused_stuck (lines_of names) (good_list names g) w e)

      go : (x : Bool) → good_names names ≡ x → Says names w room (write_answer names w room)
      go true e = rw e (streams (whole_stream f) refl e)
      go false e = rw e (Says.unnamed e)

  -- n bytes are written exactly for a whole stream of depth at most 40 whose text has n bytes, where there is room for it.
  pub taken_exactly : (n : ℕ) → (write_answer names w room ≡ Ok n)
      ↔ ((good_names names ≡ true) × Stream (labels names) w × (length (text_for names w) ≡ n) × (n ≤ room))
  taken_exactly n = (λ e. go (rw e at says), λ p. back p.0 p.1 p.2 p.3)
    where
      go : {n : ℕ} → Says names w room (Ok n)
          → (good_names names ≡ true) × Stream (labels names) w × (length (text_for names w) ≡ n) × (n ≤ room)
      go (Says.taken g s h) = (g, s, refl, h)

      back : good_names names ≡ true → Stream (labels names) w → length (text_for names w) ≡ n → n ≤ room
          → write_answer names w room ≡ Ok n
      back g s q h =
          rw (g, stream_whole (lines_of names) (good_list names g) w s, le-ltb room (length (text_for names w)) (omega arith), q)

  -- There is no room exactly for a whole stream whose text is longer.
  pub short_exactly : (write_answer names w room ≡ Err write_error.Short)
      ↔ ((good_names names ≡ true) × Stream (labels names) w × (room < length (text_for names w)))
  short_exactly = (λ e. go (rw e at says), λ p. back p.0 p.1 p.2)
    where
      go : Says names w room (Err write_error.Short)
          → (good_names names ≡ true) × Stream (labels names) w × (room < length (text_for names w))
      go (Says.short g s h) = (g, s, h)

      back : good_names names ≡ true → Stream (labels names) w → room < length (text_for names w) → write_answer names w room ≡ Err write_error.Short
      back g s h = rw (g, stream_whole (lines_of names) (good_list names g) w s, lt-ltb room (length (text_for names w)) h)

  -- A place is refused exactly where it is the first at which no whole stream goes on: that of a byte, or the end.
  pub stuck_exactly : (i : ℕ) → (write_answer names w room ≡ Err (write_error.Stream i)) ↔ ((good_names names ≡ true) × Stuck (labels names) w i)
  stuck_exactly i = (λ e. go (rw e at says), λ p. back p.0 p.1)
    where
      go : Says names w room (Err (write_error.Stream i)) → (good_names names ≡ true) × Stuck (labels names) w i
      go (Says.refused g s) = (g, s)

      back : good_names names ≡ true → Stuck (labels names) w i → write_answer names w room ≡ Err (write_error.Stream i)
      back g s =
          let p = stuck_refused (lines_of names) (good_list names g) s in
          rw (g, p.0, p.1)

  -- The names are refused exactly where they are no good list.
  pub names_exactly : (write_answer names w room ≡ Err write_error.Names) ↔ (good_names names ≡ false)
  names_exactly = (λ e. go (rw e at says), λ g. rw g)
    where
      go : Says names w room (Err write_error.Names) → good_names names ≡ false
      go (Says.unnamed g) = g

module _ (names w out : List ℕ) where
  -- A refusal writes nothing.
  pub refusal_writes_nothing : ((n : ℕ) → ¬ (write_answer names w (length out) ≡ Ok n)) → write_out names w out ≡ out
  refusal_writes_nothing h = go (good_names names) (whole_stream f) (ltb (length out) (length f.gives)) refl refl refl
    where
      f : Fed Written
      f = write_fed (lines_of names) w

      go : (g s r : Bool) → good_names names ≡ g → whole_stream f ≡ s → ltb (length out) (length f.gives) ≡ r
          → write_out names w out ≡ out
      go true true true a b c = rw (a, b, c)
      go true true false a b c = absurd (h (length f.gives) (rw (a, b, c)))
      go true false r a b c = rw (a, b)
      go false s r a b c = rw a

  -- What is taken stands in front, and nothing behind it changes.
  pub taken_writes : {n : ℕ} → write_answer names w (length out) ≡ Ok n
      → write_out names w out ≡ text_for names w ++ drop (length (text_for names w)) out
  taken_writes {n} e =
      let p = (taken_exactly names w (length out) n).0 e in
      let whole = stream_whole (lines_of names) (good_list names p.0) w p.1 in
      rw (p.0, whole, le-ltb (length out) (length (text_for names w)) (omega (arith, p.2, p.3)))

  -- So the first n bytes are the text.
  pub taken_front : {n : ℕ} → write_answer names w (length out) ≡ Ok n → take n (write_out names w out) ≡ text_for names w
  taken_front {n} e =
      let p = (taken_exactly names w (length out) n).0 e in
      ap (take n) (taken_writes e) ∙ take_at (text_for names w) (drop (length (text_for names w)) out) n p.2
