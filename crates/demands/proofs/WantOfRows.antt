-- Want of rows: where no line before the last applies, 15 is given exactly if more positions would be alive after the event than
-- there are rows. Assumes a watch that a taken start and any calls led to.
use mathlib.Core.Bool.{Bool, false}
use mathlib.Core.List.{List, [], ◌∷◌, ◌++◌}
use mathlib.Core.Path.{◌≡◌, sym, ap, ◌∙◌, subst}
use Prim.Native.Nat.{ℕ, ◌+◌, ◌<◌, ◌≤◌}
use native.Mathlib.Decide.{dec_le}
use native.Mathlib.Omega.{arith}
use borrow.Author.Tests.{ltb-true, lt-ltb}
use lib.ListN.{length, length-map}
use Rattle.meaning.specs.Table.{table_of}
use Rattle.meaning.specs.Refusals.{applies_at}
use Rattle.meaning.specs.Streams as stream
use Rattle.meaning.proofs.Refusals.{none_taken}
use Rattle.meaning.proofs.Streams.{reads_join}
use Rattle.places.specs.Memory.{Held}
use Rattle.answers.specs.declared.Event.TheVariants.{Unknown}
use Rattle.answers.specs.declared.Refusal.TheVariants as why
use Rattle.answers.specs.Bytes.{meaning_of}
use Rattle.answers.specs.Answers.{refusal_rank}
use Rattle.judge.specs.Judging.{fine, judged_rank}
use Rattle.engine.specs.Calls.{After, rows_lines}
use Rattle.engine.proofs.Numbers.{event_exactly}
use Rattle.following.specs.Following.{memory_after, positions_of}
use Rattle.demands.specs.Watching.{Call, Stream, Watching, longer, Started, lines_of, watching}
use Rattle.demands.specs.Deciding.{AliveAre}
use Rattle.demands.specs.Demands.{WantOfRows}
use Rattle.demands.proofs.Lines.{front_applies, past_applies}
use Rattle.demands.proofs.Taking.{after_of, first_lines}
use Rattle.demands.proofs.Reading.{Kind, kind, longer_event}
use Rattle.demands.proofs.Follows.{Follows, Early, going_on, passed_as, can_read, after_event, after_end, follows_watching}
use Rattle.demands.proofs.OneEvent.{going, over}
use Rattle.demands.proofs.Alive.{alive_going, alive_over, alive_same}

module _ (f : List ℕ) (rows depth : ℕ) (s : Watching) (follow : Follows f rows depth s) (c : Call) where
  early_free : ((i : ℕ) → i + 1 < refusal_rank why.Rows → applies_at (lines_of f s c) i ≡ false) → Early f rows depth s follow c
  early_free h = none_taken judged_rank fine (first_lines f s c) (λ i. go i (dec_le 15 i))
    where
      go : (i : ℕ) → Dec (15 ≤ i) → applies_at (first_lines f s c) i ≡ false
      go i (yes l) = past_applies (first_lines f s c) i l
      go i (no l) = sym (front_applies (first_lines f s c) (rows_lines s.now (after_of f s c)) i (omega (arith, l))) ∙ h i (omega (arith, l))

  -- The rows that the event would leave are the positions alive after it.
  left_alive :
      Early f rows depth s follow c → (alive : List ℕ) → AliveAre (table_of f) (longer s.stream (meaning_of c.byte)) alive →
      (after_of f s c).next.alive ≡ length alive
  left_alive free alive a = go (kind (meaning_of c.byte))
    where
      go : Kind (meaning_of c.byte) → (after_of f s c).next.alive ≡ length alive
      go (Kind.event e means) =
          let w : List stream.Event = s.stream.events ++ (e ∷ []) in
          let held : List Held = (memory_after (table_of f) w).alive in
          let on : longer s.stream (meaning_of c.byte) ≡ going w =
          longer_event s.stream means ∙ ap (λ (y : Bool). record { events = w; ended = y }) (going_on f rows depth s follow c free) in
          let reads = reads_join follow.reads (can_read f rows depth s follow c free e means).reads_on in
          ap (λ (y : After). y.next.alive) (after_event f rows depth s follow c free e means)
          ∙ sym (length-map held (λ (h : Held). h.position))
          ∙ ap length (alive_same (table_of f) (going w) (positions_of held) alive (alive_going (table_of f) follow.formed reads) (subst (λ (y : Stream). AliveAre (table_of f) y alive) on a))
      go (Kind.end is) =
          let over-now : longer s.stream (meaning_of c.byte) ≡ over s.stream.events = ap (longer s.stream) is in
          ap (λ (y : After). y.next.alive) (after_end f rows depth s follow c free is)
          ∙ ap length (alive_same (table_of f) (over s.stream.events) [] alive (alive_over (table_of f) s.stream.events) (subst (λ (y : Stream). AliveAre (table_of f) y alive) over-now a))
      go (Kind.nothing is) = absurd (passed_as f rows depth s follow c free Unknown is)

  rows_wanted : WantOfRows f s c
  rows_wanted h alive a =
      let count = left_alive (early_free h) alive a in
      let exactly = event_exactly f s.now s.work c.lent c.byte 15 (omega arith) in (
        λ e. subst (λ n. s.now.rows < n) count (ltb-true _ _ (exactly.0 e).applies),
        λ l. exactly.1 (record { applies = lt-ltb _ _ (subst (λ n. s.now.rows < n) (sym count) l); none_before = λ i l. h i (omega (arith, l)) }),
      )

pub want_of_rows : (f : List ℕ) (rows depth : ℕ) (work : List ℕ) → Started f rows depth work → (cs : List Call) (c : Call) → WantOfRows f (watching f rows depth work cs) c
want_of_rows f rows depth work started cs c = rows_wanted f rows depth (watching f rows depth work cs) (follows_watching f rows depth work started cs) c
