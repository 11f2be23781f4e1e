-- The writer's steps take exactly the whole streams of depth at most 40, and go on exactly where such a stream does.
-- Assumes of the names that the list is good.
use Rattle.std.proofs.lemmas.Bool.{false_from_ne_true}
use Rattle.std.proofs.Common.{Option, Some, None}
use mathlib.Core.Path.{◌≡◌, refl, sym, ap, subst, ◌∙◌}
use mathlib.Core.Bool.{true, false}
use mathlib.Core.List.{List, [], ◌∷◌, ◌++◌, append_assoc, append-nil}
use Prim.Native.Nat.{ℕ, ◌+◌, ◌≤◌}
use native.Mathlib.Omega.{arith}
use lib.ListN.{length}
use Rattle.meaning.proofs.Rows.{AllBelow}
use Rattle.meaning.proofs.Tests.{both_true}
use Rattle.grammar.specs.declared.Fault.{Fault}
use Rattle.grammar.specs.Tags.{Tag, tags_text, Nested}
use Rattle.grammar.specs.Streams.{Opens, Stream, GoesOn, Stuck, labelled}
use Rattle.grammar.specs.Feeding.{goes_on, Fed}
use Rattle.grammar.specs.Writing.{Written, unwritten, write_step, write_fed, whole_stream}
use Rattle.grammar.proofs.Feeding.{went, feed_break, where_broken}
use Rattle.grammar.proofs.Names.{GoodList}
use Rattle.grammar.proofs.Nesting.{opens_tagged}
use Rattle.grammar.proofs.Pieces.{true_false, feed_taken, feed_front, feed_stops_at}
use Rattle.grammar.proofs.Writer.{write_whole}
use Rattle.grammar.proofs.Wrote.{finished, opens_join, Wrote, taken_wrote}

-- Never are more than 40 elements open.
pub opens_at_most : {k : ℕ} {o o' w : List ℕ} → Opens k o w o' → length o ≤ 40 → length o' ≤ 40
opens_at_most Opens.nothing h = h
opens_at_most (Opens.opens l d n) h = opens_at_most n d
opens_at_most (Opens.points l n) h = opens_at_most n h
opens_at_most (Opens.closes n) h = opens_at_most n (omega arith)
opens_at_most (Opens.closes_its n) h = opens_at_most n (omega arith)

-- As many bytes 64 as elements are open close them.
abbrev close_all : List ℕ → List ℕ
close_all [] = []
close_all (a ∷ o) = 64 ∷ close_all o

closes_all : (k : ℕ) (o : List ℕ) → Opens k o (close_all o) []
closes_all k [] = Opens.nothing
closes_all k (a ∷ o) = Opens.closes (closes_all k o)

-- From events that close only what is open, a whole stream goes on.
pub opens_go_on : {k : ℕ} {o w : List ℕ} → Opens k [] w o → GoesOn k w
opens_go_on {k} {o} {w} n =
    record {
      rest = close_all o ++ (65 ∷ []);
      whole = record {
        events = w ++ close_all o;
        opens = opens_join n (closes_all k o);
        ends = sym (append_assoc w (close_all o) (65 ∷ []));
      };
    }

-- A whole stream goes on from itself.
pub stream_goes_on : {k : ℕ} {w : List ℕ} → Stream k w → GoesOn k w
stream_goes_on {w = w} s = record { rest = []; whole = rw append-nil s }

-- The tags of a whole stream, which give it with its closes labelled.
pub record Tags (ns : List (List ℕ)) (w : List ℕ) : Type 0 where
  pub tags : List Tag
  pub events : List ℕ
  pub nested : Nested ns [] tags (labelled [] events) []
  pub ends : w ≡ events ++ (65 ∷ [])

module _ (ns : List (List ℕ)) (good : GoodList ns) (w : List ℕ) where
  pub stream_tags : Stream (length ns) w → Tags ns w
  stream_tags s =
      let t = opens_tagged ns good s.opens AllBelow.none in
      record { tags = t.tags; events = s.events; nested = t.nested; ends = s.ends }

  -- A whole stream is written as its tags.
  pub tags_written : (t : Tags ns w) → write_fed ns w ≡ went (tags_text t.tags) (length t.events + 1) finished
  tags_written t = ap (write_fed ns) t.ends ∙ write_whole ns good t.events t.nested

  pub stream_whole : Stream (length ns) w → whole_stream (write_fed ns w) ≡ true
  stream_whole s = rw (tags_written (stream_tags s))

  pub whole_stream_lem : whole_stream (write_fed ns w) ≡ true → Stream (length ns) w
  whole_stream_lem e =
      let p = both_true (goes_on (write_fed ns w).stops) (write_fed ns w).state.ended e in
      go (taken_wrote ns w [] p.0) p.1
    where
      go : Wrote (length ns) [] w (write_fed ns w) → (write_fed ns w).state.ended ≡ true → Stream (length ns) w
      go (Wrote.events n q) f = absurd (true_false f (rw q))
      go (Wrote.whole {es' = es} n z q) f = record { events = es; opens = n; ends = z }

  pub went_goes_on : goes_on (write_fed ns w).stops ≡ true → GoesOn (length ns) w
  went_goes_on e = go (taken_wrote ns w [] e)
    where
      go : Wrote (length ns) [] w (write_fed ns w) → GoesOn (length ns) w
      go (Wrote.events n q) = opens_go_on n
      go (Wrote.whole {es' = es} n z q) = stream_goes_on (record { events = es; opens = n; ends = z })

pub goes_on_went : (ns : List (List ℕ)) (good : GoodList ns) (w : List ℕ) → GoesOn (length ns) w → goes_on (write_fed ns w).stops ≡ true
goes_on_went ns good w g =
    feed_front (write_step ns) unwritten w g.rest
    (both_true (goes_on f.stops) f.state.ended (stream_whole ns good (w ++ g.rest) g.whole)).0
  where
    f : Fed Written
    f = write_fed ns (w ++ g.rest)

-- The place at which the writer is stuck: where its stream is not whole, what it has taken; there no whole stream goes on.
module _ (ns : List (List ℕ)) (good : GoodList ns) where
  pub refused_stuck : (w : List ℕ) → whole_stream (write_fed ns w) ≡ false → Stuck (length ns) w (write_fed ns w).taken
  refused_stuck w e = go (write_fed ns w).stops refl
    where
      go : (x : Option Fault) → (write_fed ns w).stops ≡ x → Stuck (length ns) w (write_fed ns w).taken
      go None h =
          let g : goes_on (write_fed ns w).stops ≡ true = rw h in
          rw (feed_taken (write_step ns) unwritten w g)
          (Stuck.ending (went_goes_on ns good w g) (λ s. true_false (stream_whole ns good w s) e))
      go (Some k) h =
          let i = where_broken (write_step ns) unwritten w k h in
          let f = write_fed ns w in
          let ends = feed_break (write_step ns) unwritten f.state f.gives (length i.before) k i.before i.byte [] i.on i.at in
          rw i.place
          (subst (λ (l : List ℕ). Stuck (length ns) l (length i.before)) (sym i.parts)
          (Stuck.byte i.byte i.rest (went_goes_on ns good i.before (ap (λ (y : Fed Written). goes_on y.stops) i.on))
          (λ g. true_false (goes_on_went ns good (i.before ++ (i.byte ∷ [])) g) (ap (λ (y : Fed Written). goes_on y.stops) ends))))

  pub stuck_refused : {w : List ℕ} {i : ℕ} → Stuck (length ns) w i
      → (whole_stream (write_fed ns w) ≡ false) × ((write_fed ns w).taken ≡ i)
  stuck_refused (Stuck.byte {w = w} b v g n) =
      let fails = false_from_ne_true (goes_on (write_fed ns (w ++ (b ∷ []))).stops) (λ t. n (went_goes_on ns good (w ++ (b ∷ [])) t)) in
      let p = feed_stops_at (write_step ns) unwritten w b v (goes_on_went ns good w g) fails in
      (rw p.0, p.1)
  stuck_refused (Stuck.ending {w = w} g n) =
      (false_from_ne_true (whole_stream (write_fed ns w)) (λ t. n (whole_stream_lem ns good w t)), feed_taken (write_step ns) unwritten w (goes_on_went ns good w g))
