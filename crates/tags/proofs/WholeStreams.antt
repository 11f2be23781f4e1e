-- What the writer answers for a whole stream, and what stands in the output, in the terms of its own steps. Assumes nothing.
use Rattle.std.proofs.Common.{Some, None, is_none, Result, Ok, Err}
use mathlib.Core.Path.{◌≡◌, refl, sym, ap, ap₂, ◌∙◌}
use mathlib.Core.Bool.{Bool, true, false, not, cond, ◌&&◌}
use mathlib.Core.List.{List, ◌++◌}
use Prim.Native.Nat.{ℕ, ◌-◌}
use borrow.Author.Tests.{ltb-false, not-true, not-false}
use lib.Dec.{ltb}
use lib.ListN.{length, drop}
use Rattle.grammar.specs.declared.WriteError.{WriteError}
use Rattle.grammar.specs.declared.WriteError.TheVariants as write_error
use Rattle.grammar.specs.Names.{lines_of, good_names}
use Rattle.grammar.specs.Feeding.{goes_on, Fed, Roomed}
use Rattle.grammar.specs.Writing.{unwritten, write_fed, whole_stream, write_answer, write_out}
use Rattle.grammar.proofs.Feeding.{room_enough}
use Rattle.tags.specs.declared.writer.Scribe.{Scribe}
use Rattle.tags.specs.declared.writer.Follower.{Follower}
use Rattle.tags.specs.declared.feeding.Fed as fed
use Rattle.tags.specs.Feeding.{fed_of}
use Rattle.tags.specs.Writers.{begin, scribe_step, follow_in, follow_of, write_in, written_out}
use Rattle.tags.proofs.Agreeing.{FeedsAgree}
use Rattle.tags.proofs.Scribes.{Keeps, keeps_begin, scribe_writes}

-- What `write` ensures of its answer and of the output.
abbrev pub Answers : List ℕ → List ℕ → List ℕ → List ℕ → Result ℕ WriteError → Type 0
Answers names es out₀ out r = (r ≡ write_answer names es (length out₀)) × (out ≡ write_out names es out₀)

module _ (names es out : List ℕ) where
  bad_names : good_names names ≡ false → Answers names es out out (Err write_error.Names)
  bad_names e = (rw e, rw e)

  module _ (good : good_names names ≡ true) where
    agree : FeedsAgree (Keeps (length (lines_of names))) (follow_in names begin es) (write_fed (lines_of names) es)
    agree = scribe_writes names good begin unwritten es (keeps_begin (length (lines_of names)))

    whole_is : goes_on (follow_in names begin es).stops && (follow_in names begin es).state.ended ≡ whole_stream (write_fed (lines_of names) es)
    whole_is = ap₂ (λ (k t : _). goes_on k && t) agree.stops agree.state.ended

    not_whole : goes_on (follow_in names begin es).stops && (follow_in names begin es).state.ended ≡ false
        → Answers names es out out (Err (write_error.Stream (follow_in names begin es).taken))
    not_whole e =
        let w : whole_stream (write_fed (lines_of names) es) ≡ false = sym whole_is ∙ e in
        (rw (good, w, agree.taken), rw (good, w))

    module _ (whole : goes_on (follow_in names begin es).stops && (follow_in names begin es).state.ended ≡ true) where
      whole_there : whole_stream (write_fed (lines_of names) es) ≡ true
      whole_there = sym whole_is ∙ whole

      no_room : ltb (length out) (length (follow_in names begin es).gives) ≡ true → Answers names es out out (Err write_error.Short)
      no_room e =
          let f : ltb (length out) (length (write_fed (lines_of names) es).gives) ≡ true = rw agree.gives at e in
          (rw (good, whole_there, f), rw (good, whole_there, f))

      has_room_lem : ltb (length out) (length (follow_in names begin es).gives) ≡ false → (r : fed.Fed Scribe)
          → r ≡ fed_of (write_in names begin (length out) es) → (out' : List ℕ) → out' ≡ written_out names begin es out
          → Answers names es out out' (Ok r.given)
      has_room_lem e r p out' q = (rw (good, whole_there, full, count), rw (good, whole_there, full) text)
        where
          full : ltb (length out) (length (write_fed (lines_of names) es).gives) ≡ false
          full = rw agree.gives at e

          gives : (write_in names begin (length out) es).gives ≡ (write_fed (lines_of names) es).gives
          gives =
              ap (λ (f : Fed (Roomed Scribe)). f.gives)
              (room_enough (scribe_step names) begin (length out) es (ltb-false (length out) (length (follow_in names begin es).gives) e))
              ∙ agree.gives

          count : r.given ≡ length (write_fed (lines_of names) es).gives
          count = ap (λ (x : fed.Fed Scribe). x.given) p ∙ ap length gives

          text : out' ≡ (write_fed (lines_of names) es).gives ++ drop (length (write_fed (lines_of names) es).gives) out
          text = q ∙ ap (λ (u : List ℕ). u ++ drop (length u) out) gives

-- The same, in the terms of what the writer's functions answered: g whether the names are good, all where the events lead
-- from s, and t whether that is a whole stream.
module _ (names es out : List ℕ) (g : Bool) (good : g ≡ good_names names) where
  pub answers_names : not g ≡ true → Answers names es out out (Err write_error.Names)
  answers_names h = bad_names names es out (sym good ∙ not-true g h)

  module _ (h : not g ≡ false) (s : Scribe) (b : s ≡ begin) (all : fed.Fed Follower) (a : all ≡ follow_of (length out) (follow_in names s es))
      (t : Bool) (w : t ≡ goes_on all.stop && all.next.scribe.ended) where
    good_there : good_names names ≡ true
    good_there = sym good ∙ not-false g h

    all_is : all ≡ follow_of (length out) (follow_in names begin es)
    all_is = a ∙ ap (λ (x : Scribe). follow_of (length out) (follow_in names x es)) b

    tested : (u : Bool) → t ≡ u → goes_on (follow_in names begin es).stops && (follow_in names begin es).state.ended ≡ u
    tested u e = ap (λ (x : fed.Fed Follower). goes_on x.stop && x.next.scribe.ended) (sym all_is) ∙ sym w ∙ e

    -- There is room left exactly where the text fits.
    fits_is : (u : Bool) → is_none all.next.left ≡ u → ltb (length out) (length (follow_in names begin es).gives) ≡ u
    fits_is u e = none_left (ltb (length out) (length (follow_in names begin es).gives)) ∙ ap (λ (x : fed.Fed Follower). is_none x.next.left) (sym all_is) ∙ e
      where
        none_left : (t : Bool) → t ≡ is_none (cond t None (Some (length out - length (follow_in names begin es).gives)))
        none_left true = refl
        none_left false = refl

    pub answers_refused : not t ≡ true → Answers names es out out (Err (write_error.Stream all.taken))
    answers_refused e = rw all_is (not_whole names es out good_there (tested false (not-true t e)))

    module _ (e : not t ≡ false) where
      pub answers_short : is_none all.next.left ≡ true → Answers names es out out (Err write_error.Short)
      answers_short f = no_room names es out good_there (tested true (not-false t e)) (fits_is true f)

      pub answers_written : is_none all.next.left ≡ false → (r : fed.Fed Scribe) (out' : List ℕ)
          → r ≡ fed_of (write_in names s (length out) es) → out' ≡ written_out names s es out
          → Answers names es out out' (Ok r.given)
      answers_written f r out' p q =
          has_room_lem names es out good_there (tested true (not-false t e)) (fits_is false f) r (rw b at p) out' (rw b at q)
