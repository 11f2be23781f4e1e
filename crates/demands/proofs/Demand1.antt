-- Demand 1: nothing is assumed of a caller. Assumes nothing.
use Rattle.std.specs.Prelude.{Ok, Err}
use mathlib.Core.Bool.{Bool, true, false, cond, ◌&&◌}
use mathlib.Core.List.{List, [], ◌∷◌}
use mathlib.Core.Path.{◌≡◌, refl}
use Prim.Native.Nat.{ℕ, ◌<◌}
use native.Mathlib.Omega.{arith}
use lib.Dec.{T, ltb, ltb→lt}
use lib.ListN.{length}
use Rattle.meaning.specs.Refusals.{Line, first_of, numbers}
use Rattle.meaning.proofs.Tests.{and_left, and_right}
use Rattle.answers.specs.declared.Record.{Record}
use Rattle.answers.specs.Record.{no_record}
use Rattle.answers.specs.Bytes.{meaning_of}
use Rattle.answers.specs.Answers.{outcome_number, outcome_rank}
use Rattle.answers.proofs.Ranks.{outcome_at_rank}
use Rattle.judge.specs.Judging.{Judged, fine, judged_rank, start_lines}
use Rattle.engine.specs.Calls.{After, lines, answer_of, event_judged, event_after, event_answer, start_judged, start_after, start_answer}
use Rattle.engine.proofs.Numbers.{answer_rank, event_exactly, event_taken, refused_keeps, start_exactly, start_taken, start_refused_keeps}
use Rattle.demands.specs.Watching.{count_of}
use Rattle.demands.specs.Demands.{Demand1, StartDemand1}
use Rattle.demands.proofs.FirstWrong.{place_is}
use Rattle.demands.proofs.Named.{event_named, start_named}

-- Every number of a list is below k.
abbrev below : ℕ → List ℕ → Bool
below k [] = true
below k (x ∷ xs) = ltb x k && below k xs

-- What is given has a rank below k where all lines' have.
given_below : (k : ℕ) (ls : List (Line Judged)) → T (below k (numbers judged_rank ls fine)) → judged_rank (first_of ls fine) < k
given_below k [] h = ltb→lt 0 k (and_left (ltb 0 k) true h)
given_below k (l ∷ ls) h =
    let rest : Bool = below k (numbers judged_rank ls fine) in
    go l.applies (ltb→lt _ k (and_left (ltb (judged_rank l.gives) k) rest h)) (given_below k ls (and_right (ltb (judged_rank l.gives) k) rest h))
  where
    go : (b : Bool) → judged_rank l.gives < k → judged_rank (first_of ls fine) < k → judged_rank (cond b l.gives (first_of ls fine)) < k
    go true first later = first
    go false first later = later

answer_below : (k : ℕ) (j : Judged) (r : Record) (after : After) → judged_rank j < k → outcome_rank (answer_of j r after).outcome < k
answer_below k j r after h = rw (answer_rank j r after) h

none_counted : (j : Judged) (r : Record) (after : After) → 0 < outcome_number (answer_of j r after).outcome → count_of (answer_of j r after).outcome ≡ 0
none_counted (Ok done) r after h = absurd (omega (arith, h))
none_counted (Err why) r after h = refl

pub demand_1 : (f : List ℕ) (r : Record) (work reports : List ℕ) (byte : ℕ) → Demand1 f r work reports byte
demand_1 f r work reports byte =
    let j = event_judged f r work reports byte in
    let after = event_after f r work byte in
    record {
      refused_exactly = event_exactly f r work reports byte;
      numbered = outcome_at_rank (event_answer f r work reports byte).outcome;
      taken_exactly = event_taken f r work reports byte;
      answered = answer_below 17 j r after (given_below 17 (lines f r work (length reports) (meaning_of byte)) tt);
      place = place_is f r work reports byte;
      named = event_named f r work reports byte;
      kept = λ h.
          let k = refused_keeps f r work reports byte h in
          (k.0, none_counted j r after h, k.1, k.2);
    }

pub start_demand_1 : (f : List ℕ) (rows depth : ℕ) (work : List ℕ) → StartDemand1 f rows depth work
start_demand_1 f rows depth work =
    record {
      refused_exactly = start_exactly f rows depth work;
      numbered = outcome_at_rank (start_answer f rows depth work).outcome;
      taken_exactly = start_taken f rows depth work;
      answered = answer_below 7 (start_judged f rows depth work) no_record (start_after f rows depth) (given_below 7 (start_lines f rows depth (length work)) tt);
      named = start_named f rows depth work;
      kept = start_refused_keeps f rows depth work;
    }
