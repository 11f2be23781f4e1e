-- All reports so far, one event after the other: each position that is decided has been reported once, with its verdict, and no
-- other. Assumes nothing.
use mathlib.Core.List.{List, [], ◌++◌}
use mathlib.Core.Logic.{◌↔◌, ◌⊎◌, inl, inr, ⊎_elim}
use mathlib.Core.Path.{◌≡◌}
use Prim.Native.Nat.{ℕ, ◌≤◌}
use native.Mathlib.Decide.{dec_le}
use native.Mathlib.Omega.{arith}
use Rattle.meaning.specs.Table.{Table}
use Rattle.meaning.specs.Streams.{positions}
use Rattle.reports.specs.Reports.{selected_word, failed_word}
use Rattle.following.specs.Lists.{In, times}
use Rattle.following.proofs.Lists.{in_left, in_right, in_cases, in_as, in_nil, times_append, times_none, times_once}
use Rattle.demands.specs.Watching.{Stream}
use Rattle.demands.specs.Deciding.{Read, CertainIn, RuledOutIn, AliveIn, Pending}
use Rattle.demands.proofs.Timely.{word_is}
use Rattle.demands.proofs.OneEvent.{Decides, Goes, going}

pub record SoFar (t : Table) (s : Stream) (words : List ℕ) : Type 0 where
  pub selected : (i : ℕ) → In (selected_word i) words ↔ (Read s i × CertainIn t s i)
  pub failed : (i : ℕ) → In (failed_word i) words ↔ (Read s i × RuledOutIn t s i)
  pub once : (i : ℕ) → Read s i → CertainIn t s i ⊎ RuledOutIn t s i → times i words ≡ 1
  pub none : (i : ℕ) → (Read s i → AliveIn t s i) → times i words ≡ 0

-- No word speaks of a position that neither word does.
neither_times : (i : ℕ) (words : List ℕ) → ¬ In (selected_word i) words → ¬ In (failed_word i) words → times i words ≡ 0
neither_times i words s f =
    times_none i words (λ x m e. ⊎_elim (λ q. s (in_as words q m)) (λ q. f (in_as words q m)) (word_is x i e))

pub read_or_not : (s : Stream) (i : ℕ) → Dec (Read s i)
read_or_not s i = go (dec_le 1 i) (dec_le i (positions s.events))
  where
    go : Dec (1 ≤ i) → Dec (i ≤ positions s.events) → Dec (Read s i)
    go (yes a) (yes b) = yes (a, b)
    go (yes a) (no b) = no (λ h. b h.1)
    go (no a) b = no (λ h. a h.0)

pub so_far_none : (t : Table) → SoFar t (going []) []
so_far_none t =
    record {
      selected = λ i. (λ h. absurd (in_nil h), λ h. absurd (omega (arith, h.0)));
      failed = λ i. (λ h. absurd (in_nil h), λ h. absurd (omega (arith, h.0)));
      once = λ i r d. absurd (omega (arith, r));
      none = λ i h. omega arith;
    }

module _ (t : Table) (before after : Stream) (words more : List ℕ) (far : SoFar t before words) (goes : Goes t before after more) where
  -- A position was decided before the event, or waits.
  standing : (i : ℕ) → (Read before i × (CertainIn t before i ⊎ RuledOutIn t before i)) ⊎ (Read before i → AliveIn t before i)
  standing i = go (read_or_not before i)
    where
      of : Read before i → Decides t before i → (Read before i × (CertainIn t before i ⊎ RuledOutIn t before i)) ⊎ (Read before i → AliveIn t before i)
      of r (inl h) = inl (r, inl h)
      of r (inr (inl h)) = inl (r, inr h)
      of r (inr (inr h)) = inr (λ x. h)

      go : Dec (Read before i) → (Read before i × (CertainIn t before i ⊎ RuledOutIn t before i)) ⊎ (Read before i → AliveIn t before i)
      go (yes r) = of r (goes.decides i r)
      go (no r) = inr (λ x. absurd (r x))

  -- One that was decided is not reported again.
  not_pending : (i : ℕ) → Read before i → CertainIn t before i ⊎ RuledOutIn t before i → ¬ Pending t before after i
  not_pending i r d p = ⊎_elim (p.undecided r).0 (p.undecided r).1 d

  not_again : (i : ℕ) → Read before i → CertainIn t before i ⊎ RuledOutIn t before i → times i more ≡ 0
  not_again i r d = neither_times i more (λ m. not_pending i r d ((goes.timely.selected i).0 m).0) (λ m. not_pending i r d ((goes.timely.failed i).0 m).0)

  -- One that waited and is decided now is reported once.
  now_once : (i : ℕ) → Pending t before after i → CertainIn t after i ⊎ RuledOutIn t after i → times i more ≡ 1
  now_once i p (inl h) = times_once i more goes.timely.ascending (selected_word i) ((goes.timely.selected i).1 (p, h)) (omega arith)
  now_once i p (inr h) = times_once i more goes.timely.ascending (failed_word i) ((goes.timely.failed i).1 (p, h)) (omega arith)

  -- One verdict and the other one: reported so far are the positions read that have it.
  module _ (word : ℕ → ℕ) (One Other : Stream → ℕ → Type 0) (stays : (i : ℕ) → One before i → One after i) (apart : (i : ℕ) → Other before i → One after i → ⊥)
      (earlier : (i : ℕ) → In (word i) words ↔ (Read before i × One before i)) (now : (i : ℕ) → In (word i) more ↔ (Pending t before after i × One after i))
      (stand : (i : ℕ) → (Read before i × (One before i ⊎ Other before i)) ⊎ (Read before i → AliveIn t before i)) where
    with_verdict : (i : ℕ) → In (word i) (words ++ more) ↔ (Read after i × One after i)
    with_verdict i = (there, back)
      where
        there : In (word i) (words ++ more) → Read after i × One after i
        there m =
            ⊎_elim (λ h. let (r, c) = (earlier i).0 h in (goes.read_stays i r, stays i c)) (λ h. let (p, c) = (now i).0 h in (p.read, c)) (in_cases words more m)

        back : Read after i × One after i → In (word i) (words ++ more)
        back (r, c) =
            ⊎_elim (λ h. ⊎_elim (λ b. in_left more ((earlier i).1 (h.0, b))) (λ b. absurd (apart i b c)) h.1)
            (λ h. in_right words ((now i).1 (record { read = r; undecided = h }, c))) (stand i)

  swapped : (i : ℕ) → (Read before i × (RuledOutIn t before i ⊎ CertainIn t before i)) ⊎ (Read before i → AliveIn t before i)
  swapped i = ⊎_elim (λ h. inl (h.0, ⊎_elim inr inl h.1)) inr (standing i)

  pub so_far_on : SoFar t after (words ++ more)
  so_far_on =
      record {
        selected =
            with_verdict selected_word (CertainIn t) (RuledOutIn t) goes.certain_stays (λ i b c. goes.never_both i c (goes.ruled_out_stays i b)) far.selected goes.timely.selected
            standing;
        failed =
            with_verdict failed_word (RuledOutIn t) (CertainIn t) goes.ruled_out_stays (λ i b c. goes.never_both i (goes.certain_stays i b) c) far.failed goes.timely.failed
            swapped;
        once = once;
        none = none;
      }
    where
      once : (i : ℕ) → Read after i → CertainIn t after i ⊎ RuledOutIn t after i → times i (words ++ more) ≡ 1
      once i r d =
          ⊎_elim (λ h. omega (arith, times_append i words more, far.once i h.0 h.1, not_again i h.0 h.1))
          (λ h. omega (arith, times_append i words more, far.none i h, now_once i (record { read = r; undecided = h }) d)) (standing i)

      none : (i : ℕ) → (Read after i → AliveIn t after i) → times i (words ++ more) ≡ 0
      none i h =
          let waits : Read before i → AliveIn t before i = λ r.
          let a = h (goes.read_stays i r) in
          (λ c. a.0 (goes.certain_stays i c), λ c. a.1 (goes.ruled_out_stays i c)) in
          let later : times i more ≡ 0 = neither_times i more (λ m. let (p, c) = (goes.timely.selected i).0 m in (h p.read).0 c) (λ m. let (p, c) = (goes.timely.failed i).0 m in (h p.read).1 c) in
          omega (arith, times_append i words more, far.none i waits, later)
