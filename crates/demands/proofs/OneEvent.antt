-- One taken event: what it reports, what it leaves decided, and that nothing decided is undone. Assumes a well-formed table and
-- a stream that was read.
use mathlib.Core.Bool.{Bool, true, false, true≢false}
use mathlib.Core.List.{List, [], ◌∷◌, ◌++◌, append-nil}
use mathlib.Core.Logic.Iff
use mathlib.Core.Logic.{◌↔◌, ◌⊎◌, inl, inr}
use mathlib.Core.Path.{◌≡◌, refl, sym, ◌∙◌, subst}
use Prim.Native.Nat.{ℕ, ◌≤◌}
use native.Mathlib.Omega.{arith}
use Rattle.meaning.specs.Table.{Table, WellFormed}
use Rattle.meaning.specs.Masks.{accs_of}
use Rattle.meaning.specs.Streams.{Event, positions, marked, Reads, Prefix, Whole, Selects}
use Rattle.meaning.proofs.Tests.{true_T, T_true}
use Rattle.meaning.proofs.Streams.{reads_join}
use Rattle.meaning.proofs.Earliest as earliest
use Rattle.reports.specs.Reports.{reports_of, end_reports}
use Rattle.stepping.specs.Stepping.{step_memory}
use Rattle.following.specs.Following.{memory_after}
use Rattle.following.proofs.Stays as stays
use Rattle.following.proofs.Reported.{Waits, selected_when, failed_when, reports_rise}
use Rattle.following.proofs.Ends.{end_selected, end_failed, ends_rise}
use Rattle.demands.specs.Watching.{Stream}
use Rattle.demands.specs.Demands.{Timely}
use Rattle.demands.specs.Deciding.{Read, CertainIn, RuledOutIn, AliveIn, Pending}

-- What a position that was read is.
abbrev pub Decides : Table → Stream → ℕ → Type 0
Decides t s i = CertainIn t s i ⊎ (RuledOutIn t s i ⊎ AliveIn t s i)

-- From one stream to the next by an event that reports these words.
pub record Goes (t : Table) (before after : Stream) (words : List ℕ) : Type 0 where
  pub read_stays : (i : ℕ) → Read before i → Read after i
  pub certain_stays : (i : ℕ) → CertainIn t before i → CertainIn t after i
  pub ruled_out_stays : (i : ℕ) → RuledOutIn t before i → RuledOutIn t after i
  pub decides : (i : ℕ) → Read before i → Decides t before i
  pub never_both : (i : ℕ) → CertainIn t after i → RuledOutIn t after i → ⊥
  pub timely : Timely t before after words

-- The stream goes on, and it has ended.
abbrev pub going : List Event → Stream
going w = record { events = w; ended = false }

abbrev pub over : List Event → Stream
over w = record { events = w; ended = true }

module _ (t : Table) (wf : WellFormed t) {w : List Event} {d g : ℕ} (e : Event) (r : Prefix t w d) (re : Reads t.labels d (e ∷ []) g) where
  abbrev next : List Event
  next = w ++ (e ∷ [])

  pending_is : (i : ℕ) → Waits t w e i ↔ Pending t (going w) (going next) i
  pending_is i = (
    λ h. record { read = (h.from_one, h.read); undecided = λ x. h.undecided x.1 },
    λ h. record { from_one = h.read.0; read = h.read.1; undecided = λ l. h.undecided (h.read.0, l) },
  )

  pub goes_event : Goes t (going w) (going next) (reports_of (step_memory t (accs_of t) e (positions w) (memory_after t w)).alive)
  goes_event =
      record {
        read_stays = λ i h. (h.0, omega (arith, h.1, stays.positions_append w (e ∷ [])));
        certain_stays = λ i. stays.certain_stays t i w (e ∷ []);
        ruled_out_stays = λ i. stays.ruled_out_stays t i w (e ∷ []);
        decides = λ i h. earliest.decided t wf i r h.1;
        never_both = λ i. earliest.never_both t i (reads_join r re);
        timely = record {
          selected = λ i. Iff.trans (selected_when t wf e r re i) (Iff.and (pending_is i) (λ h. h, λ h. h));
          failed = λ i. Iff.trans (failed_when t wf e r re i) (Iff.and (pending_is i) (λ h. h, λ h. h));
          ascending = reports_rise t wf e r re;
        };
      }

-- After the end the stream itself decides.
module _ (t : Table) (w : List Event) where
  pub over_selects : (i : ℕ) → Selects t i w ↔ CertainIn t (over w) i
  over_selects i = (
    λ h c e. subst (λ x. Selects t i (w ++ x)) (sym e) (subst (Selects t i) (sym (append-nil w)) h),
    λ h. subst (Selects t i) (append-nil w) (h [] refl),
  )

  pub over_fails : (i : ℕ) → (¬ Selects t i w) ↔ RuledOutIn t (over w) i
  over_fails i = (
    λ h c e x. h (subst (Selects t i) (append-nil w) (subst (λ y. Selects t i (w ++ y)) e x)),
    λ h x. h [] refl (subst (Selects t i) (sym (append-nil w)) x),
  )

  pub over_decides : (i : ℕ) → CertainIn t (over w) i ⊎ RuledOutIn t (over w) i
  over_decides i = go (t.final (marked t i w).newest) refl
    where
      go : (b : Bool) → t.final (marked t i w).newest ≡ b → CertainIn t (over w) i ⊎ RuledOutIn t (over w) i
      go true e = inl ((over_selects i).0 (true_T e))
      go false e = inr ((over_fails i).0 (λ h. true≢false (sym (T_true (t.final (marked t i w).newest) h) ∙ e)))

module _ (t : Table) (wf : WellFormed t) {w : List Event} (r : Whole t w) where
  completed : Whole t (w ++ [])
  completed = subst (Whole t) (sym (append-nil w)) r

  pending_end : (i : ℕ) → ((1 ≤ i) × (i ≤ positions w) × AliveIn t (going w) i) ↔ Pending t (going w) (over w) i
  pending_end i = (
    λ h. record { read = (h.0, h.1); undecided = λ x. h.2 },
    λ h. (h.read.0, h.read.1, h.undecided h.read),
  )

  pub goes_end : Goes t (going w) (over w) (end_reports t (memory_after t w).alive)
  goes_end =
      record {
        read_stays = λ i h. h;
        certain_stays = λ i h. (over_selects t w i).0 (subst (Selects t i) (append-nil w) (h [] completed));
        ruled_out_stays = λ i h. (over_fails t w i).0 (λ x. h [] completed (subst (Selects t i) (sym (append-nil w)) x));
        decides = λ i h. earliest.decided t wf i r h.1;
        never_both = λ i h g. g [] refl (h [] refl);
        timely = record {
          selected = λ i. Iff.trans (end_selected t wf r i) (Iff.and (pending_end i) (over_selects t w i));
          failed = λ i. Iff.trans (end_failed t wf r i) (Iff.and (pending_end i) (over_fails t w i));
          ascending = ends_rise t w;
        };
      }
