-- Which positions an event reports: those that wait to be decided and are now certain, or ruled out; and in which order.
-- Assumes a well-formed table and a stream that was read.
use mathlib.Core.Path.{◌≡◌, refl, sym, ap, ap₂, subst, ◌∙◌}
use mathlib.Core.List.{List, [], ◌∷◌, ◌++◌, map, map-map, map-append}
use mathlib.Core.Logic.Iff
use mathlib.Core.Logic.{◌↔◌, ◌⊎◌, inl, inr, ⊎_elim}
use Prim.Native.Nat.{ℕ, ◌≤◌}
use native.Mathlib.Omega.{arith}
use Rattle.meaning.specs.Table.{Table, WellFormed}
use Rattle.meaning.specs.Masks.{accs_of}
use Rattle.meaning.specs.Streams.{Event, positions, Reads, Prefix, Certain, RuledOut, Alive}
use Rattle.meaning.specs.Rows.{is_selecting, is_rejecting, row_after}
use Rattle.meaning.proofs.Streams.{reads_join}
use Rattle.meaning.proofs.Earliest.{certain_is, ruled_out_is, never_both}
use Rattle.places.specs.Memory.{Held}
use Rattle.rows.specs.Steps.{step_row, on_row}
use Rattle.reports.specs.Reports.{selected_word, failed_word, report_of, reports_of}
use Rattle.stepping.specs.Stepping.{born, step_memory}
use Rattle.following.specs.Lists.{In, Rising, position_of}
use Rattle.following.specs.Following.{numbers, held_after, memory_after, positions_of}
use Rattle.following.proofs.Lists.{in_cases, in_numbers, out_numbers, rising_in, rising_append, positions_map, each_rise}
use Rattle.following.proofs.Stays.{positions_append}
use Rattle.following.proofs.Rows.{old_row, new_positions, numbers_after, new_rise, born_are}
use Rattle.following.proofs.Words.{says_selected, says_failed, says_one}
use Rattle.following.proofs.Exactly.{Exactly, exactly_map, exactly_append, exactly_next, exactly_as, exactly_each}
use Rattle.following.proofs.Held.{held_rise, held_alive}

-- Position i waits to be decided at the event: it is read after it, and was alive before it or not read.
pub record Waits (t : Table) (v : List Event) (e : Event) (i : ℕ) : Type 0 where
  pub from_one : 1 ≤ i
  pub read : i ≤ positions (v ++ (e ∷ []))
  pub undecided : i ≤ positions v → Alive t i v

-- A position waits exactly when it was alive, or has come with the event.
waits_are :
    (t : Table) (v : List Event) (e : Event) (i : ℕ) →
    (((1 ≤ i) × (i ≤ positions v) × Alive t i v) ⊎ In i (new_positions e (positions v))) ↔ Waits t v e i
waits_are t v e i = (⊎_elim old new, back)
  where
    old : (1 ≤ i) × (i ≤ positions v) × Alive t i v → Waits t v e i
    old (a, b, u) = record { from_one = a; read = omega (arith, positions_append v (e ∷ [])); undecided = λ l. u }

    new : In i (new_positions e (positions v)) → Waits t v e i
    new m =
        let (a, b) = rising_in (new_rise v e) m in
        record { from_one = omega arith; read = b; undecided = λ l. absurd (omega arith) }

    back : Waits t v e i → ((1 ≤ i) × (i ≤ positions v) × Alive t i v) ⊎ In i (new_positions e (positions v))
    back w =
        ⊎_elim
        (λ m. let l = (out_numbers (positions v) i m).1 in inl (w.from_one, l, w.undecided l))
        inr
        (in_cases (numbers (positions v)) (new_positions e (positions v))
        (subst (In i) (numbers_after v e) (in_numbers (positions (v ++ (e ∷ []))) i w.from_one w.read)))

module _ (t : Table) (wf : WellFormed t) {v : List Event} {d g : ℕ} (e : Event) (rv : Prefix t v d) (re : Reads t.labels d (e ∷ []) g) where
  -- The rows after the event, before any goes, are those of the positions that wait.
  stepped_are : Exactly (held_after t (v ++ (e ∷ []))) (Waits t v e) (step_memory t (accs_of t) e (positions v) (memory_after t v)).alive
  stepped_are =
      let next : Held → Held = on_row (step_row t (accs_of t) e) in
      let then : ℕ → Held = held_after t (v ++ (e ∷ [])) in
      let new = born t e (positions v) (step_row t (accs_of t) e (row_after t 0 v)) in
      let old-are = exactly_next (held_alive t wf rv) next then (λ i h. ap (λ r. record { position = i; row = r }) (old_row t v e i h.1)) in
      let new-are = subst (Exactly then (λ i. In i (new_positions e (positions v)))) (born_are t v e) (exactly_map then (new_positions e (positions v))) in
      exactly_as (exactly_append (map next (memory_after t v).alive) new old-are new-are) (waits_are t v e)

  -- Selected are those that wait and are now certain.
  pub selected_when :
      (i : ℕ) →
      In (selected_word i) (reports_of (step_memory t (accs_of t) e (positions v) (memory_after t v)).alive) ↔ (Waits t v e i × Certain t i (v ++ (e ∷ [])))
  selected_when =
      exactly_each stepped_are report_of selected_word (λ i. Certain t i (v ++ (e ∷ [])))
      (λ i j w.
      let r = row_after t j (v ++ (e ∷ [])) in
      Iff.trans (says_selected (is_selecting r) (is_rejecting r) i j) (Iff.and Iff.rfl (certain_is t wf j (reads_join rv re) w.read)))

  -- Failed are those that wait and are now ruled out.
  pub failed_when :
      (i : ℕ) →
      In (failed_word i) (reports_of (step_memory t (accs_of t) e (positions v) (memory_after t v)).alive) ↔ (Waits t v e i × RuledOut t i (v ++ (e ∷ [])))
  failed_when =
      exactly_each stepped_are report_of failed_word (λ i. RuledOut t i (v ++ (e ∷ [])))
      (λ i j w.
      let r = row_after t j (v ++ (e ∷ [])) in
      let all = reads_join rv re in
      let certain = certain_is t wf j all w.read in
      let ruled_out = ruled_out_is t wf j all w.read in
      Iff.trans (says_failed (is_selecting r) (is_rejecting r) i j (λ a b. never_both t j all (certain.0 a) (ruled_out.0 b))) (Iff.and Iff.rfl ruled_out))

  -- They ascend.
  pub reports_rise : Rising (positions (v ++ (e ∷ []))) 0 (map position_of (reports_of (step_memory t (accs_of t) e (positions v) (memory_after t v)).alive))
  reports_rise =
      let next : Held → Held = on_row (step_row t (accs_of t) e) in
      let old : List Held = (memory_after t v).alive in
      let new : List Held = born t e (positions v) (step_row t (accs_of t) e (row_after t 0 v)) in
      let position : Held → ℕ = λ h. h.position in
      let are : positions_of (map next old ++ new) ≡ positions_of old ++ new_positions e (positions v) =
      map-append position (map next old) new
      ∙ ap₂ (λ xs ys. xs ++ ys) (map-map position next old)
      (ap positions_of (sym (born_are t v e)) ∙ positions_map (held_after t (v ++ (e ∷ []))) (λ i. refl) (new_positions e (positions v))) in
      each_rise position_of report_of (λ h. says_one (is_selecting h.row) (is_rejecting h.row) h.position) (map next old ++ new)
      (subst (Rising (positions (v ++ (e ∷ []))) 0) (sym are)
      (rising_append (omega arith) (omega (arith, positions_append v (e ∷ []))) (held_rise t v) (new_rise v e)))
