-- Memory follows the stream: from what it stands for after v, an event leads to what it stands for after v and the event.
-- Assumes a well-formed table and a stream that was read.
use mathlib.Core.Path.{◌≡◌, refl, sym, ap, subst, ◌∙◌}
use mathlib.Core.Bool.{Bool, true, false, cond, true≢false}
use mathlib.Core.List.{List, [], ◌∷◌, ◌++◌, map}
use Prim.Native.Nat.{ℕ, ◌≤◌}
use native.Mathlib.Omega.{arith}
use Rattle.meaning.specs.Table.{Table, WellFormed}
use Rattle.meaning.specs.Masks.{accs_of}
use Rattle.meaning.specs.Streams.{Event, positions, Reads, Prefix}
use Rattle.meaning.specs.Rows.{Row, row_after}
use Rattle.meaning.proofs.Streams.{reads_join}
use Rattle.places.specs.Memory.{Held, Memory}
use Rattle.places.proofs.Rows.{each_append}
use Rattle.rows.specs.Steps.{step_row, on_row, is_decided}
use Rattle.reports.specs.Reports.{left_over, left_of}
use Rattle.stepping.specs.Stepping.{born, step_memory, left_memory}
use Rattle.following.specs.Lists.{In}
use Rattle.following.specs.Following.{numbers, held_after, memory_after}
use Rattle.following.proofs.Lists.{out_map, out_numbers}
use Rattle.following.proofs.Stays.{positions_append, alive_before}
use Rattle.following.proofs.Rows.{old_row, all_rows}
use Rattle.following.proofs.Decided.{undecided_is}

-- Where a step leaves decided rows decided, rows that have gone before it are not missed after it.
left_again :
    (next : Held → Held) (hs : List Held) → ((h : Held) → In h hs → is_decided (next h).row ≡ false → is_decided h.row ≡ false) →
    left_of (map next (left_of hs)) ≡ left_of (map next hs)
left_again next [] stay = refl
left_again next (h ∷ hs) stay =
    go (is_decided h.row) (is_decided (next h).row) refl refl (left_again next hs (λ x m. stay x (In.later m)))
  where
    go :
        (b c : Bool) → is_decided h.row ≡ b → is_decided (next h).row ≡ c → left_of (map next (left_of hs)) ≡ left_of (map next hs) →
        left_of (map next (cond b [] (h ∷ []) ++ left_of hs)) ≡ cond c [] (next h ∷ []) ++ left_of (map next hs)
    go true true p q rest = rest
    go true false p q rest = absurd (true≢false (sym p ∙ stay h In.first q))
    go false c p q rest = rw q (ap (λ xs. cond c [] (next h ∷ []) ++ xs) rest)

memory_path : {r s : Row} {xs ys : List Held} → r ≡ s → xs ≡ ys → ◌≡◌ {A = Memory} (record { run = r; alive = xs }) (record { run = s; alive = ys })
memory_path p q i = record { run = p i; alive = q i }

module _ (t : Table) (wf : WellFormed t) {v : List Event} {d g : ℕ} (e : Event) (rv : Prefix t v d) (re : Reads t.labels d (e ∷ []) g) where
  -- A row that the event leaves undecided was not decided before it.
  undecided_before :
      (h : Held) → In h (map (held_after t v) (numbers (positions v))) →
      is_decided (step_row t (accs_of t) e h.row) ≡ false → is_decided h.row ≡ false
  undecided_before h m =
      let (i, n, q) = out_map (held_after t v) (numbers (positions v)) m in
      let before : i ≤ positions v = (out_numbers (positions v) i n).1 in
      let after : i ≤ positions (v ++ (e ∷ [])) = omega (arith, positions_append v (e ∷ [])) in
      subst (λ (x : Held). is_decided (step_row t (accs_of t) e x.row) ≡ false → is_decided x.row ≡ false) q
      (λ u. (undecided_is t wf i rv before).1 (alive_before t i v (e ∷ []) ((undecided_is t wf i (reads_join rv re) after).0 (ap is_decided (old_row t v e i before) ∙ u))))

  left_follows : left_of (step_memory t (accs_of t) e (positions v) (memory_after t v)).alive ≡ (memory_after t (v ++ (e ∷ []))).alive
  left_follows =
      let next : Held → Held = on_row (step_row t (accs_of t) e) in
      let old : List Held = map (held_after t v) (numbers (positions v)) in
      let new : List Held = born t e (positions v) (step_row t (accs_of t) e (row_after t 0 v)) in
      each_append left_over (map next (left_of old)) new
      ∙ ap (λ xs. xs ++ left_of new) (left_again next old undecided_before)
      ∙ sym (each_append left_over (map next old) new)
      ∙ ap left_of (sym (all_rows t v e))

  -- One event more: from what memory stands for after v to what it stands for after v and the event.
  pub follows : left_memory (step_memory t (accs_of t) e (positions v) (memory_after t v)) ≡ memory_after t (v ++ (e ∷ []))
  follows = memory_path (sym (old_row t v e 0 (omega arith))) left_follows
