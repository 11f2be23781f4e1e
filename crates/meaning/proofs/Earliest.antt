-- Earliest: at every prefix and for every position read, the row that 01's rules build decides by its newest level what
-- all completions decide.
use mathlib.Core.Path.{◌≡◌, refl, ap, ◌∙◌}
use mathlib.Core.Bool.{Bool, true, false}
use mathlib.Core.List.{List, [], ◌++◌}
use mathlib.Core.Logic.{◌↔◌, ◌⊎◌, inl, inr}
use Prim.Native.Nat.{ℕ, zero, ◌≤◌}
use native.Mathlib.Omega.{arith}
use lib.Dec.{T}
use lib.ListN.{length}
use Rattle.meaning.specs.Masks.{finals_of, others_of}
use Rattle.meaning.specs.Rows.{is_selecting, is_rejecting, row_after}
use Rattle.meaning.specs.Sets.{LevelSet}
use Rattle.meaning.specs.Streams.{Event, Run, run, marked, positions, Prefix, Completes, Certain, RuledOut, Alive}
use Rattle.meaning.specs.Table.{Table, WellFormed}
use Rattle.meaning.proofs.Core.{core, ends}
use Rattle.meaning.proofs.Rows.{row_is, level_is, marked_in}
use Rattle.meaning.proofs.Smallest.{finals_are, others_are}
use Rattle.meaning.proofs.Streams.{reads_join, reads_rest, close_all, closes_all, run_append, run_depth, run_ahead}

module _ (t : Table) where
  -- With the mark behind it, a run goes on as one without a mark.
  mark_behind : (r : Run) → r.ahead ≡ zero → (c : List Event) → (run t r c).newest ≡ ends t r.newest r.aside c
  mark_behind r h c = ap (λ (m : ℕ). (run t (record { ahead = m; newest = r.newest; aside = r.aside }) c).newest) h

  -- The core theorem for a marked run: its newest state is in the newest set exactly when each completion ends in F.
  pub core_marked :
      (F : ℕ → Type 0) (i : ℕ) {w : List Event} {d : ℕ} → Prefix t w d → i ≤ positions w →
      LevelSet t F (marked t i w).aside (marked t i w).newest
      ↔ ((c : List Event) → Completes t w c → F (marked t i (w ++ c)).newest)
  core_marked F i {w} {d} r h =
      let b : Run = record { ahead = i; newest = t.start; aside = [] } in
      let m : Run = run t b w in
      let e : length m.aside ≡ d = run_depth t r b refl in
      let z : m.ahead ≡ zero = omega (arith, run_ahead t w b) in
      let same : (c : List Event) → (marked t i (w ++ c)).newest ≡ ends t m.newest m.aside c =
      λ c. ap (λ (x : Run). x.newest) (run_append t w b c) ∙ mark_behind m z c in
      let both = core t F m.aside m.newest in (
        λ l c g. rw same (both.0 l c (rw e (reads_rest r g))),
        λ g. both.1 (λ c h. rw (← same) (g c (reads_join r (rw e at h)))),
      )

-- A position is never both certain and ruled out: what is open can always be closed.
pub never_both : (t : Table) (i : ℕ) {w : List Event} {d : ℕ} → Prefix t w d → Certain t i w → RuledOut t i w → ⊥
never_both t i {w} {d} r c o =
    let h = reads_join r (closes_all t.labels d) in
    o (close_all d) h (c (close_all d) h)

module _ (t : Table) (wf : WellFormed t) (i : ℕ) {w : List Event} {d : ℕ} (r : Prefix t w d) (read : i ≤ positions w) where
  -- Certain exactly when the newest state of the position's row is in its newest selecting set.
  pub certain_is : T (is_selecting (row_after t i w)) ↔ Certain t i w
  certain_is =
      let m = marked t i w in
      let a = marked_in t wf i r in
      let F : ℕ → Type 0 = λ q. T (t.final q) in
      let l = level_is t wf (finals_of t) F (finals_are t) m.aside a.aside_in m.newest a.newest_in in
      let k = core_marked t F i r read in
      rw (row_is t i w) (λ x. k.0 (l.0 x), λ x. l.1 (k.1 x))

  -- Ruled out exactly when the newest state of the position's row is in its newest rejecting set.
  pub ruled_out_is : T (is_rejecting (row_after t i w)) ↔ RuledOut t i w
  ruled_out_is =
      let m = marked t i w in
      let a = marked_in t wf i r in
      let F : ℕ → Type 0 = λ q. ¬ T (t.final q) in
      let l = level_is t wf (others_of t) F (others_are t) m.aside a.aside_in m.newest a.newest_in in
      let k = core_marked t F i r read in
      rw (row_is t i w) (λ x. k.0 (l.0 x), λ x. l.1 (k.1 x))

  -- Certain, ruled out or alive holds of every position read, and which one is computed from its row.
  pub decided : Certain t i w ⊎ (RuledOut t i w ⊎ Alive t i w)
  decided = go (is_selecting (row_after t i w)) (is_rejecting (row_after t i w)) certain_is ruled_out_is
    where
      go : (s f : Bool) → T s ↔ Certain t i w → T f ↔ RuledOut t i w → Certain t i w ⊎ (RuledOut t i w ⊎ Alive t i w)
      go true f c o = inl (c.0 tt)
      go false true c o = inr (inl (o.0 tt))
      go false false c o = inr (inr (c.1, o.1))
