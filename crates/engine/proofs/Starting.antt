-- What a start answers and leaves, once it is judged; and the sets that a step needs. Assumes nothing.
use Rattle.std.specs.Prelude.{Err}
use Rattle.judge.specs.Judging.{Judged, fine}
use mathlib.Core.List.{List, [], ◌∷◌}
use mathlib.Core.Path.{◌≡◌, refl, sym, subst, ◌∙◌}
use Prim.Native.Nat.{ℕ}
use lib.ListN.{length, replicate}
use types.Run.{OneOf, miss}
use denote.Enum.Declared.{tag_of}
use Rattle.meaning.specs.Table.{Table}
use Rattle.rows.specs.contracts.Step.{the_type}
use Rattle.rows.specs.declared.Step.{Step}
use Rattle.rows.specs.declared.Step.TheVariants as step
use Rattle.rows.specs.Steps.{event_of}
use Rattle.stepping.specs.Stepping.{Moves, Counted}
use Rattle.answers.specs.declared.Refusal.{Refusal}
use Rattle.answers.specs.Record.{no_record}
use Rattle.answers.specs.Answers.{refused_of, taken_of}
use Rattle.judge.proofs.Passed.{StartPassed, start_passed}
use Rattle.engine.specs.Calls.{accs_for, start_judged, start_after, start_answer, start_work}

module _ (f : List ℕ) (rows depth : ℕ) (work : List ℕ) (j : Judged) (judged : j ≡ start_judged f rows depth work) where
  -- A start that is refused: no record, and work memory as it was.
  pub refused_start :
      (why : Refusal) → j ≡ Err why →
      (refused_of no_record why ≡ start_answer f rows depth work) × (work ≡ start_work f rows depth work)
  refused_start why e =
      let h : start_judged f rows depth work ≡ Err why = sym judged ∙ e in
      (sym (rw h), sym (rw h))

  -- A start that is taken.
  pub taken_start :
      j ≡ fine →
      (taken_of (start_after f rows depth).next 0 ≡ start_answer f rows depth work)
      × ((start_after f rows depth).work ≡ start_work f rows depth work)
  taken_start e =
      let h : start_judged f rows depth work ≡ fine = sym judged ∙ e in
      (sym (rw h), sym (rw h))

  -- What it then has.
  pub passed_start : j ≡ fine → StartPassed f rows depth (length work)
  passed_start e =
      let h : start_judged f rows depth work ≡ fine = sym judged ∙ e in
      start_passed f rows depth (length work) h

-- The match of a step that left out the open.
abbrev pub NoOpen : Step → Type 0
NoOpen x = OneOf (1 ∷ 2 ∷ []) (tag_of the_type x)

-- A step other than an open needs no sets.
pub no_sets : (t : Table) (x : Step) → NoOpen x → replicate 64 0 ≡ accs_for t (event_of x)
no_sets t (step.Open a) other = absurd (miss (1 ∷ 2 ∷ []) 0 tt other)
no_sets t (step.Point a) other = refl
no_sets t step.Close other = refl

-- What is asked of an event, of the step that it is.
pub asked_as :
    {x y : Step} (d p : ℕ) → x ≡ y → Moves (event_of x) d × Counted (event_of x) p → Moves (event_of y) d × Counted (event_of y) p
asked_as d p e h = subst (λ (z : Step). Moves (event_of z) d × Counted (event_of z) p) e h
