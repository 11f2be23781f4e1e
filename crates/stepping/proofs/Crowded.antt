-- Is there room for the rows that an event leaves; and the new position, reported or a row of its own. Assumes nothing.
use mathlib.Core.Path.{◌≡◌, refl, sym, ap, ◌∙◌, subst}
use mathlib.Core.Bool.{Bool, true, false, not, cond, ◌||◌}
use mathlib.Core.Logic.{◌⊎◌, inl, inr}
use mathlib.Core.List.{List, [], ◌∷◌, ◌++◌, map, append-nil}
use Prim.Native.Nat.{ℕ, ◌+◌, ◌*◌, ◌<◌, ◌≤◌}
use native.Mathlib.Nat.{zero-mul, add-zero}
use native.Mathlib.Omega.{arith}
use native.Mathlib.Decide.{ℕ_discrete}
use borrow.Author.Tests.{lt-ltb, le-ltb, eq-eqb, ne_eqb}
use lib.Dec.{ltb, eqb}
use lib.ListN.{length, get_or, take, drop}
use lib.Seq.{get_or-take, length-take-le}
use denote.Enum.Declared.{tag_of}
use Rattle.meaning.specs.Table.{Table, WellFormed}
use Rattle.meaning.specs.Streams.{Event, Open, Point, Close}
use Rattle.meaning.specs.Rows.{Row, mark_row, is_selecting, is_rejecting}
use Rattle.places.specs.Places.{state_at, row_length, row_of}
use Rattle.places.specs.Memory.{Held, row_in, row_words, all_words, helds_in, memory_in, RowIn}
use Rattle.places.proofs.Words.{row_length_lem}
use Rattle.places.proofs.Sets.{below_length}
use Rattle.places.proofs.Rows.{next_row, past_first}
use Rattle.places.proofs.Good.{helds_length}
use Rattle.rows.specs.declared.Step.{Step}
use Rattle.rows.specs.declared.Step.TheVariants as step
use Rattle.rows.specs.Steps.{event_of, step_row, on_row, in_row, is_decided}
use Rattle.rows.specs.contracts.Step.{the_type}
use Rattle.reports.specs.Reports.{selected_word, failed_word, report_of, left_over, left_of}
use Rattle.meaning.specs.Lent.{put_at}
use Rattle.reports.proofs.Puts.{Put}
use Rattle.meaning.proofs.Lent.{put_none}
use Rattle.stepping.specs.declared.Counts.{Counts}
use Rattle.stepping.specs.Stepping.{Stands, new_of, born, step_memory}
use Rattle.stepping.proofs.Kept.{left_append, left_few, map_length}
use Rattle.stepping.proofs.Whole.{start_room}

-- Row 0, as it is lent.
pub run_part : (w : ℕ) (words : List ℕ) → row_of w 0 words ≡ take w words
run_part w words = ap (λ k. take w (drop k words)) (zero-mul w)

---------------------------------------------------------------- room

-- What is left of the new row: one if it is in doubt.
born_few : (t : Table) (e : Event) (p : ℕ) (run : Row) → length (left_of (born t e p run)) ≤ 1
born_few t (Open a) p run = left_few (new_of t (p + 1) run ∷ [])
born_few t (Point a) p run = left_few (new_of t (p + 1) run ∷ [])
born_few t Close p run = omega arith

born_decided : (t : Table) (e : Event) (p : ℕ) (run : Row) → is_decided (mark_row t run) ≡ true → length (left_of (born t e p run)) ≡ 0
born_decided t (Open a) p run h = rw h
born_decided t (Point a) p run h = rw h
born_decided t Close p run h = refl

born_doubted : (t : Table) (s : Step) (p : ℕ) (run : Row) → (tag_of the_type s ≡ 0) ⊎ (tag_of the_type s ≡ 1) → is_decided (mark_row t run) ≡ false → length (left_of (born t (event_of s) p run)) ≡ 1
born_doubted t (step.Open a) p run n h = rw h
born_doubted t (step.Point a) p run n h = rw h
born_doubted t step.Close p run (inl e) h = (let f : ◌≡◌ {A = ℕ} 2 0 = e in absurd (omega (arith, f)))
born_doubted t step.Close p run (inr e) h = (let f : ◌≡◌ {A = ℕ} 2 1 = e in absurd (omega (arith, f)))

undoubted : (b r : Bool) → r ≡ not b → not r ≡ true → b ≡ true
undoubted true r e h = refl
undoubted false r e h = sym (ap not e) ∙ h

doubted : (b r : Bool) → r ≡ not b → not r ≡ false → b ≡ false
doubted true r e h = sym (ap not e) ∙ h
doubted false r e h = refl

full_test : (x rows : ℕ) → x ≤ rows → eqb x rows ≡ ltb rows (x + 1)
full_test x rows h =
    elim (ℕ_discrete x rows) [ yes e ↦ eq-eqb x rows e ∙ sym (lt-ltb rows (x + 1) (omega (arith, e))) | no e ↦ ne_eqb x rows e ∙ sym (le-ltb rows (x + 1) (omega (arith, e))) ]

module _ (t : Table) (accs : List ℕ) (rows depth d alive : ℕ) (words : List ℕ) where
  -- How many positions are alive after the event, p before it.
  abbrev pub left_after : Event → ℕ → ℕ
  left_after e p = length (left_of (step_memory t accs e p (memory_in depth d alive words)).alive)

  -- How many of them were alive before.
  abbrev pub stay_after : Event → ℕ
  stay_after e = length (left_of (map (on_row (step_row t accs e)) (helds_in (row_length depth) d alive (drop (row_length depth) words))))

  -- Row 0 after the event.
  abbrev pub run_after : Event → Row
  run_after e = step_row t accs e (row_in d (row_of (row_length depth) 0 words))

  left_after_lem : (e : Event) (p : ℕ) → left_after e p ≡ stay_after e + length (left_of (born t e p (run_after e)))
  left_after_lem e p = left_append (map (on_row (step_row t accs e)) (helds_in (row_length depth) d alive (drop (row_length depth) words))) (born t e p (run_after e))

  stay_few : (e : Event) → stay_after e ≤ alive
  stay_few e =
      let hs : List Held = helds_in (row_length depth) d alive (drop (row_length depth) words) in
      omega (arith, left_few (map (on_row (step_row t accs e)) hs), map_length (on_row (step_row t accs e)) hs, helds_length (row_length depth) d alive (drop (row_length depth) words))

  -- A row is free.
  pub room_free : (e : Event) (p : ℕ) → alive < rows → false ≡ ltb rows (left_after e p)
  room_free e p h = sym (le-ltb rows (left_after e p) (omega (arith, left_after_lem e p, stay_few e, born_few t e p (run_after e))))

  -- Nothing is new.
  pub room_close : (s : Step) (p : ℕ) → alive ≤ rows → s ≡ step.Close → false ≡ ltb rows (left_after (event_of s) p)
  room_close s p h e =
      subst (λ (z : Step). false ≡ ltb rows (left_after (event_of z) p)) (sym e) (sym (le-ltb rows (left_after Close p) (omega (arith, left_after_lem Close p, stay_few Close))))

  -- What is new is decided.
  pub room_decided : (e : Event) (p : ℕ) (r : Bool) → alive ≤ rows → r ≡ not (is_decided (mark_row t (run_after e))) → not r ≡ true → false ≡ ltb rows (left_after e p)
  room_decided e p r h told n =
      sym (le-ltb rows (left_after e p) (omega (arith, left_after_lem e p, stay_few e, born_decided t e p (run_after e) (undoubted (is_decided (mark_row t (run_after e))) r told n))))

  -- What is new needs a row: there is none exactly if all rows that there are stay.
  pub room_asked : (s : Step) (p : ℕ) (r : Bool) (count : ℕ) → alive ≤ rows → (tag_of the_type s ≡ 0) ⊎ (tag_of the_type s ≡ 1) → r ≡ not (is_decided (mark_row t (run_after (event_of s)))) → not r ≡ false
      → count ≡ stay_after (event_of s) → eqb count rows ≡ ltb rows (left_after (event_of s) p)
  room_asked s p r count h new told n counted =
      let e : Event = event_of s in
      let one : length (left_of (born t e p (run_after e))) ≡ 1 = born_doubted t s p (run_after e) new (doubted (is_decided (mark_row t (run_after e))) r told n) in
      ap (λ k. eqb k rows) counted
      ∙ full_test (stay_after e) rows (omega (arith, stay_few e))
      ∙ ap (ltb rows) (sym (left_after_lem e p ∙ ap (λ k. stay_after e + k) one))

module _ (n rows depth d alive : ℕ) (words : List ℕ) (s : Stands n rows depth d alive words) where
  pub run_length : length (take (row_length depth) words) ≡ row_length depth
  run_length = length-take-le (row_length depth) words (omega (arith, s.size, start_room rows depth))

  pub run_in : RowIn n d (take (row_length depth) words)
  run_in = subst (RowIn n d) (run_part (row_length depth) words) (s.rows_in.each 0 (omega arith))

---------------------------------------------------------------- the new position

-- A row that is not reported is left, and one that is reported is not.
unreported_left : (h : Held) → length (report_of h) ≡ 0 → left_over h ≡ h ∷ []
unreported_left h = go (is_selecting h.row) (is_rejecting h.row)
  where
    go : (b c : Bool) → length (cond b (selected_word h.position ∷ []) (cond c (failed_word h.position ∷ []) [])) ≡ 0 → cond (b || c) [] (h ∷ []) ≡ h ∷ []
    go true c e = absurd (omega (arith, e))
    go false true e = absurd (omega (arith, e))
    go false false e = refl

reported_gone : (h : Held) → 0 < length (report_of h) → left_over h ≡ []
reported_gone h = go (is_selecting h.row) (is_rejecting h.row)
  where
    go : (b c : Bool) → 0 < length (cond b (selected_word h.position ∷ []) (cond c (failed_word h.position ∷ []) [])) → cond (b || c) [] (h ∷ []) ≡ []
    go true c l = refl
    go false true l = refl
    go false false l = absurd (omega (arith, l))

pub one_left : (h : Held) (count after : ℕ) → after ≡ count + length (report_of h) → after ≡ count → length (left_over h) ≡ 1
one_left h count after a e = ap length (unreported_left h (omega (arith, a, e)))

module _ (h : Held) (w left count : ℕ) (words reports : List ℕ) where
  -- The counts, the words and the reports once the new position has come.
  abbrev pub Added : Counts → List ℕ → List ℕ → Type 0
  Added r now told =
      (r ≡ record { alive = left + length (left_over h); reports = count + length (report_of h) })
      × ((now ≡ put_at ((left + 1) * w) (all_words w (left_over h)) words) × (told ≡ put_at count (report_of h) reports))

  module _ (after : ℕ) (told : List ℕ) (p : Put h count reports after told) where
    pub added_row : (now : List ℕ) → after ≡ count → length (row_words w h) ≡ w → now ≡ take ((left + 1) * w) words ++ row_words w h ++ drop ((left + 1 + 1) * w) words
        → Added (record { alive = left + 1; reports = after }) now told
    added_row now e l put =
        let at : ℕ = (left + 1) * w in
        let x : left_over h ≡ h ∷ [] = unreported_left h (omega (arith, p.0, e)) in
        let k : (left + 1 + 1) * w ≡ at + length (row_words w h) = next_row (left + 1) w ∙ ap (λ i. at + i) (sym l) in (
          rw (x, p.0),
          (
            put
                ∙ ap (λ i. take at words ++ row_words w h ++ drop i words) k
                ∙ ap (λ xs. put_at at xs words) (sym (append-nil (row_words w h)))
                ∙ ap (λ hs. put_at at (all_words w hs) words) (sym x),
            p.1,
          ),
        )

    pub added_none : ¬ (after ≡ count) → Added (record { alive = left; reports = after }) words told
    added_none e =
        let x : left_over h ≡ [] = reported_gone h (omega (arith, p.0, e)) in
        (rw (x, p.0, add-zero left), (rw x (sym (put_none ((left + 1) * w) words)), p.1))

-- Words that begin with a row 0 of w words: it is long enough, and its newest state is one of the table's.
pub record First (t : Table) (w d : ℕ) (words : List ℕ) : Type 0 where
  pub size : length (take w words) ≡ w
  pub deep : row_length d ≤ w
  pub place : state_at d < length words
  pub same : get_or (row_of w 0 words) (state_at d) 0 ≡ get_or words (state_at d) 0
  pub state : get_or words (state_at d) 0 < t.states

pub first_of : (t : Table) (w d r : ℕ) (words : List ℕ) → RowIn t.states d (row_of w 0 words) → 0 < r → r * w ≤ length words → First t w d words
first_of t w d r words row some fits =
    let size : length (take w words) ≡ w = length-take-le w words (omega (arith, past_first r w some, fits)) in
    let deep : row_length d ≤ w = omega (arith, row.deep, ap length (run_part w words), size) in
    let same : get_or (row_of w 0 words) (state_at d) 0 ≡ get_or words (state_at d) 0 =
    ap (λ xs. get_or xs (state_at d) 0) (run_part w words) ∙ get_or-take w words (state_at d) 0 (omega (arith, deep)) in
    record { size = size; deep = deep; place = omega (arith, deep, past_first r w some, fits); same = same; state = omega (arith, row.states d (omega arith), same) }

module _ (t : Table) (w d : ℕ) (words : List ℕ) (f : First t w d words) where
  pub new_words : (position : ℕ) → length (row_words w (new_of t position (row_in d (row_of w 0 words)))) ≡ w
  new_words position = row_length_lem w (new_of t position (row_in d (row_of w 0 words))) (rw (below_length (row_of w 0 words) d) f.deep)

  module _ (q at : ℕ) (e : q ≡ t.mark (get_or words at 0)) (p : at ≡ state_at d) where
    pub mark_small : WellFormed t → q < 64
    mark_small wf = omega (arith, e ∙ ap (λ k. t.mark (get_or words k 0)) p, wf.mark_in (get_or words (state_at d) 0) f.state, wf.few_states)

    -- Row 0 as it is lent, with the state that the mark gives, is the new position's row.
    pub new_as : (position : ℕ) → record { position = position; row = in_row q (row_in d (take w words)) } ≡ new_of t position (row_in d (row_of w 0 words))
    new_as position =
        ap (λ (xs : List ℕ). record { position = position; row = in_row q (row_in d xs) }) (sym (run_part w words))
        ∙ ap (λ (x : ℕ). record { position = position; row = in_row x (row_in d (row_of w 0 words)) }) (e ∙ ap (λ k. t.mark (get_or words k 0)) p ∙ ap t.mark (sym f.same))
