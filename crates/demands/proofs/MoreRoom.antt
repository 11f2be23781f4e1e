-- More room changes nothing: of two watches over one table the second, with at least the rows and levels of the first, answers and
-- reports the same, up to the first's refusal for want of either. Assumes that both starts were taken.
use Rattle.std.specs.Prelude.{Ok, Err}
use mathlib.Core.Bool.{Bool, true, false}
use mathlib.Core.List.{List, [], ◌∷◌, ◌++◌}
use mathlib.Core.Logic.{◌⊎◌, inl, inr, ⊎_elim}
use mathlib.Core.Path.{◌≡◌, refl, sym, ap, ◌∙◌, subst}
use Prim.Native.Nat.{ℕ, ◌+◌, ◌≤◌}
use native.Mathlib.Omega.{arith}
use borrow.Author.Tests.{leb-true, le-leb, ltb-true, lt-ltb}
use lib.Dec.{ltb}
use lib.ListN.{length, drop}
use Rattle.meaning.specs.Table.{Table, table_of}
use Rattle.meaning.specs.Masks.{accs_of}
use Rattle.meaning.specs.Refusals.{Line, first_of}
use Rattle.meaning.specs.Streams as stream
use Rattle.meaning.specs.Streams.{Run, positions, open_after, Prefix}
use Rattle.meaning.proofs.Streams.{run_depth}
use Rattle.places.specs.Places.{row_length, rows_part}
use Rattle.places.specs.Memory.{Held, Memory}
use Rattle.places.proofs.Good.{helds_length}
use Rattle.reports.specs.Reports.{reports_of, left_of, end_reports}
use Rattle.stepping.specs.Stepping.{step_memory}
use Rattle.answers.specs.declared.Record.{Record}
use Rattle.answers.specs.declared.Event.{Event}
use Rattle.answers.specs.declared.Event.TheVariants.{Open, Point, Close, CloseOf, End, Unknown}
use Rattle.answers.specs.declared.Refusal.{Refusal}
use Rattle.answers.specs.declared.Refusal.TheVariants as why
use Rattle.answers.specs.Bytes.{meaning_of}
use Rattle.judge.specs.Judging.{Judged, fine, refuses, judged_number, event_lines, newest_word, closes_nothing, closes_another, opens_too_deep, ends_open, out_of_positions}
use Rattle.engine.specs.Calls.{After, memory_of, stepped, taking, rows_lines, lines, answer_of}
use Rattle.engine.proofs.Numbers.{answer_number}
use Rattle.following.specs.Following.{memory_after}
use Rattle.demands.specs.Watching.{Call, Stream, Watching, longer, Started, begun, lines_of, outcome_of, given, told_all, called}
use Rattle.demands.specs.Demands.{closes_other}
use Rattle.demands.specs.Room.{Alike, NoWant, SameAnswers}
use Rattle.demands.specs.Room as room
use Rattle.demands.proofs.Lines.{Looser, looser_first}
use Rattle.demands.proofs.Taking.{judged_of, after_of, none_given, given_is, refused_call, taken_call}
use Rattle.demands.proofs.Follows.{Follows, early, going_on, numbers_now, memory_now, follows_start, follows_call}
use Rattle.demands.proofs.Handed.{next_handed}
use Rattle.demands.proofs.Demand2.{depth_now}

-- Refused for want of depth or of rows.
abbrev Wants : Judged → Type 0
Wants j = (judged_number j ≡ 12) ⊎ (judged_number j ≡ 15)

-- A stream leads to one depth.
levels_same : (t : Table) {w : List stream.Event} {d d' : ℕ} → Prefix t w d → Prefix t w d' → d ≡ d'
levels_same t {w} r r' =
    let b : Run = record { ahead = 0; newest = t.start; aside = [] } in
    sym (run_depth t r b refl) ∙ run_depth t r' b refl

-- With more depth fewer opens are too deep.
too_deep_less : (e : Event) (d a d' a' : ℕ) → d ≡ d' → a ≤ a' → opens_too_deep d' a' e ≡ true → opens_too_deep d a e ≡ true
too_deep_less (Open x) d a d' a' q l h = le-leb a d (omega (arith, q, l, leb-true a' d' h))
too_deep_less (Point x) d a d' a' q l h = h
too_deep_less Close d a d' a' q l h = h
too_deep_less (CloseOf x) d a d' a' q l h = h
too_deep_less End d a d' a' q l h = h
too_deep_less Unknown d a d' a' q l h = h

-- With more rows fewer positions are too many.
too_many_less : (rows rows' alive alive' : ℕ) → rows ≤ rows' → alive ≡ alive' → ltb rows' alive' ≡ true → ltb rows alive ≡ true
too_many_less rows rows' alive alive' l e h = lt-ltb rows alive (omega (arith, l, e, ltb-true rows' alive' h))

module _ (t : Table) (r r' : Record) (work work' : List ℕ) (rows_same : memory_of r work ≡ memory_of r' work') (read_same : r.positions ≡ r'.positions) where
  -- The alive count is the number of rows.
  alive_same : r.alive ≡ r'.alive
  alive_same =
      sym (helds_length (row_length r.allowed) r.depth r.alive (drop (row_length r.allowed) (rows_part r.rows r.allowed work)))
      ∙ ap (λ (m : Memory). length m.alive) rows_same
      ∙ helds_length (row_length r'.allowed) r'.depth r'.alive (drop (row_length r'.allowed) (rows_part r'.rows r'.allowed work'))

  abbrev Same : (List ℕ → Record → After) → Type 0
  Same after = ((after work r).next.alive ≡ (after work' r').next.alive) × ((after work r).reports ≡ (after work' r').reports)

  -- A step reports the same and leaves as many rows.
  event_same : (e : stream.Event) → Same (λ words x. stepped t x words e)
  event_same e =
      let rows : ℕ → Memory → List Held = λ p m. (step_memory t (accs_of t) e p m).alive in (
        ap (λ m. length (left_of (rows r.positions m))) rows_same ∙ ap (λ p. length (left_of (rows p (memory_of r' work')))) read_same,
        ap (λ m. reports_of (rows r.positions m)) rows_same ∙ ap (λ p. reports_of (rows p (memory_of r' work'))) read_same,
      )

  step_same : (e : Event) → Same (λ words x. taking t x words e)
  step_same (Open a) = event_same (stream.Open a)
  step_same (Point a) = event_same (stream.Point a)
  step_same Close = event_same stream.Close
  step_same (CloseOf a) = event_same stream.Close
  step_same End = (refl, ap (λ (m : Memory). end_reports t m.alive) rows_same)
  step_same Unknown = (alive_same, refl)

-- Two watches that have taken the same stream and reported the same.
record Beside (f : List ℕ) (rows depth rows' depth' : ℕ) (s s' : Watching) : Type 0 where
  one : Follows f rows depth s
  other : Follows f rows' depth' s'
  same_stream : s.stream ≡ s'.stream
  same_told : s.reports ≡ s'.reports

module _ (f : List ℕ) (rows depth rows' depth' : ℕ) (more_rows : rows ≤ rows') (more_depth : depth ≤ depth') (s s' : Watching)
    (beside : Beside f rows depth rows' depth' s s') (c c' : Call) (byte_same : c.byte ≡ c'.byte)
    (lent_same : ltb (length c.lent) (rows + 1) ≡ ltb (length c'.lent) (rows' + 1)) where
  abbrev t : Table
  t = table_of f

  same_positions : s.now.positions ≡ s'.now.positions
  same_positions =
      (numbers_now f rows depth s beside.one).2
      ∙ ap (λ (x : Stream). positions x.events) beside.same_stream
      ∙ sym (numbers_now f rows' depth' s' beside.other).2

  same_depth : s.now.depth ≡ s'.now.depth
  same_depth =
      levels_same t (depth_now f rows depth s beside.one)
      (subst (λ (x : Stream). Prefix t x.events s'.now.depth) (sym beside.same_stream) (depth_now f rows' depth' s' beside.other))

  same_ended : s'.stream.ended ≡ s.stream.ended
  same_ended = ap (λ (x : Stream). x.ended) (sym beside.same_stream)

  same_rows : s.stream.ended ≡ false → memory_of s.now s.work ≡ memory_of s'.now s'.work
  same_rows e =
      memory_now f rows depth s beside.one e
      ∙ ap (λ (x : Stream). memory_after t x.events) beside.same_stream
      ∙ sym (memory_now f rows' depth' s' beside.other (same_ended ∙ e))

  abbrev event : Event
  event = meaning_of c.byte

  -- Both have the same open, so a close names another label for both or for none.
  same_labels :
      s.stream.ended ≡ false →
      closes_another s.now.depth (newest_word s.now s.work) event ≡ closes_another s'.now.depth (newest_word s'.now s'.work) event
  same_labels e =
      (next_handed f rows depth s beside.one c).labels_right e
      ∙ ap (λ (x : Stream). closes_other (open_after [] x.events) event) beside.same_stream
      ∙ sym ((next_handed f rows' depth' s' beside.other c).labels_right (same_ended ∙ e))

  -- 8 and the lines after it.
  abbrev later : Watching → List (Line Judged)
  later x =
      refuses x.now.finished why.Finished
      ∷ (event_lines t.labels x.now (newest_word x.now x.work) event ++ rows_lines x.now (taking t x.now x.work event))

  later_looser : Looser Wants (later s) (later s')
  later_looser = go s.stream.ended refl
    where
      over : s.now.finished ≡ s.stream.ended
      over = (numbers_now f rows depth s beside.one).3

      over' : s'.now.finished ≡ s.stream.ended
      over' = (numbers_now f rows' depth' s' beside.other).3 ∙ same_ended

      deeper : s.now.allowed ≤ s'.now.allowed
      deeper = omega (arith, more_depth, (numbers_now f rows depth s beside.one).1, (numbers_now f rows' depth' s' beside.other).1)

      roomier : s.now.rows ≤ s'.now.rows
      roomier = omega (arith, more_rows, (numbers_now f rows depth s beside.one).0, (numbers_now f rows' depth' s' beside.other).0)

      go : (b : Bool) → s.stream.ended ≡ b → Looser Wants (later s) (later s')
      go true h = Looser.stops (over ∙ h) (over' ∙ h)
      go false h =
          let left = (step_same t s.now s'.now s.work s'.work (same_rows h) same_positions event).0 in
          Looser.same (over ∙ sym over')
          (Looser.same refl
          (Looser.same refl
          (Looser.same (ap (λ d. closes_nothing d event) same_depth)
          (Looser.same (same_labels h)
          (Looser.wants (inl refl) (too_deep_less event _ _ _ _ same_depth deeper)
          (Looser.same (ap (λ d. ends_open d event) same_depth)
          (Looser.same (ap (λ p. out_of_positions p event) same_positions)
          (Looser.wants (inr refl) (too_many_less _ _ _ _ roomier left)
          Looser.none))))))))

  -- The second's lines of refusals are looser.
  looser : Looser Wants (lines_of f s c) (lines f s'.now s'.work (length c'.lent) (meaning_of c.byte))
  looser =
      let h = next_handed f rows depth s beside.one c in
      let h' = next_handed f rows' depth' s' beside.other c' in
      Looser.same refl
      (Looser.same refl
      (Looser.same refl
      (Looser.same refl
      (Looser.same refl
      (Looser.same (h.size_right ∙ lent_same ∙ sym h'.size_right)
      (Looser.never h.in_order h'.in_order later_looser))))))

  same_judged : ¬ Wants (judged_of f s c) → judged_of f s c ≡ judged_of f s' c'
  same_judged h =
      looser_first looser fine h
      ∙ ap (λ b. first_of (lines f s'.now s'.work (length c'.lent) (meaning_of b)) fine) byte_same

  same_told_now : judged_of f s c ≡ fine → (after_of f s c).reports ≡ (after_of f s' c').reports
  same_told_now passes =
      let going = going_on f rows depth s beside.one c (early f rows depth s beside.one c passes) in
      (step_same t s.now s'.now s.work s'.work (same_rows going) same_positions (meaning_of c.byte)).1
      ∙ ap (λ b. (taking t s'.now s'.work (meaning_of b)).reports) byte_same

  -- Both take or refuse the call alike, and have reported the same after it.
  abbrev SameNext : Type 0
  SameNext =
      (outcome_of f s c ≡ outcome_of f s' c') × (given f s c ≡ given f s' c') × Beside f rows depth rows' depth' (called f s c) (called f s' c')

  after_both : (called f s c).stream ≡ (called f s' c').stream → (called f s c).reports ≡ (called f s' c').reports → Beside f rows depth rows' depth' (called f s c) (called f s' c')
  after_both e told =
      record { one = follows_call f rows depth s beside.one c; other = follows_call f rows' depth' s' beside.other c'; same_stream = e; same_told = told }

  taken_same : judged_of f s c ≡ fine → judged_of f s' c' ≡ fine → SameNext
  taken_same e e' =
      let told = same_told_now e in
      let x = taken_call f s c e in
      let x' = taken_call f s' c' e' in (
        ap (λ j. (answer_of j s.now (after_of f s c)).outcome) e ∙ ap (λ (words : List ℕ). Ok (length words)) told ∙ sym (ap (λ j. (answer_of j s'.now (after_of f s' c')).outcome) e'),
        given_is f s c e ∙ told ∙ sym (given_is f s' c' e'),
        after_both
            (ap (λ (y : Watching). y.stream) x
            ∙ ap (λ (y : Stream). longer y (meaning_of c.byte)) beside.same_stream
            ∙ ap (λ b. longer s'.stream (meaning_of b)) byte_same
            ∙ sym (ap (λ (y : Watching). y.stream) x'))
            (ap (λ (y : Watching). y.reports) x
            ∙ ap (λ rs. rs ++ ((after_of f s c).reports ∷ [])) beside.same_told
            ∙ ap (λ words. s'.reports ++ (words ∷ [])) told
            ∙ sym (ap (λ (y : Watching). y.reports) x')),
      )

  refused_same : (reason : Refusal) → judged_of f s c ≡ Err reason → judged_of f s' c' ≡ Err reason → SameNext
  refused_same reason e e' =
      let x = refused_call f s c reason e in
      let x' = refused_call f s' c' reason e' in (
        ap (λ j. (answer_of j s.now (after_of f s c)).outcome) e ∙ sym (ap (λ j. (answer_of j s'.now (after_of f s' c')).outcome) e'),
        none_given f s c reason e ∙ sym (none_given f s' c' reason e'),
        after_both (ap (λ (y : Watching). y.stream) x ∙ beside.same_stream ∙ sym (ap (λ (y : Watching). y.stream) x'))
            (ap (λ (y : Watching). y.reports) x ∙ beside.same_told ∙ sym (ap (λ (y : Watching). y.reports) x')),
      )

  next_same : ¬ Wants (judged_of f s c) → SameNext
  next_same h = go (judged_of f s c) refl
    where
      go : (j : Judged) → judged_of f s c ≡ j → SameNext
      go (Ok done) e = taken_same e (sym (same_judged h) ∙ e)
      go (Err reason) e = refused_same reason e (sym (same_judged h) ∙ e)

module _ (f : List ℕ) (rows depth rows' depth' : ℕ) (more_rows : rows ≤ rows') (more_depth : depth ≤ depth') where
  calls_same :
      (cs cs' : List Call) → Alike rows rows' cs cs' → (s s' : Watching) → Beside f rows depth rows' depth' s s' → NoWant (told_all f s cs) →
      SameAnswers f s s' cs cs'
  calls_same [] [] room.none s s' beside free = record { same_told = refl; same_stream = beside.same_stream; same_reports = beside.same_told }
  calls_same [] (c' ∷ cs') alike s s' beside free = elim alike [ ]
  calls_same (c ∷ cs) [] alike s s' beside free = elim alike [ ]
  calls_same (c ∷ cs) (c' ∷ cs') (room.over byte_same lent_same alike) s s' beside (room.over not-deep not-rows free) =
      let n = answer_number (judged_of f s c) s.now (after_of f s c) in
      let x = next_same f rows depth rows' depth' more_rows more_depth s s' beside c c' byte_same lent_same (⊎_elim (λ e. not-deep (n ∙ e)) (λ e. not-rows (n ∙ e))) in
      let rest = calls_same cs cs' alike (called f s c) (called f s' c') x.2 free in
      record {
        same_told =
            ap (λ o. record { outcome = o; words = given f s c } ∷ told_all f (called f s c) cs) x.0
            ∙ ap (λ words. record { outcome = outcome_of f s' c'; words = words } ∷ told_all f (called f s c) cs) x.1
            ∙ ap (λ os. record { outcome = outcome_of f s' c'; words = given f s' c' } ∷ os) rest.same_told;
        same_stream = rest.same_stream;
        same_reports = rest.same_reports;
      }

  pub more_room :
      (work work' : List ℕ) → Started f rows depth work → Started f rows' depth' work' → (cs cs' : List Call) → Alike rows rows' cs cs' →
      NoWant (told_all f (begun f rows depth work) cs) → SameAnswers f (begun f rows depth work) (begun f rows' depth' work') cs cs'
  more_room work work' started started' cs cs' alike free =
      calls_same cs cs' alike (begun f rows depth work) (begun f rows' depth' work')
      (record { one = follows_start f rows depth work started; other = follows_start f rows' depth' work' started'; same_stream = refl; same_told = refl }) free
