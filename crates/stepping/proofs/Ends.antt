-- What a step comes to: the requirements of its parts and its results, of the values that the parts before gave. `w` is the
-- width of a row and `level` the newest level after the event, as they were computed. Assumes what Taken assumes.
use mathlib.Core.Path.{◌≡◌, sym, ap, ap₂, ◌∙◌, subst}
use mathlib.Core.List.{List, [], ◌∷◌, ◌++◌, map}
use Prim.Native.Nat.{ℕ, ◌+◌, ◌-◌, ◌*◌, ◌<◌, ◌≤◌}
use native.Mathlib.Nat.{mul-le-mul_right}
use native.Mathlib.Omega.{arith}
use borrow.Rule.Slice.PartMut.{same_len_mid}
use lib.ListN.{length, take, drop, replicate, length-append}
use Rattle.meaning.specs.Table.{Table, WellFormed}
use Rattle.meaning.specs.Lent.{put_at, on_front}
use Rattle.meaning.proofs.Lent.{put_more}
use Rattle.places.specs.Places.{row_length, rows_length, row_of, padded}
use Rattle.places.specs.Memory.{Held, Memory, row_in, helds_in, memory_in, all_words, rows_words, RowIn}
use Rattle.rows.specs.declared.Step.{Step}
use Rattle.rows.specs.declared.Step.TheVariants as step
use Rattle.rows.specs.Steps.{event_of, Can, step_row, on_row, depth_after}
use Rattle.reports.specs.Reports.{report_of, reports_of, left_over, left_of}
use Rattle.stepping.specs.declared.Counts.{Counts}
use Rattle.stepping.specs.Stepping.{Stands, new_of, step_memory, left_memory, counts_of}
use Rattle.stepping.proofs.Kept.{Other, none_born, one_born, left_new, one_more, reports_few}
use Rattle.stepping.proofs.Whole.{rest_part}
use Rattle.stepping.proofs.Taken.{older, run, older_length, later_helds, room, closed_words, run_in, run_is, none_added, some_added}

module _ (t : Table) (wf : WellFormed t) (accs : List ℕ) (x : Step) (rows depth d alive p : ℕ) (words reports : List ℕ)
    (s : Stands t.states rows depth d alive words) (can : Can t (row_length depth) d (event_of x)) where
  -- The rows that were alive, and row 0, after the event.
  abbrev olds : List Held
  olds = older t wf accs (event_of x) rows depth d alive words s can

  abbrev run0 : Held
  run0 = run t wf accs (event_of x) rows depth d alive words s can

  -- The memory after the event.
  abbrev after : Memory
  after = step_memory t accs (event_of x) p (memory_in depth d alive words)

  abbrev new : Held
  new = new_of t (p + 1) run0.row

  with_new : Other x → olds ++ (new ∷ []) ≡ after.alive
  with_new other = sym (ap (λ hs. olds ++ hs) (one_born t x p run0.row other))

  module _ (w level : ℕ) (w_is : w ≡ row_length depth) (level_is : level ≡ depth_after (event_of x) d) (next : List ℕ)
      (stepped : next ≡ all_words w (map (on_row (step_row t accs (event_of x))) (helds_in w d (alive + 1) words)) ++ drop ((alive + 1) * w) words) where
    stepped_is : next ≡ all_words (row_length depth) (map (on_row (step_row t accs (event_of x))) (helds_in (row_length depth) d (alive + 1) words)) ++ drop ((alive + 1) * row_length depth) words
    stepped_is = rw w_is at stepped

    -- The words of the rows from row 1 on, as they are lent.
    abbrev lent : List ℕ
    lent = take (length next - w) (drop w next)

    lent_helds : helds_in w level alive lent ≡ olds
    lent_helds = rw (w_is, level_is, rest_part next (row_length depth)) (later_helds t wf accs (event_of x) rows depth d alive words s can next stepped_is)

    module _ (count : ℕ) (before : List ℕ) (counted : count ≡ length (reports_of (helds_in w level alive lent))) (told : before ≡ on_front (reports_of (helds_in w level alive lent)) reports) where
      count_is : count ≡ length (reports_of olds)
      count_is = counted ∙ ap (λ hs. length (reports_of hs)) lent_helds

      before_is : before ≡ on_front (reports_of olds) reports
      before_is = told ∙ ap (λ hs. on_front (reports_of hs) reports) lent_helds

      -- There is room for one more report.
      pub report_fits : length before ≡ length reports → rows < length reports → count < length before
      report_fits same fits =
          omega (arith, count_is, reports_few olds, older_length t wf accs (event_of x) rows depth d alive words s can, s.room)

      module _ (left : ℕ) (part : List ℕ) (left_told : left ≡ length (left_of (helds_in w level alive lent)))
          (closed : part ≡ padded (alive * w) (all_words w (left_of (helds_in w level alive lent))) ++ drop (alive * w) lent)
          (same_next : length next ≡ length words) (same_part : length part ≡ length lent) where
        left_is : left ≡ length (left_of olds)
        left_is = left_told ∙ ap (λ hs. length (left_of hs)) lent_helds

        closed_is : part ≡ padded (alive * row_length depth) (all_words (row_length depth) (left_of (helds_in (row_length depth) (depth_after (event_of x) d) alive (drop (row_length depth) next)))) ++ drop (alive * row_length depth) (drop (row_length depth) next)
        closed_is = rw (w_is, level_is, rest_part next (row_length depth)) at closed

        -- All the words, once the rows left have closed up, with rows of k words.
        abbrev now_of : ℕ → List ℕ
        now_of k = take k next ++ (part ++ drop (length next - k) (drop k next))

        abbrev now : List ℕ
        now = now_of w

        now_is : now ≡ all_words (row_length depth) (run0 ∷ left_of olds) ++ replicate (room t wf accs (event_of x) rows depth d alive words s can next stepped_is part closed_is) 0
        now_is = ap now_of w_is ∙ closed_words t wf accs (event_of x) rows depth d alive words s can next stepped_is part closed_is

        now_length : length now ≡ rows_length rows depth
        now_length = same_len_mid w (length next - w) next part same_part ∙ same_next ∙ s.size

        -- A close: no new row comes.
        module _ (close : x ≡ step.Close) where
          none : olds ≡ after.alive
          none = sym (none_born t x p run0.row olds close)

          pub close_counts : record { alive = left; reports = count } ≡ counts_of after
          close_counts =
              ap₂ (λ i j. record { alive = i; reports = j }) (left_is ∙ ap (λ hs. length (left_of hs)) none) (count_is ∙ ap (λ hs. length (reports_of hs)) none)

          pub close_words : now ≡ rows_words rows depth (left_memory after)
          close_words =
              none_added t wf accs (event_of x) rows depth d alive words s can next stepped_is part closed_is now now_is now_length
              ∙ ap (λ hs. rows_words rows depth (record { run = run0.row; alive = left_of hs })) none

          pub close_reports : before ≡ on_front (reports_of after.alive) reports
          close_reports = before_is ∙ ap (λ hs. on_front (reports_of hs) reports) none

        -- Any other step: row 0 is where the new position's row is copied from.
        pub run_row : RowIn t.states level (row_of w 0 now)
        run_row =
            subst (λ k. RowIn t.states k (row_of w 0 now)) (sym level_is)
            (subst (λ k. RowIn t.states (depth_after (event_of x) d) (row_of k 0 now)) (sym w_is)
            (run_in t wf accs (event_of x) rows depth d alive words s can next stepped_is part closed_is now now_is))

        run_row_is : row_in level (row_of w 0 now) ≡ run0.row
        run_row_is =
            ap (λ k. row_in k (row_of w 0 now)) level_is
            ∙ ap (λ k. row_in (depth_after (event_of x) d) (row_of k 0 now)) w_is
            ∙ run_is t wf accs (event_of x) rows depth d alive words s can next stepped_is part closed_is now now_is

        -- The new position, of row 0 as it is read.
        abbrev read : Held
        read = new_of t (p + 1) (row_in level (row_of w 0 now))

        read_is : read ≡ new
        read_is = ap (new_of t (p + 1)) run_row_is

        module _ (other : Other x) where
          pub left_fits : length (left_of after.alive) ≤ rows → left + length (left_over read) ≤ rows
          left_fits most =
              omega (arith, left_is, ap (λ h. length (left_over h)) read_is, left_new olds new, ap (λ hs. length (left_of hs)) (with_new other))

          pub row_fits : length (left_of after.alive) ≤ rows → (left + 1 + length (left_over read)) * w ≤ length now
          row_fits most =
              let fits = mul-le-mul_right {m = left + 1 + length (left_over read)} {n = rows + 1} (row_length depth) (omega (arith, left_fits most)) in
              subst (λ k. (left + 1 + length (left_over read)) * k ≤ length now) (sym w_is) (omega (arith, fits, now_length))

          pub other_counts : (r : Counts) → r ≡ record { alive = left + length (left_over read); reports = count + length (report_of read) } → r ≡ counts_of after
          other_counts r e =
              e
              ∙ ap (λ h. record { alive = left + length (left_over h); reports = count + length (report_of h) }) read_is
              ∙ ap₂ (λ i j. record { alive = i; reports = j })
              (ap (λ k. k + length (left_over new)) left_is ∙ sym (left_new olds new) ∙ ap (λ hs. length (left_of hs)) (with_new other))
              (ap (λ k. k + length (report_of new)) count_is ∙ sym (ap length (one_more report_of olds new) ∙ length-append (reports_of olds) (report_of new)) ∙ ap (λ hs. length (reports_of hs)) (with_new other))

          pub other_words : (last : List ℕ) → last ≡ put_at ((left + 1) * w) (all_words w (left_over read)) now → length last ≡ length now → last ≡ rows_words rows depth (left_memory after)
          other_words last e same =
              let put = e
              ∙ ap (λ k. put_at ((left + 1) * k) (all_words k (left_over read)) now) w_is
              ∙ ap (λ h. put_at ((left + 1) * row_length depth) (all_words (row_length depth) (left_over h)) now) read_is
              ∙ ap (λ k. put_at ((k + 1) * row_length depth) (all_words (row_length depth) (left_over new)) now) left_is
              in
              some_added t wf accs (event_of x) rows depth d alive words s can next stepped_is part closed_is now now_is (left_over new) last put (same ∙ now_length)
              ∙ ap (λ hs. rows_words rows depth (record { run = run0.row; alive = hs })) (sym (one_more left_over olds new) ∙ ap left_of (with_new other))

          pub other_reports : (last : List ℕ) → last ≡ put_at count (report_of read) before → last ≡ on_front (reports_of after.alive) reports
          other_reports last e =
              e
              ∙ ap (λ h. put_at count (report_of h) before) read_is
              ∙ ap (λ zs. put_at count (report_of new) zs) before_is
              ∙ ap (λ k. put_at k (report_of new) (on_front (reports_of olds) reports)) count_is
              ∙ put_more (reports_of olds) (report_of new) reports
              ∙ ap (λ zs. on_front zs reports) (sym (one_more report_of olds new) ∙ ap reports_of (with_new other))
