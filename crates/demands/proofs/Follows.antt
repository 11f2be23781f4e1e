-- A watch follows its stream: after a taken start and any calls, record and memory are those of the events taken. Assumes
-- nothing but that the start was taken.
use Rattle.std.specs.Prelude.{Ok, Err}
use mathlib.Core.Bool.{Bool, true, false, not, true≢false}
use mathlib.Core.List.{List, [], ◌∷◌, ◌++◌}
use mathlib.Core.Path.{◌≡◌, refl, sym, ap, ◌∙◌, subst}
use Prim.Native.Nat.{ℕ, ◌<◌, ◌≤◌}
use native.Mathlib.Omega.{arith}
use borrow.Author.Tests.{ltb-false, not-false}
use lib.ListN.{length, replicate, length-replicate}
use Rattle.meaning.specs.Table.{Table, WellFormed, table_of}
use Rattle.meaning.specs.Masks.{accs_of}
use Rattle.meaning.specs.Refusals.{first_of, applies_at}
use Rattle.meaning.specs.Streams as stream
use Rattle.meaning.specs.Streams.{positions, opened_by, open_after, Reads, Prefix}
use Rattle.meaning.proofs.Refusals.{none_taken}
use Rattle.meaning.proofs.Streams.{reads_join}
use Rattle.bodies.specs.Sound.{labels_in}
use Rattle.places.specs.Places.{work_length, labels_part}
use Rattle.places.specs.Memory.{Memory, open_in, work_words}
use Rattle.rows.specs.Steps.{depth_after}
use Rattle.reports.specs.Reports.{reports_of, end_reports}
use Rattle.stepping.specs.Stepping.{step_memory, left_memory}
use Rattle.answers.specs.declared.Record.{Record}
use Rattle.answers.specs.declared.Answer.{Answer}
use Rattle.answers.specs.declared.Event.{Event}
use Rattle.answers.specs.declared.Event.TheVariants.{End, Unknown}
use Rattle.answers.specs.Bytes.{meaning_of}
use Rattle.answers.specs.Answers.{outcome_number}
use Rattle.answers.specs.Record.{no_record, with_alive, finished_of}
use Rattle.answers.specs.declared.Refusal.TheVariants.{Sizes}
use Rattle.judge.specs.Judging.{Judged, fine, refuses, judged_number, table_lines, sizes_right, start_lines}
use Rattle.judge.proofs.Passed.{EventPassed, passed, event_passed, start_passed}
use Rattle.engine.specs.Calls.{After, step_record, memory_of, labels_of, taking, answer_of, unless, event_answer, start_judged, start_after}
use Rattle.engine.proofs.Numbers.{event_taken, start_taken}
use Rattle.following.specs.Following.{memory_after}
use Rattle.following.proofs.Ordered.{work_length_lem, memory_back, labels_back}
use Rattle.following.proofs.Labels.{open_append, open_levels}
use Rattle.following.proofs.Stays.{positions_append}
use Rattle.following.proofs.Follows.{follows}
use Rattle.following.proofs.Held.{memory_good}
use Rattle.demands.specs.Watching.{Call, Stream, Watching, longer, begun, Started, called, called_all, watching}
use Rattle.demands.proofs.Lines.{front_applies}
use Rattle.demands.proofs.Reading.{Means, Kind, kind, taking_event, longer_event, Readable, readable, record_on}
use Rattle.demands.proofs.Taking.{early_judged, taken_answer, having, judged_of, after_of, first_lines, refused_call, taken_call}

-- The record and the memory of a watch that has taken w, with d levels open, and after its end.
abbrev pub record_at : Table → ℕ → ℕ → ℕ → List stream.Event → Bool → Record
record_at t rows depth d w false =
    record { rows = rows; allowed = depth; depth = d; alive = length (memory_after t w).alive; positions = positions w; finished = false }
record_at t rows depth d w true =
    record { rows = rows; allowed = depth; depth = 0; alive = 0; positions = positions w; finished = true }

abbrev pub work_at : Table → ℕ → ℕ → List stream.Event → Bool → List ℕ
work_at t rows depth w false = work_words rows depth (memory_after t w) (open_after [] w)
work_at t rows depth w true = replicate (work_length rows depth) 0

pub record Follows (f : List ℕ) (rows depth : ℕ) (s : Watching) : Type 0 where
  pub formed : WellFormed (table_of f)
  pub file_right : (i : ℕ) → i < 5 → applies_at (table_lines f) i ≡ false
  pub sized : sizes_right rows depth (work_length rows depth) ≡ true
  pub few_levels : depth ≤ 40
  pub levels : ℕ
  pub reads : Prefix (table_of f) s.stream.events levels
  pub deep : levels ≤ depth
  pub room : length (memory_after (table_of f) s.stream.events).alive ≤ rows
  pub numbered : positions s.stream.events ≤ 2147483647
  pub closed : s.stream.ended ≡ true → levels ≡ 0
  pub now_is : s.now ≡ record_at (table_of f) rows depth levels s.stream.events s.stream.ended
  pub work_is : s.work ≡ work_at (table_of f) rows depth s.stream.events s.stream.ended

---------------------------------------------------------------- the start

pub follows_start : (f : List ℕ) (rows depth : ℕ) (work : List ℕ) → Started f rows depth work → Follows f rows depth (begun f rows depth work)
follows_start f rows depth work h =
    let none = (start_taken f rows depth work).0 h in
    let passes : start_judged f rows depth work ≡ fine = none_taken judged_number fine (start_lines f rows depth (length work)) none in
    let p = start_passed f rows depth (length work) passes in
    record {
      formed = p.sound.formed;
      file_right = λ i l. sym (front_applies (table_lines f) (refuses (not (sizes_right rows depth (length work))) Sizes ∷ []) i l) ∙ none i;
      sized = subst (λ n. sizes_right rows depth n ≡ true) p.size_is (not-false (sizes_right rows depth (length work)) (none 5));
      few_levels = p.few_levels;
      levels = 0;
      reads = Reads.none;
      deep = omega arith;
      room = omega arith;
      numbered = omega arith;
      closed = λ e. refl;
      now_is = ap (λ j. (answer_of j no_record (start_after f rows depth)).next) passes;
      work_is = ap (λ j. unless j work (start_after f rows depth).work) passes;
    }

---------------------------------------------------------------- events

module _ (f : List ℕ) (rows depth : ℕ) (s : Watching) (follow : Follows f rows depth s) where
  abbrev t : Table
  t = table_of f

  abbrev w : List stream.Event
  w = s.stream.events

  -- As many labels are open as levels are.
  pub levels_open : length (open_after [] w) ≡ follow.levels
  levels_open = open_levels follow.reads [] refl

  -- While the end is not taken, memory stands for the rows of the events taken, and for the labels of what they leave open.
  module _ (e : s.stream.ended ≡ false) where
    pub now_going : s.now ≡ record_at t rows depth follow.levels w false
    now_going = follow.now_is ∙ ap (record_at t rows depth follow.levels w) e

    pub work_going : s.work ≡ work_at t rows depth w false
    work_going = follow.work_is ∙ ap (work_at t rows depth w) e

    pub memory_now : memory_of s.now s.work ≡ memory_after t w
    memory_now =
        ap (λ (r : Record). memory_of r s.work) now_going
        ∙ ap (memory_of (record_at t rows depth follow.levels w false)) work_going
        ∙ memory_back t.states rows depth follow.levels (memory_after t w) follow.few_levels follow.deep follow.room (memory_good t follow.formed follow.reads) (open_after [] w)

    pub labels_now : labels_of s.now s.work ≡ open_after [] w
    labels_now =
        ap (λ (r : Record). labels_of r s.work) now_going
        ∙ ap (labels_of (record_at t rows depth follow.levels w false)) work_going
        ∙ ap (open_in (labels_part rows depth (work_at t rows depth w false))) (sym levels_open)
        ∙ labels_back t.states rows depth follow.levels (memory_after t w) follow.few_levels follow.deep follow.room (memory_good t follow.formed follow.reads) (open_after [] w)

  -- The numbers of the record that are the same before the end and after it.
  pub numbers_now : (s.now.rows ≡ rows) × (s.now.allowed ≡ depth) × (s.now.positions ≡ positions s.stream.events) × (s.now.finished ≡ s.stream.ended)
  numbers_now =
      let n = at s.stream.ended in (
        ap (λ (r : Record). r.rows) follow.now_is ∙ n.0,
        ap (λ (r : Record). r.allowed) follow.now_is ∙ n.1,
        ap (λ (r : Record). r.positions) follow.now_is ∙ n.2,
        ap (λ (r : Record). r.finished) follow.now_is ∙ n.3,
      )
    where
      at : (b : Bool) →
          let r = record_at (table_of f) rows depth follow.levels s.stream.events b in
          (r.rows ≡ rows) × (r.allowed ≡ depth) × (r.positions ≡ positions s.stream.events) × (r.finished ≡ b)
      at false = (refl, refl, refl, refl)
      at true = (refl, refl, refl, refl)

  -- Memory is as long as it is to be.
  pub work_long : length s.work ≡ work_length rows depth
  work_long = ap length follow.work_is ∙ go s.stream.ended
    where
      go : (b : Bool) → length (work_at (table_of f) rows depth s.stream.events b) ≡ work_length rows depth
      go false =
          work_length_lem (table_of f).states rows depth follow.levels (memory_after (table_of f) s.stream.events) follow.few_levels follow.deep follow.room
          (memory_good (table_of f) follow.formed follow.reads) (open_after [] s.stream.events) (omega (arith, levels_open, follow.deep))
      go true = length-replicate (work_length rows depth) 0

  -- The stream with one event more.
  abbrev next : stream.Event → List stream.Event
  next e = w ++ (e ∷ [])

  -- The reports of an event, and of the end.
  abbrev pub reported : stream.Event → List ℕ
  reported e = reports_of (step_memory t (accs_of t) e (positions w) (memory_after t w)).alive

  abbrev pub end_reported : List ℕ
  end_reported = end_reports t (memory_after t w).alive

  module _ (c : Call) where
    -- No line before the last applies.
    abbrev pub Early : Type 0
    Early = first_of (first_lines f s c) fine ≡ fine

    pub early : judged_of f s c ≡ fine → Early
    early passes = early_judged f s.now s.work c.lent c.byte passes

    module _ (free : Early) where
      -- Then the end was not taken before.
      pub going_on : s.stream.ended ≡ false
      going_on = go s.stream.ended follow.now_is
        where
          go : (b : Bool) → s.now ≡ record_at t rows depth follow.levels w b → b ≡ false
          go false e = refl
          go true e =
              absurd (true≢false (sym (ap (λ (r : Record). r.finished) e) ∙ (passed f s.work s.now (length c.lent) (meaning_of c.byte) free).called.going_on))

      abbrev before : Record
      before = record_at t rows depth follow.levels w false

      now_before : s.now ≡ before
      now_before = now_going going_on

      pub passed_as : (e : Event) → meaning_of c.byte ≡ e → EventPassed (labels_in f) before e
      passed_as e is =
          subst (λ (r : Record). EventPassed (labels_in f) r e) now_before
          (subst (EventPassed (labels_in f) s.now) is
          (event_passed f s.work s.now (length c.lent) (meaning_of c.byte) free))

      -- An open, point or close.
      module _ (e : stream.Event) (means : Means (meaning_of c.byte) e) where
        pub can_read : Readable t.labels before e
        can_read = readable t.labels before means (passed_as (meaning_of c.byte) refl) follow.deep follow.numbered

        -- A step from rows that are held and labels that are open.
        abbrev from : Record → Memory → List ℕ → After
        from r m o =
            record {
              next = with_alive (length (left_memory (step_memory t (accs_of t) e r.positions m)).alive) (step_record e r);
              work = work_words r.rows r.allowed (left_memory (step_memory t (accs_of t) e r.positions m)) (opened_by o e);
              reports = reports_of (step_memory t (accs_of t) e r.positions m).alive;
            }

        pub after_event : after_of f s c ≡ record {
          next = record_at t rows depth (depth_after e follow.levels) (next e) false;
          work = work_at t rows depth (next e) false;
          reports = reported e;
        }
        after_event =
            taking_event t s.now s.work means
            ∙ ap (λ (m : Memory). from s.now m (labels_of s.now s.work)) (memory_now going_on)
            ∙ ap (from s.now (memory_after t w)) (labels_now going_on)
            ∙ ap (λ (r : Record). from r (memory_after t w) (open_after [] w)) now_before
            ∙ ap (λ (m : Memory). record { next = with_alive (length m.alive) (step_record e before); work = work_words rows depth m (opened_by (open_after [] w) e); reports = reported e })
            (follows t follow.formed e follow.reads can_read.reads_on)
            ∙ ap (λ (o : List ℕ). record { next = with_alive (length (memory_after t (next e)).alive) (step_record e before); work = work_words rows depth (memory_after t (next e)) o; reports = reported e })
            (sym (open_append [] w (e ∷ [])))
            ∙ ap (λ (r : Record). record { next = with_alive (length (memory_after t (next e)).alive) r; work = work_at t rows depth (next e) false; reports = reported e })
            (record_on rows depth follow.levels (length (memory_after t w).alive) (positions w) e)
            ∙ ap (λ (p : ℕ). record {
              next = record { rows = rows; allowed = depth; depth = depth_after e follow.levels; alive = length (memory_after t (next e)).alive; positions = p; finished = false };
              work = work_at t rows depth (next e) false;
              reports = reported e;
            })
            (sym (positions_append w (e ∷ [])))

      -- The end.
      module _ (is : meaning_of c.byte ≡ End) where
        pub all_closed : follow.levels ≡ 0
        all_closed = passed_as End is

        pub after_end : after_of f s c ≡ record { next = record_at t rows depth 0 w true; work = work_at t rows depth w true; reports = end_reported }
        after_end =
            ap (taking t s.now s.work) is
            ∙ ap (λ (m : Memory). record { next = finished_of s.now; work = replicate (length s.work) 0; reports = end_reports t m.alive }) (memory_now going_on)
            ∙ ap (λ (r : Record). record { next = finished_of r; work = replicate (length s.work) 0; reports = end_reported }) now_before
            ∙ ap (λ (n : ℕ). record { next = record_at t rows depth 0 w true; work = replicate n 0; reports = end_reported }) work_long

    -- The call is taken: what the caller then has.
    module _ (passes : judged_of f s c ≡ fine) where
      module _ (e : stream.Event) (means : Means (meaning_of c.byte) e) where
        pub called_event : called f s c ≡ record {
          stream = record { events = next e; ended = false };
          now = record_at t rows depth (depth_after e follow.levels) (next e) false;
          work = work_at t rows depth (next e) false;
          reports = s.reports ++ (reported e ∷ []);
        }
        called_event =
            taken_call f s c passes
            ∙ ap (λ (x : Stream). having s x (after_of f s c)) (longer_event s.stream means)
            ∙ ap (λ (b : Bool). having s (record { events = next e; ended = b }) (after_of f s c)) (going_on (early passes))
            ∙ ap (having s (record { events = next e; ended = false })) (after_event (early passes) e means)

        -- 15 did not apply.
        fits : length (memory_after t (next e)).alive ≤ rows
        fits =
            let taken : outcome_number (event_answer f s.now s.work c.lent c.byte).outcome ≡ 0 = ap (λ (x : Answer). outcome_number x.outcome) (taken_answer f s.now s.work c.lent c.byte passes) in
            let some : (after_of f s c).next.alive ≤ s.now.rows = ltb-false s.now.rows (after_of f s c).next.alive ((event_taken f s.now s.work c.lent c.byte).0 taken 15) in
            let alive : (after_of f s c).next.alive ≡ length (memory_after t (next e)).alive = ap (λ (a : After). a.next.alive) (after_event (early passes) e means) in
            let all : s.now.rows ≡ rows = ap (λ (r : Record). r.rows) (now_before (early passes)) in
            omega (arith, some, alive, all)

        follows_event : Follows f rows depth (called f s c)
        follows_event =
            subst (Follows f rows depth) (sym called_event)
            (record {
              formed = follow.formed;
              file_right = follow.file_right;
              sized = follow.sized;
              few_levels = follow.few_levels;
              levels = depth_after e follow.levels;
              reads = reads_join follow.reads (can_read (early passes) e means).reads_on;
              deep = (can_read (early passes) e means).still_deep;
              room = fits;
              numbered = omega (arith, (can_read (early passes) e means).still_numbered, positions_append w (e ∷ []));
              closed = λ b. absurd (true≢false (sym b));
              now_is = refl;
              work_is = refl;
            })

      module _ (is : meaning_of c.byte ≡ End) where
        pub called_end : called f s c ≡ record {
          stream = record { events = w; ended = true };
          now = record_at t rows depth 0 w true;
          work = work_at t rows depth w true;
          reports = s.reports ++ (end_reported ∷ []);
        }
        called_end =
            taken_call f s c passes
            ∙ ap (λ (x : Event). having s (longer s.stream x) (after_of f s c)) is
            ∙ ap (having s (record { events = w; ended = true })) (after_end (early passes) is)

        follows_end : Follows f rows depth (called f s c)
        follows_end =
            subst (Follows f rows depth) (sym called_end)
            (record {
              formed = follow.formed;
              file_right = follow.file_right;
              sized = follow.sized;
              few_levels = follow.few_levels;
              levels = 0;
              reads = subst (Prefix t w) (all_closed (early passes) is) follow.reads;
              deep = omega arith;
              room = follow.room;
              numbered = follow.numbered;
              closed = λ b. refl;
              now_is = refl;
              work_is = refl;
            })

pub follows_call : (f : List ℕ) (rows depth : ℕ) (s : Watching) → Follows f rows depth s → (c : Call) → Follows f rows depth (called f s c)
follows_call f rows depth s follow c = go (judged_of f s c) refl
  where
    taken : judged_of f s c ≡ fine → Kind (meaning_of c.byte) → Follows f rows depth (called f s c)
    taken passes (Kind.event e means) = follows_event f rows depth s follow c passes e means
    taken passes (Kind.end is) = follows_end f rows depth s follow c passes is
    taken passes (Kind.nothing is) = absurd (passed_as f rows depth s follow c (early f rows depth s follow c passes) Unknown is)

    go : (j : Judged) → judged_of f s c ≡ j → Follows f rows depth (called f s c)
    go (Ok done) e = taken e (kind (meaning_of c.byte))
    go (Err why) e = subst (Follows f rows depth) (sym (refused_call f s c why e)) follow

-- After any calls.
pub follows_calls : (f : List ℕ) (rows depth : ℕ) (cs : List Call) (s : Watching) → Follows f rows depth s → Follows f rows depth (called_all f s cs)
follows_calls f rows depth [] s follow = follow
follows_calls f rows depth (c ∷ cs) s follow = follows_calls f rows depth cs (called f s c) (follows_call f rows depth s follow c)

pub follows_watching : (f : List ℕ) (rows depth : ℕ) (work : List ℕ) → Started f rows depth work → (cs : List Call) → Follows f rows depth (watching f rows depth work cs)
follows_watching f rows depth work h cs = follows_calls f rows depth cs (begun f rows depth work) (follows_start f rows depth work h)
