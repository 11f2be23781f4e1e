-- Demand 2: over a whole stream each position is reported once, as the query says; and the record and the memory are those of the
-- events taken. Assumes a watch that a taken start and any calls led to.
use mathlib.Core.Bool.{Bool, true, false, true≢false}
use mathlib.Core.List.{List}
use mathlib.Core.Logic.Iff
use mathlib.Core.Logic.{◌↔◌, inl, inr, ⊎_elim}
use mathlib.Core.Path.{◌≡◌, refl, sym, ap, ◌∙◌, subst}
use Prim.Native.Nat.{ℕ, ◌<◌}
use native.Mathlib.Omega.{arith}
use lib.Dec.{T}
use lib.ListN.{length, drop, length-map}
use Rattle.meaning.specs.Table.{Table, table_of}
use Rattle.meaning.specs.Streams as stream
use Rattle.meaning.specs.Streams.{Prefix, Whole, Selects}
use Rattle.meaning.specs.Hedges.{evaluate}
use Rattle.meaning.proofs.Hedges.{selects_is, whole_is}
use Rattle.meaning.proofs.Earliest as earliest
use Rattle.places.specs.Places.{row_length, rows_part}
use Rattle.places.specs.Memory.{Held}
use Rattle.places.proofs.Good.{helds_length}
use Rattle.reports.specs.Reports.{selected_word, failed_word}
use Rattle.answers.specs.declared.Record.{Record}
use Rattle.engine.specs.Calls.{memory_of}
use Rattle.following.specs.Lists.{In, times}
use Rattle.following.specs.Following.{positions_of}
use Rattle.demands.specs.Watching.{Call, Stream, Watching, Started, watching, joined}
use Rattle.demands.specs.Deciding.{Read, CertainIn, RuledOutIn, AliveAre}
use Rattle.demands.specs.Demands.{Published, Demand2}
use Rattle.demands.proofs.Follows.{Follows, record_at, work_at, numbers_now, follows_watching}
use Rattle.demands.proofs.OneEvent.{Decides, over_selects, over_fails, over_decides}
use Rattle.demands.proofs.Alive.{alive_same}
use Rattle.demands.proofs.SoFar.{read_or_not}
use Rattle.demands.proofs.Demand3.{FarOf, rows_alive, decided_at, so_far_watching}

-- As many levels are open as the record says.
pub depth_now : (f : List ℕ) (rows depth : ℕ) (s : Watching) → Follows f rows depth s → Prefix (table_of f) s.stream.events s.now.depth
depth_now f rows depth s follow =
    subst (λ (r : Record). Prefix (table_of f) s.stream.events r.depth) (sym follow.now_is) (at s.stream.ended follow.closed)
  where
    at : (b : Bool) → (b ≡ true → follow.levels ≡ 0) → Prefix (table_of f) s.stream.events (record_at (table_of f) rows depth follow.levels s.stream.events b).depth
    at false closed = follow.reads
    at true closed = subst (Prefix (table_of f) s.stream.events) (closed refl) follow.reads

module _ (f : List ℕ) (rows depth : ℕ) (s : Watching) (follow : Follows f rows depth s) (far : FarOf f s) where
  abbrev t : Table
  t = table_of f

  abbrev w : List stream.Event
  w = s.stream.events

  abbrev at : Bool → Stream
  at b = record { events = w; ended = b }

  -- After the end the verdict is the query's.
  selects_at : (b : Bool) → b ≡ true → (i : ℕ) → CertainIn t (at b) i ↔ Selects t i w
  selects_at false e i = absurd (true≢false (sym e))
  selects_at true e i = ((over_selects t w i).1, (over_selects t w i).0)

  fails_at : (b : Bool) → b ≡ true → (i : ℕ) → RuledOutIn t (at b) i ↔ (¬ Selects t i w)
  fails_at false e i = absurd (true≢false (sym e))
  fails_at true e i = ((over_fails t w i).1, (over_fails t w i).0)

  -- Every position read is decided or alive.
  decides_at : (b : Bool) (i : ℕ) → Read (at b) i → Decides t (at b) i
  decides_at false i r = earliest.decided t follow.formed i follow.reads r.1
  decides_at true i r = ⊎_elim inl (λ h. inr (inl h)) (over_decides t w i)

  at_most_once : (i : ℕ) → times i (joined s.reports) < 2
  at_most_once i = go (read_or_not s.stream i)
    where
      of : Read s.stream i → Decides t s.stream i → times i (joined s.reports) < 2
      of r (inl h) = omega (arith, far.once i r (inl h))
      of r (inr (inl h)) = omega (arith, far.once i r (inr h))
      of r (inr (inr h)) = omega (arith, far.none i (λ x. h))

      go : Dec (Read s.stream i) → times i (joined s.reports) < 2
      go (yes r) = of r (decides_at s.stream.ended i r)
      go (no r) = omega (arith, far.none i (λ x. absurd (r x)))

  alive_count : (alive : List ℕ) → AliveAre t s.stream alive → s.now.alive ≡ length alive
  alive_count alive a =
      let held : List Held = (memory_of s.now s.work).alive in
      sym (helds_length (row_length s.now.allowed) s.now.depth s.now.alive (drop (row_length s.now.allowed) (rows_part s.now.rows s.now.allowed s.work)))
      ∙ sym (length-map held (λ (h : Held). h.position))
      ∙ ap length (alive_same t s.stream (positions_of held) alive (rows_alive f rows depth s follow) a)

  selected_whole : s.stream.ended ≡ true → (i : ℕ) → Read s.stream i → In (selected_word i) (joined s.reports) ↔ Selects t i w
  selected_whole e i r =
      (λ m. (selects_at s.stream.ended e i).0 ((far.selected i).0 m).1, λ h. (far.selected i).1 (r, (selects_at s.stream.ended e i).1 h))

  failed_whole : s.stream.ended ≡ true → (i : ℕ) → Read s.stream i → In (failed_word i) (joined s.reports) ↔ (¬ Selects t i w)
  failed_whole e i r = (λ m. (fails_at s.stream.ended e i).0 ((far.failed i).0 m).1, λ h. (far.failed i).1 (r, (fails_at s.stream.ended e i).1 h))

  whole_stream_lem : s.stream.ended ≡ true → Whole t w
  whole_stream_lem e = subst (Prefix t w) (follow.closed e) follow.reads

  as_published : s.stream.ended ≡ true → Published t s.stream (joined s.reports)
  as_published e =
      let (h, labelled, is) = (whole_is t w).0 (whole_stream_lem e) in
      let meant : (i : ℕ) → Selects t i w ↔ T (t.final (evaluate t i t.start h)) = λ i. subst (λ x. Selects t i x ↔ T (t.final (evaluate t i t.start h))) is (selects_is t i h) in
      record {
        hedge = h;
        labelled = labelled;
        stream_is = is;
        selected = λ i r. Iff.trans (selected_whole e i r) (meant i);
        failed = λ i r. Iff.trans (failed_whole e i r) (λ n x. n ((meant i).1 x), λ n x. n ((meant i).0 x));
      }

  pub whole_demand_2 : Demand2 f rows depth s
  whole_demand_2 =
      let b = s.stream.ended in
      let n = numbers_now f rows depth s follow in
      record {
        whole = whole_stream_lem;
        once = λ e i r. far.once i r (decided_at f rows depth s follow b e i);
        selected = selected_whole;
        failed = failed_whole;
        published = as_published;
        no_other = λ i h. far.none i (λ r. absurd (h r));
        never_twice = at_most_once;
        depth_is = depth_now f rows depth s follow;
        positions_is = n.2;
        alive_is = alive_count;
        finished_is = n.3;
        room_is = (n.0, n.1);
        memory_is = λ e. follow.work_is ∙ ap (work_at t rows depth w) e;
        memory_after_end = λ e. follow.work_is ∙ ap (work_at t rows depth w) e;
      }

pub demand_2 : (f : List ℕ) (rows depth : ℕ) (work : List ℕ) → Started f rows depth work → (cs : List Call) → Demand2 f rows depth (watching f rows depth work cs)
demand_2 f rows depth work started cs =
    whole_demand_2 f rows depth (watching f rows depth work cs) (follows_watching f rows depth work started cs) (so_far_watching f rows depth work started cs)
