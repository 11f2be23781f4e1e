-- Demand 3: each report comes at the first moment it can. Assumes a watch that a taken start and any calls led to.
use Rattle.std.specs.Prelude.{Ok, Err}
use Rattle.judge.specs.Judging.{Judged, fine}
use mathlib.Core.Bool.{Bool, true, false, true≢false}
use mathlib.Core.List.{List, [], ◌∷◌, ◌++◌, append_assoc, append-nil}
use mathlib.Core.Logic.{◌⊎◌, inl, inr, ⊎_elim}
use mathlib.Core.Path.{◌≡◌, refl, sym, ap, ◌∙◌, subst}
use Prim.Native.Nat.{ℕ}
use Rattle.meaning.specs.Table.{Table, table_of}
use Rattle.meaning.specs.Streams as stream
use Rattle.places.specs.Memory.{Held, Memory}
use Rattle.answers.specs.declared.Record.{Record}
use Rattle.answers.specs.declared.Event.TheVariants.{Unknown}
use Rattle.answers.specs.Bytes.{meaning_of}
use Rattle.answers.specs.Answers.{outcome_number}
use Rattle.engine.specs.Calls.{After, memory_of}
use Rattle.following.specs.Lists.{In}
use Rattle.following.specs.Following.{memory_after, held_after, positions_of}
use Rattle.following.proofs.Lists.{in_nil}
use Rattle.following.proofs.Held.{held_is}
use Rattle.demands.specs.Watching.{Call, Stream, Watching, Started, begun, outcome_of, given, called, called_all, watching, joined}
use Rattle.demands.specs.Deciding.{Read, CertainIn, RuledOutIn, AliveIn, Pending, AliveAre}
use Rattle.demands.specs.Demands.{Demand3, StandingDemand3}
use Rattle.demands.proofs.Taking.{taken_judged, judged_of, given_is, refused_call, taken_call}
use Rattle.demands.proofs.Reading.{Kind, kind}
use Rattle.demands.proofs.Follows.{Follows, Early, record_at, early, going_on, passed_as, can_read, all_closed, after_event, after_end, called_event, called_end, memory_now, follows_start, follows_call, follows_watching}
use Rattle.demands.proofs.OneEvent.{Goes, going, goes_event, goes_end, over_decides}
use Rattle.demands.proofs.Alive.{alive_going, alive_over}
use Rattle.demands.proofs.SoFar.{SoFar, so_far_none, so_far_on}
use Rattle.demands.proofs.Timely.{timely_same}

goes_as : (t : Table) {before before' after after' : Stream} {words words' : List ℕ} →
    before ≡ before' → after ≡ after' → words ≡ words' → Goes t before' after' words' → Goes t before after words
goes_as t {before} {before'} {after} {after'} {words} {words'} e f g h =
    subst (λ x. Goes t x after words) (sym e) (subst (λ x. Goes t before' x words) (sym f) (subst (λ x. Goes t before' after' x) (sym g) h))

module _ (f : List ℕ) (rows depth : ℕ) (s : Watching) (follow : Follows f rows depth s) (c : Call) where
  -- A taken call is one taken event.
  pub goes_on : judged_of f s c ≡ fine → Goes (table_of f) s.stream (called f s c).stream (given f s c)
  goes_on passes = go (kind (meaning_of c.byte))
    where
      free : Early f rows depth s follow c
      free = early f rows depth s follow c passes

      before : s.stream ≡ going s.stream.events
      before = ap (λ (b : Bool). record { events = s.stream.events; ended = b }) (going_on f rows depth s follow c free)

      go : Kind (meaning_of c.byte) → Goes (table_of f) s.stream (called f s c).stream (given f s c)
      go (Kind.event e means) =
          goes_as (table_of f) before (ap (λ (y : Watching). y.stream) (called_event f rows depth s follow c passes e means))
          (given_is f s c passes ∙ ap (λ (a : After). a.reports) (after_event f rows depth s follow c free e means))
          (goes_event (table_of f) follow.formed e follow.reads (can_read f rows depth s follow c free e means).reads_on)
      go (Kind.end is) =
          goes_as (table_of f) before (ap (λ (y : Watching). y.stream) (called_end f rows depth s follow c passes is))
          (given_is f s c passes ∙ ap (λ (a : After). a.reports) (after_end f rows depth s follow c free is))
          (goes_end (table_of f) follow.formed (subst (λ (d : ℕ). stream.Prefix (table_of f) s.stream.events d) (all_closed f rows depth s follow c free is) follow.reads))
      go (Kind.nothing is) = absurd (passed_as f rows depth s follow c free Unknown is)

---------------------------------------------------------------- all reports so far

joined_one : (rs : List (List ℕ)) (words : List ℕ) → joined (rs ++ (words ∷ [])) ≡ joined rs ++ words
joined_one [] words = append-nil words
joined_one (r ∷ rs) words = ap (λ (xs : List ℕ). r ++ xs) (joined_one rs words) ∙ sym (append_assoc r (joined rs) words)

abbrev pub FarOf : List ℕ → Watching → Type 0
FarOf f s = SoFar (table_of f) s.stream (joined s.reports)

so_far_call : (f : List ℕ) (rows depth : ℕ) (s : Watching) → Follows f rows depth s → FarOf f s → (c : Call) → FarOf f (called f s c)
so_far_call f rows depth s follow far c = go (judged_of f s c) refl
  where
    go : (j : Judged) → judged_of f s c ≡ j → FarOf f (called f s c)
    go (Ok done) passes =
        let told : (called f s c).reports ≡ s.reports ++ (given f s c ∷ []) =
        ap (λ (x : Watching). x.reports) (taken_call f s c passes) ∙ ap (λ (words : List ℕ). s.reports ++ (words ∷ [])) (sym (given_is f s c passes)) in
        subst (SoFar (table_of f) (called f s c).stream) (sym (ap joined told ∙ joined_one s.reports (given f s c)))
        (so_far_on (table_of f) s.stream (called f s c).stream (joined s.reports) (given f s c) far (goes_on f rows depth s follow c passes))
    go (Err why) e = subst (FarOf f) (sym (refused_call f s c why e)) far

so_far_calls : (f : List ℕ) (rows depth : ℕ) (cs : List Call) (s : Watching) → Follows f rows depth s → FarOf f s → FarOf f (called_all f s cs)
so_far_calls f rows depth [] s follow far = far
so_far_calls f rows depth (c ∷ cs) s follow far =
    so_far_calls f rows depth cs (called f s c) (follows_call f rows depth s follow c) (so_far_call f rows depth s follow far c)

pub so_far_watching : (f : List ℕ) (rows depth : ℕ) (work : List ℕ) → Started f rows depth work → (cs : List Call) → FarOf f (watching f rows depth work cs)
so_far_watching f rows depth work h cs =
    so_far_calls f rows depth cs (begun f rows depth work) (follows_start f rows depth work h) (so_far_none (table_of f))

---------------------------------------------------------------- what was decided stays decided

-- A property of streams that every taken event keeps.
kept_by_calls :
    (f : List ℕ) (rows depth : ℕ) (P : Stream → Type 0) →
    ((before after : Stream) (words : List ℕ) → Goes (table_of f) before after words → P before → P after) →
    (cs : List Call) (s : Watching) → Follows f rows depth s → P s.stream → P (called_all f s cs).stream
kept_by_calls f rows depth P keeps [] s follow h = h
kept_by_calls f rows depth P keeps (c ∷ cs) s follow h =
    kept_by_calls f rows depth P keeps cs (called f s c) (follows_call f rows depth s follow c) (go (judged_of f s c) refl)
  where
    go : (j : Judged) → judged_of f s c ≡ j → P (called f s c).stream
    go (Ok done) passes = keeps s.stream (called f s c).stream (given f s c) (goes_on f rows depth s follow c passes) h
    go (Err why) e = subst (λ (x : Watching). P x.stream) (sym (refused_call f s c why e)) h

---------------------------------------------------------------- what is in rows

module _ (f : List ℕ) (rows depth : ℕ) (s : Watching) (follow : Follows f rows depth s) where
  abbrev t : Table
  t = table_of f

  abbrev w : List stream.Event
  w = s.stream.events

  -- The rows of a watch, before its end and after it.
  abbrev rows_at : Bool → List Held
  rows_at false = (memory_after t w).alive
  rows_at true = []

  pub rows_now : (memory_of s.now s.work).alive ≡ rows_at s.stream.ended
  rows_now = go s.stream.ended refl
    where
      go : (b : Bool) → s.stream.ended ≡ b → (memory_of s.now s.work).alive ≡ rows_at b
      go false e = ap (λ (m : Memory). m.alive) (memory_now f rows depth s follow e)
      go true e = ap (λ (r : Record). (memory_of r s.work).alive) (follow.now_is ∙ ap (record_at t rows depth follow.levels w) e)

  alive_at : (b : Bool) → AliveAre t (record { events = w; ended = b }) (positions_of (rows_at b))
  alive_at false = alive_going t follow.formed follow.reads
  alive_at true = alive_over t w

  pub rows_alive : AliveAre t s.stream (positions_of (memory_of s.now s.work).alive)
  rows_alive = subst (λ (hs : List Held). AliveAre t s.stream (positions_of hs)) (sym rows_now) (alive_at s.stream.ended)

  theirs_at : (b : Bool) (h : Held) → In h (rows_at b) → h ≡ held_after t w h.position
  theirs_at false h m = held_is t w h m
  theirs_at true h m = absurd (in_nil m)

  pub decided_at : (b : Bool) → b ≡ true → (i : ℕ) → CertainIn t (record { events = w; ended = b }) i ⊎ RuledOutIn t (record { events = w; ended = b }) i
  decided_at false e i = absurd (true≢false (sym e))
  decided_at true e i = over_decides t w i

  pub standing_demand_3 : FarOf f s → StandingDemand3 f s
  standing_demand_3 far =
      record {
        rows_are_alive = rows_alive;
        rows_are_theirs = λ h m. theirs_at s.stream.ended h (subst (In h) rows_now m);
        decided_in_no_row = λ i d m. let (r, a) = (rows_alive.exactly i).0 m in ⊎_elim a.0 a.1 d;
        reported_selected = far.selected;
        reported_failed = far.failed;
        never_overturned = λ i further. (
          λ m. kept_by_calls f rows depth (λ x. CertainIn t x i) (λ b a words g. g.certain_stays i) further s follow ((far.selected i).0 m).1,
          λ m. kept_by_calls f rows depth (λ x. RuledOutIn t x i) (λ b a words g. g.ruled_out_stays i) further s follow ((far.failed i).0 m).1,
        );
        end_decides = λ e i r. decided_at s.stream.ended e i;
      }

module _ (f : List ℕ) (rows depth : ℕ) (s : Watching) (follow : Follows f rows depth s) (c : Call) where
  pub next_demand_3 : outcome_number (outcome_of f s c) ≡ 0 → Demand3 f s c
  next_demand_3 taken =
      let g = goes_on f rows depth s follow c (taken_judged f s.now s.work c.lent c.byte taken) in
      let pending : (i : ℕ) → Read s.stream i → AliveIn (table_of f) s.stream i → Pending (table_of f) s.stream (called f s c).stream i =
      λ i r a. record { read = g.read_stays i r; undecided = λ x. a } in
      record {
        timely = g.timely;
        nothing_else = λ words h. timely_same (table_of f) s.stream (called f s c).stream words (given f s c) h g.timely;
        end_reports_all = λ e i r a.
            ⊎_elim (λ h. inl ((g.timely.selected i).1 (pending i r a, h))) (λ h. inr ((g.timely.failed i).1 (pending i r a, h)))
            (decided_at f rows depth (called f s c) (follows_call f rows depth s follow c) (called f s c).stream.ended e i);
      }

---------------------------------------------------------------- the demand

module _ (f : List ℕ) (rows depth : ℕ) (work : List ℕ) (started : Started f rows depth work) (cs : List Call) where
  pub demand_3 : (c : Call) → outcome_number (outcome_of f (watching f rows depth work cs) c) ≡ 0 → Demand3 f (watching f rows depth work cs) c
  demand_3 c taken = next_demand_3 f rows depth (watching f rows depth work cs) (follows_watching f rows depth work started cs) c taken

  pub demand_3_standing : StandingDemand3 f (watching f rows depth work cs)
  demand_3_standing =
      standing_demand_3 f rows depth (watching f rows depth work cs) (follows_watching f rows depth work started cs)
      (so_far_watching f rows depth work started cs)
