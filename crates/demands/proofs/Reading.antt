-- A byte that was judged, as an event of the stream: what it means, and that the stream goes on with it. Assumes nothing.
use Rattle.std.specs.Prelude.{Ok, Err}
use Rattle.answers.specs.Answers.{Outcome}
use mathlib.Core.Bool.{false}
use mathlib.Core.List.{List, [], ◌∷◌, ◌++◌, append-nil, append_assoc}
use mathlib.Core.Path.{◌≡◌, refl, sym, ap, subst, ◌∙◌}
use Prim.Native.Nat.{ℕ, suc, ◌+◌, ◌-◌, ◌<◌, ◌≤◌}
use native.Mathlib.Numerals.{add-one}
use native.Mathlib.Omega.{arith}
use Rattle.meaning.specs.Table.{Table}
use Rattle.meaning.specs.Streams as stream
use Rattle.meaning.specs.Streams.{positions, Reads}
use Rattle.rows.specs.Steps.{depth_after}
use Rattle.answers.specs.declared.Record.{Record}
use Rattle.answers.specs.declared.Event.{Event}
use Rattle.answers.specs.declared.Event.TheVariants.{Open, Point, Close, CloseOf, End, Unknown}
use Rattle.answers.specs.Bytes.{meaning_of, event_of, events_of}
use Rattle.judge.proofs.Passed.{EventPassed}
use Rattle.engine.specs.Calls.{step_record, stepped, taking}
use Rattle.demands.specs.Watching.{Call, Stream, Watching, longer, on_taken, outcome_of, called, called_all, taken_bytes}

-- The events taken are those that the bytes are.
pub longer_events : (s : Stream) (x : Event) → (longer s x).events ≡ s.events ++ event_of x
longer_events s (Open a) = refl
longer_events s (Point a) = refl
longer_events s Close = refl
longer_events s (CloseOf a) = refl
longer_events s End = sym (append-nil s.events)
longer_events s Unknown = sym (append-nil s.events)

-- After any calls the stream has the events that the taken bytes are, and no other.
pub stream_is : (f : List ℕ) (s : Watching) (cs : List Call) → (called_all f s cs).stream.events ≡ s.stream.events ++ events_of (taken_bytes f s cs)
stream_is f s [] = sym (append-nil s.stream.events)
stream_is f s (c ∷ cs) = stream_is f (called f s c) cs ∙ go (outcome_of f s c)
  where
    rest : List ℕ
    rest = taken_bytes f (called f s c) cs

    go : (x : Outcome) →
        (on_taken x s.stream (longer s.stream (meaning_of c.byte))).events ++ events_of rest
        ≡ s.stream.events ++ events_of (on_taken x [] (c.byte ∷ []) ++ rest)
    go (Ok reports) =
        ap (λ (es : List stream.Event). es ++ events_of rest) (longer_events s.stream (meaning_of c.byte))
        ∙ append_assoc s.stream.events (event_of (meaning_of c.byte)) (events_of rest)
    go (Err why) = refl

-- What a byte means is this event of the stream. Both closes are one.
pub data Means : Event → stream.Event → Type 0 where
  opens : {a : ℕ} → Means (Open a) (stream.Open a)
  points : {a : ℕ} → Means (Point a) (stream.Point a)
  closes : Means Close stream.Close
  closes_its : {a : ℕ} → Means (CloseOf a) stream.Close

-- It is an event of the stream, the end, or nothing.
pub data Kind (x : Event) : Type 0 where
  event : (e : stream.Event) → Means x e → Kind x
  end : x ≡ End → Kind x
  nothing : x ≡ Unknown → Kind x

pub kind : (x : Event) → Kind x
kind (Open a) = Kind.event (stream.Open a) Means.opens
kind (Point a) = Kind.event (stream.Point a) Means.points
kind Close = Kind.event stream.Close Means.closes
kind (CloseOf a) = Kind.event stream.Close Means.closes_its
kind End = Kind.end refl
kind Unknown = Kind.nothing refl

pub taking_event : (t : Table) (r : Record) (work : List ℕ) {x : Event} {e : stream.Event} → Means x e → taking t r work x ≡ stepped t r work e
taking_event t r work Means.opens = refl
taking_event t r work Means.points = refl
taking_event t r work Means.closes = refl
taking_event t r work Means.closes_its = refl

pub longer_event : (s : Stream) {x : Event} {e : stream.Event} → Means x e → longer s x ≡ record { events = s.events ++ (e ∷ []); ended = s.ended }
longer_event s Means.opens = refl
longer_event s Means.points = refl
longer_event s Means.closes = refl
longer_event s Means.closes_its = refl

-- An event that passed the lines before the last is read, within the depth allowed and the positions that there are.
pub record Readable (k : ℕ) (r : Record) (e : stream.Event) : Type 0 where
  pub reads_on : Reads k r.depth (e ∷ []) (depth_after e r.depth)
  pub still_deep : depth_after e r.depth ≤ r.allowed
  pub still_numbered : r.positions + positions (e ∷ []) ≤ 2147483647

-- A close, where something is open.
closed_one : (k : ℕ) (r : Record) → 0 < r.depth → r.depth ≤ r.allowed → r.positions ≤ 2147483647 → Readable k r stream.Close
closed_one k r p d n =
    let e : r.depth ≡ suc (r.depth - 1) = omega (arith, p) in
    record { reads_on = subst (λ (x : ℕ). Reads k x (stream.Close ∷ []) (r.depth - 1)) (sym e) (Reads.closes Reads.none); still_deep = omega arith; still_numbered = omega arith }

pub readable :
    (k : ℕ) (r : Record) {x : Event} {e : stream.Event} → Means x e → EventPassed k r x → r.depth ≤ r.allowed → r.positions ≤ 2147483647 →
    Readable k r e
readable k r Means.opens p d n =
    record { reads_on = rw (add-one r.depth) (Reads.opens p.0 Reads.none); still_deep = omega (arith, p.1); still_numbered = omega (arith, p.2) }
readable k r Means.points p d n =
    record { reads_on = Reads.points p.0 Reads.none; still_deep = d; still_numbered = omega (arith, p.1) }
readable k r Means.closes p d n = closed_one k r p d n
readable k r Means.closes_its p d n = closed_one k r p d n

-- The record after an event is that of the stream with it.
pub record_on : (rows depth d alive p : ℕ) (e : stream.Event) →
    step_record e (record { rows = rows; allowed = depth; depth = d; alive = alive; positions = p; finished = false })
    ≡ record { rows = rows; allowed = depth; depth = depth_after e d; alive = alive; positions = p + positions (e ∷ []); finished = false }
record_on rows depth d alive p (stream.Open a) = refl
record_on rows depth d alive p (stream.Point a) = refl
record_on rows depth d alive p stream.Close = ap (λ (x : ℕ). record { rows = rows; allowed = depth; depth = d - 1; alive = alive; positions = x; finished = false }) (omega arith)
