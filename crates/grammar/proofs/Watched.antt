-- Whole streams of bytes against the streams that are watched (01, "Events and positions"): the events that the bytes mean
-- are read, labelled closes or not, and events that are read within depth 40 have such bytes. Assumes at most 32 labels.
use mathlib.Core.Path.{◌≡◌, refl, ap, ap₂, ◌∙◌}
use mathlib.Core.List.{List, [], ◌∷◌, ◌++◌, append_assoc, append-nil, map}
use Prim.Native.Nat.{ℕ, suc, pred, ◌+◌, ◌<◌}
use native.Mathlib.Omega.{arith}
use lib.ListN.{length}
use Rattle.meaning.specs.Streams as stream
use Rattle.meaning.specs.Streams.{Reads, open_after}
use Rattle.meaning.proofs.Rows.{AllBelow}
use Rattle.answers.specs.declared.Event.{Event}
use Rattle.answers.specs.Bytes.{meaning_of, event_of, events_of}
use Rattle.grammar.specs.Streams.{Opens, Stream, labelled_by, labelled}
use Rattle.grammar.proofs.Labelling.{byte_opens, byte_points, byte_closes_its, Means, byte_means, below_after}

events_append : (w v : List ℕ) → events_of (w ++ v) ≡ events_of w ++ events_of v
events_append [] v = refl
events_append (b ∷ w) v = rw (events_append w v, append_assoc (event_of (meaning_of b)) (events_of w) (events_of v))

label_means : {o : List ℕ} {b : ℕ} {e : Event} → AllBelow 32 o → Means b e → meaning_of b ≡ e
    → event_of (meaning_of (labelled_by e o b)) ≡ event_of e
label_means k (Means.opens h) q = ap event_of q
label_means k (Means.points h) q = ap event_of q
label_means AllBelow.none Means.closes q = refl
label_means (AllBelow.more {q = a} h k) Means.closes q = rw (byte_closes_its a h)
label_means k (Means.closes_its h) q = ap event_of q
label_means k Means.ends q = ap event_of q
label_means k Means.other q = ap event_of q

-- Bytes mean the same events with their closes labelled.
pub labelled_means_the_same : (o w : List ℕ) → AllBelow 32 o → events_of (labelled o w) ≡ events_of w
labelled_means_the_same o [] k = refl
labelled_means_the_same o (b ∷ w) k =
    ap₂ (λ (u v : List stream.Event). u ++ v) (label_means k (byte_means b) refl)
    (labelled_means_the_same (open_after o (event_of (meaning_of b))) w (below_after (byte_means b) k))

-- The byte of an event, by its label.
abbrev pub byte_for : stream.Event → ℕ
byte_for (stream.Open a) = a
byte_for (stream.Point a) = 32 + a
byte_for stream.Close = 64

-- From d open levels on, no event opens a level at 40.
abbrev pub Shallow : ℕ → List stream.Event → Type 0
Shallow d [] = Unit {0}
Shallow d (stream.Open a ∷ v) = (d < 40) × Shallow (suc d) v
Shallow d (stream.Point a ∷ v) = Shallow d v
Shallow d (stream.Close ∷ v) = Shallow (pred d) v

module _ (k : ℕ) (few : k < 33) where
  -- The events that the bytes mean are read, within depth 40.
  pub opens_read : {o o' w : List ℕ} → AllBelow k o → Opens k o w o'
      → Reads k (length o) (events_of w) (length o') × Shallow (length o) (events_of w)
  opens_read b Opens.nothing = (Reads.none, tt)
  opens_read b (Opens.opens {a = a} h d n) =
      let r = opens_read (AllBelow.more h b) n in
      rw (byte_opens a (omega arith)) (Reads.opens h r.0, (d, r.1))
  opens_read b (Opens.points {a = a} h n) =
      let r = opens_read b n in
      rw (byte_points a (omega arith)) (Reads.points h r.0, r.1)
  opens_read (AllBelow.more h b) (Opens.closes n) =
      let r = opens_read b n in
      (Reads.closes r.0, r.1)
  opens_read (AllBelow.more h b) (Opens.closes_its {a = a} n) =
      let r = opens_read b n in
      rw (byte_closes_its a (omega arith)) (Reads.closes r.0, r.1)

  -- A whole stream of bytes means a whole stream of events.
  pub stream_read : {w : List ℕ} → Stream k w → Reads k 0 (events_of w) 0 × Shallow 0 (events_of w)
  stream_read {w} s =
      rw (ap events_of s.ends ∙ (events_append s.events (65 ∷ []) ∙ append-nil (events_of s.events)))
      (opens_read AllBelow.none s.opens)

  -- Events that are read within depth 40 have bytes,
  pub read_opens : {d e : ℕ} {v : List stream.Event} (o : List ℕ) → length o ≡ d → Reads k d v e → Shallow d v
      → Opens k o (map byte_for v) (open_after o v) × (length (open_after o v) ≡ e)
  read_opens o q Reads.none h = (Opens.nothing, q)
  read_opens o q (Reads.opens {a = a} l r) h =
      let t = read_opens (a ∷ o) (ap suc q) r h.1 in
      (Opens.opens {o = o} l (omega (arith, h.0)) t.0, t.1)
  read_opens o q (Reads.points l r) h = let t = read_opens o q r h in (Opens.points l t.0, t.1)
  read_opens [] q (Reads.closes r) h = absurd (omega arith)
  read_opens (a ∷ o) q (Reads.closes r) h = let t = read_opens o (omega arith) r h in (Opens.closes t.0, t.1)

  -- which mean them;
  pub bytes_mean : {d e : ℕ} {v : List stream.Event} → Reads k d v e → events_of (map byte_for v) ≡ v
  bytes_mean Reads.none = refl
  bytes_mean (Reads.opens {a = a} l r) = rw (byte_opens a (omega arith), bytes_mean r)
  bytes_mean (Reads.points {a = a} l r) = rw (byte_points a (omega arith), bytes_mean r)
  bytes_mean (Reads.closes r) = rw (bytes_mean r)

  -- and those of a whole stream, with byte 65 after them, are one.
  pub read_stream : {v : List stream.Event} → Reads k 0 v 0 → Shallow 0 v → Stream k (map byte_for v ++ (65 ∷ []))
  read_stream {v} r h =
      let t = read_opens [] refl r h in
      record { events = map byte_for v; opens = rw (none_open (open_after [] v) t.1) at t.0; ends = refl }
    where
      none_open : (o : List ℕ) → length o ≡ 0 → o ≡ []
      none_open [] q = refl
      none_open (a ∷ o) q = absurd (omega arith)
