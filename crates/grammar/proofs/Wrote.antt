-- What the writer takes without a fault, event by event and over all events; and that it writes the same for a close with
-- its label as for one without. Assumes nothing.
use mathlib.Core.Path.{◌≡◌, refl, ap}
use mathlib.Core.Bool.{Bool, true, false, cond, ◌&&◌}
use mathlib.Core.List.{List, [], ◌∷◌, ◌++◌}
use Prim.Native.Nat.{ℕ, suc, ◌+◌}
use lib.Dec.{eqb, ltb, eqb-suc-zero}
use lib.ListN.{length}
use borrow.Author.Tests.{ltb-true, eq-eqb, eqb-true}
use Rattle.answers.specs.declared.Event.{Event}
use Rattle.answers.specs.declared.Event.TheVariants as event
use Rattle.answers.specs.Bytes.{meaning_of, event_of}
use Rattle.meaning.specs.Streams.{open_after}
use Rattle.meaning.proofs.Rows.{AllBelow}
use Rattle.meaning.proofs.Tests.{both_true}
use Rattle.grammar.specs.declared.Fault.TheVariants as fault
use Rattle.grammar.specs.Names.{name_at}
use Rattle.grammar.specs.Tags.{Tag, tag_text}
use Rattle.grammar.specs.Streams.{Opens, labelled_by, labelled}
use Rattle.grammar.specs.Feeding.{Step, goes_on, stopped, stepped, Fed, after, feed}
use Rattle.grammar.specs.Writing.{Written, after_tag, close_tag, close_of_tag, write_event, write_step}
use Rattle.grammar.proofs.Feeding.{feed_on}
use Rattle.grammar.proofs.Pieces.{true_false}
use Rattle.grammar.proofs.Labelling.{byte_closes_its, Means, byte_means, below_after}

-- After byte 65.
abbrev pub finished : Written
finished = record { levels = []; ended = true }

-- Events after events.
pub opens_join : {k : ℕ} {o o' o'' w v : List ℕ} → Opens k o w o' → Opens k o' v o'' → Opens k o (w ++ v) o''
opens_join Opens.nothing r = r
opens_join (Opens.opens h d n) r = Opens.opens h d (opens_join n r)
opens_join (Opens.points h n) r = Opens.points h (opens_join n r)
opens_join (Opens.closes n) r = Opens.closes (opens_join n r)
opens_join (Opens.closes_its n) r = Opens.closes_its (opens_join n r)

-- A byte taken after o: it leads on as the event e does, or it is 65 and nothing is open.
data Took (k : ℕ) (o : List ℕ) (b : ℕ) (e : Event) (x : Step Written) : Type 0 where
  leads : {out : List ℕ} → Opens k o (b ∷ []) (open_after o (event_of e)) → x ≡ stepped (after_tag (open_after o (event_of e))) out
      → Took k o b e x
  end : o ≡ [] → b ≡ 65 → x ≡ stepped finished [] → Took k o b e x

-- Events taken after o: they lead on, perhaps followed by byte 65 where nothing is open.
pub data Wrote (k : ℕ) (o es : List ℕ) (f : Fed Written) : Type 0 where
  events : {o' : List ℕ} → Opens k o es o' → f.state ≡ after_tag o' → Wrote k o es f
  whole : {es' : List ℕ} → Opens k o es' [] → es ≡ es' ++ (65 ∷ []) → f.state ≡ finished → Wrote k o es f

-- A step that goes on only by a test has passed it.
passed : (x : Bool) (c w : Written) (out : List ℕ) → goes_on (cond x (stepped c out) (stopped w fault.Byte)).stops ≡ true → x ≡ true
passed true c w out g = refl
passed false c w out g = g

module _ (ns : List (List ℕ)) where
  took_close : (o : List ℕ) → goes_on (close_tag ns (after_tag o) o).stops ≡ true
      → Took (length ns) o 64 event.Close (close_tag ns (after_tag o) o)
  took_close [] g = absurd (true_false g refl)
  took_close (a ∷ o) g = Took.leads (Opens.closes Opens.nothing) refl

  took_close_of : (a : ℕ) (o : List ℕ) → goes_on (close_of_tag ns (after_tag o) a o).stops ≡ true
      → Took (length ns) o (66 + a) (event.CloseOf a) (close_of_tag ns (after_tag o) a o)
  took_close_of a [] g = absurd (true_false g refl)
  took_close_of a (c ∷ o) g =
      let e = passed (eqb a c) (after_tag o) (after_tag (c ∷ o)) (tag_text (Tag.closing (name_at ns c))) g in
      let q : a ≡ c = eqb-true a c e in
      rw e (rw q (Took.leads (Opens.closes_its Opens.nothing) refl))

  took_end : (o : List ℕ) → goes_on (write_event ns (after_tag o) event.End).stops ≡ true
      → Took (length ns) o 65 event.End (write_event ns (after_tag o) event.End)
  took_end [] g = Took.end refl refl refl
  took_end (a ∷ o) g =
      let e = passed (eqb (suc (length o)) 0) (record { levels = a ∷ o; ended = true }) (after_tag (a ∷ o)) [] g in
      absurd (true_false e (eqb-suc-zero (length o)))

  took : (o : List ℕ) {b : ℕ} {e : Event} → Means b e → goes_on (write_event ns (after_tag o) e).stops ≡ true
      → Took (length ns) o b e (write_event ns (after_tag o) e)
  took o (Means.opens {a = a} h) g =
      let e = passed (ltb a (length ns) && ltb (length o) 40) (after_tag (a ∷ o)) (after_tag o) (tag_text (Tag.opening (name_at ns a))) g in
      let p = both_true (ltb a (length ns)) (ltb (length o) 40) e in
      rw (p.0, p.1)
      (Took.leads (Opens.opens (ltb-true a (length ns) p.0) (ltb-true (length o) 40 p.1) Opens.nothing) refl)
  took o (Means.points {a = a} h) g =
      let e = passed (ltb a (length ns)) (after_tag o) (after_tag o) (tag_text (Tag.empty (name_at ns a))) g in
      rw e (Took.leads (Opens.points (ltb-true a (length ns) e) Opens.nothing) refl)
  took o Means.closes g = took_close o g
  took o (Means.closes_its {a = a} h) g = took_close_of a o g
  took o Means.ends g = took_end o g
  took o Means.other g = absurd (true_false g refl)

  -- After byte 65 nothing more is taken.
  nothing_more : (es : List ℕ) → goes_on (feed (write_step ns) finished es).stops ≡ true → es ≡ []
  nothing_more [] g = refl
  nothing_more (b ∷ es) g = absurd (true_false g refl)

  -- What is taken without a fault leads on, and perhaps ends with byte 65.
  pub taken_wrote : (es o : List ℕ) → goes_on (feed (write_step ns) (after_tag o) es).stops ≡ true
      → Wrote (length ns) o es (feed (write_step ns) (after_tag o) es)
  taken_wrote [] o g = Wrote.events Opens.nothing refl
  taken_wrote (b ∷ es) o g = go (goes_on (write_step ns (after_tag o) b).stops) refl (taken_wrote es)
    where
      all : Fed Written
      all = feed (write_step ns) (after_tag o) (b ∷ es)

      onward : {o' : List ℕ} (out : List ℕ) → Opens (length ns) o (b ∷ []) o'
          → all ≡ after out 1 (feed (write_step ns) (after_tag o') es)
          → Wrote (length ns) o' es (feed (write_step ns) (after_tag o') es) → Wrote (length ns) o (b ∷ es) all
      onward out n q (Wrote.events m e) = Wrote.events (opens_join n m) (rw q e)
      onward out n q (Wrote.whole m p e) = Wrote.whole (opens_join n m) (ap (λ (l : List ℕ). b ∷ l) p) (rw q e)

      after_byte : Took (length ns) o b (meaning_of b) (write_step ns (after_tag o) b)
          → ((o' : List ℕ) → goes_on (feed (write_step ns) (after_tag o') es).stops ≡ true
          → Wrote (length ns) o' es (feed (write_step ns) (after_tag o') es))
          → Wrote (length ns) o (b ∷ es) all
      after_byte (Took.leads {out = out} n e) ih =
          let o' = open_after o (event_of (meaning_of b)) in
          let q : all ≡ after out 1 (feed (write_step ns) (after_tag o') es) =
          feed_on (write_step ns) (after_tag o) (after_tag o') out b es e in
          onward out n q (ih o' (rw q at g))
      after_byte (Took.end p r e) ih =
          let q : all ≡ after [] 1 (feed (write_step ns) finished es) = feed_on (write_step ns) (after_tag o) finished [] b es e in
          let z : es ≡ [] = nothing_more es (rw q at g) in
          Wrote.whole {es' = []} (rw p Opens.nothing) (rw (r, z)) (rw (q, z))

      go : (x : Bool) → goes_on (write_step ns (after_tag o) b).stops ≡ x
          → ((o' : List ℕ) → goes_on (feed (write_step ns) (after_tag o') es).stops ≡ true
          → Wrote (length ns) o' es (feed (write_step ns) (after_tag o') es))
          → Wrote (length ns) o (b ∷ es) all
      go true t ih = after_byte (took o (byte_means b) t) ih
      go false t ih = absurd (true_false (rw t at g) t)

  -- A byte is written alike with its label and without.
  label_written : {o : List ℕ} {b : ℕ} {e : Event} → AllBelow 32 o → Means b e → meaning_of b ≡ e
      → write_event ns (after_tag o) (meaning_of (labelled_by e o b)) ≡ write_event ns (after_tag o) e
  label_written {o} k (Means.opens h) q = ap (write_event ns (after_tag o)) q
  label_written {o} k (Means.points h) q = ap (write_event ns (after_tag o)) q
  label_written AllBelow.none Means.closes q = refl
  label_written (AllBelow.more {q = a} h k) Means.closes q = rw (byte_closes_its a h, eq-eqb a a refl)
  label_written {o} k (Means.closes_its h) q = ap (write_event ns (after_tag o)) q
  label_written {o} k Means.ends q = ap (write_event ns (after_tag o)) q
  label_written {o} k Means.other q = ap (write_event ns (after_tag o)) q

  -- So are all bytes, whether or not a stream goes on with them.
  pub write_labelled : (o w : List ℕ) → AllBelow 32 o
      → feed (write_step ns) (after_tag o) (labelled o w) ≡ feed (write_step ns) (after_tag o) w
  write_labelled o [] k = refl
  write_labelled o (b ∷ w) k =
      go (goes_on (write_step ns (after_tag o) b).stops) refl (write_labelled o' w (below_after (byte_means b) k))
    where
      o' : List ℕ
      o' = open_after o (event_of (meaning_of b))

      byte : write_step ns (after_tag o) (labelled_by (meaning_of b) o b) ≡ write_step ns (after_tag o) b
      byte = label_written k (byte_means b) refl

      ended : (v : List ℕ) → feed (write_step ns) finished (labelled o' v) ≡ feed (write_step ns) finished v
      ended [] = refl
      ended (c ∷ v) = refl

      rest : Took (length ns) o b (meaning_of b) (write_step ns (after_tag o) b)
          → feed (write_step ns) (after_tag o') (labelled o' w) ≡ feed (write_step ns) (after_tag o') w
          → feed (write_step ns) (write_step ns (after_tag o) b).next (labelled o' w)
          ≡ feed (write_step ns) (write_step ns (after_tag o) b).next w
      rest (Took.leads n e) ih = rw e ih
      rest (Took.end p r e) ih = rw e (ended w)

      go : (x : Bool) → goes_on (write_step ns (after_tag o) b).stops ≡ x
          → feed (write_step ns) (after_tag o') (labelled o' w) ≡ feed (write_step ns) (after_tag o') w
          → feed (write_step ns) (after_tag o) (labelled o (b ∷ w)) ≡ feed (write_step ns) (after_tag o) (b ∷ w)
      go true t ih = rw (byte, rest (took o (byte_means b) t) ih)
      go false t ih = rw (byte, t)
