-- A watch's own record and memory, handed back as received, are in order. Assumes a watch that a taken start and any calls led to.
use Rattle.std.specs.Prelude.{None}
use mathlib.Core.Bool.{Bool, true, false, not}
use mathlib.Core.List.{List, [], ◌∷◌, ◌++◌}
use mathlib.Core.Path.{◌≡◌, refl, sym, ap, ◌∙◌}
use Prim.Native.Nat.{ℕ, suc}
use native.Mathlib.Omega.{arith}
use native.Mathlib.Decide.{ℕ_discrete}
use borrow.Author.Tests.{le-leb, eq-eqb, ne_eqb}
use lib.Dec.{eqb}
use lib.ListN.{length, get_or}
use Rattle.meaning.specs.Table.{Table, table_of}
use Rattle.meaning.specs.Refusals.{Line}
use Rattle.meaning.specs.Streams as stream
use Rattle.meaning.specs.Streams.{open_after}
use Rattle.meaning.proofs.Rows as below
use Rattle.places.specs.Places.{label_at, work_length, labels_part}
use Rattle.places.specs.Memory.{work_words}
use Rattle.order.specs.Order.{first_fault}
use Rattle.answers.specs.declared.Record.{Record}
use Rattle.answers.specs.declared.Event.{Event}
use Rattle.answers.specs.declared.Event.TheVariants.{Open, Point, Close, CloseOf, End, Unknown}
use Rattle.answers.specs.Bytes.{meaning_of}
use Rattle.judge.specs.Judging.{Judged, table_lines, call_lines, event_lines, record_right, shape_of, fault_of, is_fault, closes_another, newest_word}
use Rattle.bodies.specs.Sound.{states_in, labels_in}
use Rattle.engine.specs.Calls.{taking, rows_lines}
use Rattle.following.specs.Following.{memory_after}
use Rattle.following.proofs.Ordered.{newest_back, in_order, zeros_in_order}
use Rattle.following.proofs.Held.{held_rise, memory_good}
use Rattle.following.proofs.Labels.{open_labels}
use Rattle.demands.specs.Watching.{Call, Watching, Started, watching}
use Rattle.demands.specs.Demands.{Handed, closes_other}
use Rattle.demands.proofs.Lines.{front_applies}
use Rattle.demands.proofs.Follows.{Follows, record_at, work_at, levels_open, now_going, work_going, numbers_now, work_long, follows_watching}

-- x is the word of the newest of the labels that are open, where one is.
abbrev IsNewest : ℕ → List ℕ → Type 0
IsNewest x [] = Unit {0}
IsNewest x (a ∷ o) = x ≡ suc a

-- Labels are compared by a word as they are themselves, either way round.
same_either_way : (x a b : ℕ) → x ≡ suc b → eqb x (suc a) ≡ eqb a b
same_either_way x a b e =
    elim (ℕ_discrete a b) [
      | yes h ↦ eq-eqb x (suc a) (omega (arith, e, h)) ∙ sym (eq-eqb a b h)
      | no h ↦ ne_eqb x (suc a) (λ q. h (omega (arith, e, q))) ∙ sym (ne_eqb a b h)
    ]

-- Judged by the newest level's word, as by the labels that are open, a close names another label than the newest.
closes_other_lem : (o : List ℕ) (x : ℕ) (e : Event) → IsNewest x o → closes_another (length o) x e ≡ closes_other o e
closes_other_lem o x (Open a) h = refl
closes_other_lem o x (Point a) h = refl
closes_other_lem o x Close h = refl
closes_other_lem [] x (CloseOf a) h = refl
closes_other_lem (b ∷ o) x (CloseOf a) h = rw (ne_eqb (suc (length o)) 0 (λ q. omega (arith, q))) (ap not (same_either_way x a b h))
closes_other_lem o x End h = refl
closes_other_lem o x Unknown h = refl

module _ (f : List ℕ) (rows depth : ℕ) (s : Watching) (follow : Follows f rows depth s) where
  abbrev t : Table
  t = table_of f

  abbrev w : List stream.Event
  w = s.stream.events

  right_at : (b : Bool) → record_right (record_at t rows depth follow.levels w b) ≡ true
  right_at false = rw (le-leb _ _ follow.room, le-leb _ _ follow.deep, le-leb _ _ follow.numbered)
  right_at true = rw (le-leb 0 rows (omega arith), le-leb 0 depth (omega arith), le-leb _ _ follow.numbered)

  fine_at : (b : Bool) → first_fault (shape_of (record_at t rows depth follow.levels w b) t.states t.labels) (work_at t rows depth w b) ≡ None
  fine_at false =
      in_order t.states rows depth follow.levels (stream.positions w) t.labels (memory_after t w) (open_after [] w) follow.few_levels follow.deep follow.room
      (memory_good t follow.formed follow.reads) (held_rise t w) (levels_open f rows depth s follow) (open_labels follow.reads [] below.none)
  fine_at true = zeros_in_order t.states rows depth (stream.positions w) t.labels (work_length rows depth)

  no_fault : fault_of s.now t.states t.labels s.work ≡ None
  no_fault =
      let b = s.stream.ended in
      ap (λ (r : Record). fault_of r t.states t.labels s.work) follow.now_is
      ∙ ap (fault_of (record_at t rows depth follow.levels w b) t.states t.labels) follow.work_is
      ∙ rw (right_at b) (fine_at b)

  newest_is : (o : List ℕ) → IsNewest (get_or (labels_part rows depth (work_words rows depth (memory_after t w) o)) (label_at (length o)) 0) o
  newest_is [] = tt
  newest_is (a ∷ o) =
      newest_back t.states rows depth follow.levels (memory_after t w) follow.few_levels follow.deep follow.room
      (memory_good t follow.formed follow.reads) a o

  labels_judged :
      s.stream.ended ≡ false → (x : Event) → closes_another s.now.depth (newest_word s.now s.work) x ≡ closes_other (open_after [] w) x
  labels_judged e x =
      let words : List ℕ = work_at t rows depth w false in
      ap (λ (r : Record). closes_another r.depth (newest_word r s.work) x) (now_going f rows depth s follow e)
      ∙ ap (λ (ws : List ℕ). closes_another follow.levels (get_or (labels_part rows depth ws) (label_at follow.levels) 0) x) (work_going f rows depth s follow e)
      ∙ ap (λ (d : ℕ). closes_another d (get_or (labels_part rows depth words) (label_at d) 0) x) (sym (levels_open f rows depth s follow))
      ∙ closes_other_lem (open_after [] w) _ x (newest_is (open_after [] w))

  pub next_handed : (c : Call) → Handed f rows s c
  next_handed c =
      let rest : List (Line Judged) =
      call_lines (states_in f) (labels_in f) s.now s.work (length c.lent) ++ event_lines (labels_in f) s.now (newest_word s.now s.work) (meaning_of c.byte)
      ++ rows_lines s.now (taking (table_of f) s.now s.work (meaning_of c.byte)) in
      record {
        file_right = λ i l. front_applies (table_lines f) rest i (omega (arith, l)) ∙ follow.file_right i l;
        size_right = rw ((numbers_now f rows depth s follow).0, (numbers_now f rows depth s follow).1, work_long f rows depth s follow, follow.sized);
        in_order = ap is_fault no_fault;
        going_on = (numbers_now f rows depth s follow).3;
        labels_right = λ e. labels_judged e (meaning_of c.byte);
      }

pub handed : (f : List ℕ) (rows depth : ℕ) (work : List ℕ) → Started f rows depth work → (cs : List Call) (c : Call) → Handed f rows (watching f rows depth work cs) c
handed f rows depth work started cs = next_handed f rows depth (watching f rows depth work cs) (follows_watching f rows depth work started cs)
