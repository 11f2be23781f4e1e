-- What a call has to which no line applies: what each line asks, as a fact. Assumes nothing.
use Rattle.std.specs.Prelude.{Option, None, Some, Ok}
use mathlib.Core.Bool.{Bool, true, false, not, cond, ◌||◌, true≢false}
use mathlib.Core.List.{List}
use mathlib.Core.Path.{◌≡◌, refl, ap}
use Prim.Native.Nat.{ℕ, ◌+◌, ◌<◌, ◌≤◌}
use native.Mathlib.Omega.{arith}
use lib.Dec.{ltb}
use lib.ListN.{length}
use borrow.Author.Tests.{ltb-false, leb-false, eqb-false, not-false}
use Rattle.meaning.specs.Refusals.{first_of, applies_at}
use Rattle.bodies.specs.Sound.{Sound, states_in, labels_in}
use Rattle.table.specs.File.{is_short, header_right, contents_right, length_right, bodies_right, reading_of}
use Rattle.table.proofs.Sound.{taken_is_sound}
use Rattle.places.specs.Places.{work_length}
use Rattle.order.specs.Order.{first_fault}
use Rattle.answers.specs.declared.Record.{Record}
use Rattle.answers.specs.declared.Event.{Event}
use Rattle.answers.specs.declared.Event.TheVariants.{Open, Point, Close, CloseOf, End, Unknown}
use Rattle.judge.specs.Judging.{fine, judged_number, call_lines, judged_lines, start_lines, sizes_right, record_right, shape_of, fault_of, is_fault}
use Rattle.judge.proofs.Laws.{sized, within}
use Rattle.judge.proofs.Numbers.{judged_none, call_none, start_none}

-- What a call that passed 6 to 8 has, for a table with n states and k labels.
pub record Called (n k : ℕ) (r : Record) (work : List ℕ) (reports : ℕ) : Type 0 where
  pub few_rows : r.rows ≤ 64
  pub few_levels : r.allowed ≤ 40
  pub size : length work ≡ work_length r.rows r.allowed
  pub enough : r.rows < reports
  pub room : r.alive ≤ r.rows
  pub deep : r.depth ≤ r.allowed
  pub numbered : r.positions ≤ 2147483647
  pub in_order : first_fault (shape_of r n k) work ≡ None
  pub going_on : r.finished ≡ false

-- What a call that passed 1 to 8 has.
pub record Passed (f : List ℕ) (r : Record) (work : List ℕ) (reports : ℕ) : Type 0 where
  pub sound : Sound f
  pub called : Called (states_in f) (labels_in f) r work reports

-- What an event has that passed the lines after those, for a table with k labels.
abbrev pub EventPassed : ℕ → Record → Event → Type 0
EventPassed k r (Open a) = (a < k) × (r.depth < r.allowed) × (r.positions < 2147483647)
EventPassed k r (Point a) = (a < k) × (r.positions < 2147483647)
EventPassed k r Close = 0 < r.depth
EventPassed k r (CloseOf a) = 0 < r.depth
EventPassed k r End = r.depth ≡ 0
EventPassed k r Unknown = ⊥

-- What a start that passed 1 to 6 has.
pub record StartPassed (f : List ℕ) (rows allowed size : ℕ) : Type 0 where
  pub sound : Sound f
  pub few_rows : rows ≤ 64
  pub few_levels : allowed ≤ 40
  pub size_is : size ≡ work_length rows allowed

-- A file to which none of the table's lines applies.
sound_file :
    (f : List ℕ) → is_short f ≡ false → not (header_right f) ≡ false → not (contents_right f) ≡ false → not (length_right f) ≡ false →
    not (bodies_right f) ≡ false → Sound f
sound_file f a b c d e =
    let taken : reading_of f ≡ Ok (states_in f, labels_in f) = rw (a, b, c, d, e) in
    (taken_is_sound f (states_in f) (labels_in f) taken).0

pub neither : (a b : Bool) → (a || b) ≡ false → (a ≡ false) × (b ≡ false)
neither true b e = absurd (true≢false e)
neither false b e = (refl, e)

no_fault : (p : Option ℕ) → is_fault p ≡ false → p ≡ None
no_fault None e = refl
no_fault (Some place) e = absurd (true≢false e)

-- No fault is found: the record by itself is in order, and so are the words.
both_right : (b : Bool) (p : Option ℕ) (at : ℕ) → cond b p (Some at) ≡ None → (b ≡ true) × (p ≡ None)
both_right true p at e = (refl, e)
both_right false p at e = absurd (true≢false (ap is_fault e))

module _ (n k : ℕ) (r : Record) (work : List ℕ) (reports : ℕ) where
  -- None of 6 to 8 applies.
  none_called :
      not (sizes_right r.rows r.allowed (length work)) || ltb reports (r.rows + 1) ≡ false → is_fault (fault_of r n k work) ≡ false →
      r.finished ≡ false → Called n k r work reports
  none_called sizes order going =
      let both = neither (not (sizes_right r.rows r.allowed (length work))) (ltb reports (r.rows + 1)) sizes in
      let s = sized r.rows r.allowed (length work) (not-false (sizes_right r.rows r.allowed (length work)) both.0) in
      let enough : r.rows + 1 ≤ reports = ltb-false reports (r.rows + 1) both.1 in
      let fine = both_right (record_right r) (first_fault (shape_of r n k) work) (length work) (no_fault (fault_of r n k work) order) in
      let w = within r fine.0 in
      record {
        few_rows = s.few_rows;
        few_levels = s.few_levels;
        size = s.long;
        enough = omega (arith, enough);
        room = w.room;
        deep = w.deep;
        numbered = w.numbered;
        in_order = fine.1;
        going_on = going;
      }

  pub call_passed : first_of (call_lines n k r work reports) fine ≡ fine → Called n k r work reports
  call_passed h =
      let none = (call_none n k r work reports).0 (ap judged_number h) in
      none_called (none 0) (none 1) (none 2)

module _ (f work : List ℕ) (r : Record) (reports : ℕ) (e : Event) where
  -- No line applies.
  none : first_of (judged_lines f r work reports e) fine ≡ fine → (i : ℕ) → applies_at (judged_lines f r work reports e) i ≡ false
  none h = (judged_none f r work reports e).0 (ap judged_number h)

  pub passed : first_of (judged_lines f r work reports e) fine ≡ fine → Passed f r work reports
  passed h =
      let n = none h in
      record {
        sound = sound_file f (n 0) (n 1) (n 2) (n 3) (n 4);
        called = none_called (states_in f) (labels_in f) r work reports (n 5) (n 6) (n 7);
      }

pub event_passed :
    (f work : List ℕ) (r : Record) (reports : ℕ) (e : Event) → first_of (judged_lines f r work reports e) fine ≡ fine →
    EventPassed (labels_in f) r e
event_passed f work r reports (Open a) h =
    let n = none f work r reports (Open a) h in
    (leb-false (labels_in f) a (n 9), leb-false r.allowed r.depth (n 12), leb-false 2147483647 r.positions (n 14))
event_passed f work r reports (Point a) h =
    let n = none f work r reports (Point a) h in
    (leb-false (labels_in f) a (n 9), leb-false 2147483647 r.positions (n 14))
event_passed f work r reports Close h =
    let open-some : r.depth ≡ 0 → ⊥ = eqb-false r.depth 0 (none f work r reports Close h 10) in
    omega (arith, open-some)
event_passed f work r reports (CloseOf a) h =
    let open-some : r.depth ≡ 0 → ⊥ = eqb-false r.depth 0 (none f work r reports (CloseOf a) h 10) in
    omega (arith, open-some)
event_passed f work r reports End h =
    let closed : r.depth ≤ 0 = ltb-false 0 r.depth (none f work r reports End h 13) in
    omega (arith, closed)
event_passed f work r reports Unknown h = absurd (true≢false (none f work r reports Unknown h 8))

pub start_passed :
    (f : List ℕ) (rows allowed size : ℕ) → first_of (start_lines f rows allowed size) fine ≡ fine →
    StartPassed f rows allowed size
start_passed f rows allowed size h =
    let n = (start_none f rows allowed size).0 (ap judged_number h) in
    let s = sized rows allowed size (not-false (sizes_right rows allowed size) (n 5)) in
    record {
      sound = sound_file f (n 0) (n 1) (n 2) (n 3) (n 4);
      few_rows = s.few_rows;
      few_levels = s.few_levels;
      size_is = s.long;
    }
