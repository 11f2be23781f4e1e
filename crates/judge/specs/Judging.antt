-- All refusals but that for want of rows, line by line in the order of checking: each line is a test on what the call was
-- given (01, "Refusal numbers", and 02 from K2 on). Definitions only.
use Rattle.std.specs.Prelude.{Result, Ok, Err, Option, None, Some, Bool, true, false, not, cond, ◌&&◌, ◌||◌, List, [], ◌∷◌, ◌++◌, ℕ, suc, ◌+◌, eqb, leb, ltb, length, get_or}
use Rattle.meaning.specs.Refusals.{Line}
use Rattle.bodies.specs.Sound.{states_in, labels_in}
use Rattle.table.specs.File.{between, is_short, header_right, contents_right, length_right, bodies_right, by_contents, by_bodies}
use Rattle.table.specs.declared.Refusal.TheVariants as file
use Rattle.places.specs.Places.{work_length, labels_part, label_at}
use Rattle.order.specs.declared.Shape.{Shape}
use Rattle.order.specs.Order.{first_fault}
use Rattle.answers.specs.declared.Record.{Record}
use Rattle.answers.specs.declared.Event.{Event}
use Rattle.answers.specs.declared.Event.TheVariants.{Open, Point, Close, CloseOf, End, Unknown}
use Rattle.answers.specs.declared.Refusal.{Refusal}
use Rattle.answers.specs.declared.Refusal.TheVariants as why
use Rattle.answers.specs.Answers.{refusal_number, refusal_rank}

-- A judgement: a refusal, or none.
abbrev pub Judged : Type 0
Judged = Result (Unit {0}) Refusal

abbrev pub fine : Judged
fine = Ok tt

-- A line that refuses.
abbrev pub refuses : Bool → Refusal → Line Judged
refuses applies why = record { applies = applies; gives = Err why }

-- The number and the rank of what a judgement gives: 0 where nothing is refused.
abbrev pub judged_number : Judged → ℕ
judged_number (Ok done) = 0
judged_number (Err why) = refusal_number why

abbrev pub judged_rank : Judged → ℕ
judged_rank (Ok done) = 0
judged_rank (Err why) = refusal_rank why

-- 1 to 5: the table file.
abbrev pub table_lines : List ℕ → List (Line Judged)
table_lines f =
    refuses (is_short f) (why.Table file.Short)
    ∷ refuses (not (header_right f)) (why.Table file.Header)
    ∷ refuses (not (contents_right f)) (why.Table (by_contents f))
    ∷ refuses (not (length_right f)) (why.Table file.Length)
    ∷ refuses (not (bodies_right f)) (why.Table (by_bodies f))
    ∷ []

-- 6, put the other way: rows and depth allowed in range, and work memory of the length that they fix.
abbrev pub sizes_right : ℕ → ℕ → ℕ → Bool
sizes_right rows allowed size = between 1 64 rows && (between 1 40 allowed && eqb size (work_length rows allowed))

-- The record by itself is in order; a finished one has depth 0 and alive count 0.
abbrev pub record_right : Record → Bool
record_right r =
    leb r.alive r.rows
    && (leb r.depth r.allowed
    && (leb r.positions 2147483647
    && (not r.finished || (eqb r.depth 0 && eqb r.alive 0))))

-- What work memory is judged by, for a table with n states and k labels. A finished watch uses no row.
abbrev pub shape_of : Record → ℕ → ℕ → Shape
shape_of r n k =
    record {
      rows = r.rows + 1;
      allowed = r.allowed;
      used = cond r.finished 0 (r.alive + 1);
      depth = r.depth;
      states = n;
      positions = r.positions;
      labels = k;
    }

-- The first word that breaks the order; the length of work memory where the record by itself breaks it.
abbrev pub fault_of : Record → ℕ → ℕ → List ℕ → Option ℕ
fault_of r n k work = cond (record_right r) (first_fault (shape_of r n k) work) (Some (length work))

abbrev pub is_fault : Option ℕ → Bool
is_fault None = false
is_fault (Some place) = true

abbrev pub fault_at : Option ℕ → ℕ
fault_at None = 0
fault_at (Some place) = place

-- 6 to 8 of an event.
abbrev pub call_lines : ℕ → ℕ → Record → List ℕ → ℕ → List (Line Judged)
call_lines n k r work reports =
    refuses (not (sizes_right r.rows r.allowed (length work)) || ltb reports (r.rows + 1)) why.Sizes
    ∷ refuses (is_fault (fault_of r n k work)) (why.Order (fault_at (fault_of r n k work)))
    ∷ refuses r.finished why.Finished
    ∷ []

-- 9: the byte means nothing.
abbrev pub is_unknown : Event → Bool
is_unknown (Open a) = false
is_unknown (Point a) = false
is_unknown Close = false
is_unknown (CloseOf a) = false
is_unknown End = false
is_unknown Unknown = true

-- 10: the label is ≥ k.
abbrev pub label_wrong : ℕ → Event → Bool
label_wrong k (Open a) = leb k a
label_wrong k (Point a) = leb k a
label_wrong k Close = false
label_wrong k (CloseOf a) = leb k a
label_wrong k End = false
label_wrong k Unknown = false

-- 11: a close with nothing open.
abbrev pub closes_nothing : ℕ → Event → Bool
closes_nothing d (Open a) = false
closes_nothing d (Point a) = false
closes_nothing d Close = eqb d 0
closes_nothing d (CloseOf a) = eqb d 0
closes_nothing d End = false
closes_nothing d Unknown = false

-- 16: a close that names another label than the newest level's, whose word is x.
abbrev pub closes_another : ℕ → ℕ → Event → Bool
closes_another d x (Open a) = false
closes_another d x (Point a) = false
closes_another d x Close = false
closes_another d x (CloseOf a) = not (eqb d 0) && not (eqb x (suc a))
closes_another d x End = false
closes_another d x Unknown = false

-- The word of the newest level's label.
abbrev pub newest_word : Record → List ℕ → ℕ
newest_word r work = get_or (labels_part r.rows r.allowed work) (label_at r.depth) 0

-- 12: an open at the depth allowed.
abbrev pub opens_too_deep : ℕ → ℕ → Event → Bool
opens_too_deep d allowed (Open a) = leb allowed d
opens_too_deep d allowed (Point a) = false
opens_too_deep d allowed Close = false
opens_too_deep d allowed (CloseOf a) = false
opens_too_deep d allowed End = false
opens_too_deep d allowed Unknown = false

-- 13: an end with a level open.
abbrev pub ends_open : ℕ → Event → Bool
ends_open d (Open a) = false
ends_open d (Point a) = false
ends_open d Close = false
ends_open d (CloseOf a) = false
ends_open d End = ltb 0 d
ends_open d Unknown = false

-- 14: an open or point after position 2,147,483,647.
abbrev pub out_of_positions : ℕ → Event → Bool
out_of_positions p (Open a) = leb 2147483647 p
out_of_positions p (Point a) = leb 2147483647 p
out_of_positions p Close = false
out_of_positions p (CloseOf a) = false
out_of_positions p End = false
out_of_positions p Unknown = false

-- 9 to 11, 16, and 12 to 14, where x is the word of the newest level's label.
abbrev pub event_lines : ℕ → Record → ℕ → Event → List (Line Judged)
event_lines k r x e =
    refuses (is_unknown e) why.Unknown
    ∷ refuses (label_wrong k e) why.Label
    ∷ refuses (closes_nothing r.depth e) why.NothingOpen
    ∷ refuses (closes_another r.depth x e) why.ClosingLabel
    ∷ refuses (opens_too_deep r.depth r.allowed e) why.TooDeep
    ∷ refuses (ends_open r.depth e) why.LevelOpen
    ∷ refuses (out_of_positions r.positions e) why.Positions
    ∷ []

-- All of an event's but the last.
abbrev pub judged_lines : List ℕ → Record → List ℕ → ℕ → Event → List (Line Judged)
judged_lines f r work reports e =
    table_lines f ++ call_lines (states_in f) (labels_in f) r work reports ++ event_lines (labels_in f) r (newest_word r work) e

-- 1 to 6 of a start.
abbrev pub start_lines : List ℕ → ℕ → ℕ → ℕ → List (Line Judged)
start_lines f rows allowed size = table_lines f ++ (refuses (not (sizes_right rows allowed size)) why.Sizes ∷ [])
