-- A row's step by an event, and when its position is decided (01, "Record and work memory"). Definitions only.
use Rattle.std.specs.Prelude.{List, Bool, not, ◌||◌, ℕ, ◌+◌, ◌-◌, ◌<◌, ◌≤◌}
use Rattle.meaning.specs.Table.{Table}
use Rattle.meaning.specs.Streams.{Event, Open, Point, Close}
use Rattle.meaning.specs.Masks.{has}
use Rattle.meaning.specs.Rows.{Row, in_state, point_row, open_row, close_row, is_selecting, is_rejecting}
use Rattle.places.specs.Places.{row_length}
use Rattle.places.specs.Memory.{Held}
use Rattle.rows.specs.declared.Step.{Step}
use Rattle.rows.specs.declared.Step.TheVariants as step

-- The event of a stream that a step is.
abbrev pub event_of : Step → Event
event_of (step.Open a) = Open a
event_of (step.Point a) = Point a
event_of step.Close = Close

-- A row of w words with newest level d can take the event: the label is one of the table's, an open has room for its
-- level, and a close closes a level above level 0.
abbrev pub Can : Table → ℕ → ℕ → Event → Type 0
Can t w d (Open a) = (a < t.labels) × (row_length (d + 1) ≤ w)
Can t w d (Point a) = a < t.labels
Can t w d Close = 0 < d

-- The newest level once the event is taken, where it was d.
abbrev pub depth_after : Event → ℕ → ℕ
depth_after (Open a) d = d + 1
depth_after (Point a) d = d
depth_after Close d = d - 1

-- The row after the event.
abbrev pub step_row : Table → List ℕ → Event → Row → Row
step_row t accs (Open a) = open_row t accs a
step_row t accs (Point a) = point_row t a
step_row t accs Close = close_row t

-- The same position with another row.
abbrev pub on_row : (Row → Row) → Held → Held
on_row f h = record { position = h.position; row = f h.row }

-- The row with another newest state.
abbrev pub in_row : ℕ → Row → Row
in_row q r = record { newest = in_state r.newest q; below = r.below }

-- The newest state after the event; acc does not matter for it.
abbrev pub next_state : Table → Event → Row → ℕ
next_state t (Open a) r = t.opening a
next_state t (Point a) r = t.point r.newest.state a
next_state t Close r = (close_row t r).newest.state

-- State s is in neither of two sets.
abbrev pub neither : ℕ → ℕ → ℕ → Bool
neither x y s = not (has x s || has y s)

-- The newest state is in the newest selecting or rejecting set.
abbrev pub is_decided : Row → Bool
is_decided r = is_selecting r || is_rejecting r
