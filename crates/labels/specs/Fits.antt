-- When an event can be written down among the labels. Definitions only.
use Rattle.std.specs.Prelude.{ℕ, ◌<◌}
use Rattle.meaning.specs.Streams.{Event, Open, Point, Close}

-- Of n levels allowed d are open: an open has a level left and one of the 32 labels, a close has a level to close.
abbrev pub Fits : ℕ → ℕ → Event → Type 0
Fits n d (Open a) = (a < 32) × (d < n)
Fits n d (Point a) = Unit {0}
Fits n d Close = 0 < d
