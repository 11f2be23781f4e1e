-- What an event byte means (01, "Events and positions", and 02, K2), and which event of a stream that is. Definitions only.
use Rattle.std.specs.Prelude.{cond, List, [], ◌∷◌, ◌++◌, ℕ, ◌-◌, eqb, ltb}
use Rattle.meaning.specs.Streams as stream
use Rattle.answers.specs.declared.Event.{Event}
use Rattle.answers.specs.declared.Event.TheVariants.{Open, Point, Close, CloseOf, End, Unknown}

-- 0 to 31 opens a node with that label; 32 to 63 is a point with label byte - 32; 64 closes; 65 ends; 66 to 97 closes
-- what was opened with label byte - 66; the others mean nothing.
abbrev pub meaning_of : ℕ → Event
meaning_of byte =
    cond (ltb byte 32) (Open byte)
    (cond (ltb byte 64) (Point (byte - 32))
    (cond (eqb byte 64) Close
    (cond (eqb byte 65) End
    (cond (ltb byte 98) (CloseOf (byte - 66)) Unknown))))

-- The event of a stream that it is: both closes are one. The end is none, nor is what means nothing.
abbrev pub event_of : Event → List stream.Event
event_of (Open a) = stream.Open a ∷ []
event_of (Point a) = stream.Point a ∷ []
event_of Close = stream.Close ∷ []
event_of (CloseOf a) = stream.Close ∷ []
event_of End = []
event_of Unknown = []

-- The events of a stream that bytes are.
abbrev pub events_of : List ℕ → List stream.Event
events_of [] = []
events_of (b ∷ w) = event_of (meaning_of b) ++ events_of w
