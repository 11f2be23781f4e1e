-- Whole streams of depth at most 40, in event bytes (01, "Events and positions", and 02, K2). Definitions only.
use Rattle.std.specs.Prelude.{◌≡◌, List, [], ◌∷◌, ◌++◌, ℕ, ◌+◌, ◌<◌, length}
use Rattle.meaning.specs.Streams.{open_after}
use Rattle.answers.specs.declared.Event.{Event}
use Rattle.answers.specs.declared.Event.TheVariants as event
use Rattle.answers.specs.Bytes.{meaning_of, event_of}

-- Events with labels below k lead from the open elements o to others, both told by their labels, newest first. A close
-- closes the newest, and one with a label names the newest's; never are more than 40 open.
pub data Opens (k : ℕ) : List ℕ → List ℕ → List ℕ → Type 0 where
  nothing : {o : List ℕ} → Opens k o [] o
  opens : {o o' w : List ℕ} {a : ℕ} → a < k → length o < 40 → Opens k (a ∷ o) w o' → Opens k o (a ∷ w) o'
  points : {o o' w : List ℕ} {a : ℕ} → a < k → Opens k o w o' → Opens k o ((32 + a) ∷ w) o'
  closes : {o o' w : List ℕ} {a : ℕ} → Opens k o w o' → Opens k (a ∷ o) (64 ∷ w) o'
  closes_its : {o o' w : List ℕ} {a : ℕ} → Opens k o w o' → Opens k (a ∷ o) ((66 + a) ∷ w) o'

-- A whole stream: nothing is open, and byte 65 ends it.
pub record Stream (k : ℕ) (w : List ℕ) : Type 0 where
  pub events : List ℕ
  pub opens : Opens k [] events []
  pub ends : w ≡ events ++ (65 ∷ [])

-- A whole stream goes on from w.
pub record GoesOn (k : ℕ) (w : List ℕ) : Type 0 where
  pub rest : List ℕ
  pub whole : Stream k (w ++ rest)

-- The first place of w at which no whole stream goes on: that of a byte, or the end.
pub data Stuck (k : ℕ) : List ℕ → ℕ → Type 0 where
  byte : {w : List ℕ} (b : ℕ) (v : List ℕ) → GoesOn k w → ¬ GoesOn k (w ++ (b ∷ [])) → Stuck k (w ++ (b ∷ v)) (length w)
  ending : {w : List ℕ} → GoesOn k w → ¬ Stream k w → Stuck k w (length w)

---------------------------------------------------------------- labelled closes

-- A 64 becomes the close that names the newest label; any other byte stays.
abbrev pub close_of : List ℕ → ℕ
close_of [] = 64
close_of (a ∷ o) = 66 + a

abbrev pub labelled_by : Event → List ℕ → ℕ → ℕ
labelled_by (event.Open a) o b = b
labelled_by (event.Point a) o b = b
labelled_by event.Close o b = close_of o
labelled_by (event.CloseOf a) o b = b
labelled_by event.End o b = b
labelled_by event.Unknown o b = b

-- The bytes with each 64 labelled, where o is open before them.
abbrev pub labelled : List ℕ → List ℕ → List ℕ
labelled o [] = []
labelled o (b ∷ w) = labelled_by (meaning_of b) o b ∷ labelled (open_after o (event_of (meaning_of b))) w
