-- Two watches beside each other, with different room. Definitions only.
use Rattle.std.specs.Prelude.{List, [], ◌∷◌, ◌≡◌, ℕ, ◌+◌, ltb, length}
use Rattle.answers.specs.Answers.{outcome_number}
use Rattle.demands.specs.Watching.{Call, Watching, Told, told_all, called_all}

-- The same bytes; and where the slice lent for reports is long enough for the one watch, it is for the other.
pub data Alike (rows rows' : ℕ) : List Call → List Call → Type 0 where
  none : Alike rows rows' [] []
  over : {c c' : Call} {cs cs' : List Call} →
      c.byte ≡ c'.byte → ltb (length c.lent) (rows + 1) ≡ ltb (length c'.lent) (rows' + 1) →
      Alike rows rows' cs cs' → Alike rows rows' (c ∷ cs) (c' ∷ cs')

-- None of the calls is refused for want of depth, 12, or of rows, 15.
pub data NoWant : List Told → Type 0 where
  none : NoWant []
  over : {x : Told} {xs : List Told} →
      ¬ (outcome_number x.outcome ≡ 12) → ¬ (outcome_number x.outcome ≡ 15) → NoWant xs → NoWant (x ∷ xs)

-- Both take and refuse the same, and report the same.
pub record SameAnswers (f : List ℕ) (s s' : Watching) (cs cs' : List Call) : Type 0 where
  pub same_told : told_all f s cs ≡ told_all f s' cs'
  pub same_stream : (called_all f s cs).stream ≡ (called_all f s' cs').stream
  pub same_reports : (called_all f s cs).reports ≡ (called_all f s' cs').reports
