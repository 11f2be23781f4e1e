-- An event call that is refused by each number, in the order of checking, and one that is taken. Definitions only.
use Rattle.std.specs.Prelude.{List, [], ◌∷◌, ◌++◌, ℕ, take, replicate}
use Rattle.answers.specs.declared.Record.{Record}
use Rattle.answers.specs.Answers.{outcome_number}
use Rattle.answers.specs.Record.{with_alive}
use Rattle.demands.specs.Watching.{Call, Watching, begun, outcome_of, called}
use Rattle.cases.specs.Cases.{before, calling}

-- The record with that many positions read.
abbrev pub with_positions : ℕ → Record → Record
with_positions p r =
    record { rows = r.rows; allowed = r.allowed; depth = r.depth; alive = r.alive; positions = p; finished = r.finished }

-- The same watch with another record.
abbrev pub with_record : Record → Watching → Watching
with_record r s = record { stream = s.stream; now = r; work = s.work; reports = s.reports }

-- For a table w like W, of 76 bytes, with one row: the number answered to a call, for seventeen calls.
module _ (w : List ℕ) where
  -- A watch at its start, after an open, and after its end; and one of depth 1 after an open.
  abbrev started : Watching
  started = begun w 1 2 (before 1 2)

  abbrev opened : Watching
  opened = called w started (calling 1 0)

  abbrev ended : Watching
  ended = called w started (calling 1 65)

  abbrev shallow : Watching
  shallow = called w (begun w 1 1 (before 1 1)) (calling 1 0)

  abbrev number : List ℕ → Watching → Call → ℕ
  number f s c = outcome_number (outcome_of f s c)

  abbrev pub numbers_given : List ℕ
  numbers_given =
      number [] started (calling 1 0)
      ∷ number (replicate 29 0) started (calling 1 0)
      ∷ number (take 4 w ++ replicate 25 0) started (calling 1 0)
      ∷ number (w ++ (0 ∷ [])) started (calling 1 0)
      ∷ number (take 75 w ++ (2 ∷ [])) started (calling 1 0)
      ∷ number w started (record { byte = 0; lent = [] })
      ∷ number w (with_record (with_alive 2 started.now) started) (calling 1 0)
      ∷ number w ended (calling 1 65)
      ∷ number w started (calling 1 98)
      ∷ number w started (calling 1 2)
      ∷ number w started (calling 1 64)
      ∷ number w opened (calling 1 67)
      ∷ number w shallow (calling 1 0)
      ∷ number w opened (calling 1 65)
      ∷ number w (with_record (with_positions 2147483647 started.now) started) (calling 1 32)
      ∷ number w opened (calling 1 0)
      ∷ number w opened (calling 1 33)
      ∷ []
