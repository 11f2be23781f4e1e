-- What the completions that are left decide of a position, also after the end; and which positions are alive. Definitions
-- only, and no safe set among them.
use Rattle.std.specs.Prelude.{Bool, true, false, List, [], ◌++◌, ◌↔◌, ◌≡◌, ℕ, ◌≤◌}
use Rattle.meaning.specs.Table.{Table}
use Rattle.meaning.specs.Streams.{Event, positions, Completes, Selects}
use Rattle.following.specs.Lists.{In, Rising}
use Rattle.demands.specs.Watching.{Stream}

-- c is a completion that is left. After the end there is none but the stream itself.
abbrev pub Left : Table → Bool → List Event → List Event → Type 0
Left t false w c = Completes t w c
Left t true w c = c ≡ []

-- Position i has been read.
abbrev pub Read : Stream → ℕ → Type 0
Read s i = (1 ≤ i) × (i ≤ positions s.events)

module _ (t : Table) (s : Stream) (i : ℕ) where
  -- All completions that are left select i.
  abbrev pub CertainIn : Type 0
  CertainIn = (c : List Event) → Left t s.ended s.events c → Selects t i (s.events ++ c)

  -- None does.
  abbrev pub RuledOutIn : Type 0
  RuledOutIn = (c : List Event) → Left t s.ended s.events c → ¬ Selects t i (s.events ++ c)

  abbrev pub AliveIn : Type 0
  AliveIn = (¬ CertainIn) × (¬ RuledOutIn)

-- Read after an event, and before it neither certain nor ruled out, or not read.
pub record Pending (t : Table) (before after : Stream) (i : ℕ) : Type 0 where
  pub read : Read after i
  pub undecided : Read before i → AliveIn t before i

-- `alive` lists the alive positions, ascending.
pub record AliveAre (t : Table) (s : Stream) (alive : List ℕ) : Type 0 where
  pub ascending : Rising (positions s.events) 0 alive
  pub exactly : (i : ℕ) → In i alive ↔ (Read s i × AliveIn t s i)
