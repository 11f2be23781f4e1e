-- Bytes fed one after another to what takes them step by step, as the reader and the writer do. Definitions only.
use Rattle.std.specs.Prelude.{Bool, true, false, cond, ◌&&◌, List, [], ◌∷◌, ◌++◌, ℕ, ◌+◌, ◌-◌, ltb, length, Option, Some, None}
use Rattle.grammar.specs.declared.Fault.{Fault}
use Rattle.grammar.specs.declared.Fault.TheVariants as fault

-- What becomes of a byte: where it leads, the bytes that it gives, and whether it is at fault.
pub record Step (A : Type 0) : Type 0 where
  pub next : A
  pub gives : List ℕ
  pub stops : Option Fault

abbrev pub goes_on : Option Fault → Bool
goes_on None = true
goes_on (Some f) = false

-- A byte at fault leaves all as it was.
abbrev pub stopped : {A : Type 0} → A → Fault → Step A
stopped a f = record { next = a; gives = []; stops = Some f }

abbrev pub stepped : {A : Type 0} → A → List ℕ → Step A
stepped a out = record { next = a; gives = out; stops = None }

-- What becomes of bytes: all that they give, how many were taken, where they lead, and the fault of the next, if it is
-- one that stopped them.
pub record Fed (A : Type 0) : Type 0 where
  pub gives : List ℕ
  pub taken : ℕ
  pub state : A
  pub stops : Option Fault

-- n bytes, which gave out, and then others.
abbrev pub after : {A : Type 0} → List ℕ → ℕ → Fed A → Fed A
after out n f = record { gives = out ++ f.gives; taken = n + f.taken; state = f.state; stops = f.stops }

-- Up to the first byte at fault.
abbrev pub feed : {A : Type 0} → (A → ℕ → Step A) → A → List ℕ → Fed A
feed step a [] = record { gives = []; taken = 0; state = a; stops = None }
feed step a (b ∷ s) =
    cond (goes_on (step a b).stops)
    (after (step a b).gives 1 (feed step (step a b).next s))
    (record { gives = []; taken = 0; state = a; stops = (step a b).stops })

-- Together with the room that is left for what is given.
pub record Roomed (A : Type 0) : Type 0 where
  pub inner : A
  pub left : ℕ

-- A step that is at fault, too, where its own is not, if there is no room for what it gives.
abbrev pub roomed : {A : Type 0} → (A → ℕ → Step A) → Roomed A → ℕ → Step (Roomed A)
roomed step r b =
    let x = step r.inner b in
    cond (goes_on x.stops && ltb r.left (length x.gives))
    (stopped r fault.Short)
    (record { next = record { inner = x.next; left = r.left - length x.gives }; gives = x.gives; stops = x.stops })
