-- The twelve cases of 01 ("Two tables, worked through", case 12 as 02's K2 has it): what a case claims, and the list of them. Definitions only. A claim
-- about bytes is made of the start call and the event calls as a caller sees them.
use Rattle.std.specs.Prelude.{Ok, Err}
use Rattle.std.specs.Prelude.{List, [], ◌∷◌, map, ◌≡◌, ℕ, ◌+◌, ◌^◌, get_or, replicate}
use Rattle.meaning.specs.Table.{table_of}
use Rattle.meaning.specs.Masks.{trees_of, accs_of, down_of}
use Rattle.places.specs.Places.{selecting_at, rejecting_at, work_length}
use Rattle.answers.specs.Answers.{Outcome, refusal_number}
use Rattle.demands.specs.Watching.{Call, Told, told_all, begun, Started}
use Rattle.cases.specs.Tables.{table_w, table_l}

-- What a caller is told of an event, in 01's numbers: the words reported, or the number of the refusal.
pub data Shown : Type 0 where
  reports : List ℕ → Shown
  refused : ℕ → Shown

pub data Claim : Type 0 where
  -- T is the set of these states.
  TreesAre : List ℕ → List ℕ → Claim
  -- acc(q) is the set of these states.
  AccIs : List ℕ → ℕ → List ℕ → Claim
  -- The sets at the start are these masks.
  StartSets : List ℕ → ℕ → ℕ → Claim
  -- down(q,x), and its mask.
  DownIs : List ℕ → ℕ → ℕ → ℕ → Claim
  -- With so many rows and levels: the bytes, and what is told of each.
  Tells : List ℕ → ℕ → ℕ → List ℕ → List Shown → Claim

pub record Case : Type 0 where
  pub number : ℕ
  pub claims : List Claim

---------------------------------------------------------------- what a claim says

-- The mask of a set of states, each listed once.
abbrev pub mask_of : List ℕ → ℕ
mask_of [] = 0
mask_of (q ∷ qs) = 2 ^ q + mask_of qs

-- Memory before the start. Old contents do not matter.
abbrev pub before : ℕ → ℕ → List ℕ
before rows depth = replicate (work_length rows depth) 7

-- A call with that byte, and a slice for reports just long enough.
abbrev pub calling : ℕ → ℕ → Call
calling rows byte = record { byte = byte; lent = replicate (rows + 1) 9 }

abbrev pub shown : Outcome → List ℕ → Shown
shown (Ok count) words = reports words
shown (Err why) words = refused (refusal_number why)

-- What is told of each byte, from a taken start on.
abbrev pub showing : List ℕ → ℕ → ℕ → List ℕ → List Shown
showing f rows depth bytes =
    map (λ (x : Told). shown x.outcome x.words) (told_all f (begun f rows depth (before rows depth)) (map (calling rows) bytes))

abbrev pub Says : Claim → Type 0
Says (TreesAre f states) = trees_of (table_of f) ≡ mask_of states
Says (AccIs f q states) = get_or (accs_of (table_of f)) q 0 ≡ mask_of states
Says (StartSets f selecting rejecting) =
    let s = begun f 1 1 (before 1 1) in
    Started f 1 1 (before 1 1) × (get_or s.work (selecting_at 0) 0 ≡ selecting) × (get_or s.work (rejecting_at 0) 0 ≡ rejecting)
Says (DownIs f q x mask) = down_of (table_of f) (accs_of (table_of f)) q x ≡ mask
Says (Tells f rows depth bytes told) = Started f rows depth (before rows depth) × (showing f rows depth bytes ≡ told)

-- Of every member of a list.
abbrev pub All : {A : Type 0} → (A → Type 0) → List A → Type 0
All P [] = Unit {0}
All P (x ∷ xs) = P x × All P xs

abbrev pub Holds : Case → Type 0
Holds c = All Says c.claims

---------------------------------------------------------------- the list

-- Where 01 gives no rows or depth, a few are enough: more room changes no report.
abbrev pub cases : List Case
cases =
    record { number = 1; claims = TreesAre table_w (0 ∷ 4 ∷ []) ∷ [] }
    ∷ record { number = 2; claims = AccIs table_w 1 (1 ∷ 2 ∷ []) ∷ [] }
    ∷ record { number = 3; claims = StartSets table_w 4 25 ∷ [] }
    ∷ record { number = 4; claims = DownIs table_w 0 4 4 ∷ DownIs table_w 0 25 25 ∷ [] }
    ∷ record { number = 5; claims = DownIs table_w 1 25 8 ∷ [] }
    ∷ record { number = 6; claims = DownIs table_w 2 4 21 ∷ [] }
    ∷ record { number = 7; claims = Tells table_w 2 2 (0 ∷ 33 ∷ []) (reports [] ∷ reports (3 ∷ 4 ∷ []) ∷ []) ∷ [] }
    ∷ record { number = 8; claims = Tells table_w 1 2 (0 ∷ 0 ∷ 33 ∷ []) (reports [] ∷ refused 15 ∷ reports (3 ∷ 4 ∷ []) ∷ []) ∷ [] }
    ∷ record { number = 9; claims = Tells table_l 1 2 (32 ∷ 32 ∷ 65 ∷ []) (reports [] ∷ reports (2 ∷ []) ∷ reports (5 ∷ []) ∷ []) ∷ [] }
    ∷ record { number = 10; claims = Tells table_l 2 2 (0 ∷ 32 ∷ []) (reports (2 ∷ []) ∷ reports (4 ∷ []) ∷ []) ∷ [] }
    ∷ record { number = 11; claims = Tells table_w 2 2 (65 ∷ 65 ∷ []) (reports [] ∷ refused 8 ∷ []) ∷ [] }
    ∷ record {
      number = 12;
      claims =
          Tells table_w 2 1 (0 ∷ 0 ∷ []) (reports [] ∷ refused 12 ∷ [])
          ∷ Tells table_w 2 2 (64 ∷ []) (refused 11 ∷ [])
          ∷ Tells table_w 2 2 (0 ∷ 65 ∷ []) (reports [] ∷ refused 13 ∷ [])
          ∷ Tells table_w 2 2 (2 ∷ []) (refused 10 ∷ [])
          ∷ Tells table_w 2 2 (66 ∷ []) (refused 11 ∷ [])
          ∷ [];
    }
    ∷ []
