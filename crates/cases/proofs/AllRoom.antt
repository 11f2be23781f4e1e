-- The cases with all the room that there is, 64 rows and depth 40, as the program runs them; and streams that show that what the
-- demands speak of is there. Assumes nothing.
use Rattle.std.specs.Prelude.{Ok, Err}
use mathlib.Core.Bool.{Bool, true, false, not, ◌&&◌}
use mathlib.Core.List.{List, [], ◌∷◌, map}
use mathlib.Core.Path.{◌≡◌, refl, sym, ap, ◌∙◌, subst}
use Prim.Native.Nat.{ℕ, ◌+◌, ◌≤◌}
use native.Mathlib.Omega.{arith}
use borrow.Author.Tests.{le-ltb}
use lib.Dec.{T, T_not, eqb, eqb_refl, ltb}
use lib.ListN.{length, replicate, length-replicate}
use Rattle.meaning.specs.Masks.{added, within}
use Rattle.meaning.specs.Streams.{Point}
use Rattle.meaning.proofs.Tests.{and_left, and_right}
use Rattle.meaning.specs.Search.{searched}
use Rattle.order.specs.Order.{first_fault}
use Rattle.answers.specs.Answers.{Outcome, outcome_number, refusal_number}
use Rattle.demands.specs.Watching.{Told, told_all, begun, Started, watching}
use Rattle.demands.specs.Room.{Alike, NoWant}
use Rattle.demands.specs.Room as room
use Rattle.demands.proofs.MoreRoom.{more_room}
use Rattle.cases.specs.Tables.{table_w, table_l}
use Rattle.cases.specs.Cases.{Shown, reports, refused, shown, before, calling, Says, Tells}
use Rattle.cases.proofs.Cases.{all_hold}

-- Nothing is refused for want of depth or of rows.
abbrev none_wanted : List Shown → Bool
none_wanted [] = true
none_wanted (reports words ∷ rest) = none_wanted rest
none_wanted (refused number ∷ rest) = not (eqb number 12) && (not (eqb number 15) && none_wanted rest)

other : (x y : ℕ) → T (not (eqb x y)) → ¬ (x ≡ y)
other x y h e = T_not (eqb x y) h (rw e (eqb_refl y))

no_want : (xs : List Told) → T (none_wanted (map (λ (x : Told). shown x.outcome x.words) xs)) → NoWant xs
no_want [] h = room.none
no_want (x ∷ xs) h = go x.outcome refl h (no_want xs)
  where
    go : (o : Outcome) → x.outcome ≡ o → T (none_wanted (shown o x.words ∷ map (λ (y : Told). shown y.outcome y.words) xs)) → (T (none_wanted (map (λ (y : Told). shown y.outcome y.words) xs)) → NoWant xs) → NoWant (x ∷ xs)
    go (Ok count) e h later =
        let zero : outcome_number x.outcome ≡ 0 = ap outcome_number e in
        room.over {x = x} (λ (q : outcome_number x.outcome ≡ 12). omega (arith, zero, q)) (λ (q : outcome_number x.outcome ≡ 15). omega (arith, zero, q)) (later h)
    go (Err why) e h later =
        let a = and_right (not (eqb (refusal_number why) 12)) _ h in
        room.over (λ q. other (refusal_number why) 12 (and_left (not (eqb (refusal_number why) 12)) _ h) (sym (ap outcome_number e) ∙ q))
        (λ q. other (refusal_number why) 15 (and_left (not (eqb (refusal_number why) 15)) _ a) (sym (ap outcome_number e) ∙ q))
        (later (and_right (not (eqb (refusal_number why) 15)) _ a))

-- A slice of a word more than rows is long enough.
enough : (rows : ℕ) → ltb (length {A = ℕ} (replicate (rows + 1) 9)) (rows + 1) ≡ false
enough rows =
    let long : rows + 1 ≤ length {A = ℕ} (replicate (rows + 1) 9) = omega (arith, length-replicate {A = ℕ} (rows + 1) 9) in
    le-ltb (length {A = ℕ} (replicate (rows + 1) 9)) (rows + 1) long

alike : (rows rows' : ℕ) (bytes : List ℕ) → Alike rows rows' (map (calling rows) bytes) (map (calling rows') bytes)
alike rows rows' [] = room.none
alike rows rows' (b ∷ bytes) = room.over refl (enough rows ∙ sym (enough rows')) (alike rows rows' bytes)

-- What is told with little room is told with all, where nothing wanted room.
pub with_all_room :
    (f : List ℕ) (rows depth : ℕ) (bytes : List ℕ) (told : List Shown) → rows ≤ 64 → depth ≤ 40 → Started f 64 40 (before 64 40) →
    T (none_wanted told) → Says (Tells f rows depth bytes told) → Says (Tells f 64 40 bytes told)
with_all_room f rows depth bytes told few shallow started none says =
    let same = more_room f rows depth 64 40 few shallow (before rows depth) (before 64 40) says.0 started (map (calling rows) bytes) (map (calling 64) bytes) (alike rows 64 bytes)
    (no_want (told_all f (begun f rows depth (before rows depth)) (map (calling rows) bytes)) (subst (λ xs. T (none_wanted xs)) (sym says.1) none)) in
    (started, ap (map (λ (x : Told). shown x.outcome x.words)) (sym same.same_told) ∙ says.1)

-- Both tables start with all the room, and L takes the bytes 32 32 65 with one row as a whole stream of two points.
abbrev Met : List ℕ → List ℕ → Type 0
Met f g =
    Started f 64 40 (before 64 40)
    × Started g 64 40 (before 64 40)
    × ((watching g 1 2 (before 1 2) (map (calling 1) (32 ∷ 32 ∷ 65 ∷ []))).stream ≡ record { events = Point 0 ∷ Point 0 ∷ []; ended = true })

pub met : Met table_w table_l
unfolding added within searched first_fault
met = (refl, refl, refl)

-- Cases 7, 9 and 10 with 64 rows and depth 40.
pub seventh : Says (Tells table_w 64 40 (0 ∷ 33 ∷ []) (reports [] ∷ reports (3 ∷ 4 ∷ []) ∷ []))
seventh = with_all_room table_w 2 2 (0 ∷ 33 ∷ []) _ (omega arith) (omega arith) met.0 tt all_hold.1.1.1.1.1.1.0.0

pub ninth : Says (Tells table_l 64 40 (32 ∷ 32 ∷ 65 ∷ []) (reports [] ∷ reports (2 ∷ []) ∷ reports (5 ∷ []) ∷ []))
ninth = with_all_room table_l 1 2 (32 ∷ 32 ∷ 65 ∷ []) _ (omega arith) (omega arith) met.1 tt all_hold.1.1.1.1.1.1.1.1.0.0

pub tenth : Says (Tells table_l 64 40 (0 ∷ 32 ∷ []) (reports (2 ∷ []) ∷ reports (4 ∷ []) ∷ []))
tenth = with_all_room table_l 2 2 (0 ∷ 32 ∷ []) _ (omega arith) (omega arith) met.1 tt all_hold.1.1.1.1.1.1.1.1.1.0.0
