-- Rows with that many levels and states below n: their words are rows that can be stepped, and stand for them; and so for
-- rows one after the other. Assumes nothing.
use mathlib.Core.Path.{◌≡◌, refl, sym, ap, ◌∙◌, subst}
use mathlib.Core.List.{List, [], ◌∷◌, ◌++◌, append_assoc}
use Prim.Native.Nat.{ℕ, zero, suc, ◌+◌, ◌-◌, ◌*◌, ◌<◌, ◌≤◌}
use native.Mathlib.Nat.{suc-mul, zero-mul}
use native.Mathlib.Numerals.{add-one}
use native.Mathlib.Omega.{arith}
use native.Mathlib.Decide.{ℕ_discrete}
use lib.ListN.{length, get_or, take, drop, replicate, length-append, length-drop, take-append-drop}
use lib.Seq.{get_or_at, take_at, drop_at, drop-drop, take-add}
use Rattle.meaning.specs.Rows.{Level}
use Rattle.places.specs.Places.{state_at, row_length, row_of}
use Rattle.places.specs.Memory.{Held, levels_words, row_words, all_words, level_in, below_in, held_in, helds_in, RowIn, RowsIn}
use Rattle.places.proofs.Words.{levels_length, front, front_length, row_split, row_length_lem}
use Rattle.places.proofs.Sets.{below_length}
use Rattle.places.proofs.Rows.{each_next, part_length}

---------------------------------------------------------------- one row

-- The states of levels are below n.
pub data Below (n : ℕ) : List Level → Type 0 where
  none : Below n []
  over : {l : Level} {ls : List Level} → l.state < n → Below n ls → Below n (l ∷ ls)

pub record Good (n d : ℕ) (h : Held) : Type 0 where
  pub levels : length h.row.below ≡ d
  pub newest : h.row.newest.state < n
  pub below : Below n h.row.below

get_d_one : (p : List ℕ) (x y : ℕ) (ys : List ℕ) (n : ℕ) → length p ≡ n → get_or (p ++ x ∷ y ∷ ys) (n + 1) 0 ≡ y
get_d_one p x y ys n e =
    ap (λ l. get_or l (n + 1) 0) (sym (append_assoc p (x ∷ []) (y ∷ ys)))
    ∙ get_or_at (p ++ x ∷ []) y ys 0 (n + 1) (length-append p (x ∷ []) ∙ ap (λ m. m + 1) e)

get_d_two : (p : List ℕ) (x y z : ℕ) (ys : List ℕ) (n : ℕ) → length p ≡ n → get_or (p ++ x ∷ y ∷ z ∷ ys) (n + 2) 0 ≡ z
get_d_two p x y z ys n e =
    ap (λ l. get_or l (n + 2) 0) (sym (append_assoc p (x ∷ y ∷ []) (z ∷ ys)))
    ∙ get_or_at (p ++ x ∷ y ∷ []) z ys 0 (n + 2) (length-append p (x ∷ y ∷ []) ∙ ap (λ m. m + 2) e)

-- A level that stands after a position and its levels below.
level_at : (p : List ℕ) (l : Level) (rest : List ℕ) (d : ℕ) → length p ≡ state_at d → level_in (p ++ l.state ∷ l.selecting ∷ l.rejecting ∷ rest) d ≡ l
level_at p l rest d e =
    rw (get_or_at p l.state (l.selecting ∷ l.rejecting ∷ rest) 0 (state_at d) e, get_d_one p l.state l.selecting (l.rejecting ∷ rest) (state_at d) e, get_d_two p l.state l.selecting l.rejecting rest (state_at d) e)

levels_at_lem : (p : ℕ) (ls : List Level) (rest : List ℕ) → below_in ((p ∷ levels_words ls) ++ rest) (length ls) ≡ ls
levels_at_lem p [] rest = refl
levels_at_lem p (l ∷ ls) rest =
    let e = append_assoc (p ∷ levels_words ls) (l.state ∷ l.selecting ∷ l.rejecting ∷ []) rest in
    let k : length (p ∷ levels_words ls) ≡ state_at (length ls) = simp (levels_length ls) (omega arith) in
    ap (λ words. below_in words (suc (length ls))) e
    ∙ ap (λ x. x ∷ below_in ((p ∷ levels_words ls) ++ l.state ∷ l.selecting ∷ l.rejecting ∷ rest) (length ls)) (level_at (p ∷ levels_words ls) l rest (length ls) k)
    ∙ ap (λ xs. l ∷ xs) (levels_at_lem p ls (l.state ∷ l.selecting ∷ l.rejecting ∷ rest))

-- The words of a row stand for it.
pub held_back : (w d : ℕ) (h : Held) → length h.row.below ≡ d → held_in d (row_words w h) ≡ h
held_back w d h e =
    let rest : List ℕ = replicate (w - row_length (length h.row.below)) 0 in
    let l = h.row.newest in
    let words : List ℕ = front h ++ l.state ∷ l.selecting ∷ l.rejecting ∷ rest in
    subst (λ k. held_in k (row_words w h) ≡ h) e
    (ap (held_in (length h.row.below)) (row_split w h)
    ∙ ap (λ x. record { position = h.position; row = record { newest = x; below = below_in words (length h.row.below) } }) (level_at (front h) l rest (length h.row.below) (front_length h))
    ∙ ap (λ xs. record { position = h.position; row = record { newest = l; below = xs } }) (levels_at_lem h.position h.row.below (l.state ∷ l.selecting ∷ l.rejecting ∷ rest)))

-- Each level's state, where all are below n.
below_states : (n : ℕ) (words : List ℕ) (d : ℕ) → Below n (below_in words d) → (l : ℕ) → l < d → get_or words (state_at l) 0 < n
below_states n words zero b l h = absurd (omega arith)
below_states n words (suc d) (over s b) l h =
    elim (ℕ_discrete l d) [ yes e ↦ rw e s | no e ↦ below_states n words d b l (omega arith) ]

states_below : (n : ℕ) (words : List ℕ) (d : ℕ) → ((l : ℕ) → l < d → get_or words (state_at l) 0 < n) → Below n (below_in words d)
states_below n words zero s = none
states_below n words (suc d) s = over (s d (omega arith)) (states_below n words d (λ l h. s l (omega arith)))

pub row_good : (n d : ℕ) (words : List ℕ) → RowIn n d words → Good n d (held_in d words)
row_good n d words r =
    record { levels = below_length words d; newest = r.states d (omega arith); below = states_below n words d (λ l h. r.states l (omega arith)) }

pub good_row : (n d w : ℕ) (h : Held) → Good n d h → w ≤ row_length 40 → row_length d ≤ w → RowIn n d (row_words w h)
good_row n d w h g short deep =
    let back = held_back w d h g.levels in
    let long = row_length_lem w h (rw g.levels deep) in
    let same : Good n d (held_in d (row_words w h)) = subst (Good n d) (sym back) g in
    record {
      short = omega (arith, long);
      deep = omega (arith, long);
      same = sym (ap (λ k. row_words k (held_in d (row_words w h))) long ∙ ap (row_words w) back);
      states = λ l m. elim (ℕ_discrete l d) [ yes e ↦ rw e same.newest | no e ↦ below_states n (row_words w h) d same.below l (omega arith) ];
    }

---------------------------------------------------------------- rows one after the other

pub data AllGood (n d : ℕ) : List Held → Type 0 where
  none : AllGood n d []
  over : {h : Held} {hs : List Held} → Good n d h → AllGood n d hs → AllGood n d (h ∷ hs)

pub all_append : {n d : ℕ} {xs ys : List Held} → AllGood n d xs → AllGood n d ys → AllGood n d (xs ++ ys)
all_append none b = b
all_append (over g a) b = over g (all_append a b)

-- Row r of the words after the first row.
pub next_row_of : (w r : ℕ) (words : List ℕ) → row_of w (suc r) words ≡ row_of w r (drop w words)
next_row_of w r words =
    let e : suc r * w ≡ w + r * w = omega (arith, suc-mul r w) in
    ap (take w) (ap (λ k. drop k words) e ∙ sym (drop-drop (r * w) w words))

pub helds_first : (w d n : ℕ) (words : List ℕ) → helds_in w d (suc n) words ≡ held_in d (row_of w 0 words) ∷ helds_in w d n (drop w words)
helds_first w d zero words = refl
helds_first w d (suc n) words =
    ap (λ hs. hs ++ (held_in d (row_of w (suc n) words) ∷ [])) (helds_first w d n words)
    ∙ ap (λ x. held_in d (row_of w 0 words) ∷ (helds_in w d n (drop w words) ++ (held_in d x ∷ []))) (next_row_of w n words)

module _ (n w d : ℕ) (short : w ≤ row_length 40) (deep : row_length d ≤ w) where
  pub good_length : (h : Held) → Good n d h → length (row_words w h) ≡ w
  good_length h g = row_length_lem w h (rw g.levels deep)

  pub all_length : (hs : List Held) → AllGood n d hs → length (all_words w hs) ≡ length hs * w
  all_length [] a = sym (zero-mul w)
  all_length (h ∷ hs) (over g a) =
      length-append (row_words w h) (all_words w hs) ∙ omega (arith, suc-mul (length hs) w, good_length h g, all_length hs a)

  module _ (h : Held) (hs : List Held) (rest : List ℕ) (g : Good n d h) where
    -- The first row of rows, and the rows after it.
    pub first_row : row_of w 0 (all_words w (h ∷ hs) ++ rest) ≡ row_words w h
    first_row =
        rw (zero-mul w, append_assoc (row_words w h) (all_words w hs) rest) (take_at (row_words w h) (all_words w hs ++ rest) w (good_length h g))

    pub later_rows : drop w (all_words w (h ∷ hs) ++ rest) ≡ all_words w hs ++ rest
    later_rows = rw (append_assoc (row_words w h) (all_words w hs) rest) (drop_at (row_words w h) (all_words w hs ++ rest) w (good_length h g))

  -- The words of rows stand for them.
  pub helds_back : (hs : List Held) (rest : List ℕ) → AllGood n d hs → helds_in w d (length hs) (all_words w hs ++ rest) ≡ hs
  helds_back [] rest a = refl
  helds_back (h ∷ hs) rest (over g a) =
      helds_first w d (length hs) (all_words w (h ∷ hs) ++ rest)
      ∙ ap (λ x. held_in d x ∷ helds_in w d (length hs) (drop w (all_words w (h ∷ hs) ++ rest))) (first_row h hs rest g)
      ∙ ap (λ x. x ∷ helds_in w d (length hs) (drop w (all_words w (h ∷ hs) ++ rest))) (held_back w d h g.levels)
      ∙ ap (λ xs. h ∷ helds_in w d (length hs) xs) (later_rows h hs rest g)
      ∙ ap (λ xs. h ∷ xs) (helds_back hs rest a)

  each_row : (hs : List Held) (rest : List ℕ) → AllGood n d hs → (r : ℕ) → r < length hs → RowIn n d (row_of w r (all_words w hs ++ rest))
  each_row [] rest a r l = absurd (omega arith)
  each_row (h ∷ hs) rest (over g a) zero l = subst (RowIn n d) (sym (first_row h hs rest g)) (good_row n d w h g short deep)
  each_row (h ∷ hs) rest (over g a) (suc r) l =
      subst (RowIn n d) (sym (next_row_of w r (all_words w (h ∷ hs) ++ rest) ∙ ap (row_of w r) (later_rows h hs rest g))) (each_row hs rest a r (omega arith))

  -- The words of rows are rows that can be stepped.
  pub rows_of_lem : (hs : List Held) (rest : List ℕ) → AllGood n d hs → RowsIn n w d (length hs) (all_words w hs ++ rest)
  rows_of_lem hs rest a =
      record { short = short; deep = deep; fits = omega (arith, length-append (all_words w hs) rest, all_length hs a); each = each_row hs rest a }

-- Without the first of them.
pub rows_later : (n w d count : ℕ) (words : List ℕ) → RowsIn n w d (count + 1) words → RowsIn n w d count (drop w words)
rows_later n w d count words r =
    record {
      short = r.short;
      deep = r.deep;
      fits = rw (length-drop w words) (omega (arith, suc-mul count w, add-one count, r.fits));
      each = λ i l. subst (RowIn n d) (next_row_of w i words) (r.each (suc i) (omega arith));
    }

-- Words that begin with such rows are the words of the rows that they stand for, and then the rest.
rows_front : (n w d count : ℕ) (words : List ℕ) → count * w ≤ length words → ((r : ℕ) → r < count → RowIn n d (row_of w r words)) → take (count * w) words ≡ all_words w (helds_in w d count words)
rows_front n w d zero words fits e = ap (λ k. take k words) (zero-mul w)
rows_front n w d (suc count) words fits e =
    let k : suc count * w ≡ count * w + w = suc-mul count w in
    let long : length (row_of w count words) ≡ w = part_length words (count * w) w (omega (arith, k)) in
    ap (λ i. take i words) k
    ∙ take-add (count * w) w words
    ∙ ap (λ xs. xs ++ row_of w count words) (rows_front n w d count words (omega (arith, k)) (λ r l. e r (omega arith)))
    ∙ ap (λ xs. all_words w (helds_in w d count words) ++ xs) ((e count (omega arith)).same ∙ ap (λ i. row_words i (held_in d (row_of w count words))) long)
    ∙ sym (rw (add-one count) at (each_next (row_words w) w d count words))

pub words_are : (n w d count : ℕ) (words : List ℕ) → RowsIn n w d count words → words ≡ all_words w (helds_in w d count words) ++ drop (count * w) words
words_are n w d count words r =
    sym (take-append-drop (count * w) words) ∙ ap (λ xs. xs ++ drop (count * w) words) (rows_front n w d count words r.fits r.each)

pub helds_length : (w d n : ℕ) (words : List ℕ) → length (helds_in w d n words) ≡ n
helds_length w d zero words = refl
helds_length w d (suc n) words =
    length-append (helds_in w d n words) (held_in d (row_of w n words) ∷ []) ∙ ap (λ k. k + 1) (helds_length w d n words) ∙ add-one n

-- Rows that can be stepped stand for good rows.
pub helds_good : (n w d count : ℕ) (words : List ℕ) → ((r : ℕ) → r < count → RowIn n d (row_of w r words)) → AllGood n d (helds_in w d count words)
helds_good n w d zero words e = none
helds_good n w d (suc count) words e =
    all_append (helds_good n w d count words (λ r l. e r (omega arith))) (over (row_good n d (row_of w count words) (e count (omega arith))) none)
