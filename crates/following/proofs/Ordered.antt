-- The words of a memory and of the labels of what is open: as many as work memory has, they stand for both, and they are in
-- order. Assumes rows of one depth whose states are states of the table, as many as there is room for, as many labels, and
-- for the order positions that rise and labels of the table.
use Rattle.std.specs.Prelude.{None, Some}
use mathlib.Core.Path.{◌≡◌, refl, sym, ap, ◌∙◌, subst}
use mathlib.Core.Bool.{Bool, true, false, cond, ◌&&◌, true≢false}
use mathlib.Core.List.{List, [], ◌∷◌, ◌++◌, append_assoc}
use mathlib.Core.Logic.{⊎_elim}
use Prim.Native.Nat.{ℕ, zero, suc, ◌+◌, ◌-◌, ◌*◌, ◌/◌, ◌%◌, ◌<◌, ◌≤◌}
use native.Mathlib.Omega.{arith}
use native.Mathlib.Nat.{suc-mul, zero-mul, mul-le-mul_right, mod-lt, div-add-mod'}
use native.Mathlib.Numerals.{add-one}
use native.Mathlib.Decide.{ℕ_discrete}
use borrow.Author.Tests.{leb-true, leb-false, eqb-true, eqb-false, ltb-true, ltb-false, lt-ltb, le-leb, eq-eqb}
use lib.Dec.{ltb, leb, eqb}
use lib.ListN.{length, get_or, drop, replicate, length-map, length-append, get_or-append}
use lib.Seq.{get_or-take, get_or-drop, get_or_at, get_or-append-add, take_at, drop_at}
use Rattle.meaning.proofs.Search.{decided}
use Rattle.meaning.proofs.Rows.{AllBelow}
use Rattle.meaning.proofs.Rows as below
use Rattle.places.specs.Places.{position_at, state_at, level_of, part_of, row_length, row_at, rows_length, label_at, label_level, work_length, rows_part, labels_part, row_of}
use Rattle.places.specs.Memory.{Held, Memory, levels_words, all_words, rows_of, rows_words, open_words, labels_words, work_words, held_in, memory_in, open_in, RowIn}
use Rattle.places.proofs.Words.{padded_length, all_length as row_size}
use Rattle.places.proofs.Sets.{below_length}
use Rattle.places.proofs.Good.{AllGood, helds_first, all_length, later_rows, helds_back, rows_of_lem}
use Rattle.places.proofs.Good as good
use Rattle.places.proofs.Labels.{open_words_length, labels_length, open_back}
use Rattle.order.specs.declared.Shape.{Shape}
use Rattle.order.specs.Order.{position_right, cell_right, label_right, labels_from, word_right, first_from, first_fault}
use Rattle.following.specs.Lists.{Rising}
use Rattle.following.specs.Lists as lists
use Rattle.following.specs.Following.{positions_of}

---------------------------------------------------------------- tests, zeros and rising numbers

-- Where every test passes, none is found that fails.
all_fine : (right : ℕ → Bool) → ((i : ℕ) → right i ≡ true) → (n i : ℕ) → first_from right i n ≡ None
all_fine right h n i =
    ⊎_elim (λ g. g.0) (λ g. absurd (true≢false (sym (h g.place) ∙ g.first.fails))) (decided Some None right n i)

cond_true : (b : Bool) {x y : Bool} → (b ≡ true → x ≡ true) → (b ≡ false → y ≡ true) → cond b x y ≡ true
cond_true true h g = h refl
cond_true false h g = g refl

both : {a b : Bool} → a ≡ true → b ≡ true → a && b ≡ true
both e f = rw (e, f)

-- Words followed by zeros are 0 from there on, also past their end.
past_words : (xs : List ℕ) (k i : ℕ) → length xs ≤ i → get_or (xs ++ replicate k 0) i 0 ≡ 0
past_words [] zero i h = refl
past_words [] (suc k) zero h = refl
past_words [] (suc k) (suc i) h = past_words [] k i (omega arith)
past_words (x ∷ xs) k zero h = absurd (omega arith)
past_words (x ∷ xs) k (suc i) h = past_words xs k i (omega arith)

-- Each is above the one before it.
rising_at : {high low : ℕ} {xs : List ℕ} → Rising high low xs → (r : ℕ) → r < length xs → (get_or (low ∷ xs) r 0 < get_or xs r 0) × (get_or xs r 0 ≤ high)
rising_at lists.none r h = absurd (omega arith)
rising_at (lists.over l m a) zero h = (l, m)
rising_at (lists.over l m a) (suc r) h = rising_at a r (omega arith)

---------------------------------------------------------------- rows and labels

module _ (n w d : ℕ) (short : w ≤ row_length 40) (deep : row_length d ≤ w) where
  -- Row r begins with its position.
  position_at_lem : (hs : List Held) (rest : List ℕ) → AllGood n d hs → (r : ℕ) → r < length hs → get_or (all_words w hs ++ rest) (r * w + position_at) 0 ≡ get_or (positions_of hs) r 0
  position_at_lem [] rest a r h = absurd (omega arith)
  position_at_lem (x ∷ hs) rest a zero h = rw (zero-mul w)
  position_at_lem (x ∷ hs) rest (good.over g a) (suc r) h =
      let e : suc r * w + 0 ≡ w + (r * w + 0) = omega (arith, suc-mul r w) in
      ap (λ i. get_or (all_words w (x ∷ hs) ++ rest) i 0) e
      ∙ sym (get_or-drop w (all_words w (x ∷ hs) ++ rest) (r * w + 0) 0)
      ∙ ap (λ xs. get_or xs (r * w + 0) 0) (later_rows n w d short deep x hs rest g)
      ∙ position_at_lem hs rest a r (omega arith)

-- A word of a level not in use is 0.
level_zero : (n d c : ℕ) (row : List ℕ) → RowIn n d row → row_length d ≤ c → get_or row c 0 ≡ 0
level_zero n d c row r h =
    let held : Held = held_in d row in
    let xs : List ℕ = held.position ∷ levels_words (held.row.newest ∷ held.row.below) in
    ap (λ ws. get_or ws c 0) r.same ∙ past_words xs (length row - length xs) c (omega (arith, row_size held, below_length row d))

-- The word of the newest level is 1 above its label, whatever stands after, and that of every level is.
newest_word_lem : (a : ℕ) (o rest : List ℕ) → get_or (open_words (a ∷ o) ++ rest) (length o) 0 ≡ suc a
newest_word_lem a o rest =
    ap (λ (ws : List ℕ). get_or ws (length o) 0) (append_assoc (open_words o) (suc a ∷ []) rest)
    ∙ get_or_at (open_words o) (suc a) rest 0 (length o) (open_words_length o)

label_word :
    (k : ℕ) (o rest : List ℕ) → AllBelow k o → (l : ℕ) → l < length o →
    (0 < get_or (open_words o ++ rest) l 0) × (get_or (open_words o ++ rest) l 0 ≤ k)
label_word k [] rest below.none l h = absurd (omega arith)
label_word k (a ∷ o) rest (below.more b all) l h =
    elim (ℕ_discrete l (length o)) [
      | yes e ↦ rw (e, newest_word_lem a o rest) (omega arith, omega arith)
      | no e ↦ subst (λ (ws : List ℕ). (0 < get_or ws l 0) × (get_or ws l 0 ≤ k)) (sym (append_assoc (open_words o) (suc a ∷ []) rest))
          (label_word k o (suc a ∷ rest) all l (omega arith))
    ]

-- A memory is its rows.
same_memory : (h : Held) (hs : List Held) (m : Memory) → h ∷ hs ≡ rows_of m → record { run = h.row; alive = hs } ≡ m
same_memory h hs m e =
    let f : h.row ≡ m.run = cc in
    let g : hs ≡ m.alive = cc in
    rw (f, g)

---------------------------------------------------------------- words in order

-- Rows whose positions are 0 and then ps, which rise, and zeros after them, and then labels' words that are right: every
-- word is right.
module _ (s : Shape) (words ps : List ℕ) (rises : Rising s.positions 0 ps) (long : s.used ≤ length ps + 1)
    (rows : (r : ℕ) → r < s.used → RowIn s.states s.depth (row_of (row_length s.allowed) r words))
    (first : (r : ℕ) → r < s.used → get_or words (row_at s.allowed r + position_at) 0 ≡ get_or (0 ∷ ps) r 0)
    (rest : (i : ℕ) → row_at s.allowed s.used ≤ i → i < labels_from s → get_or words i 0 ≡ 0)
    (labels : (l : ℕ) → label_right s (label_level l) (get_or words (labels_from s + l) 0) ≡ true) where
  right_position : (r : ℕ) → r < s.used → position_right s words r (get_or words (row_at s.allowed r + position_at) 0) ≡ true
  right_position zero h = eq-eqb _ 0 (first 0 h)
  right_position (suc r) h =
      let a = rising_at rises r (omega arith) in
      rw (first r (omega arith), first (suc r) h) (both (lt-ltb _ _ a.0) (le-leb _ _ a.1))

  row_word : (r c : ℕ) → c < row_length s.allowed → get_or (row_of (row_length s.allowed) r words) c 0 ≡ get_or words (row_at s.allowed r + c) 0
  row_word r c h =
      get_or-take (row_length s.allowed) (drop (row_at s.allowed r) words) c 0 h ∙ get_or-drop (row_at s.allowed r) words c 0

  right_cell : (r c : ℕ) → c < row_length s.allowed → row_at s.allowed r + c < labels_from s → cell_right s words r c ≡ true
  right_cell r c h inside =
      cond_true (leb s.used r)
      (λ e. eq-eqb _ 0 (rest (row_at s.allowed r + c) (omega (arith, mul-le-mul_right (row_length s.allowed) (leb-true s.used r e))) inside))
      (λ e.
      let row = rows r (leb-false _ _ e) in
      cond_true (eqb c position_at) (λ f. rw (eqb-true c 0 f) (right_position r (leb-false _ _ e)))
      (λ f.
      cond_true (ltb s.depth (level_of c)) (λ g. eq-eqb _ 0 (sym (row_word r c h) ∙ level_zero _ _ c _ row (omega (arith, ltb-true))))
      (λ g.
      cond_true (eqb (part_of c) 0)
      (λ i.
      let at-state : state_at (level_of c) ≡ c = omega (arith, eqb-true, eqb-false) in
      lt-ltb _ _ (rw (at-state, row_word r c h) at (row.states (level_of c) (ltb-false _ _ g))))
      (λ i. refl))))

  right_word : (i : ℕ) → word_right s words i ≡ true
  right_word i =
      let w : ℕ = row_length s.allowed in
      cond_true (ltb i (labels_from s))
      (λ e. right_cell (i / w) (i % w) (mod-lt i (omega arith)) (rw (div-add-mod' i w) (ltb-true i (labels_from s) e)))
      (λ e.
      let at : labels_from s + (i - labels_from s) ≡ i = omega (arith, ltb-false i (labels_from s) e) in
      ap (λ (j : ℕ). label_right s (label_level (i - labels_from s)) (get_or words j 0)) (sym at) ∙ labels (i - labels_from s))

  words_fine : first_fault s words ≡ None
  unfolding first_fault
  words_fine = all_fine (word_right s words) right_word (length words) 0

---------------------------------------------------------------- a whole memory

module _ (n rows depth d : ℕ) (m : Memory) (small : depth ≤ 40) (deep : d ≤ depth) (fits : length m.alive ≤ rows) (all : AllGood n d (rows_of m)) where
  used_length : length (all_words (row_length depth) (rows_of m)) ≡ row_at depth (length m.alive + 1)
  used_length = rw (add-one (length m.alive)) (all_length n (row_length depth) d (omega arith) (omega arith) (rows_of m) all)

  rows_length_lem : length (rows_words rows depth m) ≡ rows_length rows depth
  rows_length_lem =
      padded_length (rows_length rows depth) (all_words (row_length depth) (rows_of m)) (rw used_length (mul-le-mul_right (row_length depth) (omega arith)))

  rows_back : memory_in depth d (length m.alive) (rows_words rows depth m) ≡ m
  rows_back =
      let w = row_length depth in
      let rest : List ℕ = replicate (rows_length rows depth - length (all_words w (rows_of m))) 0 in
      same_memory _ _ m
      (sym (helds_first w d (length m.alive) (rows_words rows depth m)) ∙ helds_back n w d (omega arith) (omega arith) (rows_of m) rest all)

  module _ (o : List ℕ) where
    -- As long as work memory is.
    pub work_length_lem : length o ≤ depth → length (work_words rows depth m o) ≡ work_length rows depth
    work_length_lem l = length-append (rows_words rows depth m) (labels_words depth o) ∙ omega (arith, rows_length_lem, labels_length depth o l)

    -- The words of a memory and of labels stand for them.
    pub memory_back : memory_in depth d (length m.alive) (rows_part rows depth (work_words rows depth m o)) ≡ m
    memory_back =
        ap (memory_in depth d (length m.alive)) (take_at (rows_words rows depth m) (labels_words depth o) (rows_length rows depth) rows_length_lem)
        ∙ rows_back

    labels_then : labels_part rows depth (work_words rows depth m o) ≡ labels_words depth o
    labels_then = drop_at (rows_words rows depth m) (labels_words depth o) (rows_length rows depth) rows_length_lem

    pub labels_back : open_in (labels_part rows depth (work_words rows depth m o)) (length o) ≡ o
    labels_back = ap (λ (ws : List ℕ). open_in ws (length o)) labels_then ∙ open_back o (replicate (depth - length (open_words o)) 0)

  -- The newest level's word.
  pub newest_back : (a : ℕ) (o : List ℕ) → get_or (labels_part rows depth (work_words rows depth m (a ∷ o))) (label_at (length (a ∷ o))) 0 ≡ suc a
  newest_back a o =
      let at : label_at (length (a ∷ o)) ≡ length o = omega arith in
      ap (λ (ws : List ℕ). get_or ws (label_at (length (a ∷ o))) 0) (labels_then (a ∷ o))
      ∙ ap (λ (i : ℕ). get_or (labels_words depth (a ∷ o)) i 0) at
      ∙ newest_word_lem a o (replicate (depth - length (open_words (a ∷ o))) 0)

-- The words of a memory whose states are states of the table and whose positions rise, and of labels of the table, as many as
-- there are levels, are in order.
pub in_order : (n rows depth d p k : ℕ) (m : Memory) (o : List ℕ) → depth ≤ 40 → d ≤ depth → length m.alive ≤ rows → AllGood n d (rows_of m) →
    Rising p 0 (positions_of m.alive) → length o ≡ d → AllBelow k o →
    first_fault (record { rows = rows + 1; allowed = depth; used = length m.alive + 1; depth = d; states = n; positions = p; labels = k }) (work_words rows depth m o) ≡ None
in_order n rows depth d p k m o small deep fits all rises open-are labelled =
    let w : ℕ = row_length depth in
    let xs : List ℕ = all_words w (rows_of m) in
    let zeros : List ℕ = replicate (rows_length rows depth - length xs) 0 in
    let front : List ℕ = rows_words rows depth m in
    let after : List ℕ = labels_words depth o in
    let long : length front ≡ rows_length rows depth = rows_length_lem n rows depth d m small deep fits all in
    let rows_then : work_words rows depth m o ≡ xs ++ (zeros ++ after) = append_assoc xs zeros after in
    let s : Shape = record { rows = rows + 1; allowed = depth; used = length m.alive + 1; depth = d; states = n; positions = p; labels = k } in
    words_fine s (work_words rows depth m o) (positions_of m.alive) rises (omega (arith, length-map m.alive (λ (h : Held). h.position)))
    (λ r h.
    subst (λ (ws : List ℕ). RowIn n d (row_of w r ws)) (sym rows_then)
    ((rows_of_lem n w d (omega arith) (omega arith) (rows_of m) (zeros ++ after) all).each r (omega arith)))
    (λ r h.
    ap (λ (ws : List ℕ). get_or ws (row_at depth r + position_at) 0) rows_then
    ∙ position_at_lem n w d (omega arith) (omega arith) (rows_of m) (zeros ++ after) all r (omega arith))
    (λ i h l.
    get_or-append front after 0 i (omega (arith, long))
    ∙ past_words xs (rows_length rows depth - length xs) i (omega (arith, used_length n rows depth d m small deep fits all)))
    (λ l.
    ap (label_right s (label_level l)) (ap (λ (j : ℕ). get_or (front ++ after) (j + l) 0) (sym long) ∙ get_or-append-add front after l 0)
    ∙ cond_true (leb (label_level l) d)
    (λ e.
    let x = label_word k o (replicate (depth - length (open_words o)) 0) labelled l (omega (arith, leb-true (label_level l) d e)) in
    both (lt-ltb _ _ x.0) (le-leb _ _ x.1))
    (λ e. eq-eqb _ 0 (past_words (open_words o) (depth - length (open_words o)) l (omega (arith, leb-false (label_level l) d e, open_words_length o)))))

-- And so are zeros, where no row is in use and no level is open.
pub zeros_in_order : (n rows depth p k i : ℕ) →
    first_fault (record { rows = rows + 1; allowed = depth; used = 0; depth = 0; states = n; positions = p; labels = k }) (replicate i 0) ≡ None
zeros_in_order n rows depth p k i =
    let zeros : List ℕ = replicate i 0 in
    let zero-at : (j : ℕ) → get_or zeros j 0 ≡ 0 = λ j. past_words [] i j (omega arith) in
    words_fine _ zeros [] lists.none (omega arith) (λ r h. absurd (omega arith)) (λ r h. absurd (omega arith)) (λ j h l. zero-at j)
    (λ l. cond_true (leb (label_level l) 0) (λ e. absurd (omega (arith, leb-true (label_level l) 0 e))) (λ e. eq-eqb _ 0 (zero-at _)))
