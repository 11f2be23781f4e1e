-- What the loops over rows keep true, turn by turn, and what a step takes a row to. Assumes nothing.
use mathlib.Core.Path.{◌≡◌, refl, sym, ap, ◌∙◌}
use mathlib.Core.Bool.{Bool, true, false, not, cond}
use mathlib.Core.List.{List, [], ◌∷◌, ◌++◌, append-nil, append_assoc}
use Prim.Native.Nat.{ℕ, zero, suc, ◌+◌, ◌-◌, ◌*◌, ◌<◌, ◌≤◌}
use native.Mathlib.Nat.{mul-le-mul_right, zero-mul, add-zero}
use native.Mathlib.Omega.{arith}
use lib.ListN.{length, take, drop, replicate, take-append-drop, length-append, length-drop}
use lib.Seq.{paste, take-paste, drop-paste, length-paste, drop-drop, take-add, length-take-le}
use Rattle.meaning.specs.Table.{Table, WellFormed}
use Rattle.meaning.specs.Streams.{Event, Open, Point, Close}
use Rattle.meaning.specs.Rows.{Row, mark_row}
use Rattle.places.specs.Places.{row_of, padded}
use Rattle.places.specs.Memory.{Held, row_words, all_words, each, row_in, held_in, helds_in, RowIn, RowsIn}
use Rattle.rows.specs.Steps.{Can, step_row, next_state, in_row, is_decided}
use Rattle.reports.specs.Reports.{left_over, left_of}
use Rattle.places.proofs.Rows.{each_append, each_next, next_row, row_fits, part_length, past_row, put_length, rest_as, turned, copied_part, copied_put}

---------------------------------------------------------------- a step's newest state

module _ (t : Table) (accs : List ℕ) where
  next_is : (e : Event) (r : Row) → next_state t e r ≡ (step_row t accs e r).newest.state
  next_is (Open a) r = refl
  next_is (Point a) r = refl
  next_is Close r = refl

  -- What is told of the row in that state, of the stepped row; and of the new position's.
  pub stays_as : (e : Event) (r : Row) (q : ℕ) (b : Bool) → q ≡ next_state t e r → b ≡ not (is_decided (in_row q (step_row t accs e r))) → b ≡ not (is_decided (step_row t accs e r))
  stays_as e r q b k told = told ∙ ap (λ (x : ℕ). not (is_decided (in_row x (step_row t accs e r)))) (k ∙ next_is e r)

  pub new_stays_as :
      (e : Event) (r : Row) (q s : ℕ) (b : Bool) → q ≡ next_state t e r → s ≡ t.mark q → b ≡ not (is_decided (in_row s (step_row t accs e r))) →
      b ≡ not (is_decided (mark_row t (step_row t accs e r)))
  new_stays_as e r q s b k m told = told ∙ ap (λ (x : ℕ). not (is_decided (in_row x (step_row t accs e r)))) (m ∙ ap t.mark (k ∙ next_is e r))

module _ {t : Table} (f : WellFormed t) where
  close_in : (d : ℕ) (words : List ℕ) → RowIn t.states d words → 0 < d → next_state t Close (row_in d words) < t.states
  close_in zero words h l = absurd (omega arith)
  close_in (suc d) words h l = f.apply_in _ _ (h.states d (omega arith)) (h.states (suc d) (omega arith))

  next_in : (w d : ℕ) (words : List ℕ) → RowIn t.states d words → (e : Event) → Can t w d e → next_state t e (row_in d words) < t.states
  next_in w d words h (Open a) c = f.opening_in a c.0
  next_in w d words h (Point a) c = f.point_in _ a (h.states d (omega arith)) c
  next_in w d words h Close c = close_in d words h c

  -- It is one of the table's, and so is what M makes of it.
  pub next_in_as : (w d : ℕ) (words : List ℕ) → RowIn t.states d words → (e : Event) → Can t w d e → (q : ℕ) → q ≡ next_state t e (row_in d words) → q < t.states
  next_in_as w d words h e c q k = rw k (next_in w d words h e c)

  pub mark_in_as : (q s : ℕ) → s ≡ t.mark q → q < t.states → s < t.states
  mark_in_as q s k l = rw k (f.mark_in q l)

---------------------------------------------------------------- a row that is lent

-- Row r, where it is still as it was, is a row.
pub row_in_lem :
    (n w d count r : ℕ) (words words₀ : List ℕ) → RowsIn n w d count words₀ → r < count → drop (r * w) words ≡ drop (r * w) words₀ →
    RowIn n d (row_of w r words)
row_in_lem n w d count r words words₀ h l same = rw same (h.each r l)

-- It can take what a row of w words can.
pub row_can :
    (w d r : ℕ) (words : List ℕ) → r * w + w ≤ length words → (t : Table) (e : Event) → Can t w d e → Can t (length (row_of w r words)) d e
row_can w d r words fits t e c = rw (part_length words (r * w) w fits) c

-- Its words are those of the row that it stands for.
pub row_words_lem : (n w d count r : ℕ) (words : List ℕ) → RowsIn n w d count words → r < count → row_of w r words ≡ row_words w (held_in d (row_of w r words))
row_words_lem n w d count r words h l =
    (h.each r l).same
    ∙ ap (λ (k : ℕ). row_words k (held_in d (row_of w r words))) (part_length words (r * w) w (row_fits count r w (length words) l h.fits))

---------------------------------------------------------------- rows gone through, each put anew

-- Each of the first r rows is what g gives for it, the rest is as it was.
module _ (g : Held → List ℕ) (w d n : ℕ) (words₀ : List ℕ) where
  pub record Stepped (words : List ℕ) (r : ℕ) : Type 0 where
    pub r_max : r ≤ n
    pub front : words ≡ each g (helds_in w d r words₀) ++ drop (r * w) words₀
    pub size : length (each g (helds_in w d r words₀)) ≡ r * w
    pub len : length words ≡ length words₀

  pub stepped_start : Stepped words₀ 0
  stepped_start = record { r_max = omega arith; front = rw (zero-mul w); size = sym (zero-mul w); len = refl }

  module _ (words : List ℕ) (r : ℕ) (i : Stepped words r) where
    pub stepped_rest : drop (r * w) words ≡ drop (r * w) words₀
    stepped_rest = rest_as w r words₀ (each g (helds_in w d r words₀)) words i.front i.size

    pub stepped_next :
        r < n → r * w + w ≤ length words → (ys : List ℕ) → ys ≡ g (held_in d (row_of w r words₀)) → length ys ≡ w →
        Stepped (take (r * w) words ++ (ys ++ drop w (drop (r * w) words))) (r + 1)
    stepped_next h fits ys e l =
        let more : each g (helds_in w d (r + 1) words₀) ≡ each g (helds_in w d r words₀) ++ ys = each_next g w d r words₀ ∙ ap (λ (zs : List ℕ). each g (helds_in w d r words₀) ++ zs) (sym e) in
        record {
          r_max = omega arith;
          front = turned w r words₀ (each g (helds_in w d r words₀)) words i.front i.size ys ∙ ap (λ (zs : List ℕ). zs ++ drop ((r + 1) * w) words₀) (sym more);
          size = ap length more ∙ length-append (each g (helds_in w d r words₀)) ys ∙ omega (arith, i.size, next_row r w);
          len = put_length words ys (r * w) w fits l ∙ i.len;
        }

---------------------------------------------------------------- rows that are left

flip : {A : Type 0} (xs : List A) (b : Bool) → cond b [] xs ≡ cond (not b) xs []
flip xs true = refl
flip xs false = refl

-- A row in doubt is left, another not.
left_over_lem : (h : Held) (b : Bool) → b ≡ not (is_decided h.row) → left_over h ≡ cond b (h ∷ []) []
left_over_lem h b e = flip (h ∷ []) (is_decided h.row) ∙ ap (λ (x : Bool). cond x (h ∷ []) []) (sym e)

-- As many as were counted of the first r rows are left once f is done to each.
module _ (f : Held → Held) (w d n : ℕ) (words : List ℕ) where
  abbrev pub left_after : Held → List Held
  left_after h = left_over (f h)

  pub record Counted (count r : ℕ) : Type 0 where
    pub r_max : r ≤ n
    pub count_max : count ≤ r
    pub counted : count ≡ length (each left_after (helds_in w d r words))

  pub counted_start : Counted 0 0
  counted_start = record { r_max = omega arith; count_max = omega arith; counted = refl }

  module _ (count r : ℕ) (i : Counted count r) (h : r < n) (b : Bool) (e : b ≡ not (is_decided (f (held_in d (row_of w r words))).row)) where
    counted_more : length (each left_after (helds_in w d (r + 1) words)) ≡ count + length (cond b (f (held_in d (row_of w r words)) ∷ []) [])
    counted_more =
        ap length (each_next left_after w d r words)
        ∙ length-append (each left_after (helds_in w d r words)) (left_after (held_in d (row_of w r words)))
        ∙ ap (λ (k : ℕ). k + length (left_after (held_in d (row_of w r words)))) (sym i.counted)
        ∙ ap (λ (zs : List Held). count + length zs) (left_over_lem (f (held_in d (row_of w r words))) b e)

    pub counted_yes : b ≡ true → Counted (count + 1) (r + 1)
    counted_yes y =
        record {
          r_max = omega arith;
          count_max = omega (arith, i.count_max);
          counted = sym (counted_more ∙ ap (λ (x : Bool). count + length (cond x (f (held_in d (row_of w r words)) ∷ []) [])) y);
        }

    pub counted_no : b ≡ false → Counted count (r + 1)
    counted_no y =
        record {
          r_max = omega arith;
          count_max = omega (arith, i.count_max);
          counted = sym (counted_more ∙ ap (λ (x : Bool). count + length (cond x (f (held_in d (row_of w r words)) ∷ []) [])) y ∙ add-zero count);
        }

---------------------------------------------------------------- rows that close up

-- A row copied onto itself leaves the words as they were.
pub copied_onto : (words : List ℕ) (at w : ℕ) → paste words at (drop at words) w ≡ words
copied_onto words at w = ap (λ (xs : List ℕ). xs ++ drop (at + w) words) (sym (take-add at w words)) ∙ take-append-drop (at + w) words

-- Of the first r rows those that are left stand in front, and rows r and on are as they were.
module _ (w d n : ℕ) (words₀ : List ℕ) where
  pub record Closed (words : List ℕ) (r left : ℕ) : Type 0 where
    pub r_max : r ≤ n
    pub left_max : left ≤ r
    pub len : length words ≡ length words₀
    pub count : left ≡ length (left_of (helds_in w d r words₀))
    pub front : take (left * w) words ≡ all_words w (left_of (helds_in w d r words₀))
    pub back : drop (r * w) words ≡ drop (r * w) words₀

  pub closed_start : Closed words₀ 0 0
  closed_start = record { r_max = omega arith; left_max = omega arith; len = refl; count = refl; front = rw (zero-mul w); back = refl }

  module _ (words : List ℕ) (r left : ℕ) (i : Closed words r left) (h : r < n) (fits : r * w + w ≤ length words) (b : Bool) (e : b ≡ not (is_decided (row_in d (row_of w r words₀)))) where
    further : drop ((r + 1) * w) words ≡ drop ((r + 1) * w) words₀
    further = sym (past_row w r words) ∙ ap (drop w) i.back ∙ past_row w r words₀

    more : left_of (helds_in w d (r + 1) words₀) ≡ left_of (helds_in w d r words₀) ++ cond b (held_in d (row_of w r words₀) ∷ []) []
    more =
        each_next left_over w d r words₀
        ∙ ap (λ (zs : List Held). left_of (helds_in w d r words₀) ++ zs) (left_over_lem (held_in d (row_of w r words₀)) b e)

    pub closed_no : b ≡ false → Closed words (r + 1) left
    closed_no y =
        let kept = left_of (helds_in w d r words₀) in
        let same : left_of (helds_in w d (r + 1) words₀) ≡ kept = more ∙ ap (λ (x : Bool). kept ++ cond x (held_in d (row_of w r words₀) ∷ []) []) y ∙ append-nil kept in
        record {
          r_max = omega arith;
          left_max = omega (arith, i.left_max);
          len = i.len;
          count = i.count ∙ ap length (sym same);
          front = i.front ∙ ap (all_words w) (sym same);
          back = further;
        }

    pub closed_yes : row_of w r words₀ ≡ row_words w (held_in d (row_of w r words₀)) → b ≡ true → Closed (paste words (left * w) (drop (r * w) words) w) (r + 1) (left + 1)
    closed_yes row y =
        let held = held_in d (row_of w r words₀) in
        let kept = left_of (helds_in w d r words₀) in
        let le : left * w ≤ r * w = mul-le-mul_right w i.left_max in
        let lw : w ≤ length (drop (r * w) words) = rw length-drop (omega arith) in
        let k : r * w + w ≡ left * w + w + (r * w - left * w) = omega arith in
        let one : left_of (helds_in w d (r + 1) words₀) ≡ kept ++ (held ∷ []) = more ∙ ap (λ (x : Bool). kept ++ cond x (held ∷ []) []) y in
        record {
          r_max = omega arith;
          left_max = omega (arith, i.left_max);
          len = length-paste words (left * w) (drop (r * w) words) w (omega arith) lw ∙ i.len;
          count = ap (λ (x : ℕ). x + 1) i.count ∙ sym (ap length one ∙ length-append kept (held ∷ []));
          front =
              ap (λ (x : ℕ). take x (paste words (left * w) (drop (r * w) words) w)) (next_row left w)
              ∙ take-paste words (left * w) (drop (r * w) words) w (omega arith) lw
              ∙ ap (λ (xs : List ℕ). xs ++ take w (drop (r * w) words)) i.front
              ∙ ap (λ (xs : List ℕ). all_words w kept ++ take w xs) i.back
              ∙ ap (λ (xs : List ℕ). all_words w kept ++ xs) row
              ∙ sym (ap (all_words w) one ∙ each_append (row_words w) kept (held ∷ []) ∙ ap (λ (xs : List ℕ). all_words w kept ++ xs) (append-nil (row_words w held)));
          back = rw (
            next_row r w,
            k,
            ← drop-drop (r * w - left * w) (left * w + w) (paste words (left * w) (drop (r * w) words) w),
            drop-paste words (left * w) (drop (r * w) words) w (omega arith) lw,
            drop-drop (r * w - left * w) (left * w + w) words,
            ← k,
            ← next_row r w,
          ) further;
        }

  -- The rest is made 0.
  pub closed_end :
      n * w ≤ length words₀ → (words : List ℕ) (left : ℕ) → Closed words n left →
      take (left * w) words ++ (replicate (n * w - left * w) 0 ++ drop (n * w - left * w) (drop (left * w) words))
      ≡ padded (n * w) (all_words w (left_of (helds_in w d n words₀))) ++ drop (n * w) words₀
  closed_end fits words left i =
      let kept : List ℕ = all_words w (left_of (helds_in w d n words₀)) in
      let le : left * w ≤ n * w = mul-le-mul_right w i.left_max in
      let k : left * w + (n * w - left * w) ≡ n * w = omega arith in
      let l : left * w ≡ length kept = sym (length-take-le (left * w) words (omega (arith, i.len))) ∙ ap length i.front in
      ap (λ (xs : List ℕ). xs ++ (replicate (n * w - left * w) 0 ++ drop (n * w - left * w) (drop (left * w) words))) i.front
      ∙ ap (λ (xs : List ℕ). kept ++ (replicate (n * w - left * w) 0 ++ xs)) (drop-drop (n * w - left * w) (left * w) words ∙ ap (λ (x : ℕ). drop x words) k ∙ i.back)
      ∙ ap (λ (x : ℕ). kept ++ (replicate (n * w - x) 0 ++ drop (n * w) words₀)) l
      ∙ sym (append_assoc kept (replicate (n * w - length kept) 0) (drop (n * w) words₀))

---------------------------------------------------------------- a row that is added

-- Row 0 copied to row r.
module _ (w r : ℕ) (words last : List ℕ) (fits : r * w + w ≤ length words) (copied : last ≡ paste words (r * w) (drop 0 words) w) where
  pub copied_length : length last ≡ length words
  copied_length = ap length copied ∙ length-paste words (r * w) (drop 0 words) w fits (omega arith)

  pub copied_row : row_of w r last ≡ row_of w 0 words
  copied_row =
      ap (λ (xs : List ℕ). take w (drop (r * w) xs)) copied
      ∙ copied_part words (drop 0 words) (r * w) w fits (omega arith)
      ∙ ap (λ (x : ℕ). take w (drop x words)) (sym (zero-mul w))

  pub copied_end :
      (f : List ℕ → Held) (ys : List ℕ) → ys ≡ row_words (length (row_of w r last)) (f (row_of w r last)) →
      take (r * w) last ++ (ys ++ drop w (drop (r * w) last)) ≡ take (r * w) words ++ row_words w (f (row_of w 0 words)) ++ drop ((r + 1) * w) words
  copied_end f ys e =
      let size : length (row_of w r last) ≡ w = part_length last (r * w) w (omega (arith, copied_length)) in
      let told : ys ≡ row_words w (f (row_of w 0 words)) = e ∙ ap (λ (x : ℕ). row_words x (f (row_of w r last))) size ∙ ap (λ (xs : List ℕ). row_words w (f xs)) copied_row in
      ap (λ (xs : List ℕ). take (r * w) xs ++ (ys ++ drop w (drop (r * w) xs))) copied
      ∙ copied_put words (drop 0 words) (r * w) w fits (omega arith) ys
      ∙ ap (λ (xs : List ℕ). take (r * w) words ++ xs ++ drop (r * w + w) words) told
      ∙ ap (λ (x : ℕ). take (r * w) words ++ row_words w (f (row_of w 0 words)) ++ drop x words) (sym (next_row r w))
