-- What the parts of a step make of work memory, one after the other: rows and then zeros each time. Assumes a well-formed
-- table, words that are a work memory (`Stands`), and an event that can be taken.
use mathlib.Core.Path.{◌≡◌, refl, sym, ap, ◌∙◌, subst}
use mathlib.Core.List.{List, [], ◌∷◌, ◌++◌, map, append_assoc, append-nil}
use Prim.Native.Nat.{ℕ, zero, suc, ◌+◌, ◌-◌, ◌*◌, ◌<◌, ◌≤◌}
use native.Mathlib.Numerals.{add-one}
use native.Mathlib.Omega.{arith}
use lib.ListN.{length, get_or, take, drop, replicate, length-drop, replicate-append-replicate, drop_of_length-le}
use lib.Seq.{take_at, drop_at, drop-drop}
use Rattle.meaning.specs.Table.{Table, WellFormed}
use Rattle.meaning.specs.Streams.{Event, Open, Point, Close}
use Rattle.places.specs.Places.{position_at, row_length, row_at, rows_length, row_of, padded}
use Rattle.places.specs.Memory.{Held, row_words, all_words, row_in, helds_in, memory_in, rows_words, RowIn, RowsIn}
use Rattle.places.proofs.Good.{Good, AllGood, first_row, later_rows, rows_of_lem, helds_back, all_length, next_row_of, helds_length, held_back}
use Rattle.places.proofs.Good as good
use Rattle.places.proofs.Rows.{each_append}
use Rattle.rows.specs.Steps.{Can, step_row, on_row, depth_after}
use Rattle.reports.specs.Reports.{left_of}
use Rattle.meaning.specs.Lent.{put_at}
use Rattle.stepping.specs.Stepping.{Stands}
use Rattle.stepping.proofs.Kept.{all_step, left_good, map_length}
use Rattle.stepping.proofs.Whole.{rows_are, state_good, words_back}

-- States below n are below 64.
pub rows_64 : (n w d count : ℕ) (words : List ℕ) → n ≤ 64 → RowsIn n w d count words → RowsIn 64 w d count words
rows_64 n w d count words few r =
    record {
      short = r.short;
      deep = r.deep;
      fits = r.fits;
      each = λ i l.
          let row = r.each i l in
          record { short = row.short; deep = row.deep; same = row.same; states = λ k m. omega (arith, row.states k m, few) };
    }

drop_zeros : (i k : ℕ) → drop i (replicate {A = ℕ} k 0) ≡ replicate (k - i) 0
drop_zeros zero k = let e : k ≡ k - 0 = omega arith in ap (λ j. replicate j 0) e
drop_zeros (suc i) zero = let e : 0 ≡ 0 - suc i = omega arith in ap (λ j. replicate j 0) e
drop_zeros (suc i) (suc k) = let e : k - i ≡ suc k - suc i = omega arith in drop_zeros i k ∙ ap (λ j. replicate j 0) e

---------------------------------------------------------------- positions that can be reported

pub data AllSmall : List Held → Type 0 where
  none : AllSmall []
  over : {h : Held} {hs : List Held} → h.position ≤ 2147483647 → AllSmall hs → AllSmall (h ∷ hs)

small_append : {xs ys : List Held} → AllSmall xs → AllSmall ys → AllSmall (xs ++ ys)
small_append none b = b
small_append (over p a) b = over p (small_append a b)

pub helds_small : (w d count : ℕ) (words : List ℕ) → ((r : ℕ) → r < count → get_or (row_of w r words) position_at 0 ≤ 2147483647) → AllSmall (helds_in w d count words)
helds_small w d zero words h = none
helds_small w d (suc count) words h =
    small_append (helds_small w d count words (λ r l. h r (omega arith))) (over (h count (omega arith)) none)

pub step_small : (f : Held → Held) → ((h : Held) → (f h).position ≡ h.position) → {hs : List Held} → AllSmall hs → AllSmall (map f hs)
step_small f e none = none
step_small f e (over {h} p a) = over {h = f h} (rw (e h) p) (step_small f e a)

pub rows_small : (n w d : ℕ) → w ≤ row_length 40 → row_length d ≤ w → (hs : List Held) (rest : List ℕ) → AllGood n d hs → AllSmall hs
    → (r : ℕ) → r < length hs → get_or (row_of w r (all_words w hs ++ rest)) position_at 0 ≤ 2147483647
rows_small n w d short deep [] rest a b r l = absurd (omega arith)
rows_small n w d short deep (h ∷ hs) rest (good.over g a) (over p b) zero l =
    rw (first_row n w d short deep h hs rest g) p
rows_small n w d short deep (h ∷ hs) rest (good.over g a) (over p b) (suc r) l =
    rw (next_row_of w r (all_words w (h ∷ hs) ++ rest), later_rows n w d short deep h hs rest g) (rows_small n w d short deep hs rest a b r (omega arith))

---------------------------------------------------------------- the parts of a step

module _ (t : Table) (wf : WellFormed t) (accs : List ℕ) (e : Event) (rows depth d alive : ℕ) (words : List ℕ)
    (s : Stands t.states rows depth d alive words) (can : Can t (row_length depth) d e) where
  abbrev f : Held → Held
  f h = on_row (step_row t accs e) h

  abbrev pub older : List Held
  older = map f (memory_in depth d alive words).alive

  abbrev pub run : Held
  run = record { position = 0; row = step_row t accs e (memory_in depth d alive words).run }

  short : row_length depth ≤ row_length 40
  short = omega (arith, s.few_levels)

  deep_as : (e : Event) → Can t (row_length depth) d e → row_length (depth_after e d) ≤ row_length depth
  deep_as (Open a) c = c.1
  deep_as (Point a) c = omega (arith, s.deep)
  deep_as Close c = omega (arith, s.deep)

  deep : row_length (depth_after e d) ≤ row_length depth
  deep = deep_as e can

  all : AllGood t.states (depth_after e d) (run ∷ older)
  all = all_step t wf accs e (row_length depth) d can (state_good t.states rows depth d alive words s)

  run_good : Good t.states (depth_after e d) run
  run_good = elim all [ good.over g a ↦ g ]

  older_good : AllGood t.states (depth_after e d) older
  older_good = elim all [ good.over g a ↦ a ]

  pub older_length : length older ≡ alive
  older_length = map_length f (memory_in depth d alive words).alive ∙ helds_length (row_length depth) d alive (drop (row_length depth) words)

  -- After the rows have stepped.
  module _ (next : List ℕ) (is : next ≡ all_words (row_length depth) (map f (helds_in (row_length depth) d (alive + 1) words)) ++ drop ((alive + 1) * row_length depth) words) where
    pub stepped_words : next ≡ all_words (row_length depth) (run ∷ older) ++ replicate (length words - row_at depth (alive + 1)) 0
    stepped_words =
        is
        ∙ ap (λ hs. all_words (row_length depth) (map f hs) ++ drop ((alive + 1) * row_length depth) words) (rows_are t.states rows depth d alive words s)
        ∙ ap (λ xs. all_words (row_length depth) (run ∷ older) ++ xs) s.rest

    later : drop (row_length depth) next ≡ all_words (row_length depth) older ++ replicate (length words - row_at depth (alive + 1)) 0
    later =
        ap (drop (row_length depth)) stepped_words
        ∙ later_rows t.states (row_length depth) (depth_after e d) short deep run older (replicate (length words - row_at depth (alive + 1)) 0) run_good

    pub later_in : RowsIn 64 (row_length depth) (depth_after e d) alive (drop (row_length depth) next)
    later_in =
        let w : ℕ = row_length depth in
        let zeros : List ℕ = replicate (length words - row_at depth (alive + 1)) 0 in
        let r = rows_64 t.states w (depth_after e d) (length older) (all_words w older ++ zeros) wf.few_states (rows_of_lem t.states w (depth_after e d) short deep older zeros older_good) in
        subst (RowsIn 64 w (depth_after e d) alive) (sym later) (subst (λ k. RowsIn 64 w (depth_after e d) k (all_words w older ++ zeros)) older_length r)

    pub later_helds : helds_in (row_length depth) (depth_after e d) alive (drop (row_length depth) next) ≡ older
    later_helds =
        let w : ℕ = row_length depth in
        let zeros : List ℕ = replicate (length words - row_at depth (alive + 1)) 0 in
        ap (helds_in w (depth_after e d) alive) later
        ∙ subst (λ k. helds_in w (depth_after e d) k (all_words w older ++ zeros) ≡ older) older_length (helds_back t.states w (depth_after e d) short deep older zeros older_good)

    pub later_small : (r : ℕ) → r < alive → get_or (row_of (row_length depth) r (drop (row_length depth) next)) position_at 0 ≤ 2147483647
    later_small r l =
        let w : ℕ = row_length depth in
        let zeros : List ℕ = replicate (length words - row_at depth (alive + 1)) 0 in
        let small = step_small f (λ h. refl) (helds_small w d alive (drop w words) s.positions) in
        subst (λ xs. get_or (row_of w r xs) position_at 0 ≤ 2147483647) (sym later) (rows_small t.states w (depth_after e d) short deep older zeros older_good small r (omega (arith, older_length)))

    -- After the rows in doubt have closed up.
    module _ (part : List ℕ) (closed : part ≡ padded (alive * row_length depth) (all_words (row_length depth) (left_of (helds_in (row_length depth) (depth_after e d) alive (drop (row_length depth) next)))) ++ drop (alive * row_length depth) (drop (row_length depth) next)) where
      abbrev pub room : ℕ
      room = alive * row_length depth - length (all_words (row_length depth) (left_of older)) + (length words - row_at depth (alive + 1))

      pub closed_words : take (row_length depth) next ++ (part ++ drop (length next - row_length depth) (drop (row_length depth) next)) ≡ all_words (row_length depth) (run ∷ left_of older) ++ replicate room 0
      closed_words =
          let w : ℕ = row_length depth in
          let j : ℕ = length words - row_at depth (alive + 1) in
          let k : ℕ = alive * w - length (all_words w (left_of older)) in
          let xs : List ℕ = all_words w (left_of older) in
          let front : take w next ≡ row_words w run = ap (take w) (stepped_words ∙ append_assoc (row_words w run) (all_words w older) (replicate j 0)) ∙ take_at (row_words w run) (all_words w older ++ replicate j 0) w (good.good_length t.states w (depth_after e d) short deep run run_good) in
          let none : drop (length next - w) (drop w next) ≡ [] = drop_of_length-le (drop w next) {i = length next - w} (omega (arith, length-drop w next)) in
          let size : length (all_words w older) ≡ alive * w = all_length t.states w (depth_after e d) short deep older older_good ∙ ap (λ i. i * w) older_length in
          let back : drop (alive * w) (drop w next) ≡ replicate j 0 = ap (drop (alive * w)) later ∙ drop_at (all_words w older) (replicate j 0) (alive * w) size in
          let mid : part ≡ xs ++ replicate (k + j) 0 =
          closed
          ∙ ap (λ hs. padded (alive * w) (all_words w (left_of hs)) ++ drop (alive * w) (drop w next)) later_helds
          ∙ ap (λ ys. padded (alive * w) xs ++ ys) back
          ∙ append_assoc xs (replicate k 0) (replicate j 0)
          ∙ ap (λ ys. xs ++ ys) (replicate-append-replicate k j 0)
          in
          ap (λ ys. ys ++ (part ++ drop (length next - w) (drop w next))) front
          ∙ ap (λ ys. row_words w run ++ (part ++ ys)) none
          ∙ ap (λ ys. row_words w run ++ ys) (append-nil part ∙ mid)
          ∙ sym (append_assoc (row_words w run) xs (replicate (k + j) 0))

      -- Row 0 and the rows left, in whichever words they then are.
      module _ (now : List ℕ) (is-now : now ≡ all_words (row_length depth) (run ∷ left_of older) ++ replicate room 0) where
        pub run_in : RowIn t.states (depth_after e d) (row_of (row_length depth) 0 now)
        run_in =
            subst (RowIn t.states (depth_after e d)) (sym (ap (row_of (row_length depth) 0) is-now ∙ first_row t.states (row_length depth) (depth_after e d) short deep run (left_of older) (replicate room 0) run_good))
            (good.good_row t.states (depth_after e d) (row_length depth) run run_good short deep)

        pub run_is : row_in (depth_after e d) (row_of (row_length depth) 0 now) ≡ run.row
        run_is =
            ap (row_in (depth_after e d)) (ap (row_of (row_length depth) 0) is-now ∙ first_row t.states (row_length depth) (depth_after e d) short deep run (left_of older) (replicate room 0) run_good)
            ∙ ap (λ h. h.row) (held_back (row_length depth) (depth_after e d) run run_good.levels)

        left_size : length (all_words (row_length depth) (run ∷ left_of older)) ≡ (length (left_of older) + 1) * row_length depth
        left_size =
            all_length t.states (row_length depth) (depth_after e d) short deep (run ∷ left_of older) (good.over run_good (left_good older_good))
            ∙ ap (λ i. i * row_length depth) (sym (add-one (length (left_of older))))

        -- With no new row.
        pub none_added : length now ≡ rows_length rows depth → now ≡ rows_words rows depth (record { run = run.row; alive = left_of older })
        none_added l = words_back rows depth room (record { run = run.row; alive = left_of older }) now is-now l

        -- With rows put after those left.
        pub some_added : (more : List Held) (last : List ℕ) → last ≡ put_at ((length (left_of older) + 1) * row_length depth) (all_words (row_length depth) more) now → length last ≡ rows_length rows depth
            → last ≡ rows_words rows depth (record { run = run.row; alive = left_of older ++ more })
        some_added more last put l =
            let w : ℕ = row_length depth in
            let xs : List ℕ = all_words w (run ∷ left_of older) in
            let ys : List ℕ = all_words w more in
            let at : ℕ = (length (left_of older) + 1) * w in
            let front : take at now ≡ xs = ap (take at) is-now ∙ take_at xs (replicate room 0) at left_size in
            let back : drop (at + length ys) now ≡ replicate (room - length ys) 0 =
            ap (drop (at + length ys)) is-now
            ∙ sym (drop-drop (length ys) at (xs ++ replicate room 0))
            ∙ ap (drop (length ys)) (drop_at xs (replicate room 0) at left_size)
            ∙ drop_zeros (length ys) room
            in
            words_back rows depth (room - length ys) (record { run = run.row; alive = left_of older ++ more }) last
            (put
            ∙ ap (λ zs. zs ++ ys ++ drop (at + length ys) now) front
            ∙ ap (λ zs. xs ++ ys ++ zs) back
            ∙ ap (λ zs. zs ++ replicate (room - length ys) 0) (sym (each_append (row_words w) (run ∷ left_of older) more)))
            l
