-- The reader's steps are the reading of `grammar`, where the list of names is good: from a cursor that stands at a place,
-- bytes give the same events and are at fault alike. Assumes nothing.
use Rattle.std.proofs.Common.{Option, Result, Ok, Err}
use mathlib.Core.Path.{◌≡◌, refl, sym, ap, ap₂, ◌∙◌, subst}
use mathlib.Core.Bool.{Bool, true, false, cond, ◌&&◌}
use mathlib.Core.List.{List, [], ◌∷◌}
use Prim.Native.Nat.{ℕ, zero, suc, ◌+◌, ◌%◌, ◌<◌, ◌≤◌}
use native.Mathlib.Nat.{mod-eq_of_lt}
use native.Mathlib.Omega.{arith}
use borrow.Author.Tests.{ltb-true}
use lib.Dec.{eqb, ltb}
use lib.ListN.{length, get_or}
use Rattle.grammar.specs.declared.Fault.{Fault}
use Rattle.grammar.specs.declared.Fault.TheVariants as fault
use Rattle.grammar.specs.Bytes.{class_of}
use Rattle.grammar.specs.Names.{place_of, lines_of, good_names}
use Rattle.grammar.specs.Tags.{Tag, Begun}
use Rattle.grammar.specs.Feeding.{stopped, stepped, feed, roomed}
use Rattle.grammar.specs.Reading as reading
use Rattle.grammar.specs.Reading.{Place, Next, extend, read_step, fresh, judge, judged, close}
use Rattle.grammar.proofs.Names.{good_list}
use Rattle.names.specs.declared.Word.{Word}
use Rattle.names.specs.Words.{label_in, labelled, is_label}
use Rattle.names.proofs.Classes.{class_blank, class_letter, class_name, class_less, class_slash, class_greater}
use Rattle.names.proofs.Finding.{eqb_turned}
use Rattle.names.proofs.Spelling.{Spells, spells_none, spells_more}
use Rattle.names.proofs.Seeking.{label_of_spelt}
use Rattle.names.proofs.Listing.{good_known}
use Rattle.tags.specs.declared.levels.Levels.{Levels}
use Rattle.tags.specs.declared.reader.Within.{Within}
use Rattle.tags.specs.declared.reader.Within.TheVariants as within
use Rattle.tags.specs.declared.reader.Cursor.{Cursor}
use Rattle.tags.specs.declared.reader.Stepped.{Stepped}
use Rattle.tags.specs.Levels.{shallower, newest_of, open_from, open_in}
use Rattle.tags.specs.Cursors.{begin, moved, tag_at, judge_in, judge_by, tag_step, step_within, step_by, closed_within, closed_in, cursor_step, feed_in}
use Rattle.tags.proofs.Agreeing.{StepsAgree, FeedsAgree, agree_by, agree_feed, InRoom, agree_roomed}
use Rattle.tags.proofs.Opened.{Kept, kept_none, open_length, open_deeper, kept_deeper, kept_shallower, newest_is, open_shallower}

-- What is begun of a tag, as a cursor holds it.
pub data Begins (w : Word) : Within → Begun → Type 0 where
  nothing : Begins w within.Between Begun.nothing
  angle : Begins w within.Angle Begun.angle
  slashed : Begins w within.Slashed Begun.slashed
  opening : {x : List ℕ} → Spells w x → Begins w within.Opening (Begun.opening x)
  closing : {x : List ℕ} → Spells w x → Begins w within.Closing (Begun.closing x)
  empty : {x : List ℕ} → Spells w x → Begins w within.Empty (Begun.empty x)

-- A cursor stands at a place; its labels are those of k names.
pub record Stands (k : ℕ) (c : Cursor) (p : Place) : Type 0 where
  pub tag : Begins c.name c.within p.begun
  pub levels : p.levels ≡ open_in c.levels
  pub kept : Kept k c.levels

pub stands_begin : (k : ℕ) → Stands k begin fresh
stands_begin k = record { tag = Begins.nothing; levels = refl; kept = kept_none k }

closed_begun : {w : Word} {v : Within} {q : Begun} → Begins w v q → closed_within v ≡ reading.unbegun q
closed_begun Begins.nothing = refl
closed_begun Begins.angle = refl
closed_begun Begins.slashed = refl
closed_begun (Begins.opening h) = refl
closed_begun (Begins.closing h) = refl
closed_begun (Begins.empty h) = refl

-- As many elements are open.
depth_is : {k : ℕ} {c : Cursor} {p : Place} → Stands k c p → c.levels.depth ≡ length p.levels
depth_is {c = c} s = sym (open_length c.levels.labels c.levels.depth) ∙ ap length (sym s.levels)

pub closed_is : {k : ℕ} {c : Cursor} {p : Place} → Stands k c p → closed_in c ≡ reading.closed p
closed_is s = ap₂ (λ (t u : Bool). t && u) (closed_begun s.tag) (ap (λ (n : ℕ). eqb n 0) (depth_is s))

module _ {k : ℕ} (few : k ≤ 32) {c : Cursor} {p : Place} (s : Stands k c p) where
  -- A label is its own remainder.
  below_32 : (a : ℕ) → a < k → a % 32 ≡ a
  below_32 a h = mod-eq_of_lt (omega arith)

  agree_fault : (f : Fault) → StepsAgree (Stands k) (step_by c (Err f)) (stopped p f)
  agree_fault f = record { gives = refl; stops = refl; next = s }

  agree_moved : {v : Within} {w : Word} {q : Begun} → Begins w v q
      → StepsAgree (Stands k) (step_by c (Ok (moved c v w))) (stepped (record { begun = q; levels = p.levels }) [])
  agree_moved t = record { gives = refl; stops = refl; next = record { tag = t; levels = s.levels; kept = s.kept } }

  -- After a whole tag.
  agree_tag : {l : Levels} {o : List ℕ} (e : ℕ) → o ≡ open_in l → Kept k l
      → StepsAgree (Stands k) (step_by c (Ok (tag_at l e))) (stepped (reading.between o) (e ∷ []))
  agree_tag e h g = record { gives = refl; stops = refl; next = record { tag = Begins.nothing; levels = h; kept = g } }

  agree_open : (a : ℕ) (x : List ℕ) → a < k → StepsAgree (Stands k) (step_by c (judge_in within.Opening c a)) (judge p a (Tag.opening x))
  agree_open a x h =
      agree_by (λ x y. StepsAgree (Stands k) (step_by c x) y) (ltb c.levels.depth 40) (ltb (length p.levels) 40) (ap (λ (n : ℕ). ltb n 40) (depth_is s))
      (λ t. let d : c.levels.depth < 40 = rw (depth_is s) (ltb-true (length p.levels) 40 t) in
      agree_tag a (ap (λ (o : List ℕ). a ∷ o) s.levels ∙ sym (open_deeper s.kept a d)) (kept_deeper s.kept a h d))
      (agree_fault fault.Deep)

  agree_point : (a : ℕ) (x : List ℕ) → a < k → StepsAgree (Stands k) (step_by c (judge_in within.Empty c a)) (judge p a (Tag.empty x))
  agree_point a x h = rw (below_32 a h) (agree_tag (32 + a) s.levels s.kept)

  agree_close : (a : ℕ) (x : List ℕ) → a < k → StepsAgree (Stands k) (step_by c (judge_in within.Closing c a)) (judge p a (Tag.closing x))
  agree_close a x h = go c.levels.depth refl
    where
      go : (d : ℕ) → c.levels.depth ≡ d → StepsAgree (Stands k) (step_by c (judge_in within.Closing c a)) (close p a p.levels)
      go zero e =
          let none : p.levels ≡ [] = s.levels ∙ ap (λ (n : ℕ). open_from c.levels.labels n) e in
          let far : is_label (newest_of c.levels) a ≡ false = rw e in
          subst (λ (o : List ℕ). StepsAgree (Stands k) (step_by c (judge_in within.Closing c a)) (close p a o)) (sym none)
          (subst (λ (t : Bool). StepsAgree (Stands k) (step_by c (cond t (Ok (tag_at (shallower c.levels) (66 + a % 32))) (Err fault.Closing))) (stopped p fault.Closing))
          (sym far) (agree_fault fault.Closing))
      go (suc d) e =
          let newest = get_or c.levels.labels d 0 in
          let others = open_from c.levels.labels d in
          let some : p.levels ≡ newest ∷ others = s.levels ∙ ap (λ (n : ℕ). open_from c.levels.labels n) e in
          let test : is_label (newest_of c.levels) a ≡ eqb a newest = ap (λ (n : Option ℕ). is_label n a) (newest_is s.kept d e) ∙ eqb_turned newest a in
          subst (λ (o : List ℕ). StepsAgree (Stands k) (step_by c (judge_in within.Closing c a)) (close p a o)) (sym some)
          (agree_by (λ x y. StepsAgree (Stands k) (step_by c x) y) (is_label (newest_of c.levels) a) (eqb a newest) test
          (λ t. rw (below_32 a h) (agree_tag (66 + a) (sym (open_shallower s.kept d e)) (kept_shallower s.kept)))
          (agree_fault fault.Closing))

  module _ (names : List ℕ) (good : good_names names ≡ true) (count : length (lines_of names) ≡ k) where
    label_is : {x : List ℕ} → Spells c.name x → label_in names c.name ≡ labelled (lines_of names) x
    label_is {x} h =
        let g = good_known names good in
        label_of_spelt names h (rw g.0 g.1) ∙ ap (λ (ns : List (List ℕ)). labelled ns x) g.0

    -- A whole tag: its name is judged first.
    agree_whole : {x : List ℕ} {v : Within} (t : Tag) → Spells c.name x → c.within ≡ v
        → ((a : ℕ) → a < k → StepsAgree (Stands k) (step_by c (judge_in v c a)) (judge p a t))
        → StepsAgree (Stands k) (step_by c (tag_step names c)) (judged (lines_of names) p x t)
    agree_whole {x} t h i f =
        subst (λ (l : Option ℕ). StepsAgree (Stands k) (step_by c (judge_by l c)) (judged (lines_of names) p x t)) (sym (label_is h))
        (agree_by (λ (l : Option ℕ) y. StepsAgree (Stands k) (step_by c (judge_by l c)) y) (ltb (place_of x (lines_of names)) (length (lines_of names)))
        (ltb (place_of x (lines_of names)) (length (lines_of names))) refl
        (λ e.
        subst (λ (u : Within). StepsAgree (Stands k) (step_by c (judge_in u c (place_of x (lines_of names)))) (judge p (place_of x (lines_of names)) t)) (sym i)
        (f (place_of x (lines_of names)) (subst (λ (n : ℕ). place_of x (lines_of names) < n) count (ltb-true _ _ e))))
        (agree_fault fault.Unknown))

    -- A step of the reader agrees with what the reading says of what is begun then.
    abbrev Moves : Result Stepped Fault → Next → Type 0
    Moves x y = StepsAgree (Stands k) (step_by c x) (reading.moved (lines_of names) p y)

    -- A byte, by what is begun.
    agree_begun : (b : ℕ) {v : Within} {q : Begun} → Begins c.name v q → c.within ≡ v
        → StepsAgree (Stands k) (step_by c (step_within v names c (class_of b) b)) (reading.moved (lines_of names) p (extend q b))
    agree_begun b Begins.nothing e =
        agree_by Moves _ _ (class_blank b) (λ t. agree_moved Begins.nothing)
        (agree_by Moves _ _ (class_less b) (λ t. agree_moved Begins.angle) (agree_fault fault.Byte))
    agree_begun b Begins.angle e =
        agree_by Moves _ _ (class_letter b)
        (λ t. agree_moved (Begins.opening (spells_more spells_none b)))
        (agree_by Moves _ _ (class_slash b) (λ t. agree_moved Begins.slashed) (agree_fault fault.Byte))
    agree_begun b Begins.slashed e =
        agree_by Moves _ _ (class_letter b)
        (λ t. agree_moved (Begins.closing (spells_more spells_none b)))
        (agree_fault fault.Byte)
    agree_begun b (Begins.opening {x} h) e =
        agree_by Moves _ _ (class_name b) (λ t. agree_moved (Begins.opening (spells_more h b)))
        (agree_by Moves _ _ (class_greater b)
        (λ t. agree_whole (Tag.opening x) h e (λ a l. agree_open a x l))
        (agree_by Moves _ _ (class_slash b) (λ t. agree_moved (Begins.empty h)) (agree_fault fault.Byte)))
    agree_begun b (Begins.closing {x} h) e =
        agree_by Moves _ _ (class_name b) (λ t. agree_moved (Begins.closing (spells_more h b)))
        (agree_by Moves _ _ (class_greater b)
        (λ t. agree_whole (Tag.closing x) h e (λ a l. agree_close a x l))
        (agree_fault fault.Byte))
    agree_begun b (Begins.empty {x} h) e =
        agree_by Moves _ _ (class_greater b)
        (λ t. agree_whole (Tag.empty x) h e (λ a l. agree_point a x l))
        (agree_fault fault.Byte)

module _ (names : List ℕ) (good : good_names names ≡ true) where
  abbrev pub labels : ℕ
  labels = length (lines_of names)

  pub step_agrees : (c : Cursor) (p : Place) (b : ℕ) → Stands labels c p
      → StepsAgree (Stands labels) (cursor_step names c b) (read_step (lines_of names) p b)
  step_agrees c p b s = agree_begun (omega (arith, (good_list names good).few)) s names good refl b s.tag refl

  -- A piece of text from a cursor that stands at a place.
  pub piece_agrees : (c : Cursor) (p : Place) (room : ℕ) (s : List ℕ) → Stands labels c p
      → FeedsAgree (InRoom (Stands labels)) (feed_in names c room s) (feed (roomed (read_step (lines_of names))) (record { inner = p; left = room }) s)
  piece_agrees c p room s h =
      agree_feed (InRoom (Stands labels)) (roomed (cursor_step names)) (roomed (read_step (lines_of names)))
      (agree_roomed (Stands labels) (cursor_step names) (read_step (lines_of names)) step_agrees)
      (record { inner = c; left = room }) (record { inner = p; left = room }) s (record { inner = h; left = refl })
