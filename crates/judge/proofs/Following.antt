-- How groups of lines follow one another: the table's, the call's, then the event's. Assumes nothing.
use Rattle.std.specs.Prelude.{Ok, Err}
use mathlib.Core.Bool.{Bool, true, false, not, cond, ◌||◌}
use mathlib.Core.List.{List, [], ◌∷◌, ◌++◌}
use mathlib.Core.Path.{◌≡◌, refl, sym, ap, ap₂, ◌∙◌}
use Prim.Native.Nat.{ℕ, ◌+◌}
use lib.Dec.{ltb}
use lib.ListN.{length}
use Rattle.meaning.specs.Refusals.{Line, first_of}
use Rattle.bodies.specs.Sound.{states_in, labels_in}
use Rattle.table.specs.File.{Reading, is_short, header_right, contents_right, length_right, bodies_right, by_contents, by_bodies, reading_of}
use Rattle.table.specs.declared.Refusal.{Refusal}
use Rattle.table.specs.declared.Refusal.TheVariants as file
use Rattle.table.proofs.Sound.{taken_is_sound}
use Rattle.answers.specs.declared.Record.{Record}
use Rattle.answers.specs.declared.Event.{Event}
use Rattle.answers.specs.declared.Refusal as answers
use Rattle.answers.specs.declared.Refusal.TheVariants as why
use Rattle.judge.specs.Judging.{Judged, fine, refuses, table_lines, call_lines, event_lines, judged_lines, start_lines, sizes_right}
use Rattle.judge.specs.Judging.{is_fault, fault_at, fault_of, newest_word}

-- A judgement that refuses stands; after one that does not, the next is given.
abbrev after : Judged → Judged → Judged
after (Ok done) next = next
after (Err reason) next = Err reason

-- What is judged after a file was read.
abbrev after_reading : Reading → Judged → Judged
after_reading (Ok (n, k)) next = next
after_reading (Err reason) next = Err (why.Table reason)

-- Lines after lines.
pub first_append : {A : Type 0} (xs ys : List (Line A)) (o : A) → first_of (xs ++ ys) o ≡ first_of xs (first_of ys o)
first_append [] ys o = refl
first_append (l ∷ xs) ys o = rw (first_append xs ys o)

-- The table's lines say what reading the file says.
table_first : (f : List ℕ) (o : Judged) → first_of (table_lines f) o ≡ after_reading (reading_of f) o
table_first f o = go (is_short f) (header_right f) (contents_right f) (length_right f) (bodies_right f) (by_contents f) (by_bodies f)
  where
    go :
        (a b c d e : Bool) (contents bodies : Refusal) →
        cond a (Err (why.Table file.Short))
        (cond (not b) (Err (why.Table file.Header))
        (cond (not c) (Err (why.Table contents))
        (cond (not d) (Err (why.Table file.Length))
        (cond (not e) (Err (why.Table bodies)) o))))
        ≡ after_reading
        (cond a (Err file.Short)
        (cond (not b) (Err file.Header)
        (cond (not c) (Err contents)
        (cond (not d) (Err file.Length)
        (cond (not e) (Err bodies) (Ok (states_in f, labels_in f)))))))
        o
    go true b c d e contents bodies = refl
    go false false c d e contents bodies = refl
    go false true false d e contents bodies = refl
    go false true true false e contents bodies = refl
    go false true true true false contents bodies = refl
    go false true true true true contents bodies = refl

-- The call's lines before others.
call_first :
    (n k : ℕ) (r : Record) (work : List ℕ) (reports : ℕ) (o : Judged) →
    first_of (call_lines n k r work reports) o ≡ after (first_of (call_lines n k r work reports) fine) o
call_first n k r work reports o =
    let place = fault_of r n k work in
    go (not (sizes_right r.rows r.allowed (length work)) || ltb reports (r.rows + 1)) (is_fault place) r.finished (fault_at place)
  where
    go :
        (a b c : Bool) (at : ℕ) →
        cond a (Err why.Sizes) (cond b (Err (why.Order at)) (cond c (Err why.Finished) o))
        ≡ after (cond a (Err why.Sizes) (cond b (Err (why.Order at)) (cond c (Err why.Finished) fine))) o
    go true b c at = refl
    go false true c at = refl
    go false false true at = refl
    go false false false at = refl

-- A file that is refused is the first reason.
pub table_stands :
    (f : List ℕ) (rest : List (Line Judged)) (reason : Refusal) → reading_of f ≡ Err reason →
    Err (why.Table reason) ≡ first_of (table_lines f ++ rest) fine
table_stands f rest reason e =
    let o : Judged = first_of rest fine in
    sym (first_append (table_lines f) rest fine ∙ table_first f o ∙ ap (λ (x : Reading). after_reading x o) e)

-- A file that is taken leaves the rest to be judged.
pub table_passes :
    (f : List ℕ) (rest : List (Line Judged)) (n k : ℕ) → reading_of f ≡ Ok (n, k) →
    first_of (table_lines f ++ rest) fine ≡ first_of rest fine
table_passes f rest n k e =
    let o : Judged = first_of rest fine in
    first_append (table_lines f) rest fine ∙ table_first f o ∙ ap (λ (x : Reading). after_reading x o) e

module _ (f : List ℕ) (r : Record) (work : List ℕ) (reports : ℕ) (event : Event) (n k : ℕ) (read : reading_of f ≡ Ok (n, k)) where
  -- The call's judgement, then the event's.
  both_judged :
      (call next : Judged) → call ≡ first_of (call_lines n k r work reports) fine → next ≡ first_of (event_lines k r (newest_word r work) event) fine →
      first_of (judged_lines f r work reports event) fine ≡ after call next
  both_judged call next h g =
      let s = taken_is_sound f n k read in
      let x : ℕ = newest_word r work in
      let hn : call ≡ first_of (call_lines (states_in f) (labels_in f) r work reports) fine =
      h ∙ ap₂ (λ (y z : ℕ). first_of (call_lines y z r work reports) fine) s.1 s.2 in
      let gk : next ≡ first_of (event_lines (labels_in f) r x event) fine = g ∙ ap (λ (y : ℕ). first_of (event_lines y r x event) fine) s.2 in
      table_passes f (call_lines (states_in f) (labels_in f) r work reports ++ event_lines (labels_in f) r x event) n k read
      ∙ first_append (call_lines (states_in f) (labels_in f) r work reports) (event_lines (labels_in f) r x event) fine
      ∙ call_first (states_in f) (labels_in f) r work reports (first_of (event_lines (labels_in f) r x event) fine)
      ∙ sym (rw (hn, gk))

  -- A call that is refused.
  pub call_stands :
      (call : Judged) (reason : answers.Refusal) → call ≡ first_of (call_lines n k r work reports) fine → call ≡ Err reason →
      call ≡ first_of (judged_lines f r work reports event) fine
  call_stands call reason h e =
      let next : Judged = first_of (event_lines k r (newest_word r work) event) fine in
      e ∙ sym (both_judged call next h refl ∙ ap (λ (x : Judged). after x next) e)

  -- A call that is not, and its event.
  pub call_passes :
      (call next : Judged) → call ≡ first_of (call_lines n k r work reports) fine → call ≡ fine →
      next ≡ first_of (event_lines k r (newest_word r work) event) fine → next ≡ first_of (judged_lines f r work reports event) fine
  call_passes call next h e g = sym (both_judged call next h g ∙ ap (λ (x : Judged). after x next) e)

-- The one line of a start after the table's.
pub start_judged_lem :
    (f : List ℕ) (rows allowed size n k : ℕ) → reading_of f ≡ Ok (n, k) → (b : Bool) → sizes_right rows allowed size ≡ b →
    cond b fine (Err why.Sizes) ≡ first_of (start_lines f rows allowed size) fine
start_judged_lem f rows allowed size n k e b h =
    go b ∙ ap (λ (x : Bool). cond (not x) (Err why.Sizes) fine) (sym h)
    ∙ sym (table_passes f (refuses (not (sizes_right rows allowed size)) why.Sizes ∷ []) n k e)
  where
    go : (b : Bool) → cond b fine (Err why.Sizes) ≡ cond (not b) (Err why.Sizes) fine
    go true = refl
    go false = refl
