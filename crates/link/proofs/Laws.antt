-- What a caller in C or Rust may rely on. Assumes nothing.
use Rattle.std.specs.Prelude.{Ok, Err}
use mathlib.Core.Bool.{Bool, true, false, cond, not, ◌&&◌, ◌||◌}
use mathlib.Core.List.{List, [], ◌∷◌}
use mathlib.Core.Logic.{◌↔◌}
use mathlib.Core.Path.{◌≡◌, refl, sym, ap, ◌∙◌}
use Prim.Native.Nat.{ℕ, ◌+◌, ◌<◌, ◌≤◌}
use native.Mathlib.Omega.{arith}
use lib.Dec.{eqb, leb, ltb}
use lib.ListN.{length, get_or}
use borrow.Author.Tests.{lt-leb, lt-ltb, eq-eqb}
use Rattle.meaning.specs.Refusals.{first_of, applies_at}
use Rattle.meaning.proofs.Refusals.{taken_exactly, none_taken}
use Rattle.table.specs.File.{is_short, header_right, contents_right, length_right, bodies_right}
use Rattle.answers.specs.declared.Record.{Record}
use Rattle.answers.specs.declared.Refusal.TheVariants as why
use Rattle.answers.specs.Answers.{Outcome, outcome_number}
use Rattle.judge.specs.Judging.{Judged, judged_number, record_right, sizes_right}
use Rattle.engine.specs.Calls.{event_judged, event_after, event_work, event_reports, answer_of}
use Rattle.engine.proofs.Numbers as engine
use Rattle.link.specs.Words.{record_words, record_in, answer_words}
use Rattle.link.specs.Linked.{fitting, next_words, answered, first_six, start_number, start_leaves_work, start_leaves_record}
use Rattle.link.specs.Linked.{event_number, event_leaves_record, event_leaves_work, event_leaves_reports, event_leaves_answer}

-- A caller who hands back the words that it got hands back the record.
pub record_back : (r : Record) → record_in (record_words r) ≡ r
record_back r = go r.finished
  where
    go :
        (b : Bool) →
        let x : Bool → ℕ → Record = λ finished positions.
        record { rows = r.rows; allowed = r.allowed; depth = r.depth; alive = r.alive; positions = positions; finished = finished } in
        x (eqb (cond b 1 0) 1) (cond (ltb 1 (cond b 1 0)) 2147483648 r.positions) ≡ x b r.positions
    go true = refl
    go false = refl

both_lengths : (words answer : List ℕ) → length words ≡ 6 → length answer ≡ 4 → fitting words answer ≡ true
both_lengths words answer six four = rw (eq-eqb (length words) 6 six, eq-eqb (length answer) 4 four)

old_words : (o : Outcome) (next : Record) (words : List ℕ) → 0 < outcome_number o → next_words o next words ≡ words
old_words (Ok reports) next words h = absurd (omega (arith, h))
old_words (Err reason) next words h = refl

-- A record that counts too many positions is by itself out of order.
too_many : (r : Record) → 2147483647 < r.positions → record_right r ≡ false
too_many r h = rw (lt-leb r.positions 2147483647 h) (go (leb r.alive r.rows) (leb r.depth r.allowed))
  where
    go : (a b : Bool) → a && (b && false) ≡ false
    go true true = refl
    go true false = refl
    go false b = refl

-- A judgement whose number is 1 to 7.
record OneToSeven (j : Judged) : Type 0 where
  low : 1 ≤ judged_number j
  high : judged_number j ≤ 7

either : (b : Bool) {x y : Judged} → OneToSeven x → OneToSeven y → OneToSeven (cond b x y)
either true h g = h
either false h g = g

-- A refused start leaves work memory as it was and writes zeros to the record.
pub refused_start :
    (f : List ℕ) (rows depth : ℕ) (work words answer : List ℕ) → length words ≡ 6 → length answer ≡ 4 →
    0 < start_number f rows depth work words answer →
    (start_leaves_work f rows depth work words answer ≡ work)
    × (start_leaves_record f rows depth work words answer ≡ 0 ∷ 0 ∷ 0 ∷ 0 ∷ 0 ∷ 0 ∷ [])
refused_start f rows depth work words answer six four h =
    let fits = both_lengths words answer six four in
    let kept = engine.start_refused_keeps f rows depth work (rw fits at h) in
    (rw fits kept.1, rw fits (ap record_words kept.0))

module _ (f words work reports : List ℕ) (byte : ℕ) (answer : List ℕ) where
  -- A number other than 0 means that record, work memory and reports are as they were.
  pub refused_keeps :
      0 < event_number f words work reports byte answer →
      (event_leaves_record f words work reports byte answer ≡ words)
      × (event_leaves_work f words work reports byte answer ≡ work)
      × (event_leaves_reports f words work reports byte answer ≡ reports)
  refused_keeps = go (fitting words answer)
    where
      go :
          (b : Bool) →
          let x = answered f words work reports byte in
          0 < cond b (outcome_number x.outcome) 100 →
          (cond b (next_words x.outcome x.next words) words ≡ words)
          × (cond b (event_work f (record_in words) work reports byte) work ≡ work)
          × (cond b (event_reports f (record_in words) work reports byte) reports ≡ reports)
      go true h =
          let x = answered f words work reports byte in
          let kept = engine.refused_keeps f (record_in words) work reports byte h in
          (old_words x.outcome x.next words h, kept.1, kept.2)
      go false h = (refl, refl, refl)

  -- 7, where the record by itself is out of order.
  abbrev order : Judged
  order = Err (why.Order (length work))

  one_to_seven : OneToSeven (first_of (first_six f words work reports) order)
  one_to_seven =
      either (is_short f) (record { low = omega arith; high = omega arith })
      (either (not (header_right f)) (record { low = omega arith; high = omega arith })
      (either (not (contents_right f)) (record { low = omega arith; high = omega arith })
      (either (not (length_right f)) (record { low = omega arith; high = omega arith })
      (either (not (bodies_right f)) (record { low = omega arith; high = omega arith })
      (either (not (sizes_right (get_or words 0 0) (get_or words 1 0) (length work)) || ltb (length reports) (get_or words 0 0 + 1)) (record { low = omega arith; high = omega arith })
      (record { low = omega arith; high = omega arith }))))))

  module _ (six : length words ≡ 6) (four : length answer ≡ 4) (above : 1 < get_or words 5 0) where
    fits : fitting words answer ≡ true
    fits = both_lengths words answer six four

    out_of_order : event_judged f (record_in words) work reports byte ≡ first_of (first_six f words work reports) order
    out_of_order =
        let e : (record_in words).positions ≡ 2147483648 = rw (lt-ltb 1 (get_or words 5 0) above) in
        rw (too_many (record_in words) (omega (arith, e)))

    -- A sixth word above 1: the number is that of the first of 1 to 6 that applies, and 7 where none does.
    pub sixth_number :
        event_number f words work reports byte answer
        ≡ judged_number (first_of (first_six f words work reports) (Err (why.Order (length work))))
    sixth_number =
        rw fits
        (engine.answer_number (event_judged f (record_in words) work reports byte) (record_in words) (event_after f (record_in words) work byte)
        ∙ ap judged_number out_of_order)

    seven_exactly :
        (event_number f words work reports byte answer ≡ 7)
        ↔ ((i : ℕ) → applies_at (first_six f words work reports) i ≡ false)
    seven_exactly =
        let exactly = taken_exactly judged_number order (first_six f words work reports) tt in
        (λ h. exactly.0 (sym sixth_number ∙ h), λ h. sixth_number ∙ exactly.1 h)

    seven_place :
        event_number f words work reports byte answer ≡ 7 →
        event_leaves_answer f words work reports byte answer ≡ 0 ∷ length work ∷ 0 ∷ 0 ∷ []
    seven_place h =
        let stands = out_of_order ∙ none_taken judged_number order (first_six f words work reports) (seven_exactly.0 h) in
        rw fits (ap (λ (j : Judged). answer_words (answer_of j (record_in words) (event_after f (record_in words) work byte)).outcome) stands)

    -- A sixth word above 1: the number is one of 1 to 7; it is 7, with the length of work memory as its place, exactly when
    -- none of 1 to 6 applies; and record, work memory and reports are as they were.
    pub sixth_above_one :
        let n = event_number f words work reports byte answer in
        ((1 ≤ n) × (n ≤ 7))
        × (((n ≡ 7) ↔ ((i : ℕ) → applies_at (first_six f words work reports) i ≡ false))
        × ((n ≡ 7 → event_leaves_answer f words work reports byte answer ≡ 0 ∷ length work ∷ 0 ∷ 0 ∷ [])
        × ((event_leaves_record f words work reports byte answer ≡ words)
        × (event_leaves_work f words work reports byte answer ≡ work)
        × (event_leaves_reports f words work reports byte answer ≡ reports))))
    sixth_above_one =
        let low : 1 ≤ event_number f words work reports byte answer = omega (arith, sixth_number, one_to_seven.low) in
        ((low, omega (arith, sixth_number, one_to_seven.high)), (seven_exactly, (seven_place, refused_keeps low)))
