-- What a call over slices that fit, or do not, returns and leaves. Assumes nothing.
use mathlib.Core.Bool.{Bool, true, false, not}
use mathlib.Core.List.{List}
use mathlib.Core.Path.{◌≡◌, sym, ap, ◌∙◌}
use Prim.Native.Nat.{ℕ}
use lib.Dec.{eqb}
use lib.ListN.{length}
use borrow.Author.Tests.{eqb-true, not-true, not-false}
use Rattle.meaning.proofs.Tests.{both_true}
use Rattle.answers.specs.declared.Record.{Record}
use Rattle.answers.specs.declared.Answer.{Answer}
use Rattle.answers.specs.Answers.{outcome_number}
use Rattle.engine.specs.Calls.{start_answer, start_work, event_answer, event_work, event_reports}
use Rattle.link.specs.Words.{record_words, record_in, answer_words}
use Rattle.link.specs.Linked.{fitting, start_number, start_leaves_work, start_leaves_record, start_leaves_answer}
use Rattle.link.specs.Linked.{next_words, event_number, event_leaves_record, event_leaves_work, event_leaves_reports, event_leaves_answer}

-- What the test `!fits(..)` told.
module _ (words answer : List ℕ) (b : Bool) (told : b ≡ fitting words answer) where
  pub misfit : not b ≡ true → fitting words answer ≡ false
  misfit h = sym told ∙ not-true b h

  pub fit : not b ≡ false → fitting words answer ≡ true
  fit h = sym told ∙ not-false b h

pub fit_lengths : (words answer : List ℕ) → fitting words answer ≡ true → (length words ≡ 6) × (length answer ≡ 4)
fit_lengths words answer h =
    let both = both_true (eqb (length words) 6) (eqb (length answer) 4) h in
    (eqb-true (length words) 6 both.0, eqb-true (length answer) 4 both.1)

module _ (f : List ℕ) (rows depth : ℕ) (work words answer : List ℕ) where
  -- A start returns a number and leaves work memory, record and answer.
  abbrev pub Starts : ℕ → List ℕ → List ℕ → List ℕ → Type 0
  Starts n w r a =
      (n ≡ start_number f rows depth work words answer)
      × ((w ≡ start_leaves_work f rows depth work words answer)
      × ((r ≡ start_leaves_record f rows depth work words answer)
      × (a ≡ start_leaves_answer f rows depth work words answer)))

  pub start_misfit : fitting words answer ≡ false → Starts 100 work words answer
  start_misfit h = (sym (rw h), (sym (rw h), (sym (rw h), sym (rw h))))

  pub start_fit :
      fitting words answer ≡ true → (x : Answer) → x ≡ start_answer f rows depth work →
      (n : ℕ) (w r a : List ℕ) → n ≡ outcome_number x.outcome → w ≡ start_work f rows depth work →
      r ≡ record_words x.next → a ≡ answer_words x.outcome → Starts n w r a
  start_fit h x is n w r a en ew er ea = (
    rw h (en ∙ ap (λ (y : Answer). outcome_number y.outcome) is),
    (
      rw h ew,
      (rw h (er ∙ ap (λ (y : Answer). record_words y.next) is), rw h (ea ∙ ap (λ (y : Answer). answer_words y.outcome) is)),
    ),
  )

module _ (f words work reports : List ℕ) (byte : ℕ) (answer : List ℕ) where
  -- An event returns a number and leaves record, work memory, reports and answer.
  abbrev pub Steps : ℕ → List ℕ → List ℕ → List ℕ → List ℕ → Type 0
  Steps n r w p a =
      (n ≡ event_number f words work reports byte answer)
      × ((r ≡ event_leaves_record f words work reports byte answer)
      × ((w ≡ event_leaves_work f words work reports byte answer)
      × ((p ≡ event_leaves_reports f words work reports byte answer)
      × (a ≡ event_leaves_answer f words work reports byte answer))))

  pub event_misfit : fitting words answer ≡ false → Steps 100 words work reports answer
  event_misfit h = (sym (rw h), (sym (rw h), (sym (rw h), (sym (rw h), sym (rw h)))))

  pub event_fit :
      fitting words answer ≡ true → (given : Record) → given ≡ record_in words → (x : Answer) → x ≡ event_answer f given work reports byte →
      (n : ℕ) (r w p a : List ℕ) → n ≡ outcome_number x.outcome → r ≡ next_words x.outcome x.next words →
      w ≡ event_work f given work reports byte → p ≡ event_reports f given work reports byte → a ≡ answer_words x.outcome →
      Steps n r w p a
  event_fit h given in_words_lem x is n r w p a en er ew ep ea =
      let all : x ≡ event_answer f (record_in words) work reports byte = is ∙ ap (λ (y : Record). event_answer f y work reports byte) in_words_lem in (
        rw h (en ∙ ap (λ (y : Answer). outcome_number y.outcome) all),
        (
          rw h (er ∙ ap (λ (y : Answer). next_words y.outcome y.next words) all),
          (
            rw h (ew ∙ ap (λ (y : Record). event_work f y work reports byte) in_words_lem),
            (
              rw h (ep ∙ ap (λ (y : Record). event_reports f y work reports byte) in_words_lem),
              rw h (ea ∙ ap (λ (y : Answer). answer_words y.outcome) all),
            ),
          ),
        ),
      )
