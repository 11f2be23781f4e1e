-- What the two linked calls return, and what they leave in each lent slice, for any input: `fitting` slices have what the
-- watch's own call answers, put in words; others have 100, and nothing is written. Definitions only.
use Rattle.std.specs.Prelude.{Ok, Err, Bool, cond, not, ◌&&◌, ◌||◌, List, [], ◌∷◌, ◌++◌, ℕ, ◌+◌, eqb, ltb, length, get_or}
use Rattle.meaning.specs.Refusals.{Line}
use Rattle.answers.specs.declared.Record.{Record}
use Rattle.answers.specs.declared.Answer.{Answer}
use Rattle.answers.specs.declared.Refusal.TheVariants as why
use Rattle.answers.specs.Answers.{Outcome, outcome_number}
use Rattle.judge.specs.Judging.{Judged, refuses, table_lines, sizes_right}
use Rattle.engine.specs.Calls.{start_answer, start_work, event_answer, event_work, event_reports}
use Rattle.link.specs.Words.{record_words, record_in, answer_words}

-- The record has six words and the answer four.
abbrev pub fitting : List ℕ → List ℕ → Bool
fitting words answer = eqb (length words) 6 && eqb (length answer) 4

---------------------------------------------------------------- the start call

abbrev pub start_number : List ℕ → ℕ → ℕ → List ℕ → List ℕ → List ℕ → ℕ
start_number f rows depth work words answer =
    cond (fitting words answer) (outcome_number (start_answer f rows depth work).outcome) 100

abbrev pub start_leaves_work : List ℕ → ℕ → ℕ → List ℕ → List ℕ → List ℕ → List ℕ
start_leaves_work f rows depth work words answer = cond (fitting words answer) (start_work f rows depth work) work

-- The first record, and zeros where the start is refused.
abbrev pub start_leaves_record : List ℕ → ℕ → ℕ → List ℕ → List ℕ → List ℕ → List ℕ
start_leaves_record f rows depth work words answer =
    cond (fitting words answer) (record_words (start_answer f rows depth work).next) words

abbrev pub start_leaves_answer : List ℕ → ℕ → ℕ → List ℕ → List ℕ → List ℕ → List ℕ
start_leaves_answer f rows depth work words answer =
    cond (fitting words answer) (answer_words (start_answer f rows depth work).outcome) answer

---------------------------------------------------------------- the event call

-- The words of the next record where the event is taken, and the given ones where it is refused.
abbrev pub next_words : Outcome → Record → List ℕ → List ℕ
next_words (Ok reports) next words = record_words next
next_words (Err reason) next words = words

-- What the watch answers to an event for the record that the words stand for.
abbrev pub answered : List ℕ → List ℕ → List ℕ → List ℕ → ℕ → Answer
answered f words work reports byte = event_answer f (record_in words) work reports byte

abbrev pub event_number : List ℕ → List ℕ → List ℕ → List ℕ → ℕ → List ℕ → ℕ
event_number f words work reports byte answer =
    cond (fitting words answer) (outcome_number (answered f words work reports byte).outcome) 100

abbrev pub event_leaves_record : List ℕ → List ℕ → List ℕ → List ℕ → ℕ → List ℕ → List ℕ
event_leaves_record f words work reports byte answer =
    let x = answered f words work reports byte in
    cond (fitting words answer) (next_words x.outcome x.next words) words

abbrev pub event_leaves_work : List ℕ → List ℕ → List ℕ → List ℕ → ℕ → List ℕ → List ℕ
event_leaves_work f words work reports byte answer =
    cond (fitting words answer) (event_work f (record_in words) work reports byte) work

abbrev pub event_leaves_reports : List ℕ → List ℕ → List ℕ → List ℕ → ℕ → List ℕ → List ℕ
event_leaves_reports f words work reports byte answer =
    cond (fitting words answer) (event_reports f (record_in words) work reports byte) reports

abbrev pub event_leaves_answer : List ℕ → List ℕ → List ℕ → List ℕ → ℕ → List ℕ → List ℕ
event_leaves_answer f words work reports byte answer =
    cond (fitting words answer) (answer_words (answered f words work reports byte).outcome) answer

-- Refusals 1 to 6 of an event: they ask nothing of the record but its rows and depth allowed, the first two words.
abbrev pub first_six : List ℕ → List ℕ → List ℕ → List ℕ → List (Line Judged)
first_six f words work reports =
    let rows = get_or words 0 0 in
    let allowed = get_or words 1 0 in
    table_lines f
    ++ (refuses (not (sizes_right rows allowed (length work)) || ltb (length reports) (rows + 1)) why.Sizes ∷ [])
