-- The words by which a record and an outcome are lent to programs in C and Rust. Definitions only.
use Rattle.std.specs.Prelude.{Ok, Err, cond, List, [], ◌∷◌, ℕ, eqb, ltb, get_or}
use Rattle.answers.specs.declared.Record.{Record}
use Rattle.answers.specs.declared.Place.{Place}
use Rattle.answers.specs.Answers.{Outcome, nowhere, place_of}

-- A record as six words: rows, depth allowed, depth now, alive, positions read, and 1 where finished, else 0.
abbrev pub record_words : Record → List ℕ
record_words r = r.rows ∷ r.allowed ∷ r.depth ∷ r.alive ∷ r.positions ∷ cond r.finished 1 0 ∷ []

-- The record that six words stand for. A sixth word above 1 stands for no record: it is taken for one that is by itself
-- out of order, with more positions read than the greatest, so that the event call refuses it as such.
abbrev pub record_in : List ℕ → Record
record_in words =
    record {
      rows = get_or words 0 0;
      allowed = get_or words 1 0;
      depth = get_or words 2 0;
      alive = get_or words 3 0;
      positions = cond (ltb 1 (get_or words 5 0)) 2147483648 (get_or words 4 0);
      finished = eqb (get_or words 5 0) 1;
    }

-- An answer of four words: the number of reports, and the three of a place.
abbrev pub four_words : ℕ → Place → List ℕ
four_words reports place = reports ∷ place.word ∷ place.part ∷ place.inside ∷ []

abbrev pub answer_words : Outcome → List ℕ
answer_words (Ok reports) = four_words reports nowhere
answer_words (Err reason) = four_words 0 (place_of reason)
