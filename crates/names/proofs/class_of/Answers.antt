-- `names::class_of` meets its contract: its table has the class of each byte, by one test of all 256. Assumes nothing.
use Rattle.std.proofs.Common.{rules, ◌≡◌, refl, sym, ap, ◌∙◌, ℕ, ◌<◌, length, Bool, cond, List, slice_index_or}
use lib.Dec.{T, eqb, eqb→eq}
use Rattle.grammar.specs.declared.Class.{Class}
use Rattle.grammar.specs.declared.Class.TheVariants as class
use Rattle.grammar.specs.Bytes.{class_of}
use Rattle.names.proofs.Table.{every, at}
use Rattle.names.proofs.class_of.Goals as goal

-- Classes are told apart by numbers.
abbrev number : Class → ℕ
number class.Blank = 0
number class.Letter = 1
number class.Name = 2
number class.Less = 3
number class.Slash = 4
number class.Greater = 5
number class.Other = 6

abbrev numbered : ℕ → Class
numbered n =
    cond (eqb n 0) class.Blank
    (cond (eqb n 1) class.Letter
    (cond (eqb n 2) class.Name
    (cond (eqb n 3) class.Less
    (cond (eqb n 4) class.Slash
    (cond (eqb n 5) class.Greater class.Other)))))

numbered_back : (x : Class) → numbered (number x) ≡ x
numbered_back class.Blank = refl
numbered_back class.Letter = refl
numbered_back class.Name = refl
numbered_back class.Less = refl
numbered_back class.Slash = refl
numbered_back class.Greater = refl
numbered_back class.Other = refl

-- A table has class x at the byte b.
right : ℕ → Class → Bool
right b x = eqb (number x) (number (class_of b))

-- One that passes the test at each of its 256 entries has the class of each byte.
class-at : (table : List Class) (b : ℕ) (d : Class) → T (every right 0 table) → length table ≡ 256 → b < 256 → slice_index_or table b d ≡ class_of b
unfolding right
class-at table b d t l h =
    sym (numbered_back (slice_index_or table b d)) ∙ ap numbered (eqb→eq _ _ (at right d table t b (rw l h))) ∙ numbered_back (class_of b)

pub returns : goal.returns
unfolding right
returns c = search (rules, class-at)
