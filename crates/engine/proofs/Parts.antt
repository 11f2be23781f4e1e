-- Work memory as its rows' words and its labels' words, each of which is lent by itself. Assumes nothing.
use mathlib.Core.Path.{◌≡◌, ap, ◌∙◌}
use mathlib.Core.List.{List, ◌++◌, append-nil}
use Prim.Native.Nat.{ℕ, ◌-◌, ◌≤◌}
use native.Mathlib.Omega.{arith}
use lib.ListN.{length, take, drop, length-drop, drop_of_length-le}
use lib.Seq.{take_all, length-take-le, drop_at}
use borrow.Rule.Slice.PartMut.{put_mid}
use Rattle.meaning.specs.Table.{Table, WellFormed}
use Rattle.meaning.specs.Streams.{Event, Open, Point, Close}
use Rattle.places.specs.Places.{row_length}
use Rattle.rows.specs.Steps.{Can}
use Rattle.labels.specs.Fits.{Fits}

module _ (n : ℕ) (words : List ℕ) (fits : n ≤ length words) where
  -- All words from n on.
  pub whole_rest : take (length words - n) (drop n words) ≡ drop n words
  whole_rest = take_all (length words - n) (drop n words) (omega (arith, length-drop n words))

  -- Put anew, they stand after the first n.
  pub rest_put : (ys : List ℕ) → put_mid n (length words - n) words ys ≡ take n words ++ ys
  rest_put ys =
      ap (λ (zs : List ℕ). take n words ++ (ys ++ zs)) (drop_of_length-le (drop n words) {i = length words - n} (omega (arith, length-drop n words)))
      ∙ ap (λ (zs : List ℕ). take n words ++ zs) (append-nil ys)

  pub rest_after : (ys : List ℕ) → drop n (put_mid n (length words - n) words ys) ≡ ys
  rest_after ys = ap (drop n) (rest_put ys) ∙ drop_at (take n words) ys n (length-take-le n words fits)

-- An event that the rows can take can be written down among the labels.
pub fits_of : (t : Table) → WellFormed t → (depth d : ℕ) (e : Event) → Can t (row_length depth) d e → Fits depth d e
fits_of t w depth d (Open a) can = (omega (arith, can.0, w.few_labels), omega (arith, can.1))
fits_of t w depth d (Point a) can = tt
fits_of t w depth d Close can = can
