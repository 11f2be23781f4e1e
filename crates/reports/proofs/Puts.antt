-- Reports put into a list: one row's report at a place, and one report after the other from the front. Assumes nothing.
use mathlib.Core.Path.{◌≡◌, refl, sym, ap, ◌∙◌}
use mathlib.Core.Bool.{Bool, true, false, cond}
use mathlib.Core.List.{List, [], ◌∷◌}
use Prim.Native.Nat.{ℕ, ◌+◌, ◌<◌, ◌≤◌}
use native.Mathlib.Nat.{add-zero}
use native.Mathlib.Omega.{arith}
use lib.ListN.{length, set, length-append}
use Rattle.meaning.specs.Table.{Table}
use Rattle.meaning.specs.Rows.{is_selecting, is_rejecting}
use Rattle.places.specs.Places.{row_of}
use Rattle.places.specs.Memory.{Held, each, held_in, helds_in}
use Rattle.places.proofs.Rows.{each_next}
use Rattle.reports.specs.Reports.{selected_word, failed_word, report_of, end_report}
use Rattle.meaning.specs.Lent.{put_at, on_front}
use Rattle.meaning.proofs.Lent.{put_none, put_one, put_more}

module _ (h : Held) (at : ℕ) (words : List ℕ) where
  -- The place after the report, and the words with it.
  abbrev pub Put : ℕ → List ℕ → Type 0
  Put after now = (after ≡ at + length (report_of h)) × (now ≡ put_at at (report_of h) words)

  pub put_selected : is_selecting h.row ≡ true → at < length words → Put (at + 1) (set words at (selected_word h.position))
  put_selected e l = rw e (refl, put_one at (selected_word h.position) words l)

  pub put_failed : is_selecting h.row ≡ false → is_rejecting h.row ≡ true → at < length words → Put (at + 1) (set words at (failed_word h.position))
  put_failed e f l = rw (e, f) (refl, put_one at (failed_word h.position) words l)

  pub put_nothing : is_selecting h.row ≡ false → is_rejecting h.row ≡ false → Put at words
  put_nothing e f = rw (e, f) (sym (add-zero at), sym (put_none at words))

module _ (t : Table) (h : Held) (at : ℕ) (words : List ℕ) (l : at < length words) where
  pub put_final : t.final h.row.newest.state ≡ true → set words at (selected_word h.position) ≡ put_at at (end_report t h) words
  put_final e = rw e (put_one at (selected_word h.position) words l)

  pub put_other : t.final h.row.newest.state ≡ false → set words at (failed_word h.position) ≡ put_at at (end_report t h) words
  put_other e = rw e (put_one at (failed_word h.position) words l)

-- What a loop over rows keeps true: the rows before r are reported, each by f.
pub record Reported (f : Held → List ℕ) (w d n : ℕ) (words reports₀ reports : List ℕ) (count r : ℕ) : Type 0 where
  pub most : r ≤ n
  pub few : count ≤ r
  pub len : length reports ≡ length reports₀
  pub counted : count ≡ length (each f (helds_in w d r words))
  pub written : reports ≡ on_front (each f (helds_in w d r words)) reports₀

module _ (f : Held → List ℕ) where
  pub reported_none : (w d n : ℕ) (words reports : List ℕ) → Reported f w d n words reports reports 0 0
  reported_none w d n words reports = record { most = omega arith; few = omega arith; len = refl; counted = refl; written = refl }

  pub reported_more : ((h : Held) → length (f h) ≤ 1) → (w d n : ℕ) (words reports₀ reports next : List ℕ) (count r after : ℕ) → Reported f w d n words reports₀ reports count r → r < n
      → after ≡ count + length (f (held_in d (row_of w r words))) → next ≡ put_at count (f (held_in d (row_of w r words))) reports → length next ≡ length reports
      → Reported f w d n words reports₀ next after (r + 1)
  reported_more one w d n words reports₀ reports next count r after i h a b l =
      let x = each f (helds_in w d r words) in
      let y = f (held_in d (row_of w r words)) in
      record {
        most = omega arith;
        few = omega (arith, a, i.few, one (held_in d (row_of w r words)));
        len = l ∙ i.len;
        counted = rw (each_next f w d r words, length-append x y) (a ∙ ap (λ k. k + length y) i.counted);
        written = rw (each_next f w d r words) (b ∙ ap (λ z. put_at count y z) i.written ∙ ap (λ k. put_at k y (on_front x reports₀)) i.counted ∙ put_more x y reports₀);
      }

pub report_few : (h : Held) → length (report_of h) ≤ 1
report_few h = go (is_selecting h.row) (is_rejecting h.row)
  where
    go : (b c : Bool) → length (cond b (selected_word h.position ∷ []) (cond c (failed_word h.position ∷ []) [])) ≤ 1
    go true c = omega arith
    go false true = omega arith
    go false false = omega arith
