-- Reports are words of positions, and the timely ones of an event are one list. Assumes nothing.
use mathlib.Core.List.{List, [], ◌∷◌, map}
use mathlib.Core.Logic.{◌⊎◌, inl, inr, ⊎_elim}
use mathlib.Core.Path.{◌≡◌, refl, sym}
use Prim.Native.Nat.{ℕ, ◌+◌, ◌*◌, ◌<◌, ◌≤◌}
use native.Mathlib.Decide.{dec_le}
use native.Mathlib.Omega.{arith}
use Rattle.meaning.specs.Table.{Table}
use Rattle.reports.specs.Reports.{selected_word, failed_word}
use Rattle.following.specs.Lists.{In, Rising, position_of}
use Rattle.following.proofs.Lists.{in_as, rising_from, rising_same}
use Rattle.demands.specs.Watching.{Stream}
use Rattle.demands.specs.Demands.{Timely}

-- A report word of position i says selected or failed.
pub word_is : (x i : ℕ) → position_of x ≡ i → (x ≡ selected_word i) ⊎ (x ≡ failed_word i)
word_is x i e = go (dec_le (2 * i + 1) x)
  where
    go : Dec (2 * i + 1 ≤ x) → (x ≡ selected_word i) ⊎ (x ≡ failed_word i)
    go (yes l) = inl (omega (arith, l, e))
    go (no l) = inr (omega (arith, l, e))

-- Words whose positions rise do so too.
words_rise : {high low : ℕ} (xs : List ℕ) → Rising high low (map position_of xs) → Rising (2 * high + 1) (2 * low + 1) xs
words_rise [] Rising.none = Rising.none
words_rise {high} {low} (x ∷ xs) (Rising.over l m r) =
    let above : 2 * low + 1 < x = omega (arith, l) in
    let most : x ≤ 2 * high + 1 = omega (arith, m) in
    let next : x ≤ 2 * position_of x + 1 = omega arith in
    Rising.over above most (rising_from next (words_rise {high = high} {low = position_of x} xs r))

-- Timely words are the only ones.
pub timely_same : (t : Table) (before after : Stream) (xs ys : List ℕ) → Timely t before after xs → Timely t before after ys → xs ≡ ys
timely_same t before after xs ys p q =
    rising_same (words_rise xs p.ascending) (words_rise ys q.ascending) (λ x. (both xs ys p q x, both ys xs q p x))
  where
    both : (us vs : List ℕ) → Timely t before after us → Timely t before after vs → (x : ℕ) → In x us → In x vs
    both us vs a b x m =
        let i : ℕ = position_of x in
        ⊎_elim (λ e. in_as vs (sym e) ((b.selected i).1 ((a.selected i).0 (in_as us e m)))) (λ e. in_as vs (sym e) ((b.failed i).1 ((a.failed i).0 (in_as us e m))))
        (word_is x i refl)
