-- Words that are 0 from some place on: a row whose levels beyond d are 0 is the words of its levels up to d. Assumes nothing.
use mathlib.Core.Path.{◌≡◌, sym, ap, ◌∙◌}
use mathlib.Core.List.{List, [], ◌∷◌, ◌++◌, append_assoc}
use Prim.Native.Nat.{ℕ, zero, suc, ◌+◌, ◌-◌, ◌<◌, ◌≤◌}
use native.Mathlib.Omega.{arith}
use lib.ListN.{length, get_or, take, drop, replicate, take-append-drop, length-drop, length-replicate, get_or-replicate}
use lib.Seq.{take-suc, length-take-le, get_or-drop, ext_get_or}
use Rattle.places.specs.Places.{position_at, state_at, row_length}
use Rattle.places.specs.Memory.{levels_words, row_words, below_in, held_in}

-- Words that are 0 one by one, from n on.
pub rest_of_zeros : (n : ℕ) (xs : List ℕ) → ((i : ℕ) → n ≤ i → i < length xs → get_or xs i 0 ≡ 0) → drop n xs ≡ replicate (length xs - n) 0
rest_of_zeros n xs h =
    ext_get_or 0 (drop n xs) (replicate (length xs - n) 0) (length-drop n xs ∙ sym (length-replicate (length xs - n) 0))
    (λ i l.
    let m : i < length xs - n = rw length-drop at l in
    get_or-drop n xs i 0 ∙ h (n + i) (omega arith) (omega arith) ∙ sym (get_or-replicate (length xs - n) i 0 0 m))

-- The next three words.
three_more : (n : ℕ) (xs : List ℕ) → n + 3 ≤ length xs → take (n + 3) xs ≡ take n xs ++ get_or xs n 0 ∷ get_or xs (n + 1) 0 ∷ get_or xs (n + 2) 0 ∷ []
three_more n xs h =
    let e : n + 3 ≡ suc (n + 2) = omega arith in
    let f : n + 2 ≡ suc (n + 1) = omega arith in
    let g : n + 1 ≡ suc n = omega arith in
    let third = ap (λ k. take k xs) e ∙ take-suc xs (n + 2) 0 (omega arith) in
    let second = ap (λ k. take k xs) f ∙ take-suc xs (n + 1) 0 (omega arith) in
    let first = ap (λ k. take k xs) g ∙ take-suc xs n 0 (omega arith) in
    third ∙ (rw (second, first) (simp append_assoc))

-- The words before level d are the position and the levels under d.
under : (d : ℕ) (row : List ℕ) → state_at d ≤ length row → take (state_at d) row ≡ get_or row position_at 0 ∷ levels_words (below_in row d)
under zero row h = take-suc row 0 0 (omega arith)
under (suc d) row h =
    let e : state_at (suc d) ≡ state_at d + 3 = omega arith in
    ap (λ k. take k row) e
    ∙ three_more (state_at d) row (omega arith)
    ∙ ap (λ ws. ws ++ get_or row (state_at d) 0 ∷ get_or row (state_at d + 1) 0 ∷ get_or row (state_at d + 2) 0 ∷ []) (under d row (omega arith))

-- Of w words, those from level d + 1 on 0: the words of the levels up to d.
pub row_of_zeros : (w d : ℕ) (row : List ℕ) → length row ≡ w → row_length d ≤ w → ((c : ℕ) → row_length d ≤ c → c < w → get_or row c 0 ≡ 0) → row ≡ row_words w (held_in d row)
row_of_zeros w d row e l h =
    let k : row_length d ≡ state_at (suc d) = omega arith in
    let front : take (row_length d) row ≡ get_or row position_at 0 ∷ levels_words (below_in row (suc d)) = ap (λ n. take n row) k ∙ under (suc d) row (omega arith) in
    let long : length (get_or row position_at 0 ∷ levels_words (below_in row (suc d))) ≡ row_length d = ap length (sym front) ∙ length-take-le (row_length d) row (omega arith) in
    let rest : drop (row_length d) row ≡ replicate (length row - row_length d) 0 = rest_of_zeros (row_length d) row (λ i p q. h i p (omega arith)) in
    let left : length row - row_length d ≡ w - length (get_or row position_at 0 ∷ levels_words (below_in row (suc d))) = omega arith in
    sym (take-append-drop (row_length d) row)
    ∙ ap (λ ws. ws ++ drop (row_length d) row) front
    ∙ ap (λ ws. (get_or row position_at 0 ∷ levels_words (below_in row (suc d))) ++ ws) (rest ∙ ap (λ n. replicate n 0) left)
