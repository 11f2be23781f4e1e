-- Rounds of a step that only adds: a set of states below n is closed after at most n of them. Assumes nothing else of the
-- step.
use mathlib.Core.Path.{◌≡◌, refl, ap, sym, ◌∙◌}
use mathlib.Core.Logic.{◌⊎◌, inl, inr}
use Prim.Native.Nat.{ℕ, zero, suc, ◌+◌, ◌-◌, ◌^◌, ◌<◌, ◌≤◌}
use native.Mathlib.Decide.{dec_le}
use native.Mathlib.Omega.{arith}
use Rattle.meaning.specs.Masks.{rounds}
use Rattle.meaning.proofs.Masks.{Within, card, card_le, card_within, card_same, within_le}

-- Rounds on end, from the inside.
pub rounds_shift : (j : ℕ) (f : ℕ → ℕ) (x : ℕ) → rounds j f (f x) ≡ f (rounds j f x)
rounds_shift zero f x = refl
rounds_shift (suc j) f x = ap f (rounds_shift j f x)

-- After a round that adds nothing no other does.
pub rounds_last : (j : ℕ) (f : ℕ → ℕ) (x : ℕ) → f x ≡ x → rounds j f x ≡ x
rounds_last zero f x e = refl
rounds_last (suc j) f x e = ap f (rounds_last j f x e) ∙ e

-- Rounds 1 to j each add a state, and round j + 1 is the last: it adds nothing.
pub record LastAfter (n : ℕ) (f : ℕ → ℕ) (x j : ℕ) : Type 0 where
  pub adding : (i : ℕ) → i < j → card n (rounds i f x) < card n (rounds (suc i) f x)
  pub last : f (rounds j f x) ≡ rounds j f x

-- A step on the sets of states below n that only adds: it stays among them and loses nothing.
pub record OnlyAdds (n : ℕ) (f : ℕ → ℕ) : Type 0 where
  pub bounded : (x : ℕ) → x < 2 ^ n → f x < 2 ^ n
  pub grows : (x : ℕ) → Within x (f x)

module _ {n : ℕ} {f : ℕ → ℕ} (adds : OnlyAdds n f) where
  -- Rounds stay among the states, and lose nothing.
  pub rounds_lt : (j x : ℕ) → x < 2 ^ n → rounds j f x < 2 ^ n
  rounds_lt zero x l = l
  rounds_lt (suc j) x l = adds.bounded (rounds j f x) (rounds_lt j x l)

  pub rounds_keep : (j x : ℕ) → Within x (rounds j f x)
  rounds_keep zero x i h = h
  rounds_keep (suc j) x i h = adds.grows (rounds j f x) i (rounds_keep j x i h)

  -- A round adds a state or changes nothing.
  pub adds_or_last : (x : ℕ) → x < 2 ^ n → (f x ≡ x) ⊎ (card n x < card n (f x))
  adds_or_last x l = go (dec_le (card n (f x)) (card n x))
    where
      go : Dec (card n (f x) ≤ card n x) → (f x ≡ x) ⊎ (card n x < card n (f x))
      go (yes h) =
          let m = card_within n x (f x) (adds.grows x) in
          inl (sym (card_same n x (f x) l (adds.bounded x l) (adds.grows x) (omega arith)))
      go (no h) = inr (omega arith)

  -- Among the first j rounds is the last one, or each of them added a state.
  search_last :
      (x : ℕ) → x < 2 ^ n → (j : ℕ) →
      ((i : ℕ) × (i + card n x ≤ n) × LastAfter n f x i)
      ⊎ (((i : ℕ) → i < j → card n (rounds i f x) < card n (rounds (suc i) f x)) × (j + card n x ≤ card n (rounds j f x)))
  search_last x l zero = inr (λ i h. absurd (omega arith), omega arith)
  search_last x l (suc j) = go (search_last x l j) (adds_or_last (rounds j f x) (rounds_lt j x l))
    where
      Adding : ℕ → Type 0
      Adding m = (i : ℕ) → i < m → card n (rounds i f x) < card n (rounds (suc i) f x)

      one_more : Adding j → card n (rounds j f x) < card n (rounds (suc j) f x) → Adding (suc j)
      one_more a g i h = pick (dec_le (suc i) j)
        where
          pick : Dec (i < j) → card n (rounds i f x) < card n (rounds (suc i) f x)
          pick (yes m) = a i m
          pick (no m) = let e : j ≡ i = omega arith in rw (← e) g

      go :
          ((i : ℕ) × (i + card n x ≤ n) × LastAfter n f x i) ⊎ (Adding j × (j + card n x ≤ card n (rounds j f x))) →
          (f (rounds j f x) ≡ rounds j f x) ⊎ (card n (rounds j f x) < card n (f (rounds j f x))) →
          ((i : ℕ) × (i + card n x ≤ n) × LastAfter n f x i) ⊎ (Adding (suc j) × (suc j + card n x ≤ card n (rounds (suc j) f x)))
      go (inl found) d = inl found
      go (inr h) (inl e) =
          let b = h.1 in
          inl (j, omega (arith, card_le n (rounds j f x)), record { adding = h.0; last = e })
      go (inr h) (inr g) =
          let b = h.1 in
          inr (one_more h.0 g, omega arith)

  -- A set of c states is closed after j rounds with j + c ≤ n, each of which adds a state; round j + 1 is the last.
  pub closes : (x : ℕ) → x < 2 ^ n → (j : ℕ) × (j + card n x ≤ n) × LastAfter n f x j
  closes x l = go (search_last x l (suc n))
    where
      go :
          ((i : ℕ) × (i + card n x ≤ n) × LastAfter n f x i)
          ⊎ (((i : ℕ) → i < suc n → card n (rounds i f x) < card n (rounds (suc i) f x)) × (suc n + card n x ≤ card n (rounds (suc n) f x))) →
          (j : ℕ) × (j + card n x ≤ n) × LastAfter n f x j
      go (inl found) = found
      go (inr h) = let b = h.1 in absurd (omega (arith, card_le n (rounds (suc n) f x)))

  -- After a round that adds nothing, more rounds change nothing.
  stays : (d j x : ℕ) → f (rounds j f x) ≡ rounds j f x → rounds (d + j) f x ≡ rounds j f x
  stays zero j x e = let z : zero + j ≡ j = omega arith in rw z
  stays (suc d) j x e = let z : suc d + j ≡ suc (d + j) = omega arith in rw z (ap f (stays d j x e) ∙ e)

  -- n rounds are enough.
  pub settled : (x : ℕ) → x < 2 ^ n → f (rounds n f x) ≡ rounds n f x
  settled x l =
      let (j, h, c) = closes x l in
      let z : n - j + j ≡ n = omega arith in
      let e : rounds n f x ≡ rounds j f x = rw z at (stays (n - j) j x c.last) in
      ap f e ∙ c.last ∙ sym e

  -- To begin with a round is to end in the same set: the law by which a loop that stops early is right.
  pub round_first : (x : ℕ) → x < 2 ^ n → rounds n f (f x) ≡ rounds n f x
  round_first x l = rounds_shift n f x ∙ settled x l

  -- A round that changes a mask makes it larger as a number.
  pub round_rises : (x : ℕ) → (f x ≡ x → ⊥) → x < f x
  round_rises x h = go (dec_le (suc x) (f x))
    where
      go : Dec (x < f x) → x < f x
      go (yes l) = l
      go (no l) = absurd (h (omega (arith, within_le x (f x) (adds.grows x))))
