-- Laws of members of lists, of numbers that rise, of positions of rows, and of how often a position is reported. Assumes
-- nothing.
use mathlib.Core.Path.{◌≡◌, refl, sym, ap, subst, ◌∙◌}
use mathlib.Core.List.{List, [], ◌∷◌, ◌++◌, map, map-map, map-id}
use mathlib.Core.Logic.{◌↔◌, ◌⊎◌, inl, inr, ⊎_elim}
use Prim.Native.Nat.{ℕ, zero, suc, ◌+◌, ◌<◌, ◌≤◌}
use native.Mathlib.Nat.{lt_of_le_of_lt}
use native.Mathlib.Omega.{arith}
use native.Mathlib.Decide.{dec_le}
use borrow.Author.Tests.{eq-eqb, ne_eqb}
use Rattle.places.specs.Memory.{Held, each}
use Rattle.following.specs.Lists.{In, Rising, position_of, times}
use Rattle.following.specs.Following.{numbers, positions_of}

---------------------------------------------------------------- members

module _ {A : Type 0} {x : A} where
  pub in_left : {xs : List A} (ys : List A) → In x xs → In x (xs ++ ys)
  in_left ys In.first = In.first
  in_left ys (In.later h) = In.later (in_left ys h)

  pub in_right : (xs : List A) {ys : List A} → In x ys → In x (xs ++ ys)
  in_right [] h = h
  in_right (y ∷ xs) h = In.later (in_right xs h)

  pub in_cases : (xs ys : List A) → In x (xs ++ ys) → In x xs ⊎ In x ys
  in_cases [] ys h = inr h
  in_cases (y ∷ xs) ys In.first = inl In.first
  in_cases (y ∷ xs) ys (In.later h) = ⊎_elim (λ g. inl (In.later g)) inr (in_cases xs ys h)

  pub in_nil : In x [] → ⊥
  in_nil h = elim h [ ]

  pub in_head : {y : A} {xs : List A} → In x (y ∷ xs) → (x ≡ y) ⊎ In x xs
  in_head In.first = inl refl
  in_head (In.later h) = inr h

  pub in_one : {y : A} → In x (y ∷ []) → x ≡ y
  in_one In.first = refl
  in_one (In.later h) = absurd (in_nil h)

  -- The same member by another name.
  pub in_as : {y : A} (xs : List A) → x ≡ y → In x xs → In y xs
  in_as xs e h = subst (λ z. In z xs) e h

module _ {A B : Type 0} (f : A → B) where
  pub in_map : {x : A} {xs : List A} → In x xs → In (f x) (map f xs)
  in_map In.first = In.first
  in_map (In.later h) = In.later (in_map h)

  out_first : {y : B} (z : B) (zs : List B) → In y (z ∷ zs) → (y ≡ z) ⊎ In y zs
  out_first z zs In.first = inl refl
  out_first z zs (In.later h) = inr h

  pub out_map : {y : B} (xs : List A) → In y (map f xs) → (x : A) × In x xs × (f x ≡ y)
  out_map [] h = elim h [ ]
  out_map (x ∷ xs) h =
      ⊎_elim (λ e. (x, In.first, sym e)) (λ g. let (z, k, e) = out_map xs g in (z, In.later k, e)) (out_first (f x) (map f xs) h)

  -- Functions that agree on the members of a list.
  pub map_as : (g : A → B) (xs : List A) → ((x : A) → In x xs → f x ≡ g x) → map f xs ≡ map g xs
  map_as g [] h = refl
  map_as g (x ∷ xs) h = ap (λ y. y ∷ map f xs) (h x In.first) ∙ ap (λ ys. g x ∷ ys) (map_as g xs (λ z m. h z (In.later m)))

module _ {A : Type 0} {x : A} (f : Held → List A) where
  pub in_each : {h : Held} {hs : List Held} → In h hs → In x (f h) → In x (each f hs)
  in_each (In.first {l = hs}) g = in_left (each f hs) g
  in_each (In.later {y = y} m) g = in_right (f y) (in_each m g)

  pub out_each : (hs : List Held) → In x (each f hs) → (h : Held) × In h hs × In x (f h)
  out_each [] g = absurd (in_nil g)
  out_each (y ∷ hs) g =
      ⊎_elim (λ a. (y, In.first, a)) (λ b. let (h, m, a) = out_each hs b in (h, In.later m, a)) (in_cases (f y) (each f hs) g)

---------------------------------------------------------------- numbers that rise

-- Numbers that rise from above a number rise from above any lower one.
pub rising_from : {high low from : ℕ} {xs : List ℕ} → low ≤ from → Rising high from xs → Rising high low xs
rising_from l Rising.none = Rising.none
rising_from l (Rising.over m n r) = Rising.over (lt_of_le_of_lt l m) n r

pub rising_append :
    {high middle low : ℕ} {xs ys : List ℕ} →
    low ≤ middle → middle ≤ high → Rising middle low xs → Rising high middle ys → Rising high low (xs ++ ys)
rising_append l h Rising.none s = rising_from l s
rising_append l h (Rising.over m n r) s = Rising.over m (omega arith) (rising_append n h r s)

pub rising_in : {high low x : ℕ} {xs : List ℕ} → Rising high low xs → In x xs → (low < x) × (x ≤ high)
rising_in Rising.none h = elim h [ ]
rising_in (Rising.over l m r) In.first = (l, m)
rising_in (Rising.over l m r) (In.later h) = let (a, b) = rising_in r h in (omega arith, b)

-- 1 to n rise, and are all from 1 to n.
pub numbers_rise : (n : ℕ) → Rising n 0 (numbers n)
numbers_rise zero = Rising.none
numbers_rise (suc n) = rising_append (omega arith) (omega arith) (numbers_rise n) (Rising.over (omega arith) (omega arith) Rising.none)

pub in_numbers : (n i : ℕ) → 1 ≤ i → i ≤ n → In i (numbers n)
in_numbers zero i a b = absurd (omega arith)
in_numbers (suc n) i a b =
    elim (dec_le i n) [ yes l ↦ in_left (suc n ∷ []) (in_numbers n i a l) | no l ↦ in_right (numbers n) (in_as (suc n ∷ []) (omega arith) In.first) ]

pub out_numbers : (n i : ℕ) → In i (numbers n) → (1 ≤ i) × (i ≤ n)
out_numbers n i h = rising_in (numbers_rise n) h

---------------------------------------------------------------- positions of rows

-- Rows made of positions.
pub positions_map : (row : ℕ → Held) → ((i : ℕ) → (row i).position ≡ i) → (is : List ℕ) → positions_of (map row is) ≡ is
positions_map row e is = map-map (λ (h : Held). h.position) row is ∙ map_as (λ i. (row i).position) (λ i. i) is (λ i m. e i) ∙ map-id is

-- What is given for a row: nothing, or one thing whose number is the row's position.
pub data OneAt {A : Type 0} (number : A → ℕ) (position : ℕ) : List A → Type 0 where
  none : OneAt number position []
  one : {x : A} → number x ≡ position → OneAt number position (x ∷ [])

-- Of rows whose positions rise, the numbers of what is given rise.
pub each_rise :
    {A : Type 0} (number : A → ℕ) (f : Held → List A) → ((h : Held) → OneAt number h.position (f h)) →
    {high low : ℕ} (hs : List Held) → Rising high low (positions_of hs) → Rising high low (map number (each f hs))
each_rise number f e [] r = Rising.none
each_rise {A} number f e {high} {low} (h ∷ hs) (Rising.over l m r) = go (f h) (e h) (each_rise number f e hs r)
  where
    go : (xs : List A) → OneAt number h.position xs → Rising high h.position (map number (each f hs)) → Rising high low (map number (xs ++ each f hs))
    go xs OneAt.none rest = rising_from (omega arith) rest
    go xs (OneAt.one q) rest = subst (λ p. Rising high low (p ∷ map number (each f hs))) (sym q) (Rising.over l m rest)

---------------------------------------------------------------- how often a position is reported

pub times_append : (i : ℕ) (xs ys : List ℕ) → times i (xs ++ ys) ≡ times i xs + times i ys
times_append i [] ys = omega arith
times_append i (x ∷ xs) ys = omega (arith, times_append i xs ys)

pub times_none : (i : ℕ) (xs : List ℕ) → ((x : ℕ) → In x xs → ¬ (position_of x ≡ i)) → times i xs ≡ 0
times_none i [] h = refl
times_none i (x ∷ xs) h = rw (ne_eqb (position_of x) i (h x In.first)) (omega (arith, times_none i xs (λ y m. h y (In.later m))))

pub times_once :
    {high low : ℕ} (i : ℕ) (xs : List ℕ) → Rising high low (map position_of xs) →
    (x : ℕ) → In x xs → position_of x ≡ i → times i xs ≡ 1
times_once i [] r x h e = elim h [ ]
times_once i (x ∷ xs) (Rising.over l m r) _ In.first e =
    rw (eq-eqb (position_of x) i e) (omega (arith, times_none i xs (λ y h q. omega (arith, rising_in r (in_map position_of h)))))
times_once {high = high} {low = low} i (y ∷ xs) (Rising.over l m r) x (In.later h) e =
    rw (ne_eqb (position_of y) i (λ q. omega (arith, rising_in r (in_map position_of h)))) (omega (arith, times_once {high = high} {low = position_of y} i xs r x h e))

-- Numbers that rise are known by their members.
pub rising_same : {high low : ℕ} {xs ys : List ℕ} → Rising high low xs → Rising high low ys → ((x : ℕ) → In x xs ↔ In x ys) → xs ≡ ys
rising_same Rising.none Rising.none h = refl
rising_same Rising.none (Rising.over {x = y} a b q) h = absurd (in_nil ((h y).1 In.first))
rising_same (Rising.over {x = x} a b p) Rising.none h = absurd (in_nil ((h x).0 In.first))
rising_same {high} (Rising.over {x = x} {xs = xs} a b p) (Rising.over {x = y} {xs = ys} c d q) h =
    let e : x ≡ y = heads (in_head ((h x).0 In.first)) (in_head ((h y).1 In.first)) in
    let q' : Rising high x ys = subst (λ z. Rising high z ys) (sym e) q in
    ap (λ z. z ∷ xs) e ∙ ap (λ zs. y ∷ zs) (rising_same p q' (λ z. (λ m. rest e p m (in_head ((h z).0 (In.later m))), λ m. rest (sym e) q m (in_head ((h z).1 (In.later m))))))
  where
    heads : (x ≡ y) ⊎ In x ys → (y ≡ x) ⊎ In y xs → x ≡ y
    heads (inl g) k = g
    heads (inr g) (inl k) = sym k
    heads (inr g) (inr k) = absurd (omega (arith, (rising_in q g).0, (rising_in p k).0))

    rest : {u v z : ℕ} {us vs : List ℕ} → u ≡ v → Rising high u us → In z us → (z ≡ v) ⊎ In z vs → In z vs
    rest g r m (inl k) = absurd (omega (arith, g, k, (rising_in r m).0))
    rest g r m (inr k) = k
