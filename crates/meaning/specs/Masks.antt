-- The same sets as 64-bit masks, state i at bit i, executable and in the shape of the code. Definitions only.
-- safe and down take the list of acc's masks, so that whoever has them at hand need not work them out again.
use Rattle.std.specs.Prelude.{List, [], ◌∷◌, ◌++◌, Bool, not, cond, ◌&&◌, ◌||◌, ℕ, zero, suc, ◌-◌, ◌/◌, ◌%◌, ◌^◌, eqb, ltb, get_or, replicate}
use Rattle.std.specs.Int.Bits.{bit_and, bit_or}
use Rattle.meaning.specs.Table.{Table}

-- State i is in the set m.
abbrev pub has : ℕ → ℕ → Bool
has m i = eqb (m / 2 ^ i % 2) 1

-- The set m with state i.
unfoldable pub added : ℕ → ℕ → ℕ
added m i = bit_or m (2 ^ i)

-- The set a lies in x.
unfoldable pub within : ℕ → ℕ → Bool
within a x = eqb (bit_and a x) a

-- f at 0, then at 1, and so on below n.
abbrev pub upto : ℕ → (ℕ → ℕ → ℕ) → ℕ → ℕ
upto zero f x = x
upto (suc n) f x = f n (upto n f x)

-- f, n times.
abbrev pub rounds : ℕ → (ℕ → ℕ) → ℕ → ℕ
rounds zero f x = x
rounds (suc n) f x = f (rounds n f x)

-- The states below n that pass a test.
abbrev pub collect : ℕ → (ℕ → Bool) → ℕ
collect n test = upto n (λ q x. cond (test q) (added x q) x) 0

-- f at 0 to n - 1, as a list.
abbrev pub tabulate : ℕ → (ℕ → ℕ) → List ℕ
tabulate zero f = []
tabulate (suc n) f = tabulate n f ++ (f n ∷ [])

-- Every number below n passes a test.
abbrev pub all : ℕ → (ℕ → Bool) → Bool
all zero test = Bool.true
all (suc n) test = all n test && test n

-- x with every P(q,a).
abbrev pub points_of : Table → ℕ → ℕ → ℕ
points_of t q x = upto t.labels (λ a y. added y (t.point q a)) x

-- x with every A(q,p) for p in trees.
abbrev pub applies_of : Table → ℕ → ℕ → ℕ → ℕ
applies_of t trees q x = upto t.states (λ p y. cond (has trees p) (added y (t.apply q p)) y) x

-- x with what one step takes q to, where q is in x.
abbrev pub follow_of : Table → ℕ → ℕ → ℕ → ℕ
follow_of t trees q x = cond (has x q) (applies_of t trees q (points_of t q x)) x

-- A round over all states; one that it adds is followed at once if its turn is still to come.
abbrev pub round_of : Table → ℕ → ℕ → ℕ
round_of t trees x = upto t.states (follow_of t trees) x

-- Every O(a).
abbrev pub openings_of : Table → ℕ
openings_of t = upto t.labels (λ a y. added y (t.opening a)) 0

-- T. That n rounds are enough is proved.
abbrev pub trees_of : Table → ℕ
trees_of t = rounds t.states (λ x. round_of t x x) (openings_of t)

-- acc(q), for trees in T's place.
abbrev pub acc_of : Table → ℕ → ℕ → ℕ
acc_of t trees q = rounds t.states (round_of t trees) (2 ^ q)

-- acc(q) for each of 64 states, 0 from state n on.
abbrev pub accs_over : Table → ℕ → List ℕ
accs_over t trees = tabulate t.states (acc_of t trees) ++ replicate (64 - t.states) 0

-- The same for T itself: what the rules of 01 use.
abbrev pub accs_of : Table → List ℕ
accs_of t = accs_over t (trees_of t)

-- safe(x): the q below n whose acc(q) lies in x.
abbrev pub safe_of : ℕ → List ℕ → ℕ → ℕ
safe_of n accs x = collect n (λ q. within (get_or accs q 0) x)

-- The set of p with A(q,p) in x.
abbrev pub into_of : Table → ℕ → ℕ → ℕ
into_of t q x = collect t.states (λ p. has x (t.apply q p))

-- down(q,x).
abbrev pub down_of : Table → List ℕ → ℕ → ℕ → ℕ
down_of t accs q x = safe_of t.states accs (into_of t q x)

-- A state with acc(.) = acc is in down(q,x), told without that set: A(q,p) is in x for every p of acc, and p is a state.
abbrev pub in_down : Table → ℕ → ℕ → ℕ → Bool
in_down t acc q x = all 64 (λ p. not (has acc p) || (ltb p t.states && has x (t.apply q p)))

-- The states that are final, or those that are not.
abbrev pub ends_of : Table → Bool → ℕ
ends_of t wanted = collect t.states (λ q. cond wanted (t.final q) (not (t.final q)))

abbrev pub finals_of : Table → ℕ
finals_of t = ends_of t Bool.true

abbrev pub others_of : Table → ℕ
others_of t = ends_of t Bool.false
