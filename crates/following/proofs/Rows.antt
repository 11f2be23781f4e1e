-- Rows one event further: the row of a position read steps by the event's rule, a new position's row is row 0 marked, and
-- there are no other rows. Assumes nothing.
use mathlib.Core.Path.{◌≡◌, refl, sym, ap, ap₂, ◌∙◌}
use mathlib.Core.List.{List, [], ◌∷◌, ◌++◌, map, map-map, map-append, append-nil}
use Prim.Native.Nat.{ℕ, zero, suc, pred, ◌+◌, ◌-◌, ◌<◌, ◌≤◌}
use native.Mathlib.Numerals.{add-one}
use native.Mathlib.Omega.{arith}
use Rattle.meaning.specs.Table.{Table}
use Rattle.meaning.specs.Masks.{accs_of}
use Rattle.meaning.specs.Streams.{Event, Open, Point, Close, positions}
use Rattle.meaning.specs.Rows.{Row, start_row, point_row, open_row, close_row, marked_row, follow_row, row_after}
use Rattle.places.specs.Memory.{Held}
use Rattle.rows.specs.Steps.{step_row, on_row}
use Rattle.stepping.specs.Stepping.{born}
use Rattle.following.specs.Lists.{In, Rising}
use Rattle.following.specs.Following.{numbers, held_after}
use Rattle.following.proofs.Lists.{map_as, out_numbers}
use Rattle.following.proofs.Stays.{positions_append}

---------------------------------------------------------------- one row

-- A position more brings the mark one nearer.
nearer : (i n : ℕ) → pred i - n ≡ i - suc n
nearer i n = omega arith

module _ (t : Table) (accs : List ℕ) where
  follow_append : (v w : List Event) (i : ℕ) (r : Row) → follow_row t accs i r (v ++ w) ≡ follow_row t accs (i - positions v) (follow_row t accs i r v) w
  follow_append [] w i r = ap (λ m. follow_row t accs m r w) (omega arith)
  follow_append (Open a ∷ v) w i r = rw (← nearer i (positions v)) (follow_append v w (pred i) (marked_row t i (open_row t accs a r)))
  follow_append (Point a ∷ v) w i r = rw (← nearer i (positions v)) (follow_append v w (pred i) (marked_row t i (point_row t a r)))
  follow_append (Close ∷ v) w i r = follow_append v w i (close_row t r)

  -- Before its mark a row is the row without one.
  unmarked : (v : List Event) (i : ℕ) (r : Row) → positions v < i → follow_row t accs i r v ≡ follow_row t accs 0 r v
  unmarked [] i r h = refl
  unmarked (Open a ∷ v) zero r h = absurd (omega arith)
  unmarked (Open a ∷ v) (suc zero) r h = absurd (omega arith)
  unmarked (Open a ∷ v) (suc (suc i)) r h = unmarked v (suc i) (open_row t accs a r) (omega arith)
  unmarked (Point a ∷ v) zero r h = absurd (omega arith)
  unmarked (Point a ∷ v) (suc zero) r h = absurd (omega arith)
  unmarked (Point a ∷ v) (suc (suc i)) r h = unmarked v (suc i) (point_row t a r) (omega arith)
  unmarked (Close ∷ v) i r h = unmarked v i (close_row t r) h

  -- With no mark to come an event makes of a row what its rule says.
  follow_one : (e : Event) (r : Row) → follow_row t accs 0 r (e ∷ []) ≡ step_row t accs e r
  follow_one (Open a) r = refl
  follow_one (Point a) r = refl
  follow_one Close r = refl

module _ (t : Table) (v : List Event) (e : Event) where
  one_further : (i m : ℕ) → i - positions v ≡ m → row_after t i (v ++ (e ∷ [])) ≡ follow_row t (accs_of t) m (row_after t i v) (e ∷ [])
  one_further i m z =
      follow_append t (accs_of t) v (e ∷ []) i (start_row t (accs_of t)) ∙ ap (λ k. follow_row t (accs_of t) k (row_after t i v) (e ∷ [])) z

  -- The row of a position read, and row 0.
  pub old_row : (i : ℕ) → i ≤ positions v → row_after t i (v ++ (e ∷ [])) ≡ step_row t (accs_of t) e (row_after t i v)
  old_row i l = one_further i 0 (omega arith) ∙ follow_one t (accs_of t) e (row_after t i v)

  -- The row of a position that comes with the event, from row 0.
  pub new_row : row_after t (positions v + 1) (v ++ (e ∷ [])) ≡ follow_row t (accs_of t) 1 (row_after t 0 v) (e ∷ [])
  new_row =
      one_further (positions v + 1) 1 (omega arith)
      ∙ ap (λ r. follow_row t (accs_of t) 1 r (e ∷ [])) (unmarked t (accs_of t) v (positions v + 1) (start_row t (accs_of t)) (omega arith))

---------------------------------------------------------------- all rows

-- The position that comes with an event after p others.
abbrev pub new_positions : Event → ℕ → List ℕ
new_positions (Open a) p = (p + 1) ∷ []
new_positions (Point a) p = (p + 1) ∷ []
new_positions Close p = []

-- The positions read after the event are those before it and the one that comes with it.
pub numbers_after : (v : List Event) (e : Event) → numbers (positions (v ++ (e ∷ []))) ≡ numbers (positions v) ++ new_positions e (positions v)
numbers_after v (Open a) = rw (positions_append, add-one)
numbers_after v (Point a) = rw (positions_append, add-one)
numbers_after v Close =
    let e : positions (v ++ (Close ∷ [])) ≡ positions v = omega (arith, positions_append v (Close ∷ [])) in
    ap numbers e ∙ sym (append-nil (numbers (positions v)))

one_rises : (p n : ℕ) → n ≡ p + 1 → Rising n p ((p + 1) ∷ [])
one_rises p n e = Rising.over {low = p} {x = p + 1} (omega arith) (omega arith) Rising.none

pub new_rise : (v : List Event) (e : Event) → Rising (positions (v ++ (e ∷ []))) (positions v) (new_positions e (positions v))
new_rise v (Open a) = one_rises (positions v) _ (positions_append v (Open a ∷ []))
new_rise v (Point a) = one_rises (positions v) _ (positions_append v (Point a ∷ []))
new_rise v Close = Rising.none

module _ (t : Table) (v : List Event) where
  -- The new row is that of the position that comes with the event.
  pub born_are :
      (e : Event) →
      map (held_after t (v ++ (e ∷ []))) (new_positions e (positions v)) ≡ born t e (positions v) (step_row t (accs_of t) e (row_after t 0 v))
  born_are (Open a) = rw (new_row t v (Open a))
  born_are (Point a) = rw (new_row t v (Point a))
  born_are Close = refl

  -- The rows of all positions, one event further: each by the event's rule, and the new row.
  pub all_rows :
      (e : Event) →
      map (held_after t (v ++ (e ∷ []))) (numbers (positions (v ++ (e ∷ []))))
      ≡ map (on_row (step_row t (accs_of t) e)) (map (held_after t v) (numbers (positions v))) ++ born t e (positions v) (step_row t (accs_of t) e (row_after t 0 v))
  all_rows e =
      let after : ℕ → Held = held_after t (v ++ (e ∷ [])) in
      let next : Held → Held = on_row (step_row t (accs_of t) e) in
      let old = numbers (positions v) in
      let same : (i : ℕ) → In i old → after i ≡ next (held_after t v i) =
      λ i m. ap (λ r. record { position = i; row = r }) (old_row t v e i (out_numbers (positions v) i m).1) in
      ap (map after) (numbers_after v e)
      ∙ map-append after old (new_positions e (positions v))
      ∙ ap₂ (λ xs ys. xs ++ ys) (map_as after (λ i. next (held_after t v i)) old same ∙ sym (map-map next (held_after t v) old)) (born_are e)
