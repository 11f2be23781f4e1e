-- What the writes of a step leave in a row, and what its reads say, over bare places and values. Assumes nothing.
use mathlib.Core.Path.{◌≡◌, refl, sym, ap, subst, ◌∙◌}
use mathlib.Core.List.{List}
use mathlib.Core.Bool.{Bool, true, false, not, ◌||◌}
use Prim.Native.Nat.{ℕ, zero, suc, ◌+◌, ◌-◌, ◌^◌, ◌<◌, ◌≤◌}
use native.Mathlib.Numerals.{add-one}
use native.Mathlib.Omega.{arith}
use lib.ListN.{length, get_or, set}
use lib.Seq.{get_or-set_other}
use Rattle.meaning.specs.Table.{Table}
use Rattle.meaning.specs.Masks.{has, down_of, in_down}
use Rattle.meaning.specs.Rows.{Level, point_row, open_row, close_row, mark_row}
use Rattle.meaning.proofs.InDown.{in_down_lem}
use Rattle.places.specs.Places.{position_at, state_at, selecting_at, rejecting_at, row_length}
use Rattle.places.specs.Memory.{level_in, row_in, held_in, row_words, RowIn}
use Rattle.places.proofs.Sets.{below_length, with_state, set_newest, set_under, set_level, set_no_level}
use Rattle.rows.specs.declared.Step.{Step}
use Rattle.rows.specs.Steps.{event_of, Can, on_row, is_decided, in_row, neither}

module _ (t : Table) (n d : ℕ) (words : List ℕ) (h : RowIn n d words) where
  -- The newest state written.
  newest_words : (at r q : ℕ) → at ≡ state_at d → r ≡ q → set words at r ≡ row_words (length words) (with_state (held_in d words) q)
  newest_words at r q e f =
      ap (λ (i : ℕ). set words i r) e
      ∙ ap (set words (state_at d)) f
      ∙ ap (λ (x : List ℕ). set x (state_at d) q) h.same
      ∙ set_newest (length words) (held_in d words) d (below_length words d) q

  pub point_words :
      (a at r : ℕ) → at ≡ state_at d → r ≡ t.point (get_or words at 0) a →
      set words at r ≡ row_words (length words) (on_row (point_row t a) (held_in d words))
  point_words a at r e f =
      newest_words at r (t.point (get_or words (state_at d) 0) a) e (f ∙ ap (λ (i : ℕ). t.point (get_or words i 0) a) e)

  pub mark_words :
      (position at r : ℕ) → at ≡ state_at d → r ≡ t.mark (get_or (set words position_at position) at 0) →
      set (set words position_at position) at r ≡ row_words (length words) (record { position = position; row = mark_row t (row_in d words) })
  mark_words position at r e f =
      let q : ℕ = t.mark (get_or words (state_at d) 0) in
      let g : r ≡ q = f ∙ ap t.mark (get_or-set_other words position_at at position 0 (λ z. omega (arith, z)) ∙ ap (λ (i : ℕ). get_or words i 0) e) in
      ap (λ (x : List ℕ). set (set x position_at position) at r) h.same
      ∙ ap (λ (i : ℕ). set (row_words (length words) (record { position = position; row = row_in d words })) i r) e
      ∙ ap (set (row_words (length words) (record { position = position; row = row_in d words })) (state_at d)) g
      ∙ set_newest (length words) (record { position = position; row = row_in d words }) d (below_length words d) q

  pub open_words_lem :
      (accs : List ℕ) (a : ℕ) → row_length (d + 1) ≤ length words → (q x y at selecting rejecting state s r : ℕ) →
      q ≡ state_at d → x ≡ selecting_at d → y ≡ rejecting_at d →
      at ≡ state_at (d + 1) → selecting ≡ selecting_at (d + 1) → rejecting ≡ rejecting_at (d + 1) →
      state ≡ t.opening a →
      s ≡ down_of t accs (get_or words q 0) (get_or words x 0) →
      r ≡ down_of t accs (get_or words q 0) (get_or words y 0) →
      set (set (set words at state) selecting s) rejecting r ≡ row_words (length words) (on_row (open_row t accs a) (held_in d words))
  open_words_lem accs a room q x y at selecting rejecting state s r eq ex ey e₀ e₁ e₂ f₀ f₁ f₂ =
      let l : Level = (open_row t accs a (row_in d words)).newest in
      let g₁ : s ≡ l.selecting = rw (eq, ex) at f₁ in
      let g₂ : r ≡ l.rejecting = rw (eq, ey) at f₂ in
      rw (e₀, e₁, e₂, f₀, g₁, g₂, add-one d)
      (ap (λ (z : List ℕ). set (set (set z (state_at (suc d)) l.state) (selecting_at (suc d)) l.selecting) (rejecting_at (suc d)) l.rejecting) h.same
      ∙ set_level (length words) (held_in d words) d (below_length words d) (omega arith) l)

-- A close's writes, where the level that goes is d + 1.
close_words_suc :
    (t : Table) (d : ℕ) (words : List ℕ) → words ≡ row_words (length words) (held_in (suc d) words) → row_length (suc d) ≤ length words →
    set (set (set (set words (state_at d) (t.apply (get_or words (state_at d) 0) (get_or words (state_at (suc d)) 0))) (state_at (suc d)) 0) (selecting_at (suc d)) 0) (rejecting_at (suc d)) 0
    ≡ row_words (length words) (on_row (close_row t) (held_in (suc d) words))
close_words_suc t d words same deep =
    let q : ℕ = t.apply (get_or words (state_at d) 0) (get_or words (state_at (suc d)) 0) in
    let l : Level = level_in words (suc d) in
    let g = with_state (held_in d words) q in
    let zeros : List ℕ → List ℕ = λ x. set (set (set x (state_at (suc d)) 0) (selecting_at (suc d)) 0) (rejecting_at (suc d)) 0 in
    ap (λ (x : List ℕ). zeros (set x (state_at d) q)) same
    ∙ ap zeros (set_under (length words) (held_in d words) d (below_length words d) l q)
    ∙ set_no_level (length words) g d (below_length words d) deep l

module _ (t : Table) (words : List ℕ) where
  pub close_words :
      (d : ℕ) → words ≡ row_words (length words) (held_in d words) → row_length d ≤ length words → 0 < d → (from at selecting rejecting r : ℕ) →
      from ≡ state_at (d - 1) → at ≡ state_at d → selecting ≡ selecting_at d → rejecting ≡ rejecting_at d →
      r ≡ t.apply (get_or words from 0) (get_or words at 0) →
      set (set (set (set words from r) at 0) selecting 0) rejecting 0 ≡ row_words (length words) (on_row (close_row t) (held_in d words))
  close_words zero same deep above from at selecting rejecting r e₀ e₁ e₂ e₃ f = absurd (omega arith)
  close_words (suc d) same deep above from at selecting rejecting r e₀ e₁ e₂ e₃ f =
      let e : suc d - 1 ≡ d = omega arith in
      rw (f, e₀, e₁, e₂, e₃, e) (close_words_suc t d words same deep)

  -- The state that a close takes the row to.
  pub close_state :
      (d : ℕ) → 0 < d → (from at r : ℕ) → from ≡ state_at (d - 1) → at ≡ state_at d → r ≡ t.apply (get_or words from 0) (get_or words at 0) →
      r ≡ (close_row t (row_in d words)).newest.state
  close_state zero above from at r e₀ e₁ f = omega arith
  close_state (suc d) above from at r e₀ e₁ f = let e : suc d - 1 ≡ d = omega arith in rw (e₀, e₁, e) at f

  -- A close leaves the sets of the level below.
  pub close_sets :
      (d : ℕ) → 0 < d → (s : ℕ) →
      neither (level_in words (d - 1)).selecting (level_in words (d - 1)).rejecting s ≡ not (is_decided (in_row s (close_row t (row_in d words))))
  close_sets zero above s = absurd (omega arith)
  close_sets (suc d) above s = let e : suc d - 1 ≡ d = omega arith in rw e

-- The state of a level is one of the table's.
pub state_in : (n d : ℕ) (words : List ℕ) → RowIn n d words → (at l : ℕ) → at ≡ state_at l → l ≤ d → get_or words at 0 < n
state_in n d words h at l e m = rw e (h.states l m)

-- The same once the position is written.
pub marked_in :
    (n d : ℕ) (words : List ℕ) → RowIn n d words → (position at : ℕ) → at ≡ state_at d → get_or (set words position_at position) at 0 < n
marked_in n d words h position at e = rw (get_or-set_other words position_at at position 0 (λ z. omega (arith, z))) (state_in n d words h at d e (omega arith))

-- The state that a point takes the row to.
pub point_state :
    (t : Table) (words : List ℕ) (d a at r : ℕ) → at ≡ state_at d → r ≡ t.point (get_or words at 0) a → r ≡ (point_row t a (row_in d words)).newest.state
point_state t words d a at r e f = rw e at f

-- What is asked of an event, of the step that it is.
pub can_as : (t : Table) (w d : ℕ) {x y : Step} → x ≡ y → Can t w d (event_of x) → Can t w d (event_of y)
can_as t w d e h = subst (λ (z : Step). Can t w d (event_of z)) e h

-- Two tests in turn, over bare tests.
both_tests : (a b : Bool) → not a ≡ true → not b ≡ not (a || b)
both_tests true true e = refl
both_tests true false e = sym e
both_tests false b e = refl

first_test : (a b : Bool) → not a ≡ false → not a ≡ not (a || b)
first_test true b e = refl
first_test false true e = e
first_test false false e = refl

pub neither_both : {a b u v : Bool} → a ≡ u → b ≡ v → not a ≡ true → not b ≡ not (u || v)
neither_both {a} {b} f g e = rw (← f, ← g) (both_tests a b e)

pub neither_first : {a u : Bool} → a ≡ u → (v : Bool) → not a ≡ false → not a ≡ not (u || v)
neither_first {a} f v e = rw (← f) (first_test a v e)

-- A test by acc(s) alone says whether s is in the set that an open makes.
pub down_holds :
    (t : Table) → t.states ≤ 64 → (accs words : List ℕ) (s : ℕ) → s < t.states → (acc at level : ℕ) → acc ≡ get_or accs s 0 → acc < 2 ^ 64 → at ≡ level →
    (place x : ℕ) (r : Bool) → place ≡ x → r ≡ in_down t acc (get_or words at 0) (get_or words place 0) →
    r ≡ has (down_of t accs (get_or words level 0) (get_or words x 0)) s
down_holds t few accs words s l acc at level e small e₁ place x r e₂ f =
    rw (e₁, e₂, e) at f ∙ sym (in_down_lem t few accs (get_or words level 0) (get_or words x 0) s l (rw (← e) small))
