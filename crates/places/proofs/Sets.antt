-- Words of a row written one at a time: what the row then stands for. Assumes that the row has room for the words.
use mathlib.Core.Path.{◌≡◌, refl, sym, ap, ◌∙◌}
use mathlib.Core.List.{List, [], ◌∷◌, ◌++◌, append_assoc}
use Prim.Native.Nat.{ℕ, zero, suc, ◌+◌, ◌-◌, ◌≤◌}
use native.Mathlib.Omega.{arith}
use lib.ListN.{length, replicate, set, length-append}
use lib.Seq.{set_at}
use Rattle.meaning.specs.Rows.{Level, in_state}
use Rattle.places.specs.Places.{state_at, selecting_at, rejecting_at, row_length}
use Rattle.places.specs.Memory.{Held, row_words, below_in}
use Rattle.places.proofs.Words.{front, front_length, row_split}

-- As many levels under level d as d.
pub below_length : (words : List ℕ) (d : ℕ) → length (below_in words d) ≡ d
below_length words zero = refl
below_length words (suc d) = ap suc (below_length words d)

-- A word n places after p.
set_after_one : (p : List ℕ) (x y : ℕ) (ys : List ℕ) (a n : ℕ) → length p ≡ n → set (p ++ x ∷ y ∷ ys) (n + 1) a ≡ p ++ x ∷ a ∷ ys
set_after_one p x y ys a n e =
    ap (λ (l : List ℕ). set l (n + 1) a) (sym (append_assoc p (x ∷ []) (y ∷ ys)))
    ∙ set_at (p ++ x ∷ []) y ys a (n + 1) (length-append p (x ∷ []) ∙ ap (λ (m : ℕ). m + 1) e)
    ∙ append_assoc p (x ∷ []) (a ∷ ys)

set_after_two : (p : List ℕ) (x y z : ℕ) (ys : List ℕ) (a n : ℕ) → length p ≡ n → set (p ++ x ∷ y ∷ z ∷ ys) (n + 2) a ≡ p ++ x ∷ y ∷ a ∷ ys
set_after_two p x y z ys a n e =
    ap (λ (l : List ℕ). set l (n + 2) a) (sym (append_assoc p (x ∷ y ∷ []) (z ∷ ys)))
    ∙ set_at (p ++ x ∷ y ∷ []) z ys a (n + 2) (length-append p (x ∷ y ∷ []) ∙ ap (λ (m : ℕ). m + 2) e)
    ∙ append_assoc p (x ∷ y ∷ []) (a ∷ ys)

-- Three words from n on, written in turn.
set_three :
    (p : List ℕ) (x y z : ℕ) (ys : List ℕ) (a b c n : ℕ) → length p ≡ n →
    set (set (set (p ++ x ∷ y ∷ z ∷ ys) n a) (n + 1) b) (n + 2) c ≡ p ++ a ∷ b ∷ c ∷ ys
set_three p x y z ys a b c n e =
    ap (λ (l : List ℕ). set (set l (n + 1) b) (n + 2) c) (set_at p x (y ∷ z ∷ ys) a n e)
    ∙ ap (λ (l : List ℕ). set l (n + 2) c) (set_after_one p a y (z ∷ ys) b n e)
    ∙ set_after_two p a b z ys c n e

-- The row with another state of its newest level.
abbrev pub with_state : Held → ℕ → Held
with_state h q = record { position = h.position; row = record { newest = in_state h.row.newest q; below = h.row.below } }

-- The row with a level over its newest.
abbrev pub with_level : Held → Level → Held
with_level h l = record { position = h.position; row = record { newest = l; below = h.row.newest ∷ h.row.below } }

-- A row's words are up to its newest level those that stand before a level over it.
front_over : (h : Held) (l : Level) (rest : List ℕ) →
    front h ++ h.row.newest.state ∷ h.row.newest.selecting ∷ h.row.newest.rejecting ∷ rest ≡ front (with_level h l) ++ rest
front_over h l rest = sym (append_assoc (front h) (h.row.newest.state ∷ h.row.newest.selecting ∷ h.row.newest.rejecting ∷ []) rest)

-- A row with room for a level more: there the words of that level are 0.
row_room : (w : ℕ) (h : Held) (l : Level) → row_length (suc (length h.row.below)) ≤ w → row_words w h
    ≡ front (with_level h l) ++ 0 ∷ 0 ∷ 0 ∷ replicate (w - row_length (suc (length h.row.below))) 0
row_room w h l room =
    let m : ℕ = w - row_length (suc (length h.row.below)) in
    let n = h.row.newest in
    let k : w - row_length (length h.row.below) ≡ suc (suc (suc m)) = omega arith in
    row_split w h
    ∙ ap (λ (i : ℕ). front h ++ n.state ∷ n.selecting ∷ n.rejecting ∷ replicate i 0) k
    ∙ front_over h l (0 ∷ 0 ∷ 0 ∷ replicate m 0)

module _ (w : ℕ) (h : Held) where
  module _ (d : ℕ) (e : length h.row.below ≡ d) where
    -- The newest state's word written.
    pub set_newest : (q : ℕ) → set (row_words w h) (state_at d) q ≡ row_words w (with_state h q)
    set_newest q =
        let l = h.row.newest in
        let rest : List ℕ = replicate (w - row_length (length h.row.below)) 0 in
        ap (λ (x : List ℕ). set x (state_at d) q) (row_split w h)
        ∙ set_at (front h) l.state (l.selecting ∷ l.rejecting ∷ rest) q (state_at d) (front_length h ∙ ap state_at e)
        ∙ sym (row_split w (with_state h q))

    -- The state's word under the newest level written.
    pub set_under : (l : Level) (q : ℕ) → set (row_words w (with_level h l)) (state_at d) q ≡ row_words w (with_level (with_state h q) l)
    set_under l q =
        let n = h.row.newest in
        let rest : List ℕ = l.state ∷ l.selecting ∷ l.rejecting ∷ replicate (w - row_length (suc (length h.row.below))) 0 in
        ap (λ (x : List ℕ). set x (state_at d) q) (row_split w (with_level h l) ∙ sym (front_over h l rest))
        ∙ set_at (front h) n.state (n.selecting ∷ n.rejecting ∷ rest) q (state_at d) (front_length h ∙ ap state_at e)
        ∙ front_over (with_state h q) l rest
        ∙ sym (row_split w (with_level (with_state h q) l))

    module _ (room : row_length (suc d) ≤ w) (l : Level) where
      -- The three words of the next level written in turn.
      pub set_level :
          set (set (set (row_words w h) (state_at (suc d)) l.state) (selecting_at (suc d)) l.selecting) (rejecting_at (suc d)) l.rejecting
          ≡ row_words w (with_level h l)
      set_level =
          let rest : List ℕ = replicate (w - row_length (suc (length h.row.below))) 0 in
          ap (λ (x : List ℕ). set (set (set x (state_at (suc d)) l.state) (selecting_at (suc d)) l.selecting) (rejecting_at (suc d)) l.rejecting) (row_room w h l (omega arith))
          ∙ set_three (front (with_level h l)) 0 0 0 rest l.state l.selecting l.rejecting (state_at (suc d)) (front_length (with_level h l) ∙ omega arith)
          ∙ sym (row_split w (with_level h l))

      -- The three words of the newest level made 0 in turn.
      pub set_no_level :
          set (set (set (row_words w (with_level h l)) (state_at (suc d)) 0) (selecting_at (suc d)) 0) (rejecting_at (suc d)) 0 ≡ row_words w h
      set_no_level =
          let rest : List ℕ = replicate (w - row_length (suc (length h.row.below))) 0 in
          ap (λ (x : List ℕ). set (set (set x (state_at (suc d)) 0) (selecting_at (suc d)) 0) (rejecting_at (suc d)) 0) (row_split w (with_level h l))
          ∙ set_three (front (with_level h l)) l.state l.selecting l.rejecting rest 0 0 0 (state_at (suc d)) (front_length (with_level h l) ∙ omega arith)
          ∙ sym (row_room w h l (omega arith))
