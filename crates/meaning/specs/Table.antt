-- The table: a deterministic stepwise hedge automaton as functions, and the same read off the bytes of a table file
-- (01, "The table file"). Definitions only. A file is the list of its bytes; past its end it reads as 0.
use Rattle.std.specs.Prelude.{List, [], ◌∷◌, Bool, ℕ, zero, suc, ◌+◌, ◌*◌, ◌<◌, ◌≤◌, eqb, get_or}

-- The states are the numbers below `states`, the labels those below `labels`. `opening a` is O(a), `point q a` P(q,a),
-- `mark q` M(q), and `apply q p` A(q,p): q waits outside, p is the closing tree's last state.
pub record Table : Type 0 where
  pub states : ℕ
  pub labels : ℕ
  pub start : ℕ
  pub opening : ℕ → ℕ
  pub point : ℕ → ℕ → ℕ
  pub mark : ℕ → ℕ
  pub apply : ℕ → ℕ → ℕ
  pub final : ℕ → Bool

-- n and k within 01's sizes, and every step stays below n.
pub record WellFormed (t : Table) : Type 0 where
  pub some_state : 1 ≤ t.states
  pub few_states : t.states ≤ 64
  pub some_label : 1 ≤ t.labels
  pub few_labels : t.labels ≤ 32
  pub start_is_in : t.start < t.states
  pub opening_in : (a : ℕ) → a < t.labels → t.opening a < t.states
  pub point_in : (q a : ℕ) → q < t.states → a < t.labels → t.point q a < t.states
  pub mark_in : (q : ℕ) → q < t.states → t.mark q < t.states
  pub apply_in : (q p : ℕ) → q < t.states → p < t.states → t.apply q p < t.states

-- The length of body i, which is of kind i + 1: opening, point, mark, apply, final.
abbrev pub body_length : ℕ → ℕ → ℕ → ℕ
body_length n k i = get_or (k ∷ n * k ∷ n ∷ n * n ∷ n ∷ []) i 0

-- Where body i begins: the bodies follow one another from byte 29. With i = 5 it is the whole file's length.
abbrev pub body_at : ℕ → ℕ → ℕ → ℕ
body_at n k zero = 29
body_at n k (suc i) = body_at n k i + body_length n k i

-- Byte j of body i of a file, both counted from 0.
abbrev pub in_body : List ℕ → ℕ → ℕ → ℕ
in_body f i j = get_or f (body_at (get_or f 0 0) (get_or f 1 0) i + j) 0

-- The table that a file's bytes are. P is laid out with all labels of state 0 first, A with all p of q = 0 first.
abbrev pub table_of : List ℕ → Table
table_of f =
    let n = get_or f 0 0 in
    let k = get_or f 1 0 in
    record {
      states = n;
      labels = k;
      start = get_or f 2 0;
      opening = λ a. in_body f 0 a;
      point = λ q a. in_body f 1 (q * k + a);
      mark = λ q. in_body f 2 q;
      apply = λ q p. in_body f 3 (q * n + p);
      final = λ q. eqb (in_body f 4 q) 1;
    }
