-- Laws of streams and of the runs over them. Assumes nothing.
use mathlib.Core.Path.{◌≡◌, refl, ap, ◌∙◌}
use mathlib.Core.List.{List, [], ◌∷◌, ◌++◌}
use Prim.Native.Nat.{ℕ, zero, suc, pred, ◌-◌}
use native.Mathlib.Omega.{arith}
use lib.ListN.{length}
use Rattle.meaning.specs.Streams.{Event, Open, Point, Close, Run, closing, step, run, positions, Reads}
use Rattle.meaning.specs.Table.{Table}

-- What is read on from where w ended is read after w.
pub reads_join : {k d e f : ℕ} {w c : List Event} → Reads k d w e → Reads k e c f → Reads k d (w ++ c) f
reads_join Reads.none c = c
reads_join (Reads.opens l r) c = Reads.opens l (reads_join r c)
reads_join (Reads.points l r) c = Reads.points l (reads_join r c)
reads_join (Reads.closes r) c = Reads.closes (reads_join r c)

after_open : {k d f a : ℕ} {w : List Event} → Reads k d (Open a ∷ w) f → Reads k (suc d) w f
after_open (Reads.opens l c) = c

after_point : {k d f a : ℕ} {w : List Event} → Reads k d (Point a ∷ w) f → Reads k d w f
after_point (Reads.points l c) = c

after_close : {k d f : ℕ} {w : List Event} → Reads k (suc d) (Close ∷ w) f → Reads k d w f
after_close (Reads.closes c) = c

-- What is read with w in front of it is read on from where w ended.
pub reads_rest : {k d e f : ℕ} {w c : List Event} → Reads k d w e → Reads k d (w ++ c) f → Reads k e c f
reads_rest Reads.none h = h
reads_rest (Reads.opens l r) h = reads_rest r (after_open h)
reads_rest (Reads.points l r) h = reads_rest r (after_point h)
reads_rest (Reads.closes r) h = reads_rest r (after_close h)

-- Closing d levels, one after the other, closes them.
abbrev pub close_all : ℕ → List Event
close_all zero = []
close_all (suc d) = Close ∷ close_all d

pub closes_all : (k d : ℕ) → Reads k d (close_all d) zero
closes_all k zero = Reads.none
closes_all k (suc d) = Reads.closes (closes_all k d)

-- Runs over what was read

take_one : (m n : ℕ) → pred m - n ≡ m - suc n
take_one m n = omega arith

module _ (t : Table) where
  pub run_append : (w : List Event) (r : Run) (c : List Event) → run t r (w ++ c) ≡ run t (run t r w) c
  run_append [] r c = refl
  run_append (e ∷ w) r c = run_append w (step t r e) c

  -- A close brings no mark nearer.
  pub close_ahead : (m p : ℕ) (s : List ℕ) → (closing t m p s).ahead ≡ m
  close_ahead m p [] = refl
  close_ahead m p (q ∷ s) = refl

  close_depth : (m p : ℕ) (s : List ℕ) → length (closing t m p s).aside ≡ pred (length s)
  close_depth m p [] = refl
  close_depth m p (q ∷ s) = refl

  -- As many states are put aside as levels are open.
  pub run_depth : {k d e : ℕ} {w : List Event} → Reads k d w e → (r : Run) → length r.aside ≡ d → length (run t r w).aside ≡ e
  run_depth Reads.none r h = h
  run_depth (Reads.opens {a = a} l c) r h = run_depth c (step t r (Open a)) (ap suc h)
  run_depth (Reads.points {a = a} l c) r h = run_depth c (step t r (Point a)) h
  run_depth (Reads.closes c) r h = run_depth c (step t r Close) (omega (arith, close_depth r.ahead r.newest r.aside))

  -- Each position brings the mark one nearer.
  pub run_ahead : (w : List Event) (r : Run) → (run t r w).ahead ≡ r.ahead - positions w
  run_ahead [] r = omega arith
  run_ahead (Open a ∷ w) r =
      let h : (run t (step t r (Open a)) w).ahead ≡ pred r.ahead - positions w = run_ahead w (step t r (Open a)) in
      h ∙ take_one r.ahead (positions w)
  run_ahead (Point a ∷ w) r =
      let h : (run t (step t r (Point a)) w).ahead ≡ pred r.ahead - positions w = run_ahead w (step t r (Point a)) in
      h ∙ take_one r.ahead (positions w)
  run_ahead (Close ∷ w) r =
      run_ahead w (step t r Close) ∙ ap (λ (m : ℕ). m - positions w) (close_ahead r.ahead r.newest r.aside)
