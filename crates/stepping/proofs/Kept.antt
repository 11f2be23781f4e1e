-- Steps lead from good rows to good rows; and how many rows an event leaves. Assumes a well-formed table.
use mathlib.Core.Path.{◌≡◌, refl, ap, ap₂, ◌∙◌}
use mathlib.Core.Bool.{Bool, true, false, cond, ◌||◌}
use mathlib.Core.Logic.{inl, inr}
use mathlib.Core.List.{List, [], ◌∷◌, ◌++◌, map, append-nil}
use Prim.Native.Nat.{ℕ, suc, ◌+◌, ◌-◌, ◌<◌, ◌≤◌}
use native.Mathlib.Omega.{arith}
use lib.ListN.{length, length-append}
use types.Run.{OneOf, miss}
use denote.Enum.Declared.{tag_of}
use Rattle.rows.specs.contracts.Step.{the_type}
use Rattle.meaning.specs.Table.{Table, WellFormed}
use Rattle.meaning.specs.Streams.{Event, Open, Point, Close}
use Rattle.meaning.specs.Rows.{Level, Row, close_levels, is_selecting, is_rejecting}
use Rattle.places.specs.Places.{row_length}
use Rattle.places.specs.Memory.{Held, each}
use Rattle.places.proofs.Rows.{each_append}
use Rattle.places.proofs.Good.{Below, Good, AllGood}
use Rattle.places.proofs.Good as good
use Rattle.rows.specs.Steps.{event_of, Can, step_row, on_row, depth_after, is_decided}
use Rattle.reports.specs.Reports.{selected_word, failed_word, report_of, reports_of, left_over, left_of}
use Rattle.reports.proofs.Puts.{report_few}
use Rattle.rows.specs.declared.Step.{Step}
use Rattle.rows.specs.declared.Step.TheVariants as step
use Rattle.stepping.specs.Stepping.{Counted, Moves, new_of, born}

module _ (t : Table) (wf : WellFormed t) where
  close_good : (p position d : ℕ) (l : Level) (ls : List Level) → length ls ≡ d → 0 < d → l.state < t.states → Below t.states ls
      → Good t.states (d - 1) (record { position = position; row = close_levels t l ls })
  close_good p position d l [] e h s b = absurd (omega arith)
  close_good p position d l (q ∷ ls) e h s (good.over r b) =
      record { levels = omega (arith, e); newest = wf.apply_in q.state l.state r s; below = b }

  pub step_good : (accs : List ℕ) (e : Event) (w d : ℕ) (h : Held) → Can t w d e → Good t.states d h → Good t.states (depth_after e d) (on_row (step_row t accs e) h)
  step_good accs (Open a) w d h can g =
      record { levels = omega (arith, g.levels); newest = wf.opening_in a can.0; below = good.over g.newest g.below }
  step_good accs (Point a) w d h can g = record { levels = g.levels; newest = wf.point_in h.row.newest.state a g.newest can; below = g.below }
  step_good accs Close w d h can g = close_good 0 h.position d h.row.newest h.row.below g.levels can g.newest g.below

  pub all_step : (accs : List ℕ) (e : Event) (w d : ℕ) → Can t w d e → {hs : List Held} → AllGood t.states d hs → AllGood t.states (depth_after e d) (map (on_row (step_row t accs e)) hs)
  all_step accs e w d can good.none = good.none
  all_step accs e w d can (good.over {h} g a) = good.over (step_good accs e w d h can g) (all_step accs e w d can a)

  pub new_good : (d position : ℕ) (run : Row) → Good t.states d (record { position = 0; row = run }) → Good t.states d (new_of t position run)
  new_good d position run g = record { levels = g.levels; newest = wf.mark_in run.newest.state g.newest; below = g.below }

pub left_append : (xs ys : List Held) → length (left_of (xs ++ ys)) ≡ length (left_of xs) + length (left_of ys)
left_append xs ys = ap length (each_append left_over xs ys) ∙ length-append (left_of xs) (left_of ys)

-- One row more.
pub one_more : {A : Type 0} (f : Held → List A) (xs : List Held) (h : Held) → each f (xs ++ (h ∷ [])) ≡ each f xs ++ f h
one_more f xs h = each_append f xs (h ∷ []) ∙ ap (λ ys. each f xs ++ ys) (append-nil (f h))

pub left_new : (xs : List Held) (h : Held) → length (left_of (xs ++ (h ∷ []))) ≡ length (left_of xs) + length (left_over h)
left_new xs h = ap length (one_more left_over xs h) ∙ length-append (left_of xs) (left_over h)

over_few : (h : Held) → length (left_over h) ≤ 1
over_few h = go (is_decided h.row)
  where
    go : (b : Bool) → length (cond b [] (h ∷ [])) ≤ 1
    go true = omega arith
    go false = omega arith

pub left_few : (hs : List Held) → length (left_of hs) ≤ length hs
left_few [] = omega arith
left_few (h ∷ hs) = omega (arith, length-append (left_over h) (left_of hs), over_few h, left_few hs)

pub left_good : {n d : ℕ} {hs : List Held} → AllGood n d hs → AllGood n d (left_of hs)
left_good good.none = good.none
left_good {n} {d} (good.over {h} {hs} g a) = go (is_decided h.row) (left_good a)
  where
    go : (b : Bool) → AllGood n d (left_of hs) → AllGood n d (cond b [] (h ∷ []) ++ left_of hs)
    go true rest = rest
    go false rest = good.over g rest

pub map_length : (f : Held → Held) (hs : List Held) → length (map f hs) ≡ length hs
map_length f [] = refl
map_length f (h ∷ hs) = ap suc (map_length f hs)

-- An event that can be taken leads to a depth of at most 40.
pub moves_of : (t : Table) (depth d : ℕ) (e : Event) → depth ≤ 40 → Can t (row_length depth) d e → Moves e d
moves_of t depth d (Open a) h can = omega (arith, can.1)
moves_of t depth d (Point a) h can = tt
moves_of t depth d Close h can = can

-- A close brings no new row, any other step one.
pub none_born : (t : Table) (x : Step) (p : ℕ) (run : Row) (hs : List Held) → x ≡ step.Close → hs ++ born t (event_of x) p run ≡ hs
none_born t x p run hs e = ap (λ y. hs ++ born t (event_of y) p run) e ∙ append-nil hs

-- The match of a step that left out the close.
abbrev pub Other : Step → Type 0
Other x = OneOf (0 ∷ 1 ∷ []) (tag_of the_type x)

-- A step that is no close.
pub other_of : (x : Step) → ¬ (x ≡ step.Close) → Other x
other_of (step.Open a) n = inl refl
other_of (step.Point a) n = inr refl
other_of step.Close n = absurd (n refl)

pub one_born : (t : Table) (x : Step) (p : ℕ) (run : Row) → Other x → born t (event_of x) p run ≡ new_of t (p + 1) run ∷ []
one_born t (step.Open a) p run other = refl
one_born t (step.Point a) p run other = refl
one_born t step.Close p run other = absurd (miss (0 ∷ 1 ∷ []) 2 tt other)

-- A new position can be numbered.
pub counted_of : (x : Step) (p : ℕ) → Other x → Counted (event_of x) p → p < 2147483647
counted_of (step.Open a) p other h = h
counted_of (step.Point a) p other h = h
counted_of step.Close p other h = absurd (miss (0 ∷ 1 ∷ []) 2 tt other)

pub reports_few : (hs : List Held) → length (reports_of hs) ≤ length hs
reports_few [] = omega arith
reports_few (h ∷ hs) = omega (arith, length-append (report_of h) (reports_of hs), report_few h, reports_few hs)

-- A row that is not reported is left; where none is reported, all are.
not_reported : (h : Held) → length (report_of h) ≡ 0 → left_over h ≡ h ∷ []
not_reported h = go (is_selecting h.row) (is_rejecting h.row)
  where
    go : (b c : Bool) → length (cond b (selected_word h.position ∷ []) (cond c (failed_word h.position ∷ []) [])) ≡ 0 → cond (b || c) [] (h ∷ []) ≡ h ∷ []
    go true c e = absurd (omega arith)
    go false true e = absurd (omega arith)
    go false false e = refl

pub none_reported : (hs : List Held) → length (reports_of hs) ≡ 0 → left_of hs ≡ hs
none_reported [] e = refl
none_reported (h ∷ hs) e =
    let k = length-append (report_of h) (reports_of hs) in
    ap₂ (λ xs ys. xs ++ ys) (not_reported h (omega arith)) (none_reported hs (omega arith))
