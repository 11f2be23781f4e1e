-- What memory holds after a stream, by completions: the rows of the alive positions, ascending, and well formed. Assumes a
-- well-formed table and a stream that was read, where it says so.
use mathlib.Core.Path.{◌≡◌, refl, sym, ap, subst, ◌∙◌}
use mathlib.Core.Bool.{Bool, true, false, cond}
use mathlib.Core.List.{List, [], ◌∷◌, map}
use mathlib.Core.Logic.{◌↔◌}
use Prim.Native.Nat.{ℕ, suc, ◌≤◌}
use lib.ListN.{length}
use Rattle.meaning.specs.Table.{Table, WellFormed}
use Rattle.meaning.specs.Streams.{Event, Run, positions, marked, Prefix, Alive}
use Rattle.meaning.specs.Rows.{row_after}
use Rattle.meaning.proofs.Streams.{run_depth}
use Rattle.meaning.proofs.Rows.{AllBelow, levels_of, row_is, marked_in}
use Rattle.meaning.proofs.Rows as rows
use Rattle.places.specs.Memory.{Held, rows_of}
use Rattle.places.proofs.Good.{Below, Good, AllGood}
use Rattle.places.proofs.Good as good
use Rattle.rows.specs.Steps.{is_decided}
use Rattle.reports.specs.Reports.{left_over}
use Rattle.stepping.proofs.Kept.{left_good}
use Rattle.following.specs.Lists.{In, Rising}
use Rattle.following.specs.Following.{numbers, held_after, memory_after, positions_of}
use Rattle.following.proofs.Lists.{in_numbers, out_numbers, numbers_rise, positions_map, OneAt, each_rise}
use Rattle.following.proofs.Decided.{undecided_is}
use Rattle.following.proofs.Exactly.{Exactly, exactly_map, exactly_left, exactly_as, exactly_positions}

left_one : (h : Held) → OneAt (λ (x : Held). x.position) h.position (left_over h)
left_one h = go (is_decided h.row)
  where
    go : (b : Bool) → OneAt (λ (x : Held). x.position) h.position (cond b [] (h ∷ []))
    go true = OneAt.none
    go false = OneAt.one refl

module _ (t : Table) (w : List Event) where
  -- Their positions ascend.
  pub held_rise : Rising (positions w) 0 (positions_of (memory_after t w).alive)
  held_rise =
      each_rise (λ (h : Held). h.position) left_over left_one (map (held_after t w) (numbers (positions w)))
      (subst (Rising (positions w) 0) (sym (positions_map (held_after t w) (λ i. refl) (numbers (positions w)))) (numbers_rise (positions w)))

  -- What is held are the rows that are not decided.
  held_left : Exactly (held_after t w) (λ i. In i (numbers (positions w)) × (is_decided (row_after t i w) ≡ false)) (memory_after t w).alive
  held_left = exactly_left (exactly_map (held_after t w) (numbers (positions w)))

  -- Each row is the one that the rules build for its position.
  pub held_is : (h : Held) → In h (memory_after t w).alive → h ≡ held_after t w h.position
  held_is h m = let (i, n, q) = held_left.only h m in sym q ∙ ap (λ (x : Held). held_after t w x.position) q

module _ (t : Table) (wf : WellFormed t) {w : List Event} {d : ℕ} (r : Prefix t w d) where
  -- What is held are the rows of the alive positions.
  pub held_alive : Exactly (held_after t w) (λ i. (1 ≤ i) × (i ≤ positions w) × Alive t i w) (memory_after t w).alive
  held_alive =
      exactly_as (held_left t w)
      (λ i. (
        λ h. let (a, b) = out_numbers (positions w) i h.0 in (a, b, (undecided_is t wf i r b).0 h.1),
        λ h. (in_numbers (positions w) i h.0 h.1, (undecided_is t wf i r h.1).1 h.2),
      ))

  -- The positions held are exactly those read that are alive.
  pub held_exactly : (i : ℕ) → In i (positions_of (memory_after t w).alive) ↔ ((1 ≤ i) × (i ≤ positions w) × Alive t i w)
  held_exactly = exactly_positions held_alive (λ i. refl)

---------------------------------------------------------------- levels and states

levels_length : (t : Table) (s : List ℕ) → length (levels_of t s) ≡ length s
levels_length t [] = refl
levels_length t (q ∷ s) = ap suc (levels_length t s)

levels_below : (t : Table) (n : ℕ) {s : List ℕ} → AllBelow n s → Below n (levels_of t s)
levels_below t n rows.none = good.none
levels_below t n (rows.more l b) = good.over l (levels_below t n b)

module _ (t : Table) (wf : WellFormed t) {w : List Event} {d : ℕ} (r : Prefix t w d) where
  row_good : (position i : ℕ) → Good t.states d (record { position = position; row = row_after t i w })
  row_good position i =
      let start : Run = record { ahead = i; newest = t.start; aside = [] } in
      let m = marked_in t wf i r in
      rw (row_is t i w)
      (record {
        levels = levels_length t (marked t i w).aside ∙ run_depth t r start refl;
        newest = m.newest_in;
        below = levels_below t t.states m.aside_in;
      })

  all_good : (is : List ℕ) → AllGood t.states d (map (held_after t w) is)
  all_good [] = good.none
  all_good (i ∷ is) = good.over (row_good i i) (all_good is)

  -- All its rows have as many levels as are open, and states of the table.
  pub memory_good : AllGood t.states d (rows_of (memory_after t w))
  memory_good = good.over (row_good 0 0) (left_good (all_good (numbers (positions w))))
