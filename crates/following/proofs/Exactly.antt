-- Lists that hold exactly the rows of some positions, and the words that these give. Assumes nothing.
use mathlib.Core.Path.{◌≡◌, refl, sym, ap, subst, ◌∙◌}
use mathlib.Core.Bool.{Bool, true, false, cond}
use mathlib.Core.List.{List, [], ◌∷◌, ◌++◌, map}
use mathlib.Core.Logic.{◌↔◌, ◌⊎◌, inl, inr, ⊎_elim}
use Prim.Native.Nat.{ℕ}
use Rattle.places.specs.Memory.{Held, each}
use Rattle.rows.specs.Steps.{is_decided}
use Rattle.reports.specs.Reports.{left_over, left_of}
use Rattle.following.specs.Lists.{In}
use Rattle.following.specs.Following.{positions_of}
use Rattle.following.proofs.Lists.{in_nil, in_one, in_left, in_right, in_cases, in_as, in_map, out_map, in_each, out_each}

-- The list holds `row i` for each position i that P holds of, and nothing else.
pub record Exactly (row : ℕ → Held) (P : ℕ → Type 0) (hs : List Held) : Type 0 where
  pub has : (i : ℕ) → P i → In (row i) hs
  pub only : (h : Held) → In h hs → (i : ℕ) × P i × (row i ≡ h)

pub exactly_map : (row : ℕ → Held) (is : List ℕ) → Exactly row (λ i. In i is) (map row is)
exactly_map row is = record { has = λ i m. in_map row m; only = λ h m. out_map row is m }

pub exactly_append :
    {row : ℕ → Held} {P Q : ℕ → Type 0} (xs ys : List Held) → Exactly row P xs → Exactly row Q ys → Exactly row (λ i. P i ⊎ Q i) (xs ++ ys)
exactly_append xs ys a b =
    record {
      has = λ i. ⊎_elim (λ h. in_left ys (a.has i h)) (λ h. in_right xs (b.has i h));
      only = λ h m.
          ⊎_elim
          (λ n. let (i, w, q) = a.only h n in (i, inl w, q))
          (λ n. let (i, w, q) = b.only h n in (i, inr w, q))
          (in_cases xs ys m);
    }

left_in : (h : Held) → is_decided h.row ≡ false → In h (left_over h)
left_in h e = rw e In.first

left_out : (h x : Held) → In x (left_over h) → (x ≡ h) × (is_decided h.row ≡ false)
left_out h x = go (is_decided h.row)
  where
    go : (b : Bool) → In x (cond b [] (h ∷ [])) → (x ≡ h) × (b ≡ false)
    go true m = absurd (in_nil m)
    go false m = (in_one m, refl)

module _ {row : ℕ → Held} {P : ℕ → Type 0} {hs : List Held} (all : Exactly row P hs) where
  pub exactly_as : {Q : ℕ → Type 0} → ((i : ℕ) → P i ↔ Q i) → Exactly row Q hs
  exactly_as same =
      record {
        has = λ i v. all.has i ((same i).1 v);
        only = λ h m. let (i, w, q) = all.only h m in (i, (same i).0 w, q);
      }

  -- The rows made anew.
  pub exactly_next : (next : Held → Held) (then : ℕ → Held) → ((i : ℕ) → P i → then i ≡ next (row i)) → Exactly then P (map next hs)
  exactly_next next then same =
      record {
        has = λ i w. in_as (map next hs) (sym (same i w)) (in_map next (all.has i w));
        only = λ h m.
            let (x, n, p) = out_map next hs m in
            let (i, w, q) = all.only x n in
            (i, w, same i w ∙ ap next q ∙ p);
      }

  -- The rows that are left.
  pub exactly_left : Exactly row (λ i. P i × (is_decided (row i).row ≡ false)) (left_of hs)
  exactly_left =
      record {
        has = λ i w. in_each left_over (all.has i w.0) (left_in (row i) w.1);
        only = λ h m.
            let (x, n, p) = out_each left_over hs m in
            let (e, u) = left_out x h p in
            let (i, w, q) = all.only x n in
            (i, (w, ap (λ (y : Held). is_decided y.row) q ∙ u), q ∙ sym e);
      }

  -- Their positions.
  pub exactly_positions : ((i : ℕ) → (row i).position ≡ i) → (i : ℕ) → In i (positions_of hs) ↔ P i
  exactly_positions at i = (
    λ m.
        let (h, n, e) = out_map (λ (x : Held). x.position) hs m in
        let (j, w, q) = all.only h n in
        subst P (sym (at j) ∙ ap (λ (x : Held). x.position) q ∙ e) w,
    λ w. in_as (positions_of hs) (at i) (in_map (λ (x : Held). x.position) (all.has i w)),
  )

  -- The words that f gives for them, where it gives word i for the row of i alone, and if Q holds of i.
  pub exactly_each :
      {A : Type 0} (f : Held → List A) (word : ℕ → A) (Q : ℕ → Type 0) →
      ((i j : ℕ) → P j → In (word i) (f (row j)) ↔ ((j ≡ i) × Q j)) → (i : ℕ) → In (word i) (each f hs) ↔ (P i × Q i)
  exactly_each f word Q gives i = (
    λ m.
        let (h, n, p) = out_each f hs m in
        let (j, w, q) = all.only h n in
        let (e, d) = (gives i j w).0 (subst (λ x. In (word i) (f x)) (sym q) p) in
        subst (λ k. P k × Q k) e (w, d),
    λ w. in_each f (all.has i w.0) ((gives i i w.0).1 (refl, w.1)),
  )
