-- Two steps that agree feed alike, from states that are related, also with room. Assumes nothing.
use mathlib.Core.Path.{◌≡◌, refl, sym, ap, ◌∙◌}
use mathlib.Core.Bool.{Bool, true, false, cond, ◌&&◌}
use lib.Dec.{ltb}
use lib.ListN.{length}
use mathlib.Core.List.{List, [], ◌∷◌}
use Prim.Native.Nat.{ℕ, ◌+◌}
use Rattle.grammar.specs.Feeding.{Step, goes_on, Fed, feed, Roomed, roomed}

-- Two steps do the same, and lead to related states.
pub record StepsAgree {A B : Type 0} (R : A → B → Type 0) (x : Step A) (y : Step B) : Type 0 where
  pub gives : x.gives ≡ y.gives
  pub stops : x.stops ≡ y.stops
  pub next : R x.next y.next

-- Bytes come to the same, and lead to related states.
pub record FeedsAgree {A B : Type 0} (R : A → B → Type 0) (x : Fed A) (y : Fed B) : Type 0 where
  pub gives : x.gives ≡ y.gives
  pub taken : x.taken ≡ y.taken
  pub stops : x.stops ≡ y.stops
  pub state : R x.state y.state

-- Two that are chosen by tests agree, where the tests do.
pub agree_by : {X Y : Type 0} (P : X → Y → Type 0) (t t' : Bool) {x x' : X} {y y' : Y} → t ≡ t' → (t' ≡ true → P x y) → P x' y'
    → P (cond t x x') (cond t' y y')
agree_by P t true e h i = rw e (h refl)
agree_by P t false e h i = rw e i

pub agree_feed : {A B : Type 0} (R : A → B → Type 0) (f : A → ℕ → Step A) (g : B → ℕ → Step B)
    → ((a : A) (b : B) (x : ℕ) → R a b → StepsAgree R (f a x) (g b x))
    → (a : A) (b : B) (s : List ℕ) → R a b → FeedsAgree R (feed f a s) (feed g b s)
agree_feed R f g agree a b [] r = record { gives = refl; taken = refl; stops = refl; state = r }
agree_feed R f g agree a b (x ∷ s) r =
    go (goes_on (f a x).stops) refl (agree a b x r) (agree_feed R f g agree (f a x).next (g b x).next s (agree a b x r).next)
  where
    go : (t : Bool) → goes_on (f a x).stops ≡ t → StepsAgree R (f a x) (g b x)
        → FeedsAgree R (feed f (f a x).next s) (feed g (g b x).next s) → FeedsAgree R (feed f a (x ∷ s)) (feed g b (x ∷ s))
    go true e p i =
        let h : goes_on (g b x).stops ≡ true = sym (ap goes_on p.stops) ∙ e in
        rw (e, h)
        (record {
          gives = rw (p.gives, i.gives);
          taken = ap (λ (n : ℕ). 1 + n) i.taken;
          stops = i.stops;
          state = i.state;
        })
    go false e p i =
        let h : goes_on (g b x).stops ≡ false = sym (ap goes_on p.stops) ∙ e in
        rw (e, h) (record { gives = refl; taken = refl; stops = p.stops; state = r })

-- Related states with the same room.
pub record InRoom {A B : Type 0} (R : A → B → Type 0) (p : Roomed A) (q : Roomed B) : Type 0 where
  pub inner : R p.inner q.inner
  pub left : p.left ≡ q.left

pub agree_roomed : {A B : Type 0} (R : A → B → Type 0) (f : A → ℕ → Step A) (g : B → ℕ → Step B)
    → ((a : A) (b : B) (x : ℕ) → R a b → StepsAgree R (f a x) (g b x))
    → (p : Roomed A) (q : Roomed B) (x : ℕ) → InRoom R p q → StepsAgree (InRoom R) (roomed f p x) (roomed g q x)
agree_roomed R f g agree p q x h = go (goes_on (g q.inner x).stops && ltb q.left (length (g q.inner x).gives)) refl
  where
    a : StepsAgree R (f p.inner x) (g q.inner x)
    a = agree p.inner q.inner x h.inner

    test : goes_on (f p.inner x).stops && ltb p.left (length (f p.inner x).gives)
        ≡ goes_on (g q.inner x).stops && ltb q.left (length (g q.inner x).gives)
    test = rw (a.stops, a.gives, h.left)

    go : (t : Bool) → goes_on (g q.inner x).stops && ltb q.left (length (g q.inner x).gives) ≡ t
        → StepsAgree (InRoom R) (roomed f p x) (roomed g q x)
    go true e = rw (test, e) (record { gives = refl; stops = refl; next = h })
    go false e =
        rw (test, e)
        (record { gives = a.gives; stops = a.stops; next = record { inner = a.next; left = rw (h.left, a.gives) } })
