-- Laws of names in a list: two that are the same, the place of one, its label. Assumes nothing.
use Rattle.grammar.proofs.Names.{same_equal}
use Rattle.std.proofs.Common.{Option, Some, None}
use mathlib.Core.Path.{◌≡◌, refl, sym, ap}
use mathlib.Core.Bool.{Bool, true, false, cond, ◌&&◌, and_assoc, and-true}
use mathlib.Core.List.{List, [], ◌∷◌, ◌++◌}
use Prim.Native.Nat.{ℕ, suc, ◌+◌, ◌<◌}
use native.Mathlib.Omega.{arith}
use borrow.Author.Tests.{ltb-true, eqb-true, eqb-false, eq-eqb, ne_eqb, lt-ltb, le-ltb}
use lib.Dec.{eqb, ltb, leb-suc-suc, eqb-zero-suc, eqb-suc-suc}
use lib.ListN.{length, get_or}
use Rattle.grammar.specs.Names.{same, place_of, named, is_name}
use Rattle.meaning.proofs.Tests.{both_true}
use Rattle.names.specs.Words.{labelled}

pub eqb_turned : (a b : ℕ) → eqb a b ≡ eqb b a
eqb_turned a b = go (eqb b a) refl
  where
    go : (t : Bool) → eqb b a ≡ t → eqb a b ≡ t
    go true e = eq-eqb a b (sym (eqb-true b a e))
    go false e = ne_eqb a b (λ q. eqb-false b a e (sym q))

-- What follows the same bytes is the same or not.
pub same_after : (x s t : List ℕ) → same (x ++ s) (x ++ t) ≡ same s t
same_after [] s t = refl
same_after (b ∷ x) s t = rw (eq-eqb b b refl, same_after x s t)

-- y is a beginning of x.
abbrev pub begins : List ℕ → List ℕ → Bool
begins [] x = true
begins (b ∷ y) [] = false
begins (b ∷ y) (c ∷ x) = eqb b c && begins y x

pub begins_more : (y x : List ℕ) (b : ℕ) → begins (y ++ (b ∷ [])) x ≡ begins y x && (ltb (length y) (length x) && eqb (get_or x (length y) 0) b)
begins_more [] [] b = refl
begins_more [] (c ∷ x) b = rw (and-true, lt-ltb 0 (suc (length x)) (omega arith)) (eqb_turned b c)
begins_more (a ∷ y) [] b = refl
begins_more (a ∷ y) (c ∷ x) b = rw (begins_more y x b, leb-suc-suc (suc (length y)) (length x), and_assoc (eqb a c))

-- A beginning that is as long is the whole.
pub begins_whole : (y x : List ℕ) → begins y x && eqb (length y) (length x) ≡ same x y
begins_whole [] [] = refl
begins_whole [] (c ∷ x) = eqb-zero-suc (length x)
begins_whole (b ∷ y) [] = refl
begins_whole (b ∷ y) (c ∷ x) = rw (eqb-suc-suc (length y) (length x), and_assoc (eqb b c), begins_whole y x, eqb_turned b c)

-- The label of x by its place, where the first name of ns has label l.
abbrev pub label_from : List (List ℕ) → List ℕ → ℕ → Option ℕ
label_from [] x l = None
label_from (y ∷ ns) x l = cond (same x y) (Some l) (label_from ns x (l + 1))

label_from_place : (ns : List (List ℕ)) (x : List ℕ) (l : ℕ) → label_from ns x l ≡ cond (ltb (place_of x ns) (length ns)) (Some (l + place_of x ns)) None
label_from_place [] x l = refl
label_from_place (y ∷ ns) x l = go (same x y) refl (label_from_place ns x (l + 1))
  where
    go : (t : Bool) → same x y ≡ t → label_from ns x (l + 1) ≡ cond (ltb (place_of x ns) (length ns)) (Some (l + 1 + place_of x ns)) None
        → label_from (y ∷ ns) x l ≡ cond (ltb (place_of x (y ∷ ns)) (length (y ∷ ns))) (Some (l + place_of x (y ∷ ns))) None
    go true e ih = rw (e, lt-ltb 0 (suc (length ns)) (omega arith), zeroth)
      where
        zeroth : l + 0 ≡ l
        zeroth = omega arith
    go false e ih = rw (e, ih, leb-suc-suc (suc (place_of x ns)) (length ns), later)
      where
        later : l + suc (place_of x ns) ≡ l + 1 + place_of x ns
        later = omega arith

pub label_is_place : (ns : List (List ℕ)) (x : List ℕ) → label_from ns x 0 ≡ labelled ns x
label_is_place ns x = rw (label_from_place ns x 0, none_before)
  where
    none_before : 0 + place_of x ns ≡ place_of x ns
    none_before = omega arith

-- A name of more than 16 bytes is none of a list whose names have at most 16.
pub no_label : (ns : List (List ℕ)) (x : List ℕ) → named ns ≡ true → 16 < length x → labelled ns x ≡ None
no_label ns x e long = rw (no_place ns e, le-ltb (length ns) (length ns) (omega arith))
  where
    differ : (y : List ℕ) (t : Bool) → same x y ≡ t → length y < 17 → same x y ≡ false
    differ y true q short = absurd (omega (arith, ap length (same_equal x y q)))
    differ y false q short = q

    no_place : (ns : List (List ℕ)) → named ns ≡ true → place_of x ns ≡ length ns
    no_place [] e = refl
    no_place (y ∷ ns) e =
        let h = both_true (is_name y && ltb (length y) 17) (named ns) e in
        let short : length y < 17 = ltb-true (length y) 17 (both_true (is_name y) (ltb (length y) 17) h.0).1 in
        rw (differ y (same x y) refl short, no_place ns h.1)
