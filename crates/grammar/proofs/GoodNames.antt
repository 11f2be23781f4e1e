-- The test of the list of names says what it is to say: 1 to 32 different names of 1 to 16 bytes, each followed by one
-- byte 10, and nothing else. Assumes nothing.
use mathlib.Core.Path.{◌≡◌, refl, sym, ap, ◌∙◌}
use mathlib.Core.Bool.{Bool, true, false, cond, ◌&&◌}
use mathlib.Core.List.{List, [], ◌∷◌}
use mathlib.Core.Logic.{◌↔◌}
use Prim.Native.Nat.{ℕ, zero, suc, ◌+◌, ◌<◌, ◌≤◌}
use native.Mathlib.Omega.{arith}
use lib.Dec.{ltb}
use lib.ListN.{length}
use borrow.Author.Tests.{lt-ltb, eq-eqb}
use Rattle.meaning.proofs.Tests.{both_true}
use Rattle.grammar.specs.Names.{same, is_name, lines_of, on_lines, place_of, name_at, named, found, good_names}
use Rattle.grammar.proofs.Names.{same_equal, same_itself, name_placed, good_list, good_lines}

-- What a good list is, by itself.
pub record GoodLines (names : List ℕ) : Type 0 where
  pub list : List (List ℕ)
  pub lines : names ≡ on_lines list
  pub some : 0 < length list
  pub few : length list ≤ 32
  pub name : (a : ℕ) → a < length list → is_name (name_at list a) ≡ true
  pub short : (a : ℕ) → a < length list → length (name_at list a) ≤ 16
  pub different : (a b : ℕ) → a < length list → b < length list → name_at list a ≡ name_at list b → a ≡ b

-- A name is found at its place or before.
found_before : (ns : List (List ℕ)) (a : ℕ) → a < length ns → place_of (name_at ns a) ns ≤ a
found_before [] a h = absurd (omega arith)
found_before (y ∷ ns) zero h = rw (same_itself y) (omega arith)
found_before (y ∷ ns) (suc a) h = go (same (name_at ns a) y) (found_before ns a (omega arith))
  where
    go : (x : Bool) → place_of (name_at ns a) ns ≤ a → cond x 0 (suc (place_of (name_at ns a) ns)) ≤ suc a
    go true ih = omega arith
    go false ih = omega arith

-- Where all are different, it is found at its own.
found_there : (ns : List (List ℕ))
    → ((a b : ℕ) → a < length ns → b < length ns → name_at ns a ≡ name_at ns b → a ≡ b)
    → (a : ℕ) → a < length ns → place_of (name_at ns a) ns ≡ a
found_there ns differ a h =
    let l : place_of (name_at ns a) ns < length ns = omega (arith, found_before ns a h) in
    differ (place_of (name_at ns a) ns) a l h (name_placed (name_at ns a) ns l)

found_all : (ns : List (List ℕ)) (i : ℕ) (ms : List (List ℕ)) → ((a : ℕ) → a < length ms → place_of (name_at ms a) ns ≡ i + a)
    → found ns i ms ≡ true
found_all ns i [] h = refl
found_all ns i (x ∷ ms) h =
    rw (eq-eqb (place_of x ns) i (omega (arith, h 0 (omega arith))))
    (found_all ns (suc i) ms (λ a l. omega (arith, h (suc a) (omega arith))))

named_all : (ns : List (List ℕ)) → ((a : ℕ) → a < length ns → is_name (name_at ns a) ≡ true)
    → ((a : ℕ) → a < length ns → length (name_at ns a) ≤ 16) → named ns ≡ true
named_all [] h g = refl
named_all (x ∷ ns) h g =
    rw (h 0 (omega arith), lt-ltb (length x) 17 (omega (arith, g 0 (omega arith))))
    (named_all ns (λ a l. h (suc a) (omega arith)) (λ a l. g (suc a) (omega arith)))

pub good_exactly : (names : List ℕ) → (good_names names ≡ true) ↔ GoodLines names
good_exactly names = (there, back)
  where
    there : good_names names ≡ true → GoodLines names
    there e =
        let ns = lines_of names in
        let g = good_list names e in
        record {
          list = ns;
          lines = same_equal names (on_lines ns) (both_true (same names (on_lines ns)) (ltb 0 (length ns) && (ltb (length ns) 33 && (named ns && found ns 0 ns))) e).0;
          some = g.some;
          few = omega (arith, g.few);
          name = g.names;
          short = g.short;
          different = λ a b h l q. sym (g.placed a h) ∙ (ap (λ (x : List ℕ). place_of x ns) q ∙ g.placed b l);
        }

    back : GoodLines names → good_names names ≡ true
    back g =
        let ns = g.list in
        rw g.lines
        (good_lines ns g.some (omega (arith, g.few)) (named_all ns g.name g.short)
        (found_all ns 0 ns (λ a h. omega (arith, found_there ns g.different a h))))
