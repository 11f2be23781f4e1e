-- Laws of the list of names: what a good one is, that places and names belong together, and that every list of names that
-- is allowed stands in good lines. Assumes nothing.
use mathlib.Core.Path.{◌≡◌, refl, sym}
use mathlib.Core.Bool.{Bool, true, false, cond, ◌&&◌}
use mathlib.Core.List.{List, [], ◌∷◌, ◌++◌, append_assoc, append-nil}
use Prim.Native.Nat.{ℕ, zero, suc, ◌+◌, ◌<◌, ◌≤◌}
use native.Mathlib.Omega.{arith}
use lib.Dec.{eqb, ltb}
use lib.ListN.{length}
use borrow.Author.Tests.{ltb-true, eqb-true, lt-ltb, eq-eqb, ne_eqb}
use Rattle.meaning.proofs.Tests.{both_true}
use Rattle.grammar.specs.Bytes.{is_letter, is_name_byte}
use Rattle.grammar.specs.Names.{same, name_bytes, is_name, lines_from, lines_of, on_lines, place_of, name_at, named, found, good_names}

pub same_equal : (x y : List ℕ) → same x y ≡ true → x ≡ y
same_equal [] [] e = refl
same_equal [] (c ∷ y) e = cc
same_equal (b ∷ x) [] e = cc
same_equal (b ∷ x) (c ∷ y) e =
    let p = both_true (eqb b c) (same x y) e in
    rw (eqb-true b c p.0, same_equal x y p.1)

pub same_itself : (x : List ℕ) → same x x ≡ true
same_itself [] = refl
same_itself (b ∷ x) = rw (eq-eqb b b refl) (same_itself x)

-- At the place of a name stands that name.
pub name_placed : (x : List ℕ) (ns : List (List ℕ)) → place_of x ns < length ns → name_at ns (place_of x ns) ≡ x
name_placed x [] h = absurd (omega arith)
name_placed x (y ∷ ns) h = go (same x y) refl h (name_placed x ns)
  where
    go : (t : Bool) → same x y ≡ t → cond t 0 (suc (place_of x ns)) < suc (length ns)
        → (place_of x ns < length ns → name_at ns (place_of x ns) ≡ x) → name_at (y ∷ ns) (place_of x (y ∷ ns)) ≡ x
    go true e l ih = rw e (sym (same_equal x y e))
    go false e l ih = rw e (ih (omega arith))

-- A good list, read off: 1 to 32 names of at most 16 bytes, and each is found at its own place.
pub record GoodList (ns : List (List ℕ)) : Type 0 where
  pub some : 0 < length ns
  pub few : length ns < 33
  pub names : (a : ℕ) → a < length ns → is_name (name_at ns a) ≡ true
  pub short : (a : ℕ) → a < length ns → length (name_at ns a) ≤ 16
  pub placed : (a : ℕ) → a < length ns → place_of (name_at ns a) ns ≡ a

-- Each name of the list, as `named` tests it.
named_at : (ns : List (List ℕ)) → named ns ≡ true → (a : ℕ) → a < length ns
    → (is_name (name_at ns a) ≡ true) × (length (name_at ns a) < 17)
named_at [] e a h = absurd (omega arith)
named_at (x ∷ ns) e zero h =
    let p = both_true (is_name x && ltb (length x) 17) (named ns) e in
    let q = both_true (is_name x) (ltb (length x) 17) p.0 in
    (q.0, ltb-true (length x) 17 q.1)
named_at (x ∷ ns) e (suc a) h =
    named_at ns (both_true (is_name x && ltb (length x) 17) (named ns) e).1 a (omega arith)

found_at : (ns : List (List ℕ)) (i : ℕ) (ms : List (List ℕ)) → found ns i ms ≡ true → (a : ℕ) → a < length ms
    → place_of (name_at ms a) ns ≡ i + a
found_at ns i [] e a h = absurd (omega arith)
found_at ns i (x ∷ ms) e zero h =
    omega (arith, eqb-true (place_of x ns) i (both_true (eqb (place_of x ns) i) (found ns (suc i) ms) e).0)
found_at ns i (x ∷ ms) e (suc a) h =
    omega (arith, found_at ns (suc i) ms (both_true (eqb (place_of x ns) i) (found ns (suc i) ms) e).1 a (omega arith))

pub good_list : (names : List ℕ) → good_names names ≡ true → GoodList (lines_of names)
good_list names e = go (lines_of names) e
  where
    go : (ns : List (List ℕ))
        → same names (on_lines ns) && (ltb 0 (length ns) && (ltb (length ns) 33 && (named ns && found ns 0 ns))) ≡ true
        → GoodList ns
    go ns g =
        let p = both_true (same names (on_lines ns)) (ltb 0 (length ns) && (ltb (length ns) 33 && (named ns && found ns 0 ns))) g in
        let q = both_true (ltb 0 (length ns)) (ltb (length ns) 33 && (named ns && found ns 0 ns)) p.1 in
        let r = both_true (ltb (length ns) 33) (named ns && found ns 0 ns) q.1 in
        let s = both_true (named ns) (found ns 0 ns) r.1 in
        record {
          some = ltb-true 0 (length ns) q.0;
          few = ltb-true (length ns) 33 r.0;
          names = λ a h. (named_at ns s.0 a h).0;
          short = λ a h. omega (arith, (named_at ns s.0 a h).1);
          placed = λ a h. omega (arith, found_at ns 0 ns s.1 a h);
        }

-- A byte of a name ends no line.
name_byte_in_line : (b : ℕ) → is_name_byte b ≡ true → eqb b 10 ≡ false
name_byte_in_line b e = ne_eqb b 10 (λ q. let z : false ≡ true = rw q at e in let y : ◌≡◌ {A = ℕ} 0 1 = cc in omega arith)

-- A line of name bytes is read as that line.
line_read : (x y s : List ℕ) → name_bytes y ≡ true → lines_from x (y ++ (10 ∷ s)) ≡ (x ++ y) ∷ lines_from [] s
line_read x [] s e = rw append-nil
line_read x (b ∷ y) s e =
    let p = both_true (is_name_byte b) (name_bytes y) e in
    rw (name_byte_in_line b p.0, line_read (x ++ (b ∷ [])) y s p.1, append_assoc x (b ∷ []) y)

name_bytes_lem : (x : List ℕ) → is_name x ≡ true → name_bytes x ≡ true
name_bytes_lem [] e = refl
name_bytes_lem (b ∷ x) e =
    let p = both_true (is_letter b) (name_bytes x) e in
    rw p.0 p.1

-- Names on lines of their own are read as those lines.
pub lines_back : (ns : List (List ℕ)) → named ns ≡ true → lines_of (on_lines ns) ≡ ns
lines_back [] e = refl
lines_back (x ∷ ns) e =
    let p = both_true (is_name x && ltb (length x) 17) (named ns) e in
    let q = both_true (is_name x) (ltb (length x) 17) p.0 in
    rw (append_assoc x (10 ∷ []) (on_lines ns), line_read [] x (on_lines ns) (name_bytes_lem x q.0), lines_back ns p.1)

-- Every list of 1 to 32 different names of at most 16 bytes is good, on lines of their own.
pub good_lines : (ns : List (List ℕ)) → 0 < length ns → length ns < 33 → named ns ≡ true → found ns 0 ns ≡ true
    → good_names (on_lines ns) ≡ true
good_lines ns some few e f =
    rw (lines_back ns e, same_itself (on_lines ns), lt-ltb 0 (length ns) some, lt-ltb (length ns) 33 few, e, f)
