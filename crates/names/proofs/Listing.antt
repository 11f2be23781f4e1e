-- The loop of `good` as a recursion over the rest of the list, and that it says whether the list is good. Assumes nothing.
use Rattle.grammar.proofs.Names.{same_itself}
use Rattle.std.proofs.Common.{Some, None}
use mathlib.Core.Path.{◌≡◌, refl, sym, ap, ◌∙◌, subst}
use mathlib.Core.Bool.{Bool, true, false, not, cond, ◌&&◌, and-false, and-true, and_assoc, and_comm}
use mathlib.Core.List.{List, [], ◌∷◌, ◌++◌, append_assoc, append-nil}
use Prim.Native.Nat.{ℕ, zero, suc, ◌+◌, ◌<◌, ◌≤◌}
use native.Mathlib.Numerals.{add-one}
use native.Mathlib.Omega.{arith}
use borrow.Author.Tests.{eqb-true, ltb-true, ltb-false, lt-ltb, le-ltb}
use lib.Dec.{eqb, ltb, eqb-suc-zero, eqb-zero-suc, eqb-suc-suc, leb-suc-suc, leb-suc-zero}
use lib.ListN.{length, take, length-append}
use lib.Seq.{take_all}
use Rattle.grammar.specs.Bytes.{is_letter, is_name_byte}
use Rattle.grammar.specs.Names.{same, name_bytes, is_name, lines_from, lines_of, on_lines, place_of, named, found, good_names}
use Rattle.meaning.proofs.Tests.{both_true}
use Rattle.names.specs.declared.Word.{Word}
use Rattle.names.specs.Words.{no_word, with_byte, known, labelled, goes_on_by, is_label, stands_at}
use Rattle.names.proofs.Spelling.{Spells, length_more, spells_none, spells_more}
use Rattle.names.proofs.Finding.{same_after}
use Rattle.names.proofs.Seeking.{label_of_short}

-- The rest s of the list is good, where w stands before it on line l.
abbrev pub good_from : List ℕ → List ℕ → Word → ℕ → Bool
good_from names [] w l = eqb w.length 0 && ltb 0 l
good_from names (b ∷ s) w l =
    cond (eqb b 10)
    (stands_at names w l && good_from names s no_word (l + 1))
    (goes_on_by w b && good_from names s (with_byte w b) l)

-- A name of at most 16 bytes, and a beginning of one.
abbrev fits : List ℕ → Bool
fits x = is_name x && ltb (length x) 17

abbrev begun : List ℕ → Bool
begun [] = true
begun (b ∷ x) = fits (b ∷ x)

begun_short : (x : List ℕ) → begun x ≡ true → length x ≤ 16
begun_short [] e = omega arith
begun_short (b ∷ x) e = omega (arith, ltb-true (length (b ∷ x)) 17 (both_true (is_name (b ∷ x)) (ltb (length (b ∷ x)) 17) e).1)

-- What is begun is a name where it is not empty.
begun_fits : (x : List ℕ) → begun x ≡ true → not (eqb (length x) 0) ≡ fits x
begun_fits [] e = refl
begun_fits (b ∷ x) e = rw (eqb-suc-zero (length x)) (sym e)

name_bytes_more : (x : List ℕ) (b : ℕ) → name_bytes (x ++ (b ∷ [])) ≡ name_bytes x && is_name_byte b
name_bytes_more [] b = and-true (is_name_byte b)
name_bytes_more (a ∷ x) b = rw (name_bytes_more x b, and_assoc (is_name_byte a))

-- It can go on with b where it is then begun.
goes_on : {w : Word} (x : List ℕ) → Spells w x → begun x ≡ true → (b : ℕ) → goes_on_by w b ≡ fits (x ++ (b ∷ []))
goes_on {w} [] h e b = rw (h.length_is (omega arith), and-true (is_letter b), and-true (is_letter b))
goes_on {w} (a ∷ x) h e b =
    let name = (both_true (is_letter a && name_bytes x) (ltb (suc (length x)) 17) e).0 in
    let letter = (both_true (is_letter a) (name_bytes x) name).0 in
    let bytes = (both_true (is_letter a) (name_bytes x) name).1 in
    rw (h.length_is (begun_short (a ∷ x) e), eqb-suc-zero (length x), name_bytes_more x b, letter, bytes, length_more x b, add-one (length x), leb-suc-suc (suc (suc (length x))) 16)
    (and_comm (ltb (suc (length x)) 16) (is_name_byte b))

-- Whatever stands after it, what does not begin a name does not.
never_fits : (a : ℕ) (x : List ℕ) (b : ℕ) → fits (a ∷ x) ≡ false → fits ((a ∷ x) ++ (b ∷ [])) ≡ false
never_fits a x b e = go (fits (a ∷ (x ++ (b ∷ [])))) refl
  where
    go : (t : Bool) → fits (a ∷ (x ++ (b ∷ []))) ≡ t → t ≡ false
    go false q = refl
    go true q =
        let h = both_true (is_letter a && name_bytes (x ++ (b ∷ []))) (ltb (suc (length (x ++ (b ∷ [])))) 17) q in
        let name = both_true (is_letter a) (name_bytes (x ++ (b ∷ []))) h.0 in
        let bytes = both_true (name_bytes x) (is_name_byte b) (sym (name_bytes_more x b) ∙ name.1) in
        let short : suc (length x) < 17 = omega (arith, ltb-true (suc (length (x ++ (b ∷ [])))) 17 h.1, length_more x b) in
        rw (name.0, bytes.0, lt-ltb (suc (length x)) 17 short) at e

-- The lines from a line that is no name on: they are not all names, or not all of the list.
unfit : (s : List ℕ) (a : ℕ) (x : List ℕ) → fits (a ∷ x) ≡ false → same ((a ∷ x) ++ s) (on_lines (lines_from (a ∷ x) s)) && named (lines_from (a ∷ x) s) ≡ false
unfit [] a x e = refl
unfit (b ∷ s) a x e = go (eqb b 10) refl (unfit s a (x ++ (b ∷ [])) (never_fits a x b e))
  where
    go : (t : Bool) → eqb b 10 ≡ t
        → same ((a ∷ (x ++ (b ∷ []))) ++ s) (on_lines (lines_from (a ∷ (x ++ (b ∷ []))) s)) && named (lines_from (a ∷ (x ++ (b ∷ []))) s) ≡ false
        → same ((a ∷ x) ++ (b ∷ s)) (on_lines (lines_from (a ∷ x) (b ∷ s))) && named (lines_from (a ∷ x) (b ∷ s)) ≡ false
    go true q more = rw (q, e, and-false)
    go false q more = rw q (rw (append_assoc x (b ∷ []) s) at more)

unfit_more : (s x : List ℕ) (b : ℕ) → fits (x ++ (b ∷ [])) ≡ false
    → same ((x ++ (b ∷ [])) ++ s) (on_lines (lines_from (x ++ (b ∷ [])) s)) && named (lines_from (x ++ (b ∷ [])) s) ≡ false
unfit_more s [] b e = unfit s b [] e
unfit_more s (a ∷ x) b e = unfit s a (x ++ (b ∷ [])) e

-- The name on line l is found there first, among the first n lines, where l is one of them and no earlier line has the name.
found_first : (n : ℕ) (before : List (List ℕ)) (x : List ℕ) (after : List (List ℕ))
    → is_label (labelled (take n (before ++ (x ∷ after))) x) (length before) ≡ ltb (length before) n && eqb (place_of x (before ++ (x ∷ after))) (length before)
found_first zero before x after = rw (leb-suc-zero (length before))
found_first (suc n) [] x after = rw (same_itself x, lt-ltb 0 (suc (length (take n after))) (omega arith), lt-ltb 0 (suc n) (omega arith))
found_first (suc n) (y ∷ before) x after = go (same x y) refl (found_first n before x after)
  where
    one_on : (t : Bool) (p l : ℕ) → is_label (cond t (Some (suc p)) None) (suc l) ≡ is_label (cond t (Some p) None) l
    one_on true p l = eqb-suc-suc p l
    one_on false p l = refl

    ns : List (List ℕ)
    ns = before ++ (x ∷ after)

    go : (t : Bool) → same x y ≡ t → is_label (labelled (take n ns) x) (length before) ≡ ltb (length before) n && eqb (place_of x ns) (length before)
        → is_label (labelled (y ∷ take n ns) x) (suc (length before)) ≡ ltb (suc (length before)) (suc n) && eqb (place_of x (y ∷ ns)) (suc (length before))
    go true e ih = rw (e, lt-ltb 0 (suc (length (take n ns))) (omega arith), eqb-zero-suc (length before), and-false)
    go false e ih =
        rw (e, leb-suc-suc (suc (place_of x (take n ns))) (length (take n ns)), leb-suc-suc (suc (length before)) n, eqb-suc-suc (place_of x ns) (length before), ← ih)
        (one_on (ltb (place_of x (take n ns)) (length (take n ns))) (place_of x (take n ns)) (length before))

-- What is left to be said of the rest s, where x stands before it on line l, of n lines in all.
abbrev rest_good : List ℕ → ℕ → ℕ → List ℕ → List ℕ → Bool
rest_good names n l x s =
    same (x ++ s) (on_lines (lines_from x s)) && (ltb 0 n && (ltb n 33 && (named (lines_from x s) && found (lines_of names) l (lines_from x s))))

-- The loop has come to the rest s.
record Stage (names s : List ℕ) (w : Word) (x : List ℕ) (l n : ℕ) : Type 0 where
  before : List (List ℕ)
  spells : Spells w x
  beginning : begun x ≡ true
  lines_are : lines_of names ≡ before ++ lines_from x s
  lines : length before ≡ l
  few : l ≤ 32
  all : n ≡ l + length (lines_from x s)

-- A word stands where it is a name that is found at its own line, of the first 32.
stands_is : {names s : List ℕ} {w : Word} {x : List ℕ} {l n : ℕ} → Stage names (10 ∷ s) w x l n → stands_at names w l ≡ fits x && (ltb l 32 && eqb (place_of x (lines_of names)) l)
stands_is {names} {s} {w} {x} {l} h =
    let short : length x ≤ 16 = begun_short x h.beginning in
    let name : not (eqb w.length 0) ≡ fits x = ap (λ (n : ℕ). not (eqb n 0)) (h.spells.length_is short) ∙ begun_fits x h.beginning in
    let place : is_label (labelled (known names) x) l ≡ ltb l 32 && eqb (place_of x (lines_of names)) l =
    rw (h.lines_are, ← h.lines) (found_first 32 h.before x (lines_from [] s)) in
    rw (name, label_of_short names h.spells short, place)

empty_is : (x : List ℕ) → eqb (length x) 0 ≡ same x []
empty_is [] = refl
empty_is (b ∷ x) = eqb-suc-zero (length x)

-- A line that stands, and a good rest, over bare tests.
one_stands : (fit low first g whole some few names rest : Bool) → (low ≡ true → g ≡ whole && (some && (few && (names && rest)))) → (low ≡ false → few ≡ false)
    → fit && (low && first) && g ≡ whole && (some && (few && (fit && names && (first && rest))))
one_stands true true true g whole some few names rest h k = h refl
one_stands true true false g whole some few names rest h k = rw (and-false names, and-false few, and-false some, and-false whole)
one_stands true false first g whole some few names rest h k = rw (k refl, and-false some, and-false whole)
one_stands false low first g whole some few names rest h k = rw (and-false few, and-false some, and-false whole)

none_stands : (whole some few names rest : Bool) → whole && names ≡ false → false ≡ whole && (some && (few && (names && rest)))
none_stands true some few names rest e = rw (e, and-false few, and-false some)
none_stands false some few names rest e = refl

begun_of : (x : List ℕ) → fits x ≡ true → begun x ≡ true
begun_of [] e = refl
begun_of (b ∷ x) e = e

-- A line ends: it has to stand, and the rest has to be good.
line_ends : {names s : List ℕ} {w : Word} {x : List ℕ} {l n : ℕ} → Stage names (10 ∷ s) w x l n
    → (Stage names s no_word [] (suc l) n → good_from names s no_word (suc l) ≡ rest_good names n (suc l) [] s)
    → stands_at names w l && good_from names s no_word (l + 1) ≡ rest_good names n l x (10 ∷ s)
line_ends {names} {s} {w} {x} {l} {n} h next =
    rw (add-one l, stands_is h, append_assoc x (10 ∷ []) (on_lines rest), same_after x (10 ∷ s) (10 ∷ on_lines rest))
    (one_stands (fits x) (ltb l 32) (eqb (place_of x (lines_of names)) l) (good_from names s no_word (suc l))
    (same s (on_lines rest)) (ltb 0 n) (ltb n 33) (named rest) (found (lines_of names) (suc l) rest)
    (λ e. next record {
      before = h.before ++ (x ∷ []);
      spells = spells_none;
      beginning = refl;
      lines_are = h.lines_are ∙ sym (append_assoc h.before (x ∷ []) rest);
      lines = omega (arith, length-append h.before (x ∷ []), h.lines);
      few = ltb-true l 32 e;
      all = omega (arith, h.all);
    })
    (λ e. le-ltb n 33 (omega (arith, ltb-false l 32 e, h.all))))
  where
    rest : List (List ℕ)
    rest = lines_from [] s

-- A line goes on: it has to begin a name still, and the rest has to be good.
line_goes_on : {names s : List ℕ} {b : ℕ} {w : Word} {x : List ℕ} {l n : ℕ} → eqb b 10 ≡ false → Stage names (b ∷ s) w x l n
    → (Stage names s (with_byte w b) (x ++ (b ∷ [])) l n → good_from names s (with_byte w b) l ≡ rest_good names n l (x ++ (b ∷ [])) s)
    → good_from names (b ∷ s) w l ≡ rest_good names n l x (b ∷ s)
line_goes_on {names} {s} {b} {w} {x} {l} {n} q h next =
    rw (q, ← append_assoc x (b ∷ []) s)
    (ap (λ (t : Bool). t && good_from names s (with_byte w b) l) (goes_on x h.spells h.beginning b) ∙ go (fits more) refl)
  where
    more : List ℕ
    more = x ++ (b ∷ [])

    lines_more : lines_from x (b ∷ s) ≡ lines_from more s
    lines_more = rw q

    go : (t : Bool) → fits more ≡ t → t && good_from names s (with_byte w b) l ≡ rest_good names n l more s
    go true e =
        next record {
          before = h.before;
          spells = spells_more h.spells b;
          beginning = begun_of more e;
          lines_are = h.lines_are ∙ ap (λ (ns : List (List ℕ)). h.before ++ ns) lines_more;
          lines = h.lines;
          few = h.few;
          all = h.all ∙ ap (λ (ns : List (List ℕ)). l + length ns) lines_more;
        }
    go false e =
        none_stands (same (more ++ s) (on_lines (lines_from more s))) (ltb 0 n) (ltb n 33) (named (lines_from more s)) (found (lines_of names) l (lines_from more s))
        (unfit_more s x b e)

good_from_lem : (names s : List ℕ) {w : Word} {x : List ℕ} {l n : ℕ} → Stage names s w x l n → good_from names s w l ≡ rest_good names n l x s
good_from_lem names [] {w} {x} {l} {n} h =
    let short : length x ≤ 16 = begun_short x h.beginning in
    let none_left : n ≡ l = omega (arith, h.all) in
    rw (none_left, lt-ltb l 33 (omega (arith, h.few)), append-nil x, and-true (ltb 0 l), h.spells.length_is short, empty_is x)
good_from_lem names (b ∷ s) {w} {x} {l} {n} h = go (eqb b 10) refl (good_from_lem names s) (good_from_lem names s)
  where
    go : (t : Bool) → eqb b 10 ≡ t
        → (Stage names s no_word [] (suc l) n → good_from names s no_word (suc l) ≡ rest_good names n (suc l) [] s)
        → (Stage names s (with_byte w b) (x ++ (b ∷ [])) l n → good_from names s (with_byte w b) l ≡ rest_good names n l (x ++ (b ∷ [])) s)
        → good_from names (b ∷ s) w l ≡ rest_good names n l x (b ∷ s)
    go true q next more = at_ten (eqb-true b 10 q)
      where
        at_ten : b ≡ 10 → good_from names (b ∷ s) w l ≡ rest_good names n l x (b ∷ s)
        at_ten e = rw e (line_ends (subst (λ (c : ℕ). Stage names (c ∷ s) w x l n) e h) next)
    go false q next more = line_goes_on q h more

pub good_is : (names : List ℕ) → good_from names names no_word 0 ≡ good_names names
good_is names =
    let all_of : length (lines_of names) ≡ 0 + length (lines_of names) = omega arith in
    good_from_lem names names
    record { before = []; spells = spells_none; beginning = refl; lines_are = refl; lines = refl; few = omega arith; all = all_of }

-- Of a good list every line is known, and is a name of at most 16 bytes.
pub good_known : (names : List ℕ) → good_names names ≡ true → (known names ≡ lines_of names) × (named (lines_of names) ≡ true)
good_known names e =
    let ns : List (List ℕ) = lines_of names in
    let some = (both_true (same names (on_lines ns)) _ e).1 in
    let few = (both_true (ltb 0 (length ns)) _ some).1 in
    let names-found = both_true (ltb (length ns) 33) (named ns && found ns 0 ns) few in
    (take_all 32 ns (omega (arith, ltb-true (length ns) 33 names-found.0)), (both_true (named ns) (found ns 0 ns) names-found.1).0)
