-- A body is searched by what its bytes are in the file. Assumes nothing.
use mathlib.Core.Bool.{true, false}
use mathlib.Core.List.{List}
use mathlib.Core.Path.{◌≡◌, sym, ap, ◌∙◌}
use Prim.Native.Nat.{ℕ, suc, ◌+◌, ◌<◌, ◌≤◌}
use native.Mathlib.Decide.{dec_le}
use native.Mathlib.Omega.{arith}
use borrow.Author.Tests.{leb-true, leb-false, lt-ltb, le-ltb}
use lib.Dec.{leb}
use lib.ListN.{get_or, length, take, drop}
use Rattle.std.proofs.Common.{position}
use Rattle.std.specs.List.{position_or_len, slice_range}
use Rattle.std.proofs.lemmas.List.{length-take-le, length-drop, get_or-take, get_or-drop}
use Rattle.std.proofs.Math.Seq.{take-length}
use Rattle.std.proofs.lemmas.List.Sums.{fails_before_first, passes_at_first}
use Rattle.bodies.specs.Sound.{states_in, labels_in}
use Rattle.meaning.specs.Table.{body_at, body_length, in_body}
use Rattle.table.specs.File.{body_limit, byte_right, byte_found}
use Rattle.table.proofs.Found.{stops, ends}

module _ (f : List ℕ) (i : ℕ) where
  -- The first of a body's bytes that is not below the body's limit is the first wrong one.
  first_is_wrong :
      (bytes : List ℕ) → length bytes ≡ body_length (states_in f) (labels_in f) i →
      ((j : ℕ) → j < length bytes → get_or bytes j 0 ≡ in_body f i j) →
      position (λ b. leb (body_limit (states_in f) i) b) bytes ≡ byte_found f i
  first_is_wrong bytes size same = go (dec_le (suc place) (length bytes))
    where
      place : ℕ
      place = position_or_len (λ b. leb (body_limit (states_in f) i) b) bytes

      passed : (j : ℕ) → j < place → j < length bytes → byte_right f i j ≡ true
      passed j l m =
          lt-ltb _ _ (rw (same j m) at (leb-false _ _ (fails_before_first (λ b. leb (body_limit (states_in f) i) b) bytes j 0 l)))

      go : Dec (place < length bytes) → position (λ b. leb (body_limit (states_in f) i) b) bytes ≡ byte_found f i
      go (yes l) =
          let wrong : byte_right f i place ≡ false =
          le-ltb _ _ (rw (same place l) at (leb-true _ _ (passes_at_first (λ b. leb (body_limit (states_in f) i) b) bytes 0 l))) in
          rw (lt-ltb _ _ l)
          (stops (body_length (states_in f) (labels_in f) i) (byte_right f i) (λ j. j) place (omega arith) (λ j m. passed j m (omega arith)) wrong)
      go (no l) =
          rw (le-ltb place (length bytes) (omega arith))
          (ends (body_length (states_in f) (labels_in f) i) (byte_right f i) (λ j. j) (length bytes) (omega arith)
          (λ j m. passed j (omega arith) m))

  pub body_searched :
      (at count limit : ℕ) → at ≡ body_at (states_in f) (labels_in f) i → count ≡ body_length (states_in f) (labels_in f) i →
      limit ≡ body_limit (states_in f) i → at + count ≤ length f →
      position (λ b. leb limit b) (take count (slice_range f at (length f))) ≡ byte_found f i
  body_searched at count limit begins size is inside =
      let to_end : slice_range f at (length f) ≡ drop at f = rw (sym (length-drop at f)) (take-length (drop at f)) in
      let long : length (take count (drop at f)) ≡ count = length-take-le count (drop at f) (omega (arith, length-drop at f)) in
      rw (is, to_end)
      (first_is_wrong (take count (drop at f)) (long ∙ size)
      (λ j l. get_or-take count (drop at f) j 0 (omega (arith, long)) ∙ get_or-drop at f j 0 ∙ ap (λ (a : ℕ). get_or f (a + j) 0) begins))
