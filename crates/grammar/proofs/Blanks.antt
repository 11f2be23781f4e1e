-- Blanks between tags change nothing that is read. Assumes nothing.
use Rattle.std.proofs.Math.Nat.{sub-zero}
use Rattle.std.proofs.Common.{Option, Some, None}
use mathlib.Core.Path.{◌≡◌, refl, sym}
use mathlib.Core.Bool.{true, cond}
use mathlib.Core.List.{List, [], ◌∷◌, ◌++◌}
use Prim.Native.Nat.{ℕ, ◌+◌}
use native.Mathlib.Omega.{arith}
use lib.ListN.{length}
use borrow.Author.Tests.{le-ltb}
use Rattle.grammar.specs.declared.Fault.{Fault}
use Rattle.grammar.specs.Bytes.{is_blank}
use Rattle.grammar.specs.Names.{lines_of}
use Rattle.grammar.specs.Tags.{Tag, Holds, Text, Begun}
use Rattle.grammar.specs.Feeding.{goes_on, stepped, after, feed, Roomed, roomed}
use Rattle.grammar.specs.Reading.{Place, fresh, read_step, read_fed, read_out}
use Rattle.grammar.proofs.Feeding.{went, feed_on, feed_pieces, feed_then, after_none}
use Rattle.grammar.proofs.ReadingTags.{placed}
use Rattle.grammar.proofs.Lexing.{tags_unique, nothing_begun}
use Rattle.grammar.proofs.Refusing.{read_good, good_read}

-- Texts that hold the same tags give the same stream.
pub same_tags : {ns : List (List ℕ)} {s s' w : List ℕ} {ts : List Tag} → Holds s ts → Holds s' ts → Text ns s w → Text ns s' w
same_tags h h' t =
    record { tags = t.tags; events = t.events; holds = rw (tags_unique t.holds h) h'; nested = t.nested; ends = t.ends }

module _ (ns : List (List ℕ)) (room : ℕ) (b : ℕ) (blank : is_blank b ≡ true) where
  blank_step : (o : List ℕ) (l : ℕ) → roomed (read_step ns) (record { inner = placed Begun.nothing o; left = l }) b
      ≡ stepped (record { inner = placed Begun.nothing o; left = l }) []
  blank_step o l = rw (blank, le-ltb l 0 (omega arith), sub-zero l)

  blank_after : (u v : List ℕ) {es o : List ℕ} {n l : ℕ} → read_fed ns room u ≡ went es n (record { inner = placed Begun.nothing o; left = l })
      → read_fed ns room (u ++ (b ∷ v)) ≡ after [] 1 (read_fed ns room (u ++ v))
  blank_after u v {es} {o} {n} {l} on =
      let step = roomed (read_step ns) in
      let start : Roomed Place = record { inner = fresh; left = room } in
      let here : Roomed Place = record { inner = placed Begun.nothing o; left = l } in
      rw (
        feed_then step start here es n u (b ∷ v) on,
        feed_then step start here es n u v on,
        feed_on step here here [] b v (blank_step o l),
        later n (feed step here v).taken,
      )
    where
      later : (i j : ℕ) → i + (1 + j) ≡ 1 + (i + j)
      later i j = omega arith

  -- A blank among whole tags is one byte more where the bytes before it are taken; in all else it might as well not stand there.
  pub blanks_change_nothing : {u : List ℕ} {ts : List Tag} (v : List ℕ) → Holds u ts
      → read_fed ns room (u ++ (b ∷ v)) ≡ after [] (cond (goes_on (read_fed ns room u).stops) 1 0) (read_fed ns room (u ++ v))
  blanks_change_nothing {u} v h = go (read_fed ns room u).stops refl
    where
      go : (x : Option Fault) → (read_fed ns room u).stops ≡ x
          → read_fed ns room (u ++ (b ∷ v)) ≡ after [] (cond (goes_on (read_fed ns room u).stops) 1 0) (read_fed ns room (u ++ v))
      go None e =
          let g = read_good {ns = ns} room u e in
          let none : (read_fed ns room u).state.inner.begun ≡ Begun.nothing = nothing_begun h g.holds g.parts g.begun in
          rw e (blank_after u v (good_read (rw none at g)))
      go (Some k) e =
          rw (
            e,
            feed_pieces (roomed (read_step ns)) (record { inner = fresh; left = room }) u (b ∷ v),
            feed_pieces (roomed (read_step ns)) (record { inner = fresh; left = room }) u v,
            e,
          )
          (sym (after_none (read_fed ns room u)))

-- The output is the same.
pub blanks_write_the_same : (names out : List ℕ) (b : ℕ) → is_blank b ≡ true → {u : List ℕ} {ts : List Tag} (v : List ℕ) → Holds u ts
    → read_out names (u ++ (b ∷ v)) out ≡ read_out names (u ++ v) out
blanks_write_the_same names out b e v h = rw (blanks_change_nothing (lines_of names) (length out) b e v h)
