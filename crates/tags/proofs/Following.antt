-- Events that are only followed come to what writing them comes to, with what room their tags leave. Assumes nothing.
use Rattle.std.proofs.Common.{Option, Some, None}
use mathlib.Core.Path.{◌≡◌, refl, ap, ◌∙◌}
use mathlib.Core.List.{List, [], ◌∷◌, ◌++◌}
use Prim.Native.Nat.{ℕ, ◌+◌}
use native.Mathlib.Omega.{arith}
use native.Mathlib.Nat.{add-zero}
use lib.ListN.{length, length-append}
use Rattle.grammar.specs.Feeding.{Fed, Roomed, after, feed}
use Rattle.tags.specs.declared.writer.Scribe.{Scribe}
use Rattle.tags.specs.declared.writer.Follower.{Follower}
use Rattle.tags.specs.declared.writer.Spelled.{Spelled}
use Rattle.tags.specs.Feeding.{feed_in, fed_of}
use Rattle.tags.specs.Writers.{spell_step, scribe_step, follower_step, gives_by, left_of, follow_in, follow_of}
use Rattle.tags.proofs.Spaces.{left_all, left_less}

module _ (names : List ℕ) (room : ℕ) where
  -- A scribe after tags of n bytes.
  abbrev follower : Scribe → ℕ → Follower
  follower s n = record { scribe = s; left = left_of room n }

  -- What events come to that follow such tags.
  abbrev come : ℕ → Fed Scribe → Fed (Roomed Follower)
  come n f = record { gives = []; taken = f.taken; state = record { inner = follower f.state (n + length f.gives); left = 0 }; stops = f.stops }

  come_after : (n : ℕ) (u : List ℕ) (f : Fed Scribe) → after [] 1 (come (n + length u) f) ≡ come n (after u 1 f)
  come_after n u f =
      let e : n + length u + length f.gives ≡ n + length (u ++ f.gives) = rw length-append (omega arith) in
      rw e

  followed : (es : List ℕ) (s : Scribe) (n : ℕ) → feed_in (follower_step names) (follower s n) 0 es ≡ come n (feed (scribe_step names) s es)
  followed [] s n = rw (add-zero n)
  followed (b ∷ es) s n = go (spell_step names s b) refl (followed es)
    where
      go : (x : Option Spelled) → spell_step names s b ≡ x
          → ((s : Scribe) (n : ℕ) → feed_in (follower_step names) (follower s n) 0 es ≡ come n (feed (scribe_step names) s es))
          → feed_in (follower_step names) (follower s n) 0 (b ∷ es) ≡ come n (feed (scribe_step names) s (b ∷ es))
      go None e ih = rw (e, add-zero n)
      go (Some x) e ih =
          rw (e, left_less room n (length (gives_by x.tag)), ih x.next (n + length (gives_by x.tag)))
          (come_after n (gives_by x.tag) (feed (scribe_step names) x.next es))

  pub follow_is : (s : Scribe) (es : List ℕ)
      → fed_of (feed_in (follower_step names) (record { scribe = s; left = Some room }) 0 es) ≡ follow_of room (follow_in names s es)
  follow_is s es =
      let z : 0 + length (follow_in names s es).gives ≡ length (follow_in names s es).gives = omega arith in
      ap (λ (l : Option ℕ). fed_of (feed_in (follower_step names) (record { scribe = s; left = l }) 0 es)) (left_all room)
      ∙ ap fed_of (followed es s 0) ∙ rw z
