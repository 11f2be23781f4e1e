-- What an event byte comes to, where there is room for so many bytes of tags, told of the answer of a step in place. Assumes
-- nothing.
use Rattle.std.proofs.Common.{Option, Some, None, Result, Ok, Err}
use mathlib.Core.Path.{◌≡◌, refl, sym}
use mathlib.Core.List.{List, []}
use Prim.Native.Nat.{ℕ, ◌<◌, ◌≤◌}
use native.Mathlib.Omega.{arith}
use borrow.Author.Tests.{lt-ltb, le-ltb}
use lib.ListN.{length}
use Rattle.grammar.specs.declared.Fault.{Fault}
use Rattle.grammar.specs.declared.Fault.TheVariants as fault
use Rattle.tags.specs.declared.writer.Scribe.{Scribe}
use Rattle.tags.specs.declared.writer.Tag.{Tag}
use Rattle.tags.specs.declared.writer.Spelled.{Spelled}
use Rattle.tags.specs.declared.writer.Follower.{Follower}
use Rattle.tags.specs.Feeding.{step_in, told_of, next_of, written_of}
use Rattle.tags.specs.Writers.{spell_step, tag_by, next_by, gives_by, less_by, scribe_step, follower_step}

err_no_ok : {t : Option Tag} {f : Fault} → ◌≡◌ {A = Result (Option Tag) Fault} (Err f) (Ok t) → ⊥
err_no_ok e = let z : ◌≡◌ {A = ℕ} 0 1 = cc in omega arith

-- The answer and the scribe after it are those of the step.
pub spelled_by : (s : Scribe) (x : Option Spelled) {t : Option Tag} → tag_by x ≡ Ok t → x ≡ Some (record { next = next_by s x; tag = t })
spelled_by s (Some x) {t} e = let q : x.tag ≡ t = cc in rw q
spelled_by s None e = absurd (err_no_ok e)

pub stopped_by : (x : Option Spelled) {f : Fault} → tag_by x ≡ Err f → (x ≡ None) × (f ≡ fault.Byte)
stopped_by (Some x) e = absurd (err_no_ok (sym e))
stopped_by None {f} e = let q : fault.Byte ≡ f = cc in (refl, sym q)

module _ (names : List ℕ) (s : Scribe) (room b : ℕ) where
  abbrev pub Comes : Result ℕ Fault → Scribe → List ℕ → Type 0
  Comes told next written =
      let x = step_in (scribe_step names) s room b in
      (told ≡ told_of x) × (next ≡ next_of s x) × (written_of x ≡ written)

  -- It is at fault, or gives bytes for which there is no room, or some.
  pub a_fault : {f : Fault} → tag_by (spell_step names s b) ≡ Err f → Comes (Err f) (next_by s (spell_step names s b)) []
  a_fault e =
      let w = stopped_by (spell_step names s b) e in
      rw (w.0, w.1) (refl, refl, refl)

  pub no_room : {t : Option Tag} → tag_by (spell_step names s b) ≡ Ok t → room < length (gives_by t) → Comes (Err fault.Short) s []
  no_room {t} e l = rw (spelled_by s (spell_step names s b) e, lt-ltb room (length (gives_by t)) l) (refl, refl, refl)

  pub a_tag :
      {t : Option Tag} → tag_by (spell_step names s b) ≡ Ok t → length (gives_by t) ≤ room →
      Comes (Ok (length (gives_by t))) (next_by s (spell_step names s b)) (gives_by t)
  a_tag {t} e l = rw (spelled_by s (spell_step names s b) e, le-ltb room (length (gives_by t)) l) (refl, refl, refl)

-- The same of a follower, which writes nothing.
module _ (names : List ℕ) (p : Follower) (room b : ℕ) where
  abbrev pub Follows : Result ℕ Fault → Follower → Type 0
  Follows told next =
      let x = step_in (follower_step names) p room b in
      (told ≡ told_of x) × (next ≡ next_of p x) × (written_of x ≡ [])

  pub a_stop : {f : Fault} → tag_by (spell_step names p.scribe b) ≡ Err f → Follows (Err f) (record { scribe = next_by p.scribe (spell_step names p.scribe b); left = p.left })
  a_stop e =
      let w = stopped_by (spell_step names p.scribe b) e in
      rw (w.0, w.1) (refl, refl, refl)

  pub follows :
      {t : Option Tag} → tag_by (spell_step names p.scribe b) ≡ Ok t →
      Follows (Ok 0) (record { scribe = next_by p.scribe (spell_step names p.scribe b); left = less_by p.left (length (gives_by t)) })
  follows {t} e = rw (spelled_by p.scribe (spell_step names p.scribe b) e, le-ltb room 0 (omega arith)) (refl, refl, refl)
