-- What a byte of a text writes, where there is room for so many events, told of the answer of a step in place. Assumes nothing.
use Rattle.std.proofs.Common.{Option, Some, None, Result, Ok, Err}
use mathlib.Core.Path.{◌≡◌, refl, sym}
use mathlib.Core.List.{List, [], ◌∷◌}
use Prim.Native.Nat.{ℕ, ◌<◌}
use native.Mathlib.Omega.{arith}
use borrow.Author.Tests.{le-ltb}
use Rattle.grammar.specs.declared.Fault.{Fault}
use Rattle.grammar.specs.declared.Fault.TheVariants as fault
use Rattle.tags.specs.declared.reader.Cursor.{Cursor}
use Rattle.tags.specs.declared.reader.Stepped.{Stepped}
use Rattle.tags.specs.Feeding.{step_in, told_of, next_of, written_of}
use Rattle.tags.specs.Cursors.{step_of, event_by, next_by, cursor_step}

err_no_ok : {v : Option ℕ} {f : Fault} → ◌≡◌ {A = Result (Option ℕ) Fault} (Err f) (Ok v) → ⊥
err_no_ok e = let z : ◌≡◌ {A = ℕ} 0 1 = cc in omega arith

ok_no_err : {v : Option ℕ} {f : Fault} → ◌≡◌ {A = Result (Option ℕ) Fault} (Ok v) (Err f) → ⊥
ok_no_err e = err_no_ok (sym e)

-- The answer and the cursor after it are those of the step.
pub stepped_by : (c : Cursor) (x : Result Stepped Fault) {v : Option ℕ} → event_by x ≡ Ok v → x ≡ Ok (record { next = next_by c x; event = v })
stepped_by c (Ok x) {v} e = let q : x.event ≡ v = cc in rw q
stepped_by c (Err f) e = absurd (err_no_ok e)

pub stopped_by : (x : Result Stepped Fault) {f : Fault} → event_by x ≡ Err f → x ≡ Err f
stopped_by (Ok x) e = absurd (ok_no_err e)
stopped_by (Err g) {f} e = let q : g ≡ f = cc in rw q

-- What a byte of a text comes to, where there is room for so many events.
module _ (names : List ℕ) (c : Cursor) (room b : ℕ) where
  abbrev pub Comes : Result ℕ Fault → Cursor → List ℕ → Type 0
  Comes told next written =
      let x = step_in (cursor_step names) c room b in
      (told ≡ told_of x) × (next ≡ next_of c x) × (written_of x ≡ written)

  -- It is at fault, or gives nothing, or an event for which there is no room, or some.
  pub a_fault : {f : Fault} → event_by (step_of names c b) ≡ Err f → Comes (Err f) (next_by c (step_of names c b)) []
  a_fault e = rw (stopped_by (step_of names c b) e) (refl, refl, refl)

  pub nothing : event_by (step_of names c b) ≡ Ok None → Comes (Ok 0) (next_by c (step_of names c b)) []
  nothing e =
      let s = stepped_by c (step_of names c b) e in
      rw (s, le-ltb room 0 (omega arith)) (refl, refl, refl)

  pub no_room : {v : ℕ} → event_by (step_of names c b) ≡ Ok (Some v) → room ≡ 0 → Comes (Err fault.Short) c []
  no_room e z =
      let s = stepped_by c (step_of names c b) e in
      rw (s, z) (refl, refl, refl)

  pub an_event : {v : ℕ} → event_by (step_of names c b) ≡ Ok (Some v) → 0 < room → Comes (Ok 1) (next_by c (step_of names c b)) (v ∷ [])
  an_event e h =
      let s = stepped_by c (step_of names c b) e in
      rw (s, le-ltb room 1 h) (refl, refl, refl)
