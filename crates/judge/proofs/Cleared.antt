-- Lines 1 to 8 by themselves: where one applies it is the call's refusal, whatever the byte; where none does the call is clear.
-- Assumes nothing.
use Rattle.std.specs.Prelude.{Ok, Err}
use mathlib.Core.Path.{◌≡◌, refl, sym, ap, ◌∙◌}
use mathlib.Core.Bool.{Bool, true, false, not, cond}
use mathlib.Core.List.{List, [], ◌∷◌}
use Prim.Native.Nat.{ℕ}
use native.Mathlib.Omega.{arith}
use Rattle.meaning.specs.Refusals.{Line, first_of}
use Rattle.meaning.proofs.Refusals.{taken_exactly}
use Rattle.bodies.specs.Sound.{states_in, labels_in}
use Rattle.table.specs.File.{is_short, header_right, contents_right, length_right, bodies_right}
use Rattle.answers.specs.declared.Record.{Record}
use Rattle.answers.specs.declared.Event.{Event}
use Rattle.answers.specs.declared.Refusal.{Refusal}
use Rattle.judge.specs.Judging.{Judged, fine, judged_number, event_lines, judged_lines, newest_word}
use Rattle.judge.proofs.Following.{first_append, call_passes}
use Rattle.judge.proofs.Passed.{Passed, call_passed}
use Rattle.table.proofs.Sound.{taken_is_sound}
use Rattle.judge.specs.Clear.{Clear, clear_lines}

-- A refusal is one.
pub not_fine : {w : Refusal} → Err w ≡ fine → ⊥
not_fine e = let z : ◌≡◌ {A = ℕ} 0 1 = cc in omega (arith, z)

-- What refuses stands, whatever comes after.
first_stands : (ls : List (Line Judged)) (o : Judged) (w : Refusal) → first_of ls fine ≡ Err w → first_of ls o ≡ Err w
first_stands [] o w e = absurd (not_fine (sym e))
first_stands (l ∷ ls) o w e = go l.applies (first_stands ls o w) e
  where
    go : (b : Bool) → (first_of ls fine ≡ Err w → first_of ls o ≡ Err w) → cond b l.gives (first_of ls fine) ≡ Err w → cond b l.gives (first_of ls o) ≡ Err w
    go true later e = e
    go false later e = later e

module _ (f : List ℕ) (r : Record) (work : List ℕ) (reports : ℕ) where
  pub lent_refused : (w : Refusal) → first_of (clear_lines f r work reports) fine ≡ Err w → (e : Event) → first_of (judged_lines f r work reports e) fine ≡ Err w
  lent_refused w h e =
      let rest : List (Line Judged) = event_lines (labels_in f) r (newest_word r work) e in
      first_append (clear_lines f r work reports) rest fine ∙ first_stands (clear_lines f r work reports) (first_of rest fine) w h

  pub lent_clear : first_of (clear_lines f r work reports) fine ≡ fine → Clear f r work reports
  lent_clear h =
      let n = (taken_exactly judged_number fine (clear_lines f r work reports) tt).0 (ap judged_number h) in
      let a : is_short f ≡ false = n 0 in
      let b : not (header_right f) ≡ false = n 1 in
      let c : not (contents_right f) ≡ false = n 2 in
      let d : not (length_right f) ≡ false = n 3 in
      let e : not (bodies_right f) ≡ false = n 4 in
      record { read = rw (a, b, c, d, e); call = rw (a, b, c, d, e) at h }

pub clear_judged :
    (f : List ℕ) (r : Record) (work : List ℕ) (reports : ℕ) → Clear f r work reports → (e : Event) →
    first_of (event_lines (labels_in f) r (newest_word r work) e) fine ≡ first_of (judged_lines f r work reports e) fine
clear_judged f r work reports c e =
    call_passes f r work reports e (states_in f) (labels_in f) c.read fine (first_of (event_lines (labels_in f) r (newest_word r work) e) fine) (sym c.call) refl refl

pub clear_passed : (f : List ℕ) (r : Record) (work : List ℕ) (reports : ℕ) → Clear f r work reports → Passed f r work reports
clear_passed f r work reports c =
    record {
      sound = (taken_is_sound f (states_in f) (labels_in f) c.read).0;
      called = call_passed (states_in f) (labels_in f) r work reports c.call;
    }

-- An event that no line before the last refuses is clear.
pub judged_clear :
    (f : List ℕ) (r : Record) (work : List ℕ) (reports : ℕ) (e : Event) → first_of (judged_lines f r work reports e) fine ≡ fine → Clear f r work reports
judged_clear f r work reports e h = lent_clear f r work reports (go (first_of (clear_lines f r work reports) fine) refl)
  where
    go : (j : Judged) → first_of (clear_lines f r work reports) fine ≡ j → j ≡ fine
    go (Ok done) k = refl
    go (Err w) k = absurd (not_fine (sym (lent_refused f r work reports w k e) ∙ h))
