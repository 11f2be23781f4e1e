-- The reader refuses by the first place at fault and the first kind that applies there, and a refusal writes nothing.
-- Assumes nothing.
use Rattle.std.proofs.lemmas.Option.{same_Some}
use Rattle.std.proofs.Common.{Option, Some, None, Result, Ok, Err}
use mathlib.Core.Path.{◌≡◌, refl, sym, ◌∙◌}
use mathlib.Core.Bool.{Bool, true, false}
use mathlib.Core.Logic.{◌↔◌}
use mathlib.Core.List.{List}
use Prim.Native.Nat.{ℕ, suc}
use native.Mathlib.Omega.{arith}
use lib.ListN.{length}
use Rattle.grammar.specs.declared.Fault.{Fault}
use Rattle.grammar.specs.declared.ReadError.{ReadError}
use Rattle.grammar.specs.declared.ReadError.TheVariants as read_error
use Rattle.grammar.specs.Names.{lines_of, good_names}
use Rattle.grammar.specs.Reading.{read_fed, text_stop, read_answer, read_out}
use Rattle.grammar.specs.Faults.{Faulty}
use Rattle.grammar.proofs.Texts.{refused_taken}
use Rattle.grammar.proofs.FirstFault.{faulty_stops, stops_faulty}

same_refusal : {j k : Fault} {i n : ℕ} → ◌≡◌ {A = Result ℕ ReadError} (Err (read_error.Text j n)) (Err (read_error.Text k i)) → (j ≡ k) × (n ≡ i)
same_refusal e = (cc, cc)

names_refused : {P : Type 0} {k : Fault} {i : ℕ} → ◌≡◌ {A = Result ℕ ReadError} (Err read_error.Names) (Err (read_error.Text k i)) → P
names_refused e = let z : ◌≡◌ {A = ℕ} 0 1 = cc in absurd (omega arith)

taken_names : {P : Type 0} {n : ℕ} → ◌≡◌ {A = Result ℕ ReadError} (Ok n) (Err read_error.Names) → P
taken_names e = let z : ◌≡◌ {A = ℕ} 0 1 = cc in absurd (omega arith)

-- A text has at most one first fault.
pub one_fault : {ns : List (List ℕ)} {room i i' : ℕ} {s : List ℕ} {k k' : Fault} → Faulty ns room s k i → Faulty ns room s k' i'
    → (k ≡ k') × (i ≡ i')
one_fault f f' =
    let a = faulty_stops f in
    let b = faulty_stops f' in
    (same_Some _ _ (sym a.stop ∙ b.stop), sym a.place ∙ b.place)

module _ (names : List ℕ) (room : ℕ) where
  -- A text at fault is refused as it is at fault,
  pub refuses : {s : List ℕ} {k : Fault} {i : ℕ} → good_names names ≡ true → Faulty (lines_of names) room s k i
      → read_answer names s room ≡ Err (read_error.Text k i)
  refuses h f = let t = faulty_stops f in rw (h, t.stop, t.place)

  -- and one that is refused is at fault so.
  pub refused_fault : {k : Fault} {i : ℕ} (s : List ℕ) → read_answer names s room ≡ Err (read_error.Text k i)
      → (good_names names ≡ true) × Faulty (lines_of names) room s k i
  refused_fault {k} {i} s e = go (good_names names) refl (text_stop (read_fed (lines_of names) room s)) refl
    where
      go : (x : Bool) → good_names names ≡ x → (y : Option Fault) → text_stop (read_fed (lines_of names) room s) ≡ y
          → (good_names names ≡ true) × Faulty (lines_of names) room s k i
      go true h None t = refused_taken (sym (rw (h, t) at e))
      go true h (Some j) t =
          let same = same_refusal (rw (h, t) at e) in
          (h, rw (← same.1, ← same.0) (stops_faulty (lines_of names) room s t))
      go false h y t = names_refused (rw h at e)

  -- The names are refused where they are bad, and only there.
  pub refused_names : (s : List ℕ) → (read_answer names s room ≡ Err read_error.Names) ↔ (good_names names ≡ false)
  refused_names s = (λ e. bad e (good_names names) refl (text_stop (read_fed (lines_of names) room s)) refl, λ h. rw h)
    where
      bad : read_answer names s room ≡ Err read_error.Names → (x : Bool) → good_names names ≡ x
          → (y : Option Fault) → text_stop (read_fed (lines_of names) room s) ≡ y → good_names names ≡ false
      bad e true h None t = taken_names (rw (h, t) at e)
      bad e true h (Some j) t = names_refused (sym (rw (h, t) at e))
      bad e false h y t = h

-- Where the reader does not answer that it has taken the text, the output is as it was.
pub refusal_writes_nothing : (names s out : List ℕ)
    → ((n : ℕ) → ¬ (read_answer names s (length out) ≡ Ok n)) → read_out names s out ≡ out
refusal_writes_nothing names s out n = go (good_names names) refl (text_stop (read_fed (lines_of names) (length out) s)) refl
  where
    go : (x : Bool) → good_names names ≡ x → (y : Option Fault) → text_stop (read_fed (lines_of names) (length out) s) ≡ y → read_out names s out ≡ out
    go true h None t = absurd (n (suc (length (read_fed (lines_of names) (length out) s).gives)) (rw (h, t)))
    go true h (Some j) t = rw (h, t)
    go false h y t = rw h
