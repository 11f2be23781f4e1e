-- Laws of bytes fed step by step: in pieces as at once, and with room. Assumes nothing.
use Rattle.std.proofs.Math.Nat.{sub-zero}
use Rattle.std.proofs.Math.Numerals.{one-add}
use Rattle.std.proofs.lemmas.Option.{none-some}
use Rattle.std.proofs.Common.{Option, Some, None}
use mathlib.Core.Path.{◌≡◌, refl, sym, ap, ◌∙◌}
use mathlib.Core.Bool.{Bool, true, false, cond}
use mathlib.Core.List.{List, [], ◌∷◌, ◌++◌, append-nil, append_assoc}
use Prim.Native.Nat.{ℕ, suc, ◌+◌, ◌-◌, ◌≤◌, ◌<◌}
use native.Mathlib.Omega.{arith}
use native.Mathlib.Nat.{add-zero}
use native.Mathlib.Decide.{dec_le}
use lib.ListN.{length, length-append}
use borrow.Author.Tests.{le-ltb, lt-ltb}
use Rattle.grammar.specs.declared.Fault.{Fault}
use Rattle.grammar.specs.declared.Fault.TheVariants as fault
use Rattle.grammar.specs.Feeding.{Step, goes_on, stopped, stepped, Fed, after, feed, Roomed, roomed}

-- What one piece and then the next come to: the next counts only where the first went on.
abbrev pub then : {A : Type 0} → (A → ℕ → Step A) → Fed A → List ℕ → Fed A
then step f s = cond (goes_on f.stops) (after f.gives f.taken (feed step f.state s)) f

pub after_after : {A : Type 0} (u v : List ℕ) (n m : ℕ) (f : Fed A) → after u n (after v m f) ≡ after (u ++ v) (n + m) f
after_after u v n m f =
    rw (append_assoc u v f.gives, ← assoc)
  where
    assoc : n + (m + f.taken) ≡ n + m + f.taken
    assoc = omega arith

pub after_none : {A : Type 0} (f : Fed A) → after [] 0 f ≡ f
after_none f = rw zeroth
  where
    zeroth : 0 + f.taken ≡ f.taken
    zeroth = omega arith

-- Bytes fed in two pieces come to the same as at once.
pub feed_pieces : {A : Type 0} (step : A → ℕ → Step A) (a : A) (s t : List ℕ) → feed step a (s ++ t) ≡ then step (feed step a s) t
feed_pieces step a [] t = sym (after_none (feed step a t))
feed_pieces step a (b ∷ s) t = go (goes_on (step a b).stops) refl (feed_pieces step (step a b).next s t)
  where
    later : (x : Bool) → goes_on (feed step (step a b).next s).stops ≡ x
        → after (step a b).gives 1 (then step (feed step (step a b).next s) t)
        ≡ then step (after (step a b).gives 1 (feed step (step a b).next s)) t
    later true e = rw e (after_after (step a b).gives (feed step (step a b).next s).gives 1 (feed step (step a b).next s).taken (feed step (feed step (step a b).next s).state t))
    later false e = rw e

    go : (x : Bool) → goes_on (step a b).stops ≡ x → feed step (step a b).next (s ++ t) ≡ then step (feed step (step a b).next s) t
        → feed step a (b ∷ (s ++ t)) ≡ then step (feed step a (b ∷ s)) t
    go true e ih = rw (e, ih) (later (goes_on (feed step (step a b).next s).stops) refl)
    go false e ih = rw (e, e)

-- n bytes that were all taken.
abbrev pub went : {A : Type 0} → List ℕ → ℕ → A → Fed A
went out n a = record { gives = out; taken = n; state = a; stops = None }

-- A byte at fault after n that were taken.
abbrev pub broke : {A : Type 0} → List ℕ → ℕ → A → Fault → Fed A
broke out n a k = record { gives = out; taken = n; state = a; stops = Some k }

pub no_fault : {P : Type 0} (k : Fault) → None ≡ Some k → P
no_fault k e = absurd (none-some k e)

module _ {A : Type 0} (step : A → ℕ → Step A) where
  pub feed_on : (a a' : A) (out : List ℕ) (b : ℕ) (s : List ℕ) → step a b ≡ stepped a' out
      → feed step a (b ∷ s) ≡ after out 1 (feed step a' s)
  feed_on a a' out b s e = rw e

  pub feed_stop : (a : A) (k : Fault) (b : ℕ) (s : List ℕ) → (step a b).stops ≡ Some k → feed step a (b ∷ s) ≡ broke [] 0 a k
  feed_stop a k b s e = rw e

  -- After a piece that was taken.
  pub feed_then : (a a' : A) (out : List ℕ) (n : ℕ) (s t : List ℕ) → feed step a s ≡ went out n a'
      → feed step a (s ++ t) ≡ after out n (feed step a' t)
  feed_then a a' out n s t e = rw (feed_pieces step a s t, e)

  -- Two pieces that were taken.
  pub went_then : (a a' a'' : A) (out out' : List ℕ) (n m : ℕ) (s t : List ℕ)
      → feed step a s ≡ went out n a' → feed step a' t ≡ went out' m a''
      → feed step a (s ++ t) ≡ went (out ++ out') (n + m) a''
  went_then a a' a'' out out' n m s t e f = rw (feed_then a a' out n s t e, f)

  -- A piece that was taken, and then a byte at fault.
  pub feed_break : (a a' : A) (out : List ℕ) (n : ℕ) (k : Fault) (s : List ℕ) (b : ℕ) (t : List ℕ)
      → feed step a s ≡ went out n a' → (step a' b).stops ≡ Some k → feed step a (s ++ (b ∷ t)) ≡ broke out n a' k
  feed_break a a' out n k s b t e h = rw (feed_then a a' out n s (b ∷ t) e, feed_stop a' k b t h, append-nil out, add-zero n)

-- Where bytes broke off: at the byte of this place.
pub record Broken {A : Type 0} (step : A → ℕ → Step A) (a : A) (s : List ℕ) (k : Fault) : Type 0 where
  pub before : List ℕ
  pub byte : ℕ
  pub rest : List ℕ
  pub parts : s ≡ before ++ (byte ∷ rest)
  pub on : feed step a before ≡ went (feed step a s).gives (length before) (feed step a s).state
  pub at : (step (feed step a s).state byte).stops ≡ Some k
  pub place : (feed step a s).taken ≡ length before

module _ {A : Type 0} (step : A → ℕ → Step A) where
  -- Where no byte is at fault, each is taken.
  pub all_taken : (a : A) (s : List ℕ) → (feed step a s).stops ≡ None
      → feed step a s ≡ went (feed step a s).gives (length s) (feed step a s).state
  all_taken a [] e = refl
  all_taken a (b ∷ s) e = go (step a b).stops refl (all_taken (step a b).next s)
    where
      go : (x : Option Fault) → (step a b).stops ≡ x
          → ((feed step (step a b).next s).stops ≡ None
          → feed step (step a b).next s
          ≡ went (feed step (step a b).next s).gives (length s) (feed step (step a b).next s).state)
          → feed step a (b ∷ s) ≡ went (feed step a (b ∷ s)).gives (suc (length s)) (feed step a (b ∷ s)).state
      go None h ih = rw (h, ih (rw h at e), one-add (length s))
      go (Some k) h ih = no_fault k (sym (rw h at e))

  broken_later : (a : A) (b : ℕ) (s : List ℕ) (k : Fault) → (step a b).stops ≡ None → Broken step (step a b).next s k → Broken step a (b ∷ s) k
  broken_later a b s k h i =
      record {
        before = b ∷ i.before;
        byte = i.byte;
        rest = i.rest;
        parts = ap (λ (u : List ℕ). b ∷ u) i.parts;
        on = rw (h, i.on, one-add (length i.before));
        at = rw h i.at;
        place = rw (h, i.place, one-add (length i.before));
      }

  pub where_broken : (a : A) (s : List ℕ) (k : Fault) → (feed step a s).stops ≡ Some k → Broken step a s k
  where_broken a [] k e = no_fault k e
  where_broken a (b ∷ s) k e = go (step a b).stops refl (where_broken (step a b).next s k)
    where
      go : (x : Option Fault) → (step a b).stops ≡ x → ((feed step (step a b).next s).stops ≡ Some k → Broken step (step a b).next s k)
          → Broken step a (b ∷ s) k
      go None h ih = broken_later a b s k h (ih (rw h at e))
      go (Some j) h ih =
          record { before = []; byte = b; rest = s; parts = refl; on = rw h; at = rw h (h ∙ (rw h at e)); place = rw h }

-- Room

-- What bytes come to, where there is room for r, and for what they give.
abbrev pub with_room : {A : Type 0} → ℕ → Fed A → Fed (Roomed A)
with_room r f =
    record { gives = f.gives; taken = f.taken; state = record { inner = f.state; left = r - length f.gives }; stops = f.stops }

module _ {A : Type 0} (step : A → ℕ → Step A) (a : A) (r b : ℕ) where
  -- A byte, where there is room for what it gives, where there is not, and where it is at fault itself.
  pub roomed_fits : (step a b).stops ≡ None → length (step a b).gives ≤ r
      → roomed step (record { inner = a; left = r }) b
      ≡ stepped (record { inner = (step a b).next; left = r - length (step a b).gives }) (step a b).gives
  roomed_fits h l = rw (h, le-ltb r (length (step a b).gives) l)

  pub roomed_short : (step a b).stops ≡ None → r < length (step a b).gives
      → roomed step (record { inner = a; left = r }) b ≡ stopped (record { inner = a; left = r }) fault.Short
  roomed_short h l = rw (h, lt-ltb r (length (step a b).gives) l)

  pub roomed_stop : (k : Fault) → (step a b).stops ≡ Some k → (roomed step (record { inner = a; left = r }) b).stops ≡ Some k
  roomed_stop k h = rw h

-- Where all fits, what comes after the first part fits in the room that the first part leaves.
rest_fits : (r : ℕ) (u v : List ℕ) → length (u ++ v) ≤ r → length v ≤ r - length u
rest_fits r u v l = let h : length u + length v ≤ r = rw length-append at l in omega arith

module _ {A : Type 0} (step : A → ℕ → Step A) where
  -- Where there is room for all that is given, room changes nothing.
  pub room_enough : (a : A) (r : ℕ) (s : List ℕ) → length (feed step a s).gives ≤ r
      → feed (roomed step) (record { inner = a; left = r }) s ≡ with_room r (feed step a s)
  room_enough a r [] l = rw (sub-zero r)
  room_enough a r (b ∷ s) l = go (step a b).stops refl (room_enough (step a b).next (r - length (step a b).gives) s)
    where
      first : length ((step a b).gives ++ (feed step (step a b).next s).gives) ≤ r → length (step a b).gives ≤ r
      first m = let h : length (step a b).gives + length (feed step (step a b).next s).gives ≤ r = rw length-append at m in omega arith

      rest : (r - length (step a b).gives) - length (feed step (step a b).next s).gives
          ≡ r - length ((step a b).gives ++ (feed step (step a b).next s).gives)
      rest = rw length-append (omega arith)

      go : (x : Option Fault) → (step a b).stops ≡ x
          → (length (feed step (step a b).next s).gives ≤ r - length (step a b).gives
          → feed (roomed step) (record { inner = (step a b).next; left = r - length (step a b).gives }) s
          ≡ with_room (r - length (step a b).gives) (feed step (step a b).next s))
          → feed (roomed step) (record { inner = a; left = r }) (b ∷ s) ≡ with_room r (feed step a (b ∷ s))
      go None h ih =
          let m : length ((step a b).gives ++ (feed step (step a b).next s).gives) ≤ r = rw h at l in
          rw (roomed_fits step a r b h (first m), h, ih (rest_fits r (step a b).gives (feed step (step a b).next s).gives m), rest)
      go (Some k) h ih = feed_stop (roomed step) (record { inner = a; left = r }) k b s (roomed_stop step a r b k h) ∙ rw (h, sub-zero r)

  -- Bytes that are all taken with room are taken without, and what they give fits.
  pub room_inner : (a : A) (r : ℕ) (s : List ℕ) → (feed (roomed step) (record { inner = a; left = r }) s).stops ≡ None
      → ((feed step a s).stops ≡ None) × (length (feed step a s).gives ≤ r)
  room_inner a r [] e = (refl, omega arith)
  room_inner a r (b ∷ s) e = go (step a b).stops refl (room_inner (step a b).next (r - length (step a b).gives) s)
    where
      go : (x : Option Fault) → (step a b).stops ≡ x
          → ((feed (roomed step) (record { inner = (step a b).next; left = r - length (step a b).gives }) s).stops ≡ None
          → ((feed step (step a b).next s).stops ≡ None) × (length (feed step (step a b).next s).gives ≤ r - length (step a b).gives))
          → ((feed step a (b ∷ s)).stops ≡ None) × (length (feed step a (b ∷ s)).gives ≤ r)
      go None h ih = fits (dec_le (length (step a b).gives) r)
        where
          fits : Dec (length (step a b).gives ≤ r) → ((feed step a (b ∷ s)).stops ≡ None) × (length (feed step a (b ∷ s)).gives ≤ r)
          fits (yes l) =
              let i = ih (rw (roomed_fits step a r b h l) at e) in
              rw h (i.0, rw length-append (omega (arith, i.1)))
          fits (no l) = no_fault fault.Short (sym (rw (roomed_short step a r b h (omega arith)) at e))
      go (Some k) h ih = no_fault k (sym (rw h at e))

-- Pieces, one after another, as one list.
abbrev pub joined : List (List ℕ) → List ℕ
joined [] = []
joined (s ∷ ss) = s ++ joined ss

-- What pieces come to that are fed one after another.
abbrev pub feed_all : {A : Type 0} → (A → ℕ → Step A) → Fed A → List (List ℕ) → Fed A
feed_all step f [] = f
feed_all step f (s ∷ ss) = feed_all step (then step f s) ss

-- Bytes fed in any pieces come to the same as at once.
pub in_pieces : {A : Type 0} (step : A → ℕ → Step A) (a : A) (u : List ℕ) (ss : List (List ℕ))
    → feed_all step (feed step a u) ss ≡ feed step a (u ++ joined ss)
in_pieces step a u [] = ap (λ (v : List ℕ). feed step a v) (sym (append-nil u))
in_pieces step a u (s ∷ ss) =
    ap (λ (f : Fed _). feed_all step f ss) (sym (feed_pieces step a u s))
    ∙ in_pieces step a (u ++ s) ss
    ∙ ap (λ (v : List ℕ). feed step a v) (append_assoc u s (joined ss))
