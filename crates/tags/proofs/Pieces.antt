-- What a loop over a piece holds, for any step, with room for what is given: how far the piece has gone, and what stands in
-- the output. Assumes nothing.
use Rattle.std.proofs.lemmas.Option.{none-some}
use Rattle.std.proofs.Common.{Option, Some, None, Result, Ok, Err}
use mathlib.Core.Path.{◌≡◌, refl, sym, ap, ◌∙◌}
use native.Mathlib.Decide.{dec_le}
use mathlib.Core.List.{List, [], ◌++◌}
use Prim.Native.Nat.{ℕ, ◌+◌, ◌-◌, ◌<◌, ◌≤◌}
use native.Mathlib.Omega.{arith}
use lib.ListN.{length, get_or, length-append}
use Rattle.grammar.specs.declared.Fault.{Fault}
use Rattle.grammar.specs.Feeding.{Step, Fed, feed, Roomed, roomed, stepped}
use Rattle.grammar.proofs.Feeding.{went, broke, roomed_fits, roomed_short, roomed_stop}
use Rattle.meaning.specs.Lent.{put_at, on_front}
use Rattle.tags.specs.Feeding.{step_in, feed_in, told_of, next_of, written_of, fed_of}
use Rattle.tags.proofs.Going.{Gone, gone_none, gone_on, gone_stop, gone_all}
use Rattle.meaning.proofs.Lent.{put_none, put_put}

-- A state with the room that is left.
abbrev pub room_in : {A : Type 0} → A → ℕ → Roomed A
room_in a n = record { inner = a; left = n }

-- The first `taken` bytes of a piece lead to next, and gave these bytes, so many, for which there is room.
pub record Gives {A : Type 0} (step : A → ℕ → Step A) (a : A) (room : ℕ) (piece gives : List ℕ) (next : A) (taken given : ℕ) : Type 0 where
  pub gone : Gone (roomed step) (room_in a room) piece taken (room_in next (room - given)) gives
  pub count : given ≡ length gives
  pub fits : given ≤ room

module _ {A : Type 0} (step : A → ℕ → Step A) (a : A) (room : ℕ) (piece : List ℕ) where
  pub gives_none : Gives step a room piece [] a 0 0
  gives_none =
      let e : room - 0 ≡ room = omega arith in
      record { gone = rw e (gone_none (roomed step) (room_in a room) piece); count = refl; fits = omega arith }

  module _ {next : A} {gives : List ℕ} (taken given : ℕ) (g : Gives step a room piece gives next taken given) where
    -- The next byte is at fault, by itself or for want of room, or goes on; or there is none.
    pub gives_all : length piece ≤ taken → feed (roomed step) (room_in a room) piece ≡ went gives taken (room_in next (room - given))
    gives_all l = gone_all (roomed step) (room_in a room) piece taken g.gone l

    pub gives_stop : taken < length piece → (k : Fault) → (roomed step (room_in next (room - given)) (get_or piece taken 0)).stops ≡ Some k
        → feed (roomed step) (room_in a room) piece ≡ broke gives taken (room_in next (room - given)) k
    gives_stop l k e = gone_stop (roomed step) (room_in a room) piece taken k g.gone l e

    pub gives_on : taken < length piece → {next' : A} {more : List ℕ} (n : ℕ)
        → roomed step (room_in next (room - given)) (get_or piece taken 0) ≡ stepped (room_in next' (room - given - length more)) more → n ≡ length more
        → n ≤ room - given → Gives step a room piece (gives ++ more) next' (taken + 1) (given + n)
    gives_on l {next'} {more} n e m h =
        let minus : room - given - length more ≡ room - (given + n) = omega arith in
        let fit : roomed step (room_in next (room - given)) (get_or piece taken 0) ≡ stepped (room_in next' (room - (given + n))) more =
        e ∙ rw minus in
        record {
          gone = rw fit at (gone_on (roomed step) (room_in a room) piece taken g.gone l (ap (λ (y : Step (Roomed A)). y.stops) fit));
          count = rw length-append (omega (arith, g.count));
          fits = omega (arith, g.fits);
        }

-- The output holds what was given, where it has the room that is reckoned with, and nothing else of it is changed.
pub record Holds {A : Type 0} (step : A → ℕ → Step A) (a : A) (room : ℕ) (piece out₀ out : List ℕ) (next : A) (taken given : ℕ) : Type 0 where
  pub gives : List ℕ
  pub so_far : Gives step a room piece gives next taken given
  pub holds : room ≤ length out₀ → out ≡ put_at 0 gives out₀

module _ {A : Type 0} (step : A → ℕ → Step A) (a : A) (room : ℕ) (piece out₀ : List ℕ) where
  pub holds_none : Holds step a room piece out₀ out₀ a 0 0
  holds_none = record { gives = []; so_far = gives_none step a room piece; holds = λ r. sym (put_none 0 out₀) }

  module _ {out : List ℕ} {next : A} (taken given : ℕ) (w : Holds step a room piece out₀ out next taken given) where
    -- What stands in the output, where the piece came to this.
    pub holds_out : room ≤ length out₀ → (f : Fed (Roomed A)) → f.gives ≡ w.gives → out ≡ on_front f.gives out₀
    holds_out r f e =
        let z : 0 + length w.gives ≡ length w.gives = omega arith in
        rw e (w.holds r ∙ rw z)

    pub holds_on : (l : taken < length piece) {next' : A} {more : List ℕ} (n : ℕ)
        → roomed step (room_in next (room - given)) (get_or piece taken 0) ≡ stepped (room_in next' (room - given - length more)) more → n ≡ length more
        → n ≤ room - given → {out' : List ℕ} → (room ≤ length out₀ → out' ≡ put_at given more out)
        → Holds step a room piece out₀ out' next' (taken + 1) (given + n)
    holds_on l {more = more} n e m h p =
        let z : given ≡ 0 + length w.gives = omega (arith, w.so_far.count) in
        record {
          gives = w.gives ++ more;
          so_far = gives_on step a room piece taken given w.so_far l n e m h;
          holds = λ r. p r ∙ ap (λ (k : ℕ). put_at k more out) z ∙ ap (λ (u : List ℕ). put_at (0 + length w.gives) more u) (w.holds r)
              ∙ put_put 0 w.gives out₀ (omega (arith, w.so_far.count, w.so_far.fits)) more;
        }

-- A step with room that goes on has room for what it gives.
pub record Went {A : Type 0} (x : Step (Roomed A)) (room : ℕ) : Type 0 where
  pub is : x ≡ stepped (room_in x.next.inner (room - length x.gives)) x.gives
  pub fits : length x.gives ≤ room

pub went_in : {A : Type 0} (step : A → ℕ → Step A) (a : A) (room b : ℕ) → (step_in step a room b).stops ≡ None → Went (step_in step a room b) room
went_in step a room b e = go (step a b).stops refl
  where
    go : (t : Option Fault) → (step a b).stops ≡ t → Went (step_in step a room b) room
    go None h = by_room (dec_le (length (step a b).gives) room)
      where
        by_room : Dec (length (step a b).gives ≤ room) → Went (step_in step a room b) room
        by_room (yes l) = rw (roomed_fits step a room b h l) (record { is = refl; fits = l })
        by_room (no l) = absurd (none-some _ (sym e ∙ ap (λ (x : Step (Roomed _)). x.stops) (roomed_short step a room b h (omega arith))))
    go (Some k) h = absurd (none-some _ (sym e ∙ roomed_stop step a room b k h))

err_no_ok : {n : ℕ} {f : Fault} → ◌≡◌ {A = Result ℕ Fault} (Err f) (Ok n) → ⊥
err_no_ok e = let z : ◌≡◌ {A = ℕ} 0 1 = cc in omega arith

-- What the answer of a step says of it.
pub answer_stop : {A : Type 0} (x : Step (Roomed A)) {k : Fault} → told_of x ≡ Err k → x.stops ≡ Some k
answer_stop x {k} e = go x.stops refl
  where
    go : (t : Option Fault) → x.stops ≡ t → x.stops ≡ Some k
    go None h = absurd (err_no_ok (sym (rw h at e)))
    go (Some j) h = let q : j ≡ k = let p : ◌≡◌ {A = Result ℕ Fault} (Err j) (Err k) = rw h at e in cc in rw (h, q)

pub answer_given : {A : Type 0} (x : Step (Roomed A)) {n : ℕ} → told_of x ≡ Ok n → (x.stops ≡ None) × (length x.gives ≡ n)
answer_given x {n} e = go x.stops refl
  where
    go : (t : Option Fault) → x.stops ≡ t → (x.stops ≡ None) × (length x.gives ≡ n)
    go None h = (h, (let p : ◌≡◌ {A = Result ℕ Fault} (Ok (length x.gives)) (Ok n) = rw h at e in cc))
    go (Some j) h = absurd (err_no_ok (rw h at e))

-- The same, and where the step led.
pub answer_next : {A : Type 0} (a : A) (x : Step (Roomed A)) {n : ℕ} → told_of x ≡ Ok n
    → (x.stops ≡ None) × (next_of a x ≡ x.next.inner) × (length x.gives ≡ n)
answer_next a x e =
    let told = answer_given x e in
    (told.0, rw told.0, told.1)

-- What the loop over a piece answers.
module _ {A : Type 0} (step : A → ℕ → Step A) (a : A) (room : ℕ) (piece out₀ : List ℕ) {out : List ℕ} {next : A} (taken given : ℕ)
    (w : Holds step a room piece out₀ out next taken given) where
  -- The piece came to this, and the output holds what it gave.
  abbrev pub Came : List ℕ → Option Fault → Type 0
  Came out' stop = (record { next = next; taken = taken; given = given; stop = stop } ≡ fed_of (feed_in step a room piece))
      × (room ≤ length out₀ → out' ≡ on_front (feed_in step a room piece).gives out₀)

  came : {out' : List ℕ} (stop : Option Fault) → (room ≤ length out₀ → out' ≡ out)
      → feed_in step a room piece ≡ record { gives = w.gives; taken = taken; state = room_in next (room - given); stops = stop } → Came out' stop
  came stop o e =
      (rw (e, w.so_far.count), λ r. o r ∙ holds_out step a room piece out₀ taken given w r (feed_in step a room piece) (ap (λ (f : Fed (Roomed A)). f.gives) e))

  pub came_all : length piece ≤ taken → Came out None
  came_all l = came None (λ r. refl) (gives_all step a room piece taken given w.so_far l)

  abbrev x : Step (Roomed A)
  x = step_in step next (room - given) (get_or piece taken 0)

  module _ (l : taken < length piece) {r : Result ℕ Fault} (e : r ≡ told_of (step_in step next (room - given) (get_or piece taken 0)))
      (long : length out ≡ length out₀) {out' : List ℕ}
      (p : given + (room - given) ≤ length out → out' ≡ put_at given (written_of (step_in step next (room - given) (get_or piece taken 0))) out) where
    pub came_stop : {k : Fault} → r ≡ Err k → Came out' (Some k)
    came_stop {k} h =
        let stops : x.stops ≡ Some k = answer_stop x (sym e ∙ h) in
        let none : written_of x ≡ [] = rw stops in
        came (Some k) (λ q. p (omega (arith, long, w.so_far.fits)) ∙ ap (λ (u : List ℕ). put_at given u out) none ∙ put_none given out)
        (gives_stop step a room piece taken given w.so_far l k stops)

  -- The same, told of where the step led.
  module _ (l : taken < length piece) {r : Result ℕ Fault} (e : r ≡ told_of (step_in step next (room - given) (get_or piece taken 0)))
      {next' : A} (led : next' ≡ next_of next (step_in step next (room - given) (get_or piece taken 0)))
      (long : length out ≡ length out₀) {out' : List ℕ}
      (p : given + (room - given) ≤ length out → out' ≡ put_at given (written_of (step_in step next (room - given) (get_or piece taken 0))) out) where
    pub came_stop_at : {k : Fault} → r ≡ Err k
        → (record { next = next'; taken = taken; given = given; stop = Some k } ≡ fed_of (feed_in step a room piece))
        × (room ≤ length out₀ → out' ≡ on_front (feed_in step a room piece).gives out₀)
    came_stop_at {k} h =
        let stays : next' ≡ next = led ∙ rw (answer_stop x (sym e ∙ h)) in
        rw stays (came_stop l e long p h)

    pub came_on : {n : ℕ} → r ≡ Ok n → Holds step a room piece out₀ out' next' (taken + 1) (given + n)
    came_on {n} h =
        let told = answer_next next x (sym e ∙ h) in
        let u = went_in step next (room - given) (get_or piece taken 0) told.0 in
        let all : written_of x ≡ x.gives = rw told.0 in
        let goes : next' ≡ x.next.inner = led ∙ told.1 in
        rw (goes, sym told.2)
        (holds_on step a room piece out₀ taken given w l (length x.gives) u.is refl u.fits
        (λ q. p (omega (arith, long, w.so_far.fits)) ∙ ap (λ (v : List ℕ). put_at given v out) all))
