-- `take_label` meets its contract, by the laws of the labels' words. Assumes nothing.
use mathlib.Core.Path.{◌≡◌, subst}
use Prim.Native.Nat.{ℕ, ◌<◌}
use native.Mathlib.Omega.{arith}
use borrow.Author.Rules.{rules}
use lib.ListN.{length}
use Rattle.places.proofs.Labels.{opened_words, closed_words}
use Rattle.rows.specs.declared.Step.{Step}
use Rattle.rows.specs.Steps.{event_of}
use Rattle.labels.specs.Fits.{Fits}
use Rattle.labels.proofs.take_label.Goals as goal

-- What is asked of an event, of the step that it is.
fits-as : {x y : Step} (n d : ℕ) → x ≡ y → Fits n d (event_of x) → Fits n d (event_of y)
fits-as n d e h = subst (λ (z : Step). Fits n d (event_of z)) e h

pub overflow_add-words : goal.overflow_add-words
overflow_add-words c =
    let opening : let s = c in (c.in-Open.a < 32) × (s.args.d < length s.args.words.now) = (let s = c in
    fits-as (length s.args.words.now) s.args.d c.in-Open.is s.requires.1) in
    omega (arith, (opening).0)

pub overflow_add-d : goal.overflow_add-d
overflow_add-d c =
    let opening : let s = c in (c.in-Open.a < 32) × (s.args.d < length s.args.words.now) = (let s = c in
    fits-as (length s.args.words.now) s.args.d c.in-Open.is s.requires.1) in
    omega (arith, (opening).1)

pub bounds-words-label_at : goal.bounds-words-label_at
bounds-words-label_at c =
    let opening : let s = c in (c.in-Open.a < 32) × (s.args.d < length s.args.words.now) = (let s = c in
    fits-as (length s.args.words.now) s.args.d c.in-Open.is s.requires.1) in
    omega (arith, c.label_at.ensures, (opening).1)

pub label_at-requires-in-Close : goal.label_at-requires-in-Close
label_at-requires-in-Close c =
    let closing : 0 < c.args.d = (let s = c in
    fits-as (length s.args.words.now) s.args.d c.in-Close.is s.requires.1) in
    closing

pub bounds-words-label_at-in-Close : goal.bounds-words-label_at-in-Close
bounds-words-label_at-in-Close c =
    let closing : 0 < c.args.d = (let s = c in
    fits-as (length s.args.words.now) s.args.d c.in-Close.is s.requires.1) in
    let s = c in
    omega (arith, c.label_at-in-Close.ensures, closing, s.requires.0.deep)

pub returns-in-Open : goal.returns-in-Open
returns-in-Open c =
    let opening : let s = c in (c.in-Open.a < 32) × (s.args.d < length s.args.words.now) = (let s = c in
    fits-as (length s.args.words.now) s.args.d c.in-Open.is s.requires.1) in
    let k = c in
    let s = k in
    let words = s.args.words.now in
    rw (k.in-Open.is, c.label_at.ensures) (opened_words words s.args.d s.requires.0 k.in-Open.a (opening).1)

pub returns-in-Point : goal.returns-in-Point
returns-in-Point c = rw c.in-Point.is c.requires.0.same

pub returns-in-Close : goal.returns-in-Close
returns-in-Close c =
    let closing : 0 < c.args.d = (let s = c in
    fits-as (length s.args.words.now) s.args.d c.in-Close.is s.requires.1) in
    let s = c in
    rw (c.in-Close.is, c.label_at-in-Close.ensures) (closed_words s.args.words.now s.args.d s.requires.0 (closing))
