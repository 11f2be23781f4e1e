-- What the tests on sizes, record and work memory say, and how the call's lines come out. Assumes nothing.
use Rattle.std.specs.Prelude.{Option, None, Some, Err}
use mathlib.Core.Bool.{Bool, true, false, not, cond, ◌&&◌, ◌||◌}
use mathlib.Core.List.{List}
use mathlib.Core.Path.{◌≡◌, sym, ◌∙◌}
use Prim.Native.Nat.{ℕ, ◌+◌, ◌<◌, ◌≤◌}
use lib.Dec.{eqb, leb}
use lib.ListN.{length}
use borrow.Author.Tests.{leb-true, eqb-true, le-leb, eq-eqb, ne_eqb, lt-ltb, le-ltb}
use Rattle.meaning.specs.Refusals.{first_of}
use Rattle.meaning.proofs.Tests.{both_true}
use Rattle.table.specs.File.{between}
use Rattle.places.specs.Places.{work_length}
use Rattle.order.specs.Order.{first_fault}
use Rattle.answers.specs.declared.Record.{Record}
use Rattle.answers.specs.declared.Refusal.TheVariants as why
use Rattle.judge.specs.Judging.{Judged, fine, call_lines, sizes_right, record_right, fault_of}

-- The sizes are in range, and work memory has the length that they fix.
pub record Sized (rows allowed size : ℕ) : Type 0 where
  pub few_rows : rows ≤ 64
  pub few_levels : allowed ≤ 40
  pub long : size ≡ work_length rows allowed

pub sized : (rows allowed size : ℕ) → sizes_right rows allowed size ≡ true → Sized rows allowed size
sized rows allowed size e =
    let long : Bool = eqb size (work_length rows allowed) in
    let h = both_true (between 1 64 rows) (between 1 40 allowed && long) e in
    let g = both_true (between 1 40 allowed) long h.1 in
    record {
      few_rows = leb-true rows 64 (both_true (leb 1 rows) (leb rows 64) h.0).1;
      few_levels = leb-true allowed 40 (both_true (leb 1 allowed) (leb allowed 40) g.0).1;
      long = eqb-true size (work_length rows allowed) g.1;
    }

-- The record's counts are within what it allows.
pub record Within (r : Record) : Type 0 where
  pub room : r.alive ≤ r.rows
  pub deep : r.depth ≤ r.allowed
  pub numbered : r.positions ≤ 2147483647

pub within : (r : Record) → record_right r ≡ true → Within r
within r e =
    let last : Bool = not r.finished || (eqb r.depth 0 && eqb r.alive 0) in
    let numbered : Bool = leb r.positions 2147483647 in
    let deep : Bool = leb r.depth r.allowed in
    let h = both_true (leb r.alive r.rows) (deep && (numbered && last)) e in
    let g = both_true deep (numbered && last) h.1 in
    record {
      room = leb-true r.alive r.rows h.0;
      deep = leb-true r.depth r.allowed g.0;
      numbered = leb-true r.positions 2147483647 (both_true numbered last g.1).0;
    }

-- Where the counts are within it, the last test decides.
record_last : (r : Record) → Within r → record_right r ≡ (not r.finished || (eqb r.depth 0 && eqb r.alive 0))
record_last r w =
    rw (
      le-leb r.alive r.rows w.room,
      le-leb r.depth r.allowed w.deep,
      le-leb r.positions 2147483647 w.numbered,
    )

pub right_unfinished : (r : Record) → Within r → not r.finished ≡ true → not r.finished ≡ record_right r
right_unfinished r w e = e ∙ sym (record_last r w ∙ (rw e))

pub right_at_rest : (r : Record) → Within r → not r.finished ≡ false → r.depth ≡ 0 → eqb r.alive 0 ≡ record_right r
right_at_rest r w e d = sym (record_last r w ∙ (rw (e, eq-eqb r.depth 0 d)))

pub right_open : (r : Record) → Within r → not r.finished ≡ false → (r.depth ≡ 0 → ⊥) → eqb r.depth 0 ≡ record_right r
right_open r w e d = sym (record_last r w ∙ (rw (e, ne_eqb r.depth 0 d)))

-- The rows in use, either way.
pub used_none : (b : Bool) (used alive : ℕ) → b ≡ true → used ≡ 0 → used ≡ cond b 0 (alive + 1)
used_none b used alive e h = rw e h

pub used_some : (b : Bool) (used alive : ℕ) → b ≡ false → used ≡ alive + 1 → used ≡ cond b 0 (alive + 1)
used_some b used alive e h = rw e h

-- Where the record by itself is in order, the words decide.
pub fault_words :
    (r : Record) (n k : ℕ) (work : List ℕ) (used : ℕ) (p : Option ℕ) → record_right r ≡ true → used ≡ cond r.finished 0 (r.alive + 1) →
    p
    ≡ first_fault
    record {
      rows = r.rows + 1;
      allowed = r.allowed;
      used = used;
      depth = r.depth;
      states = n;
      positions = r.positions;
      labels = k;
    }
    work →
    p ≡ fault_of r n k work
fault_words r n k work used p e u h = rw e (rw u at h)

module _ (n k : ℕ) (r : Record) (work : List ℕ) (reports : ℕ) where
  abbrev call : Judged
  call = first_of (call_lines n k r work reports) fine

  pub sizes_stand : sizes_right r.rows r.allowed (length work) ≡ false → Err why.Sizes ≡ call
  sizes_stand e = rw e

  module _ (e : sizes_right r.rows r.allowed (length work) ≡ true) where
    pub reports_stand : reports < r.rows + 1 → Err why.Sizes ≡ call
    reports_stand l = rw (e, lt-ltb reports (r.rows + 1) l)

    module _ (l : r.rows + 1 ≤ reports) where
      pub order_stands : (at : ℕ) → fault_of r n k work ≡ Some at → Err (why.Order at) ≡ call
      order_stands at h = rw (e, le-ltb reports (r.rows + 1) l, h)

      pub finished_stands : fault_of r n k work ≡ None → r.finished ≡ true → Err why.Finished ≡ call
      finished_stands h g = rw (e, le-ltb reports (r.rows + 1) l, h, g)

      pub none_stands : fault_of r n k work ≡ None → r.finished ≡ false → fine ≡ call
      none_stands h g = rw (e, le-ltb reports (r.rows + 1) l, h, g)
