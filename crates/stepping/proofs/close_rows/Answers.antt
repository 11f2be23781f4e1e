-- `close_rows` meets its contract: where no row was reported, all are left, and they fill their words. Assumes nothing.
use mathlib.Core.Path.{◌≡◌, sym}
use native.Mathlib.Omega.{arith}
use lib.ListN.{length}
use Rattle.places.specs.Memory.{helds_in}
use Rattle.places.proofs.Good.{helds_length}
use Rattle.reports.specs.Reports.{reports_of}
use Rattle.stepping.proofs.Kept.{none_reported}
use Rattle.stepping.proofs.Whole.{rows_fill}
use Rattle.stepping.proofs.close_rows.Goals as goal

pub returns-then-count-eq0 : goal.returns-then-count-eq0
returns-then-count-eq0 c =
    let a = c.args in
    let hs = helds_in a.w a.d a.n a.words.now in
    let none : length (reports_of hs) ≡ 0 = omega (arith, c.requires.n_bound) in
    rw (none_reported hs none) record { value = sym (helds_length a.w a.d a.n a.words.now); words_after = rows_fill 64 a.w a.d a.n a.words.now c.requires.rows_in }
