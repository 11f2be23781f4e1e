-- `names::good` meets its contract. The invariant: whether the rest of the list is good, from the line so far, is whether the
-- list is. Assumes nothing.
use Rattle.std.proofs.Common.{◌≡◌, ◌≤◌, drop}
use Rattle.grammar.specs.Names.{good_names}
use Rattle.names.proofs.Listing.{good_from}
use Rattle.names.proofs.good.Given as goal

abbrev pub invariant-loop-byte : goal.invariant-loop-byte
invariant-loop-byte l = (l.label ≤ l.byte-index) × (good_from l.names (drop l.byte-index l.names) l.word l.label ≡ good_names l.names)
