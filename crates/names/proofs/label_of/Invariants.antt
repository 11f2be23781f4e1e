-- `label_of` meets its contract. The invariant: seeking in the rest of the list comes to what seeking in all of it does.
use Rattle.std.proofs.Common.{◌≡◌, ◌≤◌, drop}
use Rattle.names.specs.Words.{label_in}
use Rattle.names.proofs.Seeking.{seek}
use Rattle.names.proofs.label_of.Given as goal

abbrev pub invariant-loop-byte : goal.invariant-loop-byte
invariant-loop-byte l = (l.at ≤ l.byte-index) × (l.label ≤ 32) × (seek (drop l.byte-index l.names) l.word l.at l.agrees l.label ≡ label_in l.names l.word)
