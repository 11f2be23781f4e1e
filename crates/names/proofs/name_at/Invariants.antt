-- `name_at` meets its contract. The invariant: what the rest of the list comes to, from the line so far, is what all of it
-- comes to.
use Rattle.std.proofs.Common.{◌≡◌, drop}
use Rattle.names.specs.Words.{no_word, word_from}
use Rattle.names.proofs.name_at.Given as goal

abbrev pub invariant-loop-byte : goal.invariant-loop-byte
invariant-loop-byte l = word_from l.word (drop l.byte-index l.names) l.lines ≡ word_from no_word l.names l.label
