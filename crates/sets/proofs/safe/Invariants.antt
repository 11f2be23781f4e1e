-- `safe` meets its contract. The invariant: y has the states passed whose acc lies in x.
use mathlib.Core.Path.{◌≡◌}
use lib.ListN.{get_or}
use Rattle.meaning.specs.Masks.{within, collect}
use Rattle.sets.proofs.safe.Given as goal

abbrev pub invariant-loop-q : goal.invariant-loop-q
invariant-loop-q l = l.y ≡ collect l.q (λ r. within (get_or l.accs r 0) l.x)
