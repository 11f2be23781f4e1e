-- `accs_for` meets its contract.
use Rattle.engine.proofs.accs_for.Goals as goal

pub returns-in-Open : goal.returns-in-Open
returns-in-Open c = rw (c.accs.ensures, c.trees.ensures, c.in-Open.is)
