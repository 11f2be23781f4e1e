use Rattle.std.proofs.Common.{rules, sym, subst}
use Rattle.std.specs.Io.KnownBytes.{Consumes}
use Rattle.std.proofs.KnownBytes.{Consumes-trans}
use Rattle.pipes.proofs.Parts.{take_filled}
use Rattle.pipes.proofs.read_full.Goals as goal

pub loop-size-preserved : goal.loop-size-preserved
loop-size-preserved g c =
    let read = c.read_some-bytes in
    let joined = take_filled _ _ _ _ _ c.loop-size.invariant.0 read.ensures.within.0 in
    (search rules, search rules, subst (Consumes _ _) (sym joined) (Consumes-trans _ _ _ _ _ c.loop-size.invariant.2 read.ensures.bytes))
