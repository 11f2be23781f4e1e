-- `put_parts` meets its contract: three parts, one after another, are one. Assumes nothing.
use Rattle.std.proofs.Common.{refl, arith, length, ◌++◌}
use lib.ListN.{length-append}
use Rattle.meaning.proofs.Lent.{put_three}
use Rattle.tags.proofs.writer.put_parts.Goals as goal

pub returns : goal.returns
returns c =
    let a = c.args in
    put_three a.at (length a.name.now) a.head.now a.name.now a.tail.now a.out.now _ _ _
    refl (omega (arith, c.requires, length-append a.head.now (a.name.now ++ a.tail.now), length-append a.name.now a.tail.now)) c.put.ensures c.put-2.ensures c.put-3.ensures
