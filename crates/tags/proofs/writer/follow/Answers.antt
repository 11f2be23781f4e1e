use Rattle.std.proofs.Common.{◌∙◌}
use Rattle.tags.proofs.Following.{follow_is}
use Rattle.tags.proofs.writer.follow.Goals as goal

pub returns : goal.returns
returns c = c.feed.ensures.value ∙ follow_is c.args.names.now c.args.room c.args.scribe c.args.events.now
