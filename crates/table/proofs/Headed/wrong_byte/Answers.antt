-- `wrong_byte` meets its contract: what it searches are the body's bytes, against the body's limit. Assumes nothing.
use mathlib.Core.Path.{◌≡◌, ◌∙◌}
use native.Mathlib.Omega.{arith}
use Rattle.std.proofs.Common.{rules}
use Rattle.bodies.specs.Sound.{states_in, labels_in}
use Rattle.offsets.proofs.Bounds.{body_within, place_same, length_same}
use Rattle.table.specs.File.{body_limit}
use Rattle.table.proofs.Bytes.{body_searched}
use Rattle.table.proofs.Headed.wrong_byte.Goals as goal

pub returns : goal.returns
returns c =
    let f = c.args.self.now.file.now in
    let i = c.args.i in
    let begins = c.body_at.ensures ∙ place_same c.sizes-sizes.ensures.states c.sizes-sizes.ensures.labels i in
    let size = c.body_length.ensures ∙ length_same c.sizes-sizes.ensures.states c.sizes-sizes.ensures.labels i in
    let limit : c.if-i-lt4.limit ≡ body_limit (states_in f) i = search rules in
    let same : c.map.result ≡ c.first_above.result = search rules in
    same ∙ c.first_above.ensures
    ∙ body_searched f i _ _ _ begins size limit (omega (arith, begins, size, c.requires.whole, body_within (states_in f) (labels_in f) i c.requires.kind))
