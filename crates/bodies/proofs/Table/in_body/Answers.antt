-- `in_body` meets its contract: the byte is inside the file, and its place is the specification's. Assumes nothing.
use mathlib.Core.Path.{◌≡◌, ◌∙◌}
use Prim.Native.Nat.{◌+◌, ◌<◌}
use native.Mathlib.Omega.{arith}
use lib.ListN.{length}
use Rattle.bodies.proofs.Inside.{byte_inside}
use Rattle.bodies.specs.Sound.{states_in, labels_in}
use Rattle.meaning.specs.Table.{body_at}
use Rattle.offsets.proofs.Bounds.{place_same}
use Rattle.bodies.proofs.Table.in_body.Goals as goal

-- The body begins where the specification has it.
place :
    (c : goal.After-body_at) →
    c.body_at.result ≡ body_at (states_in c.args.self.now.file.now) (labels_in c.args.self.now.file.now) c.args.i
place c = c.body_at.ensures ∙ place_same c.sizes.ensures.states c.sizes.ensures.labels c.args.i

inside :
    (c : goal.After-body_at) →
    c.body_at.result + c.args.j < length c.args.self.now.file.now
inside c = byte_inside c.args.self.now.sound c.args.i c.requires.0 c.body_at.result c.args.j (place c) c.requires.1

pub overflow_add-body_at : goal.overflow_add-body_at
overflow_add-body_at c = omega (arith, inside c)

pub byte-requires : goal.byte-requires
byte-requires c = inside c

pub returns : goal.returns
returns c =
    rw (c.body_at.ensures ∙ place_same c.sizes.ensures.states c.sizes.ensures.labels c.args.i) at c.byte.ensures
