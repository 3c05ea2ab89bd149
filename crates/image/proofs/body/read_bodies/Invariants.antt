-- The loop of `image::body::read_bodies`: the bodies read so far stand in the first places.
use mathlib.Core.Path.{◌≡◌}
use Rattle.image.specs.Bytes.{entries}
use Rattle.image.specs.Description.{pad}
use Rattle.image.proofs.body.read_bodies.Given as goal

abbrev pub invariant-loop-i : goal.invariant-loop-i
invariant-loop-i g l = l.places ≡ pad g.row.N g.T.Body.NONE (entries g.T.Body.SIZE (g.T.Body.read_of l.bytes) l.at l.i)
