-- The loop of `image::body::write_bodies`: the bodies that are left, stored from here on, give the bytes that are promised.
use Rattle.image.proofs.Stored.{Storing}
use Rattle.image.proofs.body.write_bodies.Given as goal

abbrev pub invariant-loop-i : goal.invariant-loop-i
invariant-loop-i g l = Storing g.T.Body.SIZE g.T.Body.bytes_of g.T.Body.NONE l.count l.items l.initial.out l.out l.i
