-- `leastmask::store_pairs`: one more pair stands behind the others (`entries_stored`).
use Rattle.std.proofs.Common.{arith}
use Rattle.leastmask.specs.Asked.{pair_at}
use Rattle.leastmask.proofs.Pairs.{entries_stored}
use Rattle.leastmask.proofs.store_pairs.Goals as goal

pub loop-i-preserved : goal.loop-i-preserved
loop-i-preserved c =
    rw (c.loop-i.invariant, c.pair_at.ensures) (entries_stored 4 (pair_at c.args.bytes.now) c.args.pairs.now c.loop-i.i (omega (arith, c.requires.bytes_in_bounds)))
