-- `leastmask::store_pairs`: the first i pairs are stored, and the rest of the slice is as it was.
use Rattle.std.proofs.Common.{◌≡◌, ◌++◌, drop}
use Rattle.image.specs.Bytes.{entries}
use Rattle.leastmask.specs.Asked.{pair_at}
use Rattle.leastmask.proofs.store_pairs.Given as goal

abbrev pub invariant-loop-i : goal.invariant-loop-i
invariant-loop-i l = l.pairs ≡ entries 4 (pair_at l.bytes) 0 l.i ++ drop l.i l.fn.pairs
