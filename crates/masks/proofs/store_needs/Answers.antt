-- `masks::store_needs` meets its contract: the next need goes behind those that are stored.
use Rattle.std.proofs.Common.{arith}
use Rattle.masks.specs.Search.{need_of}
use Rattle.masks.proofs.Lists.{needs_next}
use Rattle.masks.proofs.store_needs.Goals as goal

pub loop-i-preserved : goal.loop-i-preserved
loop-i-preserved c =
    rw (c.loop-i.invariant, c.need_of.ensures)
    (needs_next (need_of c.args.machine.now.fields c.args.machine.now.registers.context) c.args.pairs.now c.args.needs.now c.loop-i.i (omega arith) (omega arith))
