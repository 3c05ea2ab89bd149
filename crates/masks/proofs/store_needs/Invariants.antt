-- For `masks::store_needs`: the first i needs are stored, and the rest of the slice is as it was.
use Rattle.std.proofs.Common.{◌≡◌, map, ◌++◌, take, drop}
use Rattle.masks.specs.Search.{need_of}
use Rattle.masks.proofs.store_needs.Given as goal

abbrev pub invariant-loop-i : goal.invariant-loop-i
invariant-loop-i l = l.needs ≡ map (need_of l.machine.fields l.machine.registers.context) (take l.i l.pairs) ++ drop l.i l.fn.needs
