-- `leastmask::print_cases`: each case takes two bytes at least, so that the measure is what is left of the bytes.
use Rattle.std.proofs.Common.{length, ◌+◌, ◌≤◌}
use Rattle.leastmask.proofs.print_cases.Given as goal

abbrev pub invariant-loop-case : goal.invariant-loop-case
invariant-loop-case g l = l.which + length l.rest ≤ length l.bytes + 1

abbrev pub decreases-loop-case : goal.decreases-loop-case
decreases-loop-case g l = length l.rest
