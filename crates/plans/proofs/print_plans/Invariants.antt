-- `plans::print_plans`: each list takes two bytes at least, so that the measure is what is left of the bytes.
use Rattle.std.proofs.Common.{length, ◌+◌, ◌≤◌}
use Rattle.plans.proofs.print_plans.Given as goal

abbrev pub invariant-loop-head : goal.invariant-loop-head
invariant-loop-head g l = l.which + length l.rest ≤ length l.bytes + 1

abbrev pub decreases-loop-head : goal.decreases-loop-head
decreases-loop-head g l = length l.rest
