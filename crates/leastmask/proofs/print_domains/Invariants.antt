-- `leastmask::print_domains`: the count is that of the domains below s.
use Rattle.std.proofs.Common.{◌≡◌}
use lib.Count.{ones_in}
use Rattle.leastmask.proofs.print_domains.Given as goal

abbrev pub invariant-loop-s : goal.invariant-loop-s
invariant-loop-s g l = l.count ≡ ones_in l.s l.mask
