-- `leastmask::print_domains`: before the first domain none is counted.
use Rattle.std.proofs.Common.{refl}
use lib.Count.{ones_in}
use Rattle.leastmask.proofs.print_domains.Goals as goal

pub loop-s-init : goal.loop-s-init
unfolding ones_in
loop-s-init g c = refl
