-- `rules::domains::domain_count` meets its contract: a set has no more digits than sixteen.
use Rattle.rules.proofs.Counted.{ones_counted}
use Rattle.rules.proofs.domains.domain_count.Goals as goal

pub returns : goal.returns
returns c = ones_counted 16 c.args.set c.ranges.set.fits
