-- `rules::domains::holds_domain` meets its contract: a set holds a domain exactly where the digit of its number is set, and none past the last.
use Rattle.std.proofs.Common.{sym}
use Rattle.rules.proofs.Laws.{no_domain_held}
use Rattle.rules.proofs.Lowest.{held_moved}
use Rattle.rules.proofs.domains.holds_domain.Goals as goal

pub returns-then-s-lt16 : goal.returns-then-s-lt16
returns-then-s-lt16 c = held_moved _ _ c.if-s-lt16.true

pub returns : goal.returns
returns c = sym (no_domain_held c.args.set _ c.if-s-lt16.false)
