-- For `masks::check_pairs`: the pairs that are left decide.
use Rattle.std.proofs.Common.{◌≡◌, drop}
use Rattle.rules.specs.Refusals.{first}
use Rattle.masks.specs.Least.{pair_checks}
use Rattle.masks.proofs.check_pairs.Given as goal

abbrev pub invariant-loop-pair : goal.invariant-loop-pair
invariant-loop-pair l = first (pair_checks l.pages l.pairs) ≡ first (pair_checks l.pages (drop l.pair-index l.pairs))
