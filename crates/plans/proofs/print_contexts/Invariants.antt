-- `plans::print_contexts`: so many contexts are printed as the loop has come to.
use Rattle.std.proofs.Common.{◌≡◌}
use Rattle.plans.proofs.print_contexts.Given as goal

abbrev pub invariant-loop-context : goal.invariant-loop-context
invariant-loop-context g l = l.count ≡ l.context-index
