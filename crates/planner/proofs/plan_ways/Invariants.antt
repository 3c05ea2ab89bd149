-- For `planner::plan_ways`: the ways of the contexts passed end, and each place holds those of them that are its own context or a descendant of it.
use Rattle.std.proofs.Common.{length, ℕ, true, ◌<◌, ◌≡◌}
use Rattle.planner.specs.Ways.{ends}
use Rattle.planner.proofs.Marks.{gathered}
use Rattle.planner.proofs.plan_ways.Given as goal

abbrev pub invariant-loop-context : goal.invariant-loop-context
invariant-loop-context l = record {
  holds_them : l.contexts ≡ gathered l.parents l.context;
  all_end : (k : ℕ) → k < l.context → ends l.parents (length l.parents) k ≡ true;
}
