-- For `planner::mark_way`: from where the loop stands, the rest of the way answers and marks what the whole way does.
use Rattle.std.proofs.Common.{length, ◌≡◌, ◌-◌}
use Rattle.planner.specs.Ways.{ends, marked}
use Rattle.planner.proofs.mark_way.Given as goal

abbrev pub invariant-loop-step : goal.invariant-loop-step
invariant-loop-step l = record {
  answered : ends l.parents (length l.parents) l.context ≡ ends l.parents (length l.parents - l._step) l.at;
  marks : marked l.parents (length l.parents) l.context l.context l.fn.contexts ≡ marked l.parents (length l.parents - l._step) l.at l.context l.contexts;
}
