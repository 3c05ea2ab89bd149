-- `planner::plan_ways` meets its contract: the first way that leads round is what the plan is refused for.
use Rattle.std.proofs.Common.{arith}
use Rattle.std.proofs.lemmas.Result.{err_from_is_err_and}
use Rattle.planner.proofs.Marks.{planned_round}
use Rattle.planner.proofs.plan_ways.Goals as goal

pub returns-in_err-mark_way-clause-number : goal.returns-in_err-mark_way-clause-number
returns-in_err-mark_way-clause-number c =
    let refused = err_from_is_err_and c.from_residual.result c.from_residual.ensures.1 in
    rw (refused.1, refused.2) (grind (arith, planned_round))

pub returns-in_err-mark_way-clause-contexts : goal.returns-in_err-mark_way-clause-contexts
returns-in_err-mark_way-clause-contexts c =
    let refused = err_from_is_err_and c.from_residual.result c.from_residual.ensures.1 in
    rw refused.1 (grind (arith, planned_round))
