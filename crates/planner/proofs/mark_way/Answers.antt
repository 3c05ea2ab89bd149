-- `planner::mark_way` meets its contract: with no step left and at a context still, the way has not ended.
use Rattle.std.proofs.Common.{◌≡◌, ◌-◌, length, sym, arith}
use Rattle.planner.proofs.Ways.{none_left}
use Rattle.planner.proofs.mark_way.Goals as goal

pub returns-then-at-parents-clause-number : goal.returns-then-at-parents-clause-number
returns-then-at-parents-clause-number c =
    let done : length c.args.parents.now - c.loop-step._step ≡ 0 = omega arith in
    rw (c.loop-step.invariant.answered, done, (none_left c.args.parents.now c.loop-step.at c.args.context c.loop-step.contexts c.if-at-parents.true).0)

pub returns-then-at-parents-clause-contexts_after : goal.returns-then-at-parents-clause-contexts_after
returns-then-at-parents-clause-contexts_after c =
    let done : length c.args.parents.now - c.loop-step._step ≡ 0 = omega arith in
    rw (c.loop-step.invariant.marks, done) (sym (none_left c.args.parents.now c.loop-step.at c.args.context c.loop-step.contexts c.if-at-parents.true).1)
