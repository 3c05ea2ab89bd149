-- `kernel::begin_turn`: the three calls in a row; that none is refused is `turn_begins`, whose premise on the stack's length holds of every machine that code
-- has.
use Rattle.std.proofs.Common.{rules, ◌≡◌, ap, ◌∙◌, arith, length}
use Rattle.machine.specs.Calls.{call_of}
use Rattle.machine.specs.declared.record.Answered.{Answered}
use Rattle.machine.specs.declared.record.Call.TheVariants.{Switch, Return}
use Rattle.machine.proofs.Turn.{turn_begins}
use Rattle.kernel.proofs.begin_turn.Goals as goal

pub returns-clause-result_value : goal.returns-clause-result_value
returns-clause-result_value c =
    let m = c.args.machine in
    let program = c.args.program in
    let long : length m.saved ≡ 8 = search rules in
    λ sound depth below.
    let turn = turn_begins m program sound depth (omega (arith, long)) below in
    let entered = c.enter-entered.ensures ∙ turn.entry in
    let switched = c.switch_to-switched.ensures ∙ ap (λ (r : Answered). call_of r.machine (Switch program)) entered ∙ turn.switch in
    let left = c.leave-left.ensures ∙ ap (λ (r : Answered). call_of r.machine Return) switched ∙ turn.return in (
      ap (λ (r : Answered). r.number) entered,
      ap (λ (r : Answered). r.number) switched,
      ap (λ (r : Answered). r.number) left,
    )
