-- `Machine::switch_to` meets its contract: the call on the machine's own stack, behind the test for soundness.
use mathlib.Core.Path.{refl, ◌∙◌}
use Rattle.machine.specs.Calls.{call_of, effect_of, switched}
use Rattle.machine.specs.declared.record.Call.TheVariants.{Switch}
use Rattle.machine.proofs.LentParts.{stack_own}
use Rattle.machine.proofs.record.Machine.switch_to.Goals as goal

pub returns : goal.returns
unfolding call_of effect_of switched
returns c =
    let made = c.switch_tested-answer.ensures in
    c.with_saved.ensures ∙ rw (made.value, made.saved_after, c.sound.ensures) (stack_own _ (Switch _) _ refl)
