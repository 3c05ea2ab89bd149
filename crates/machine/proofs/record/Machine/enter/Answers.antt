-- `Machine::enter` meets its contract: the call on the machine's own stack, behind the test for soundness.
use mathlib.Core.Path.{refl, ap, ◌∙◌}
use mathlib.Core.Bool.{not}
use Rattle.machine.specs.Calls.{unchecked_of, effect_of, entered}
use Rattle.machine.specs.declared.record.Call.TheVariants.{Enter}
use Rattle.machine.proofs.LentParts.{stack_own}
use Rattle.machine.proofs.Answers.{sound_answers}
use Rattle.machine.proofs.record.Machine.enter.Goals as goal

pub returns : goal.returns
unfolding unchecked_of effect_of entered
returns c =
    let made = c.enter_lent-answer.ensures in
    sound_answers _ _ c.sound.ensures (ap not c.if-not-sound.false)
    (c.with_saved.ensures ∙ rw (made.value, made.saved_after) (stack_own _ Enter _ refl))
