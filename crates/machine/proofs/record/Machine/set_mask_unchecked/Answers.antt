-- `Machine::set_mask_unchecked` meets its contract: it changes the registers alone, as the mask command on the register record does.
use mathlib.Core.Path.{refl, ◌∙◌}
use Rattle.rules.specs.Registers.{masked_of}
use Rattle.machine.specs.Calls.{checks_of, effect_of}
use Rattle.machine.specs.declared.record.Call.TheVariants.{SetMask}
use Rattle.machine.proofs.Answers.{registers_answered}
use Rattle.machine.proofs.record.Machine.set_mask_unchecked.Goals as goal

pub returns : goal.returns
unfolding checks_of effect_of masked_of
returns c =
    let a = c.args in
    let done = c.replace_mask-done.ensures in
    c.silent.ensures ∙ registers_answered a.self (SetMask a.mask) (rw done) refl refl refl (rw done)
