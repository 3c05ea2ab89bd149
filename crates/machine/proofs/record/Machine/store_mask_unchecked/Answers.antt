-- `Machine::store_mask_unchecked` meets its contract: it changes the registers alone.
use mathlib.Core.Path.{refl, ◌∙◌}
use Rattle.machine.specs.Calls.{checks_of, effect_of}
use Rattle.machine.specs.declared.record.Call.TheVariants.{StoreMask}
use Rattle.machine.proofs.Answers.{registers_answered}
use Rattle.machine.proofs.record.Machine.store_mask_unchecked.Goals as goal

pub returns : goal.returns
unfolding checks_of effect_of
returns c =
    let a = c.args in
    c.with_registers_where.ensures ∙
    registers_answered a.self (StoreMask a.bits) (rw (c.register_number-number.ensures, c.privileged.ensures)) refl refl refl
    (rw (c.with_mask.ensures))
