-- `Machine::store_mode_unchecked` meets its contract: it changes the registers alone.
use mathlib.Core.Path.{refl, ◌∙◌}
use Rattle.machine.specs.Calls.{checks_of, effect_of}
use Rattle.machine.specs.declared.record.Call.TheVariants.{StoreMode}
use Rattle.machine.proofs.Answers.{registers_answered}
use Rattle.machine.proofs.record.Machine.store_mode_unchecked.Goals as goal

pub returns : goal.returns
unfolding checks_of effect_of
returns c =
    let a = c.args in
    c.with_registers_where.ensures ∙
    registers_answered a.self (StoreMode a.mode) (rw (c.mode_number-number.ensures, c.privileged.ensures)) refl refl refl
    (rw (c.with_mode.ensures, c.mode_of.ensures))
