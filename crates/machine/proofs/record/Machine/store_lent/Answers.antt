-- `Machine::store_lent` meets its contract: it changes the field at the place that it read.
use Rattle.std.proofs.Common.{rules, get_or}
use mathlib.Core.Path.{◌≡◌, refl, ap}
use Rattle.machine.specs.Machine.{with_fields}
use Rattle.machine.specs.Calls.{checks_of, effect_of}
use Rattle.machine.specs.declared.record.Answered.{Answered}
use Rattle.machine.specs.declared.record.Call.TheVariants.{StoreField}
use Rattle.machine.proofs.Answers.{store_answered}
use Rattle.machine.proofs.record.Machine.store_lent.Goals as goal

pub returns : goal.returns
unfolding checks_of effect_of
returns c =
    let a = c.args in
    let read : c.unwrap_or-field.result ≡ get_or a.fields.now c.place-at.result 0 = search rules in
    let answer =
    store_answered (with_fields a.fields.now a.self) (StoreField a.right a.page a.bits) {n = c.field_number-number.result}
    c.place-at.result a.bits read (rw (c.field_number-number.ensures, c.privileged.ensures))
    refl (rw (← c.place-at.ensures)) refl c.chosen.ensures c.store_at.ensures in
    record { value = ap (λ (r : Answered). r.number) answer; fields_after = ap (λ (r : Answered). r.machine.fields) answer }
