-- `Machine::change_lent` meets its contract: it changes the field at the place that it read, by the bit operation of the call.
use Rattle.std.proofs.Common.{rules, get_or}
use mathlib.Core.Path.{◌≡◌, ap}
use Rattle.machine.specs.Machine.{with_fields}
use Rattle.machine.specs.Calls.{change_checks}
use Rattle.machine.specs.declared.record.Answered.{Answered}
use Rattle.machine.proofs.Answers.{change_answered}
use Rattle.machine.proofs.record.Machine.change_lent.Goals as goal

pub returns : goal.returns
unfolding change_checks
returns c =
    let a = c.args in
    let read : c.unwrap_or-field.result ≡ get_or a.fields.now c.place-at.result 0 = search rules in
    let answer =
    change_answered (with_fields a.fields.now a.self) a.right a.page a.domain a.granting read
    c.place-at.ensures c.number_of_change-number.ensures (rw (c.chosen.ensures, c.changed_bits-changed.ensures)) c.store_at.ensures in
    record { value = ap (λ (r : Answered). r.number) answer; fields_after = ap (λ (r : Answered). r.machine.fields) answer }
