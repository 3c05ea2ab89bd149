-- `Machine::access_lent` meets its contract: it changes the flag and the last violation alone, its number is that of the conditions, and by it and the mode
-- it names a domain or none.
use mathlib.Core.Path.{◌≡◌, ap, ◌∙◌}
use borrow.Author.Tests.{eq-eqb, ne_eqb}
use lib.Dec.{eqb}
use native.Mathlib.Nat.{add-zero}
use Rattle.rules.specs.Registers.{with_pending}
use Rattle.rules.specs.Refusals.{pick}
use mathlib.Core.Bool.{true}
use Rattle.machine.specs.Machine.{with_fields}
use Rattle.machine.specs.Calls.{keeping, checks_of, last_after_violation}
use Rattle.machine.specs.declared.record.Violations.{Violations}
use Rattle.machine.specs.declared.record.Call.TheVariants.{Access}
use Rattle.machine.proofs.Answers.{access_answered}
use Rattle.machine.proofs.record.Machine.access_lent.Goals.{then-number-eq-VIOLATION, else-number-eq-VIOLATION}
use Rattle.machine.proofs.record.Machine.access_lent.Goals as goal

pub returns : goal.returns
unfolding checks_of
returns c =
    let a = c.args in
    let n = c.number_of_access-number.result in
    let m = with_fields a.fields.now a.self in
    let registers : c.if-number-eq-VIOLATION.registers ≡ pick (eqb n 9) (with_pending true m.registers) m.registers =
    elim c.if-number-eq-VIOLATION.branch [
      | then-number-eq-VIOLATION w ↦ w.registers-is ∙ w.with_pending-registers.ensures ∙ rw (eq-eqb n 9 w.if-number-eq-VIOLATION.true)
      | else-number-eq-VIOLATION w ↦ w.registers-is ∙ rw (ne_eqb n 9 w.if-number-eq-VIOLATION.false)
    ] in
    let last : c.if-number-eq-VIOLATION.violations.last ≡ pick (eqb n 9) (last_after_violation m (Access a.width a.right a.address)) m.violations.last =
    elim c.if-number-eq-VIOLATION.branch [
      | then-number-eq-VIOLATION w ↦ ap (λ (v : Violations). v.last) w.violations-is ∙ rw (eq-eqb n 9 w.if-number-eq-VIOLATION.true)
      | else-number-eq-VIOLATION w ↦ ap (λ (v : Violations). v.last) w.violations-is ∙ rw (ne_eqb n 9 w.if-number-eq-VIOLATION.false)
    ] in
    ap (keeping a.self)
    (access_answered m a.width a.right a.address c.number_of_access-number.ensures registers last
    (c.report_through-report.ensures ∙ rw (c.field_at-field.ensures, add-zero a.address, c.local.ensures, c.privileged.ensures)))
