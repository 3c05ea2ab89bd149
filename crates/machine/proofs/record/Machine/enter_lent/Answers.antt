-- `Machine::enter_lent` meets its contract: below depth 8 the entry is accepted, and only there.
use mathlib.Core.Path.{◌≡◌, refl, ap, ◌∙◌}
use native.Mathlib.Omega.{arith}
use borrow.Author.Tests.{lt-ltb, le-ltb}
use Rattle.rules.specs.Registers.{with_mode}
use Rattle.rules.specs.declared.registers.Mode.TheVariants.{Privileged}
use Rattle.machine.specs.Machine.{with_stack}
use Rattle.machine.specs.Calls.{unchecked_of, checks_of, effect_of, entered, own_number_of}
use Rattle.machine.specs.declared.record.Call.TheVariants.{Enter}
use Rattle.machine.proofs.Answers.{done, kept, with_stack_lem}
use lib.ListN.{set}
use Rattle.machine.proofs.LentParts.{lent_stack}
use Rattle.machine.proofs.record.Machine.enter_lent.Goals.{then-depth-lt-DEPTH, else-depth-lt-DEPTH}
use Rattle.machine.proofs.record.Machine.enter_lent.Goals as goal

pub returns : goal.returns
unfolding unchecked_of checks_of effect_of entered
returns c =
    let own = c.args.self in
    let m = with_stack own.depth c.args.saved.now own in
    let n = c.entry_number-number.result in
    let number : n ≡ own_number_of m Enter = c.entry_number-number.ensures in
    let both =
    lent_stack own
    (elim c.if-depth-lt-DEPTH.branch [
      | then-depth-lt-DEPTH w ↦
          done m Enter number (number ∙ rw (lt-ltb own.depth 8 w.if-depth-lt-DEPTH.true))
          (with_stack_lem m w.depth-is (w.saved-is ∙ w.store_at.ensures ∙ ap (set c.args.saved.now own.depth) w.privileged.ensures)
          (w.registers-is ∙ w.with_mode-registers.ensures ∙ ap (with_mode Privileged) w.with_pending.ensures)) refl
      | else-depth-lt-DEPTH w ↦
          kept m Enter (checks_of m Enter) number refl
          (λ z. let full : n ≡ 13 = number ∙ rw (le-ltb own.depth 8 w.if-depth-lt-DEPTH.false) in omega (arith, full, z))
          (with_stack_lem m w.depth-is w.saved-is w.registers-is)
    ])
    refl in
    record { value = both.0; saved_after = both.1 }
