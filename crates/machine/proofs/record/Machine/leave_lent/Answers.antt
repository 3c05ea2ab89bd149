-- `Machine::leave_lent` meets its contract: where it is accepted, the place below the depth is read and emptied.
use Rattle.std.proofs.Common.{rules}
use Prim.Native.Nat.{ℕ, ◌-◌}
use mathlib.Core.Path.{◌≡◌, refl, ap, ◌∙◌}
use mathlib.Core.Bool.{false}
use lib.ListN.{get_or, set}
use Rattle.rules.specs.Registers.{mode_where, with_mode}
use Rattle.rules.specs.declared.registers.Mode.{Mode}
use Rattle.machine.specs.Machine.{with_stack}
use Rattle.machine.specs.Calls.{unchecked_of, checks_of, effect_of, returned, own_number_of}
use Rattle.machine.specs.declared.record.Call.TheVariants.{Return}
use Rattle.machine.proofs.Answers.{done, kept, with_stack_lem}
use Rattle.machine.proofs.LentParts.{lent_stack}
use Rattle.machine.proofs.record.Machine.leave_lent.Goals.{then-number-eq0, else-number-eq0}
use Rattle.machine.proofs.record.Machine.leave_lent.Goals as goal

pub returns : goal.returns
unfolding unchecked_of checks_of effect_of returned
returns c =
    let own = c.args.self in
    let saved = c.args.saved.now in
    let m = with_stack own.depth saved own in
    let number : c.return_number-number.result ≡ own_number_of m Return = rw (c.return_number-number.ensures, c.privileged.ensures) in
    let both =
    lent_stack own
    (elim c.if-number-eq0.branch [
      | then-number-eq0 w ↦
          let top : w.saturating_sub-depth.result ≡ own.depth - 1 = search rules in
          let last = w.saved_mode-mode.ensures ∙ ap (λ (k : ℕ). mode_where (get_or saved k false)) top in
          done m Return number w.if-number-eq0.true
          (with_stack_lem m (w.depth-is ∙ top) (w.saved-is ∙ w.store_at.ensures ∙ ap (λ (k : ℕ). set saved k false) top)
          (w.registers-is ∙ w.with_mode-registers.ensures ∙ ap (λ (mode : Mode). with_mode mode own.registers) last)) refl
      | else-number-eq0 w ↦
          kept m Return (checks_of m Return) number refl w.if-number-eq0.false (with_stack_lem m w.depth-is w.saved-is w.registers-is)
    ])
    refl in
    record { value = both.0; saved_after = both.1 }
