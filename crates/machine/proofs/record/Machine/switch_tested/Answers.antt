-- `Machine::switch_tested` meets its contract: where it is accepted, the current entry is stored before the named one is read.
use mathlib.Core.Path.{◌≡◌, refl, ap, ◌∙◌}
use Rattle.std.proofs.Common.{rules}
use mathlib.Core.List.{List, ◌∷◌}
use lib.ListN.{get_or, set}
use Rattle.rules.specs.Registers.{is_privileged, with_context, with_mask}
use Rattle.rules.specs.Refusals.{◌⇒◌, first}
use Rattle.rules.specs.declared.registers.Mode.{Mode}
use Rattle.machine.specs.Machine.{no_program, with_stack}
use Rattle.machine.specs.Calls.{checks_of, effect_of, switched}
use Rattle.machine.specs.declared.record.Program.{Program}
use Rattle.machine.specs.declared.record.Call.TheVariants.{Switch}
use Rattle.machine.proofs.Answers.{done, kept, with_programs_lem}
use Rattle.machine.proofs.LentParts.{lent_stack}
use Rattle.machine.proofs.record.Machine.switch_tested.Goals.{then-number-eq0, else-number-eq0}
use Rattle.machine.proofs.record.Machine.switch_tested.Goals as goal

pub returns : goal.returns
unfolding checks_of effect_of switched
returns c =
    let own = c.args.self in
    let r = own.registers in
    let program = c.args.program in
    let saved = c.args.saved.now in
    let m = with_stack own.depth saved own in
    let checks = (c.args.unsound ⇒ 1) ∷ checks_of m (Switch program) in
    let number : c.chosen-number.result ≡ first checks =
    rw (c.chosen-number.ensures, c.switch_number.ensures, c.privileged.ensures) in
    let both =
    lent_stack own
    (elim c.if-number-eq0.branch [
      | then-number-eq0 w ↦
          let table = w.store_at.ensures ∙ ap (λ (mode : Mode). set own.table own.current (record { context = r.context; mask = r.mask; mode = mode })) w.saved_mode.ensures in
          let read : w.unwrap_or-named.result ≡ get_or w.store_at.new.items program no_program = search rules in
          let named = read ∙ ap (λ (t : List Program). get_or t program no_program) table in
          done m (Switch program) number w.if-number-eq0.true
          (with_programs_lem m w.current-is (w.table-is ∙ table)
          (w.saved-is ∙ w.store_at-then-number-eq0.ensures ∙ ap (set saved 0) w.privileged-then-number-eq0.ensures ∙ ap (λ (p : Program). set saved 0 (is_privileged p.mode)) named)
          (w.registers-is ∙ w.with_context-registers.ensures ∙ ap (with_context w.unwrap_or-named.result.context) w.with_mask.ensures
          ∙ ap (λ (p : Program). with_context p.context (with_mask p.mask r)) named)) refl
      | else-number-eq0 w ↦
          kept m (Switch program) checks number refl w.if-number-eq0.false (with_programs_lem m w.current-is w.table-is w.saved-is w.registers-is)
    ])
    refl in
    record { value = both.0; saved_after = both.1 }
