-- `kernel::store_current`: that a switch to the current program changes its entry alone is `switch_to_current`, whose premise on the table's length holds of
-- every machine that code has.
use Rattle.std.proofs.Common.{rules, ◌≡◌, ap, sym, ◌∙◌, length}
use Rattle.machine.specs.declared.record.Answered.{Answered}
use Rattle.machine.proofs.Lengths.{mapped_length}
use Rattle.machine.proofs.Readings.{switch_to_current}
use Rattle.kernel.proofs.store_current.Goals as goal

pub returns-clause-machine_value : goal.returns-clause-machine_value
returns-clause-machine_value c =
    let switch = c.switch_to.ensures in
    let eight : length c.args.machine.table ≡ 8 = search (mapped_length, c.well_formed.0, rules) in
    λ done.
    ap (λ (r : Answered). r.machine) switch
    ∙ switch_to_current c.args.machine eight (sym (ap (λ (r : Answered). r.number) switch) ∙ done)
