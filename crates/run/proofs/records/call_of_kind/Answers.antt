-- `run::records::call_of_kind` meets its contract: past the arms the table has no entry.
use native.Mathlib.Omega.{arith}
use Rattle.run.proofs.Steps.{unknown_kind}
use Rattle.run.proofs.records.call_of_kind.Goals as goal

pub returns-in_default : goal.returns-in_default
returns-in_default c =
    let a = c.args in
    unknown_kind a.kind a.right a.a a.b (λ none. omega (arith, none, c.in_default))
