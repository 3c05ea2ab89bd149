-- `planner::any_missing` meets its contract: std's word for a test of some element finds what this repository's does.
use Rattle.std.proofs.Common.{rules, length, ◌∙◌}
use Rattle.std.proofs.lemmas.Iterator.{YieldsList-from_slice}
use Rattle.std.proofs.lemmas.Iterator.Search.{any_from_yields_List}
use Rattle.planner.specs.Plan.{is_missing}
use Rattle.planner.proofs.Each.{any_listed}
use Rattle.planner.proofs.any_missing.Goals as goal

pub returns : goal.returns
returns c =
    let missing = is_missing (length c.args.parents.now) in
    any_from_yields_List missing _ _ _ c.any.ensures.ran (YieldsList-from_slice c.args.parents.now cc) (λ parent b q called. search rules)
    ∙ any_listed missing c.args.parents.now
