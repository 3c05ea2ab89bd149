-- What the count answers (RULES 13.8), as all that is said of an input.
use Rattle.std.specs.Prelude.{ℕ, Bool, true, false, List, replicate, Option, None, Some}
use Rattle.rights.specs.declared.Sums.{Sums}

-- RULES 13.8: whether an input is too long; for each right its column; and how many images do not load
pub record Counted : Type 0 where
  pub long : Bool
  pub reads : List ℕ
  pub writes : List ℕ
  pub refused : ℕ

-- RULES 13.8: what an answer says of an input; none is given where that is too long, and then nothing is counted
abbrev pub counted_as : Option Sums → Counted
counted_as None = record { long = true; reads = replicate 17 0; writes = replicate 17 0; refused = 0 }
counted_as (Some sums) = record { long = false; reads = sums.reads; writes = sums.writes; refused = sums.refused }
