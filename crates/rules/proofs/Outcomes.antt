-- What the number of an outcome tells of it: 0 is that of one that nothing refuses, and of no other.
use mathlib.Core.Path.{◌≡◌}
use mathlib.Core.Bool.{true, false}
use native.Mathlib.Omega.{arith}
use lib.Dec.{eqb}
use Rattle.std.specs.Prelude.{Result, is_ok}
use Rattle.rules.specs.Refusals.{refusal_number, outcome_number}
use Rattle.rules.specs.declared.refusals.Refusal.{Refusal}

-- no refusal has the number 0
pub refused : (refusal : Refusal) → eqb (refusal_number refusal) 0 ≡ false
refused refusal = grind arith

module _ {A : Type 0} where
  pub done_where : (outcome : Result A Refusal) → is_ok outcome ≡ eqb (outcome_number outcome) 0
  done_where outcome = grind (arith, refused)

  pub done_zero : (outcome : Result A Refusal) → is_ok outcome ≡ true → outcome_number outcome ≡ 0
  done_zero outcome ok = grind arith
