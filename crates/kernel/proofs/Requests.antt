-- Requests one at a time: what is left to serve, and how many were refused so far.
use Prim.Native.Nat.{ℕ, ◌+◌, ◌≤◌, ◌<◌}
use mathlib.Core.Path.{◌≡◌, refl}
use mathlib.Core.Bool.{Bool, true, false, not}
use mir.Val.{bool_byte}
use Rattle.std.specs.Prelude.{nat_eq}
use mathlib.Core.List.{List}
use native.Mathlib.Omega.{arith}
use native.Mathlib.Numerals.{add-one}
use native.Mathlib.Nat.{add_assoc}
use lib.Dec.{eqb}
use lib.ListN.{length, drop, get_or}
use lib.Seq.{drop-cons}
use Rattle.rules.specs.Refusals.{pick}
use Rattle.machine.specs.Calls.{call_of}
use Rattle.machine.specs.declared.record.Machine.{Machine}
use Rattle.kernel.specs.Kernel.{call_for, served_of}
use Rattle.kernel.specs.declared.Request.{Request}
use Rattle.kernel.specs.declared.Served.{Served}

-- what is served in the end: so many refused already, and what the requests that are left come to
abbrev pub onward : ℕ → Served → Served
onward refused rest = record { refused = refused + rest.refused; machine = rest.machine }

-- one request more
pub one_more : (m : Machine) (requests : List Request) (i refused : ℕ) (default : Request) → i < length requests
    → let answer = call_of m (call_for (get_or requests i default)) in
    onward refused (served_of m (drop i requests))
    ≡ onward (refused + pick (eqb answer.number 0) 0 1) (served_of answer.machine (drop (i + 1) requests))
unfolding served_of
one_more m requests i refused default below = rw (add-one, drop-cons requests i default, add_assoc)

-- a refusal counts as one, as the definition has it
pub counted : (number : ℕ) → (bool_byte (not (nat_eq number 0)) ≡ pick (eqb number 0) 0 1) × (pick (eqb number 0) 0 1 ≤ 1)
counted number = split (eqb number 0)
  where
    split : (done : Bool) → (bool_byte (not done) ≡ pick done 0 1) × (pick done 0 1 ≤ 1)
    split true = (refl, omega arith)
    split false = (refl, omega arith)
