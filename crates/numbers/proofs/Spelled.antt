-- What is an answer of the core, and which numbers are listed, written out: a definition that was misread makes the two sides differ.
use Rattle.std.specs.Prelude.{Option}
use Prim.Native.Nat.{ℕ}
use mathlib.Core.Path.{◌≡◌, refl}
use mathlib.Core.List.{List, [], ◌∷◌}
use lib.ListN.{get_or}
use Rattle.rules.specs.Registers.{masked_of}
use Rattle.rules.specs.declared.registers.Registers.{Registers}
use Rattle.machine.specs.Calls.{call_of, unchecked_of}
use Rattle.machine.specs.declared.record.Machine.{Machine}
use Rattle.machine.specs.declared.record.Call.{Call}
use Rattle.image.specs.Load.{load_of}
use Rattle.image.specs.Write.{written_of}
use Rattle.planner.specs.Plan.{plan_of}
use Rattle.masks.specs.Least.{least_mask_of}
use Rattle.run.specs.Records.{unchecked_step_of}
use Rattle.run.specs.Run.{sent}
use Rattle.numbers.specs.Numbers.{Given, every_number, by_call, by_unchecked, by_lent_record, by_load, by_writing, by_step, by_run, by_plan, by_least_mask}

-- RULES 9.1: every answer is among those that `Given` speaks of: on any machine, sound or not, of whatever arguments
pub given_spelled :
    ((m : Machine) (call : Call) → Given (call_of m call).number)
    × ((m : Machine) (call : Call) → Given (unchecked_of m call).number)
    × ((r : Registers) (bits : ℕ) → Given (masked_of r bits).number)
    × ((bytes : List ℕ) → Given (load_of bytes).number)
    × ((m : Machine) (room : ℕ) → Given (written_of m room).number)
    × ((m : Machine) (decoded : Option Call) → Given (unchecked_step_of m decoded).number)
    × ((input : List ℕ) (room i : ℕ) → Given (get_or (sent input room) i 0))
    × ((list : List ℕ) → Given (plan_of list).number)
    × ((m : Machine) (pairs : List ℕ) → Given (least_mask_of m pairs).number)
given_spelled = (by_call, by_unchecked, by_lent_record, by_load, by_writing, by_step, by_run, by_plan, by_least_mask)

-- RULES 9.1: the list, in which 10, 28 and 29 are left out
pub every_number_spelled :
    every_number
    ≡ 0 ∷ 1 ∷ 2 ∷ 3 ∷ 4 ∷ 5 ∷ 6 ∷ 7 ∷ 8 ∷ 9 ∷ 11 ∷ 12 ∷ 13 ∷ 14 ∷ 15 ∷ 16 ∷ 17 ∷ 18 ∷ 19 ∷ 20 ∷ 21 ∷ 22 ∷ 23 ∷ 24 ∷ 25 ∷ 26 ∷ 27
    ∷ 30 ∷ 31 ∷ 32 ∷ 33 ∷ 34 ∷ []
every_number_spelled = refl
