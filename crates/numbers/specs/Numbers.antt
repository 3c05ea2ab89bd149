-- Every number that the core answers (RULES, section 9), whatever it is asked.
use Rattle.std.specs.Prelude.{ℕ, Option, List, [], ◌∷◌, get_or}
use Rattle.rules.specs.Registers.{masked_of}
use Rattle.rules.specs.declared.registers.Registers.{Registers}
use Rattle.machine.specs.Calls.{call_of, unchecked_of}
use Rattle.machine.specs.declared.record.Machine.{Machine}
use Rattle.machine.specs.declared.record.Call.{Call}
use Rattle.image.specs.Load.{load_of}
use Rattle.image.specs.Write.{written_of}
use Rattle.planner.specs.Plan.{plan_of}
use Rattle.masks.specs.Least.{least_mask_of}
use Rattle.run.specs.Records.{unchecked_step_of}
use Rattle.run.specs.Run.{sent}

-- RULES 9.1: the core gives a number where one of these answers is that number. Machines, records, bytes and lists are any.
pub data Given : (number : ℕ) → Type 0 where
  -- RULES 2.4, 2.7: a call by value
  by_call : (m : Machine) (call : Call) → Given (call_of m call).number
  -- RULES 2.8, 2.10: a call without the check for 1; where a part is lent it stands in for the machine's own
  by_unchecked : (m : Machine) (call : Call) → Given (unchecked_of m call).number
  -- RULES 2.11: the mask command on a lent register record
  by_lent_record : (r : Registers) (bits : ℕ) → Given (masked_of r bits).number
  -- RULES 5.8: a load
  by_load : (bytes : List ℕ) → Given (load_of bytes).number
  -- RULES 5.15: the writing of an image into so many bytes
  by_writing : (m : Machine) (room : ℕ) → Given (written_of m room).number
  -- RULES 6.7: a step of a run
  by_step : (m : Machine) (decoded : Option Call) → Given (unchecked_step_of m decoded).number
  -- RULES 7.2: an answer of a run, in a buffer of so many bytes; past the last answer 0 stands here
  by_run : (input : List ℕ) (room i : ℕ) → Given (get_or (sent input room) i 0)
  -- RULES 11.4: a plan
  by_plan : (list : List ℕ) → Given (plan_of list).number
  -- RULES 12.4: the least mask
  by_least_mask : (m : Machine) (pairs : List ℕ) → Given (least_mask_of m pairs).number

-- RULES 9.1, 9.2: the numbers. 10, 28 and 29 are not among them, and 10 will not be.
abbrev pub every_number : List ℕ
every_number =
    0 ∷ 1 ∷ 2 ∷ 3 ∷ 4 ∷ 5 ∷ 6 ∷ 7 ∷ 8 ∷ 9 ∷ 11 ∷ 12 ∷ 13 ∷ 14 ∷ 15 ∷ 16 ∷ 17 ∷ 18 ∷ 19 ∷ 20 ∷ 21 ∷ 22 ∷ 23 ∷ 24 ∷ 25 ∷ 26 ∷ 27
    ∷ 30 ∷ 31 ∷ 32 ∷ 33 ∷ 34 ∷ []
