-- What the calls of a run are answered: a loaded machine is sound and stays so, so each answer is 18 or one of the numbers of a sound machine.
use Rattle.std.specs.Prelude.{Option, Some, None}
use Rattle.machine.specs.declared.record.Call.{Call}
use Prim.Native.Nat.{ℕ, zero, suc}
use mathlib.Core.Path.{◌≡◌, refl}
use mathlib.Core.Bool.{Bool, true, false, ◌||◌}
use mathlib.Core.List.{List, [], ◌∷◌}
use borrow.Author.Tests.{eqb-true}
use lib.Dec.{eqb}
use lib.ListN.{get_or}
use Rattle.rules.specs.Refusals.{pick}
use Rattle.machine.specs.Machine.{is_sound}
use Rattle.machine.specs.Calls.{call_of}
use Rattle.machine.specs.Listed.{is_in, sound_numbers}
use Rattle.machine.specs.declared.record.Machine.{Machine}
use Rattle.machine.proofs.Laws.{sound_number}
use Rattle.image.proofs.Loaded.{loaded}
use Rattle.run.specs.Records.{calls_of, step_by, step_of}
use Rattle.run.specs.Run.{image_of, call_bytes, steps_from, numbers_of, call_steps, call_answers, loaded_of}
use Rattle.run.proofs.Steps.{step_sound}

step_given : (m : Machine) (call : Option Call) → is_sound m ≡ true → is_in (step_of m call).number (18 ∷ sound_numbers) ≡ true
unfolding step_by
step_given m (Some call) s = either (eqb (call_of m call).number 18) (is_in (call_of m call).number sound_numbers) (sound_number m call s)
  where
    either : (a b : Bool) → b ≡ true → a || b ≡ true
    either true b h = refl
    either false b h = h
step_given m None s = refl

-- where there is no answer 0 stands
pub none_given : (l : List ℕ) (i : ℕ) → is_in 0 l ≡ true → is_in (get_or {A = ℕ} [] i 0) l ≡ true
none_given l zero h = h
none_given l (suc i) h = h

from_given : (m : Machine) (calls : List (Option Call)) (i : ℕ) → is_sound m ≡ true → is_in (get_or (numbers_of (steps_from m calls)) i 0) (18 ∷ sound_numbers) ≡ true
unfolding steps_from
from_given m [] i s = none_given (18 ∷ sound_numbers) i refl
from_given m (call ∷ rest) zero s = step_given m call s
from_given m (call ∷ rest) (suc i) s = from_given (step_of m call).machine rest i (step_sound m call s)

-- RULES 9.3: the answer of every call of a run, 0 standing past the last: 1 is not among them
pub answers_given : (input : List ℕ) (i : ℕ) → is_in (get_or (call_answers input) i 0) (18 ∷ sound_numbers) ≡ true
unfolding call_steps
answers_given input i = split (eqb (loaded_of input).number 0) refl
  where
    split : (b : Bool) → eqb (loaded_of input).number 0 ≡ b
        → is_in (get_or (numbers_of (pick b (steps_from (loaded_of input).machine (calls_of (call_bytes input))) [])) i 0) (18 ∷ sound_numbers) ≡ true
    split true e = from_given (loaded_of input).machine (calls_of (call_bytes input)) i (loaded (image_of input) (eqb-true _ 0 e)).sound
    split false e = none_given (18 ∷ sound_numbers) i refl
