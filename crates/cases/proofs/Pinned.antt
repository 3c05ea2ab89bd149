-- What the definitions of the cases of writing come to on the sample node and on a small one: all is computed and written out.
use Rattle.std.specs.Prelude.{Option, Some, None}
use Rattle.machine.specs.declared.record.Call.{Call}
use mathlib.Core.Path.{◌≡◌, refl}
use mathlib.Core.Bool.{Bool, true, false}
use mathlib.Core.List.{List, [], ◌∷◌, ◌++◌, map}
use Prim.Native.Nat.{ℕ, ◌+◌, ◌*◌, ◌/◌, ◌%◌, min}
use lib.Dec.{eqb}
use lib.ListN.{replicate, get_or, drop}
use Rattle.rules.specs.Refusals.{pick}
use Rattle.rules.specs.declared.registers.Mode.{Mode}
use Rattle.rules.specs.declared.registers.Mode.TheVariants.{User, Privileged}
use Rattle.machine.specs.Machine.{is_sound, with_last}
use Rattle.machine.specs.Calls.{call_of, checks_of, access_checks, effect_of, entered, after}
use Rattle.machine.specs.declared.record.Machine.{Machine}
use Rattle.machine.specs.declared.record.Call.TheVariants.{SetMask, Enter}
use Rattle.machine.proofs.Written.{stored, live, denied, whole}
use Rattle.image.specs.Description.{machine_of, bytes_of}
use Rattle.image.specs.Load.{load_of, load_checks, length_tests, kind_tests, shape_entry_tests, shape_tests, body_tests, describe}
use Rattle.image.specs.Sample.{sample_bytes}
use Rattle.image.specs.Write.{description_of, write_checks, written_bytes, written_of}
use Rattle.image.proofs.Pinned.{nothing}
use Rattle.run.specs.Records.{call_of_kind, calls_of, step_by, step_of}
use Rattle.run.specs.Run.{image_of, call_bytes}
use Rattle.cases.specs.Writing.{room_of, digit_of, digits_of, machine_after, held_of, again_of, rewritten_of}

-- the room stands in two bytes, high byte first, of which some may be missing, and is 640 at most
pub rooms_read :
    map room_of ([] ∷ (2 ∷ []) ∷ (0 ∷ 44 ∷ 9 ∷ []) ∷ (1 ∷ 2 ∷ []) ∷ (2 ∷ 128 ∷ []) ∷ (2 ∷ 129 ∷ []) ∷ (255 ∷ 255 ∷ []) ∷ [])
    ≡ 0 ∷ 512 ∷ 44 ∷ 258 ∷ 640 ∷ 640 ∷ 640 ∷ []
rooms_read = refl

-- the digits are 0 to 9 and A to F, the high one first
pub digits_printed :
    (map digit_of (0 ∷ 1 ∷ 9 ∷ 10 ∷ 15 ∷ []) ≡ 0x30 ∷ 0x31 ∷ 0x39 ∷ 0x41 ∷ 0x46 ∷ [])
    × (map digits_of (0x00 ∷ 0x09 ∷ 0xEE ∷ 0xA5 ∷ 0xFF ∷ [])
    ≡ (0x30 ∷ 0x30 ∷ []) ∷ (0x30 ∷ 0x39 ∷ []) ∷ (0x45 ∷ 0x45 ∷ []) ∷ (0x41 ∷ 0x35 ∷ []) ∷ (0x46 ∷ 0x46 ∷ []) ∷ [])
digits_printed = (refl, refl)

-- the same for any bytes
pub room_spelled : (bytes : List ℕ) → room_of bytes ≡ min (256 * get_or bytes 0 0 + get_or bytes 1 0) 640
room_spelled bytes = refl

pub digits_spelled : (byte : ℕ)
    → (map digit_of (0 ∷ 1 ∷ 2 ∷ 3 ∷ 4 ∷ 5 ∷ 6 ∷ 7 ∷ 8 ∷ 9 ∷ 10 ∷ 11 ∷ 12 ∷ 13 ∷ 14 ∷ 15 ∷ [])
    ≡ 0x30 ∷ 0x31 ∷ 0x32 ∷ 0x33 ∷ 0x34 ∷ 0x35 ∷ 0x36 ∷ 0x37 ∷ 0x38 ∷ 0x39 ∷ 0x41 ∷ 0x42 ∷ 0x43 ∷ 0x44 ∷ 0x45 ∷ 0x46 ∷ [])
    × (digits_of byte ≡ digit_of (byte / 16) ∷ digit_of (byte % 16) ∷ [])
digits_spelled byte = (refl, refl)

-- the two rounds of any image, calls, room and case
pub rounds_spelled : (image calls bytes : List ℕ) (room : ℕ)
    → let loads = load_of image in
    let input = drop 2 bytes in
    let read = min (256 * get_or bytes 0 0 + get_or bytes 1 0) 640 in
    (held_of image calls ≡ pick (eqb loads.number 0) (machine_after loads.machine (calls_of calls)) loads.machine)
    × (again_of image calls room ≡ held_of (written_bytes (held_of image calls) room) calls)
    × (rewritten_of bytes ≡ (written_of (again_of (image_of input) (call_bytes input) read) read).count)
unfolding held_of again_of rewritten_of
rounds_spelled image calls bytes room = (refl, refl, refl)

-- one page and one program
abbrev small : ℕ → ℕ → Mode → Machine
small depth mask mode = whole 1 5 (1 ∷ 0 ∷ []) (live 1 mask mode false) depth (false ∷ []) 1 0 (stored 1 1 User ∷ [])

-- each call is made on the machine that the one before it left, also after a record that is none: the mask command in privileged mode is refused
pub calls_followed :
    let m = small 0 1 User in
    (machine_after m [] ≡ m)
    × (machine_after m (Some (SetMask 7) ∷ None ∷ Some Enter ∷ []) ≡ small 1 7 Privileged)
    × (machine_after m (Some Enter ∷ Some (SetMask 7) ∷ []) ≡ small 1 1 Privileged)
unfolding machine_after step_by call_of checks_of effect_of entered after is_sound
calls_followed = (refl, refl, refl)

-- calls on any machine, one step: whatever the answer, the next one is made on the machine that it left
pub call_followed : (m : Machine) (call : Option Call) (rest : List (Option Call))
    → (machine_after m [] ≡ m) × (machine_after m (call ∷ rest) ≡ machine_after (step_of m call).machine rest)
unfolding machine_after
call_followed m call rest = (refl, refl)

-- the sample node, by its live and its stored mask of program 0 and the flag
abbrev node : ℕ → ℕ → Bool → Machine
node mask first pending =
    whole 3 8 (0x0009 ∷ 0x0000 ∷ 0x000A ∷ 0x0002 ∷ 0x000C ∷ 0x0004 ∷ replicate 250 0) (live 7 mask User pending) 0 (replicate 8 false) 2 0
    (stored 7 first User ∷ stored 8 0xFFFF User ∷ replicate 6 (stored 0 0 User))

-- READ of address 256, which domain 1 holds, and a mask without domain 1; then a remainder
abbrev calls : List ℕ
calls = 0x01 ∷ 0x00 ∷ 0x00 ∷ 0x00 ∷ 0x01 ∷ 0x00 ∷ 0x04 ∷ 0x00 ∷ 0x00 ∷ 0x00 ∷ 0x00 ∷ 0x01 ∷ 0x05 ∷ []

-- where the image loads, the calls are made on it; where not, the machine is all zero
pub machines_held :
    (held_of sample_bytes [] ≡ node 3 3 false) × (held_of sample_bytes calls ≡ node 1 3 false) × (held_of [] calls ≡ nothing)
unfolding held_of machine_after calls_of call_of_kind step_by sample_bytes load_of load_checks length_tests kind_tests shape_entry_tests shape_tests body_tests describe machine_of call_of checks_of access_checks effect_of after is_sound
machines_held = (refl, refl, refl)

-- the second round starts with the mask that the first left, so that its access is a violation; where nothing was written, nothing loads
pub machines_again : (again_of sample_bytes calls 44 ≡ with_last (denied 0 0 256) (node 1 1 true)) × (again_of sample_bytes calls 43 ≡ nothing)
unfolding again_of held_of machine_after calls_of call_of_kind step_by sample_bytes load_of load_checks length_tests kind_tests shape_entry_tests shape_tests body_tests describe machine_of call_of checks_of access_checks effect_of after is_sound written_bytes write_checks description_of bytes_of
machines_again = (refl, refl)

-- the room, the length of the image, the image and the calls: all is written again, room is lacking, the flag is set in the second round, and the
-- input is missing
pub counts_rewritten :
    rewritten_of (0 ∷ 44 ∷ 0 ∷ 44 ∷ sample_bytes)
    ∷ rewritten_of (1 ∷ 0 ∷ 0 ∷ 44 ∷ (sample_bytes ++ (0x04 ∷ 0x00 ∷ 0x00 ∷ 0x00 ∷ 0x00 ∷ 0x07 ∷ [])))
    ∷ rewritten_of (0 ∷ 43 ∷ 0 ∷ 44 ∷ sample_bytes)
    ∷ rewritten_of (0 ∷ 44 ∷ 0 ∷ 44 ∷ (sample_bytes ++ calls))
    ∷ rewritten_of (0 ∷ 44 ∷ [])
    ∷ []
    ≡ 44 ∷ 44 ∷ 0 ∷ 0 ∷ 0 ∷ []
unfolding rewritten_of again_of held_of machine_after calls_of call_of_kind step_by sample_bytes load_of load_checks length_tests kind_tests shape_entry_tests shape_tests body_tests describe machine_of call_of checks_of access_checks effect_of after is_sound written_bytes written_of write_checks description_of bytes_of
counts_rewritten = refl
