-- The cases of writing (src/writing.rt): the room, the machine that a round writes, and the digits of what is printed. They are for tests: no
-- rule.
use Rattle.std.specs.Prelude.{ℕ, ◌+◌, ◌/◌, ◌%◌, min, Option, List, [], ◌∷◌, eqb, ltb, drop}
use Rattle.machine.specs.declared.record.Call.{Call}
use Rattle.rules.specs.Refusals.{pick}
use Rattle.machine.specs.declared.record.Machine.{Machine}
use Rattle.image.specs.Bytes.{word_at}
use Rattle.image.specs.Load.{load_of}
use Rattle.image.specs.Write.{written_bytes, written_of}
use Rattle.run.specs.Records.{calls_of, step_of}
use Rattle.run.specs.Run.{image_of, call_bytes}

-- how long the lent buffer of a case is: its first two bytes say it, and 640 is the most
abbrev pub room_of : List ℕ → ℕ
room_of bytes = min (word_at bytes 0) 640

-- the upper-case hexadecimal digit of a number below 16
abbrev pub digit_of : ℕ → ℕ
digit_of number = pick (ltb number 10) (48 + number) (55 + number)

-- the two digits of a byte
abbrev pub digits_of : ℕ → List ℕ
digits_of byte = digit_of (byte / 16) ∷ digit_of (byte % 16) ∷ []

-- the machine after calls, each made by value on the one that was given back before it
unfoldable pub machine_after : Machine → List (Option Call) → Machine
machine_after m [] = m
machine_after m (call ∷ rest) = machine_after (step_of m call).machine rest

-- the machine that a round writes: the loaded one after the calls, which are made only where the image loads
unfoldable pub held_of : (image calls : List ℕ) → Machine
held_of image calls =
    let loaded = load_of image in
    pick (eqb loaded.number 0) (machine_after loaded.machine (calls_of calls)) loaded.machine

-- the machine that the second round writes: on the image that the first wrote into so many bytes, with the same calls
unfoldable pub again_of : (image calls : List ℕ) → ℕ → Machine
again_of image calls room = held_of (written_bytes (held_of image calls) room) calls

-- how many bytes the second round of a case writes, whose input follows its room
unfoldable pub rewritten_of : List ℕ → ℕ
rewritten_of bytes =
    let input = drop 2 bytes in
    (written_of (again_of (image_of input) (call_bytes input) (room_of bytes)) (room_of bytes)).count
