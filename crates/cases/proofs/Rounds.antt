-- The parts of a round: one record more of those that are left, and what stands in the buffer after a write.
use Rattle.std.specs.Prelude.{Option}
use Prim.Native.Nat.{ℕ, ◌+◌, ◌/◌, ◌≤◌, ◌<◌}
use mathlib.Core.Path.{◌≡◌, refl}
use mathlib.Core.List.{List, [], ◌∷◌}
use native.Mathlib.Omega.{arith}
use lib.ListN.{length, get_or, take, drop, length-append}
use lib.Seq.{take_at}
use Rattle.machine.specs.declared.record.Machine.{Machine}
use Rattle.machine.specs.declared.record.Call.{Call}
use Rattle.image.specs.Write.{written_bytes, written_of, buffer_after}
use Rattle.run.specs.Records.{calls_of, step_of}
use Rattle.run.proofs.Steps.{next_call}
use Rattle.std.specs.Simd.{first_chunks}
use Rattle.cases.specs.Writing.{machine_after}

-- one record more
pub one_more : (m : Machine) (bytes : List ℕ) (i : ℕ) {call : Option Call} → i < length bytes / 6
    → calls_of (get_or (first_chunks 6 (length bytes / 6) bytes) i []) ≡ call ∷ []
    → machine_after m (drop i (calls_of bytes)) ≡ machine_after (step_of m call).machine (drop (i + 1) (calls_of bytes))
unfolding machine_after
one_more m bytes i h is = rw (next_call bytes i h is)

-- the bytes that a write says it wrote are there, and are what is written
pub first_written : (m : Machine) (buffer : List ℕ) {count : ℕ} {after : List ℕ} → count ≡ (written_of m (length buffer)).count → after ≡ buffer_after m buffer
    → (count ≤ length after) × (take count after ≡ written_bytes m (length buffer))
unfolding written_of buffer_after
first_written m buffer counts stands =
    let written = written_bytes m (length buffer) in
    rw (counts, stands) (simp length-append (omega arith), take_at written (drop (length written) buffer) (length written) refl)
