-- What the program asks, on the sample node: how it starts on each program, which registers are live then, which pairs stand in bytes, and what is found. All of that is
-- computed and written out; where pairs stand is said for every string of bytes as well.
use Prim.Native.Nat.{ℕ, ◌+◌, ◌*◌, ◌/◌, ◌<◌}
use mathlib.Core.Path.{◌≡◌, refl}
use mathlib.Core.Bool.{false}
use mathlib.Core.List.{List, [], ◌∷◌, map}
use native.Mathlib.Nat.{zero-add}
use lib.Count.{ones_in}
use lib.Dec.{eqb}
use lib.ListN.{drop, get_or, length}
use Rattle.rules.specs.Domains.{domain_bit}
use Rattle.rules.specs.Refusals.{pick}
use Rattle.rules.specs.declared.registers.Mode.TheVariants.{User}
use Rattle.machine.specs.Machine.{is_sound, zero}
use Rattle.machine.specs.Calls.{call_of, checks_of, effect_of, access_checks, after, entered, returned, switched, silent}
use Rattle.machine.specs.declared.record.Call.TheVariants.{Enter, Return, Switch}
use Rattle.machine.specs.declared.record.Report.TheVariants.{Nothing}
use Rattle.machine.proofs.Written.{live}
use Rattle.image.specs.Description.{machine_of}
use Rattle.image.specs.Load.{load_of, load_checks, length_tests, kind_tests, shape_entry_tests, shape_tests, body_tests, describe}
use Rattle.image.specs.Sample.{sample_bytes}
use Rattle.image.proofs.Entries.{length_entries, entry_at}
use Rattle.masks.specs.Least.{masks_from, passing, pair_checks, least_checks, least_mask_of}
use Rattle.leastmask.specs.Asked.{started_of, pair_at, pairs_of}

-- RULES 12.7: how a node starts, for every image and program
pub started_spelled : (image : List ℕ) (program : ℕ)
    → let entry = call_of (load_of image).machine Enter in
    let switch = call_of entry.machine (Switch program) in
    started_of image program
    ≡ pick (eqb (load_of image).number 0)
    (pick (eqb switch.number 0) (call_of switch.machine Return) (record { number = switch.number; machine = zero; report = Nothing })) (load_of image)
unfolding started_of
started_spelled image program = refl

-- RULES 12.7: how the sample starts: on its two programs, on one that is not there, and without its first byte
pub sample_starts :
    (map (λ (program : ℕ). (started_of sample_bytes program).number) (0 ∷ 1 ∷ 2 ∷ 65535 ∷ []) ≡ 0 ∷ 0 ∷ 16 ∷ 16 ∷ [])
    × (map (λ (program : ℕ). (started_of sample_bytes program).machine.registers) (0 ∷ 1 ∷ []) ≡ live 7 3 User false ∷ live 8 65535 User false ∷ [])
    × (started_of sample_bytes 2 ≡ silent 16 zero) × (started_of (drop 1 sample_bytes) 0 ≡ silent 21 zero) × (started_of [] 9 ≡ silent 20 zero)
unfolding started_of load_of load_checks length_tests kind_tests shape_entry_tests shape_tests body_tests describe machine_of sample_bytes call_of checks_of effect_of after entered returned switched is_sound
sample_starts = (refl, refl, refl, refl, refl)

-- RULES 12.7: four bytes a pair, with the high byte first; what is left over is no pair
pub pairs_stand :
    (pairs_of [] ≡ []) × (pairs_of (0x00 ∷ 0x01 ∷ 0x02 ∷ 0x03 ∷ []) ≡ 0x00010203 ∷ []) × (pairs_of (0xFF ∷ 0xFE ∷ 0xFD ∷ 0xFC ∷ 0x00 ∷ 0x00 ∷ 0x00 ∷ 0x7F ∷ []) ≡ 0xFFFEFDFC ∷ 127 ∷ [])
    × (pairs_of (1 ∷ 2 ∷ 3 ∷ []) ≡ []) × (pairs_of (0 ∷ 1 ∷ 0 ∷ 1 ∷ 9 ∷ 9 ∷ 9 ∷ []) ≡ 65537 ∷ [])
pairs_stand = (refl, refl, refl, refl, refl)

-- RULES 12.7: and so in every string of bytes: as many pairs as it has four bytes, each where it stands
pub pairs_placed : (bytes : List ℕ)
    → (length (pairs_of bytes) ≡ length bytes / 4)
    × ((i : ℕ) → i < length bytes / 4
    → get_or (pairs_of bytes) i 0
    ≡ 65536 * (256 * get_or bytes (4 * i) 0 + get_or bytes (1 + 4 * i) 0) + (256 * get_or bytes (2 + 4 * i) 0 + get_or bytes (1 + (2 + 4 * i)) 0))
pairs_placed bytes = (
  length_entries 4 (pair_at bytes) 0 (length bytes / 4),
  λ i below. rw zero-add at (entry_at 4 (pair_at bytes) 0 0 (length bytes / 4) i below),
)

-- RULES 12.7: the least masks of the example: WRITE and READ of page 1 in program 0, and READ of all three pages in program 1
pub sample_masks :
    least_mask_of (started_of sample_bytes 0).machine (pairs_of (0 ∷ 0 ∷ 0 ∷ 1 ∷ 0 ∷ 1 ∷ 0 ∷ 1 ∷ []))
    ∷ least_mask_of (started_of sample_bytes 1).machine (pairs_of (0 ∷ 0 ∷ 0 ∷ 0 ∷ 0 ∷ 0 ∷ 0 ∷ 1 ∷ 0 ∷ 0 ∷ 0 ∷ 2 ∷ []))
    ∷ least_mask_of (started_of sample_bytes 2).machine (pairs_of [])
    ∷ []
    ≡ record { number = 0; mask = 2 } ∷ record { number = 0; mask = 8 } ∷ record { number = 1; mask = 0 } ∷ []
unfolding least_mask_of least_checks pair_checks passing masks_from ones_in domain_bit access_checks started_of load_of load_checks length_tests kind_tests shape_entry_tests shape_tests body_tests describe machine_of sample_bytes call_of checks_of effect_of after entered returned switched is_sound
sample_masks = refl
