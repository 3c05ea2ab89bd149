-- What the definitions of this crate come to, written out at every domain, at both modes and at both values of the flag. All is computed: each
-- law sets a list of values that a definition gives beside the list of what they must be, so that a definition that was misread differs.
use Prim.Native.Nat.{ℕ}
use mathlib.Core.Path.{◌≡◌, refl}
use mathlib.Core.Bool.{Bool, true, false, not}
use mathlib.Core.List.{List, [], ◌∷◌, map}
use lib.Count.{ones_in, count_trailing_zeros}
use lib.Dec.{leb}
use Rattle.rules.specs.Refusals.{first, pick, ◌⇒◌, refusal_number, outcome_number, given_or}
use Rattle.rules.specs.declared.refusals.Refusal.{Refusal}
use Rattle.rules.specs.declared.refusals.Refusal.TheVariants.{Unsound, NoSuchRight, OutsideMemory, NoSuchPage, NoSuchDomain, PrivilegedMode, UserMode, InterruptPending, Violation, NotPrevailing, NotLower, StackFull, StackEmpty, DepthNotOne, NoSuchProgram, NoSuchMode, NoSuchCall, EmptyMask, WrongLength, WrongKinds, WrongShapeEntry, WrongShape, WrongBodies, WrongModes, NotAtRest, ShortBuffer, WrongCount, NoSuchParent, Cycle, TooManyPairs, NoMask}
use Rattle.rules.specs.Registers.{is_privileged, mode_where, local_context, with_context, with_mask, with_mode, with_pending, masked_of}
use Rattle.rules.specs.Domains.{is_domain, domain_bit, holds, domain_count, prevailing, giving_domain, is_outside, is_not_lower, with_bit, without_bit}
use Rattle.rules.specs.declared.registers.Masked.{Masked}
use Rattle.rules.specs.declared.registers.Mode.{Mode}
use Rattle.rules.specs.declared.registers.Mode.TheVariants.{User, Privileged}
use Rattle.rules.specs.declared.registers.Registers.{Registers}
use Rattle.std.specs.Prelude.{Option, None, Some, Ok, Err}

-- the first condition that is met decides, and 0 stands for none
pub first_met :
    first [] ∷ first ((true ⇒ 4) ∷ (true ⇒ 5) ∷ []) ∷ first ((true ⇒ 4) ∷ (false ⇒ 5) ∷ []) ∷ first ((false ⇒ 4) ∷ (true ⇒ 5) ∷ [])
    ∷ first ((false ⇒ 4) ∷ (false ⇒ 5) ∷ []) ∷ pick true 4 5 ∷ pick false 4 5 ∷ []
    ≡ 0 ∷ 4 ∷ 4 ∷ 5 ∷ 0 ∷ 4 ∷ 5 ∷ []
first_met = refl

abbrev sixteen : List ℕ
sixteen = 0 ∷ 1 ∷ 2 ∷ 3 ∷ 4 ∷ 5 ∷ 6 ∷ 7 ∷ 8 ∷ 9 ∷ 10 ∷ 11 ∷ 12 ∷ 13 ∷ 14 ∷ 15 ∷ []

abbrev bits : List ℕ
bits = 1 ∷ 2 ∷ 4 ∷ 8 ∷ 16 ∷ 32 ∷ 64 ∷ 128 ∷ 256 ∷ 512 ∷ 1024 ∷ 2048 ∷ 4096 ∷ 8192 ∷ 16384 ∷ 32768 ∷ []

-- the bit of each domain, none for a number past the last, and which numbers are domains
pub domain_bits :
    (map domain_bit sixteen ≡ bits) × (map domain_bit (16 ∷ 17 ∷ 31 ∷ 32 ∷ 65535 ∷ []) ≡ 0 ∷ 0 ∷ 0 ∷ 0 ∷ 0 ∷ [])
    × (map is_domain (0 ∷ 7 ∷ 8 ∷ 15 ∷ 16 ∷ 17 ∷ 31 ∷ []) ≡ true ∷ true ∷ true ∷ true ∷ false ∷ false ∷ false ∷ [])
unfolding domain_bit
domain_bits = (refl, refl, refl)

-- how many domains, of sixteen
pub domain_counts :
    (map domain_count bits ≡ map (λ (s : ℕ). 1) sixteen)
    × (map domain_count (0 ∷ 3 ∷ 7 ∷ 170 ∷ 32769 ∷ 65535 ∷ 65536 ∷ []) ≡ 0 ∷ 2 ∷ 3 ∷ 4 ∷ 2 ∷ 16 ∷ 0 ∷ [])
unfolding ones_in
domain_counts = (refl, refl)

-- each bit set in an empty field and cleared in a full one; bits about a field of both bytes; a number past the last domain changes nothing
pub bits_changed :
    (map (with_bit 0) sixteen ≡ bits)
    × (map (without_bit 65535) sixteen
    ≡ 65534 ∷ 65533 ∷ 65531 ∷ 65527 ∷ 65519 ∷ 65503 ∷ 65471 ∷ 65407 ∷ 65279 ∷ 65023 ∷ 64511 ∷ 63487 ∷ 61439 ∷ 57343 ∷ 49151 ∷ 32767 ∷ [])
    × (map (with_bit 0x8101) (0 ∷ 1 ∷ 8 ∷ 15 ∷ 16 ∷ []) ≡ 0x8101 ∷ 0x8103 ∷ 0x8101 ∷ 0x8101 ∷ 0x8101 ∷ [])
    × (map (without_bit 0x8101) (0 ∷ 1 ∷ 8 ∷ 15 ∷ 16 ∷ []) ≡ 0x8100 ∷ 0x8101 ∷ 0x8001 ∷ 0x0101 ∷ 0x8101 ∷ [])
unfolding domain_bit
bits_changed = (refl, refl, refl, refl)

-- which domains a set holds
pub domains_held :
    (map (holds 0x8101) (0 ∷ 1 ∷ 7 ∷ 8 ∷ 14 ∷ 15 ∷ 16 ∷ []) ≡ true ∷ false ∷ false ∷ true ∷ false ∷ true ∷ false ∷ [])
    × (map (holds 0) (0 ∷ 15 ∷ []) ≡ false ∷ false ∷ [])
unfolding domain_bit
domains_held = (refl, refl)

-- the prevailing domain of each bit alone, and beside all bits above it
pub prevailing_each :
    let at_each : List (Option ℕ) = Some 0 ∷ Some 1 ∷ Some 2 ∷ Some 3 ∷ Some 4 ∷ Some 5 ∷ Some 6 ∷ Some 7 ∷ Some 8 ∷ Some 9 ∷ Some 10 ∷ Some 11 ∷ Some 12 ∷ Some 13 ∷ Some 14 ∷ Some 15 ∷ [] in
    (map prevailing bits ≡ at_each)
    × (map prevailing
    (65535 ∷ 65534 ∷ 65532 ∷ 65528 ∷ 65520 ∷ 65504 ∷ 65472 ∷ 65408 ∷ 65280 ∷ 65024 ∷ 64512 ∷ 63488 ∷ 61440 ∷ 57344 ∷ 49152 ∷ 32768 ∷ [])
    ≡ at_each)
    × (prevailing 0 ≡ None)
unfolding prevailing count_trailing_zeros
prevailing_each = (refl, refl, refl)

-- the domain through which a field gives a right: each one alone, the lowest of those that both hold where each holds lower ones, and 16 where they share none
pub giving_each :
    (map (λ (bit : ℕ). giving_domain bit 65535) bits ≡ sixteen)
    × (giving_domain 12 10 ∷ giving_domain 6 12 ∷ giving_domain 3 2 ∷ giving_domain 0x0A36 0xFF88 ∷ giving_domain 0x8100 0xFE00 ∷ giving_domain 0x4080 0xC001 ∷ []
    ≡ 3 ∷ 2 ∷ 1 ∷ 9 ∷ 15 ∷ 14 ∷ [])
    × (giving_domain 0 65535 ∷ giving_domain 8 7 ∷ giving_domain 0x0100 0 ∷ [] ≡ 16 ∷ 16 ∷ 16 ∷ [])
unfolding giving_domain count_trailing_zeros
giving_each = (refl, refl, refl)

-- an absent prevailing domain is outside every context, and no domain is of lower level than it; another is outside where the context lacks
-- it, and only higher numbers are of lower level
pub levels :
    (map (is_outside None) (0 ∷ 65535 ∷ []) ≡ true ∷ true ∷ [])
    × (map (is_outside (Some 9)) (0 ∷ 0x0200 ∷ 0xFDFF ∷ 65535 ∷ 1 ∷ []) ≡ true ∷ false ∷ true ∷ false ∷ true ∷ [])
    × (map (is_not_lower None) (0 ∷ 9 ∷ 15 ∷ 16 ∷ []) ≡ true ∷ true ∷ true ∷ true ∷ [])
    × (map (is_not_lower (Some 9)) (0 ∷ 8 ∷ 9 ∷ 10 ∷ 15 ∷ []) ≡ true ∷ true ∷ true ∷ false ∷ false ∷ [])
unfolding domain_bit
levels = (refl, refl, refl, refl)

-- the same for every domain, also for 15: no domain is of lower level than it, so that who may act on a field in which it prevails shows in no answer of 0
pub levels_spelled : (domain local s : ℕ)
    → (is_outside None local ≡ true)
    × (is_outside (Some domain) local ≡ not (holds local domain))
    × (is_not_lower (Some domain) s ≡ leb s domain)
    × (is_not_lower None s ≡ true)
levels_spelled domain local s = (refl, refl, refl, refl)

abbrev registers : ℕ → ℕ → Mode → Bool → Registers
registers context mask mode pending = record { context = context; mask = mask; mode = mode; pending = pending }

-- modes, and the local context in both bytes
pub modes_and_contexts :
    (is_privileged User ∷ is_privileged Privileged ∷ [] ≡ false ∷ true ∷ [])
    × (mode_where false ∷ mode_where true ∷ [] ≡ User ∷ Privileged ∷ [])
    × (map local_context (registers 0xF00F 0x3003 User false ∷ registers 0x3003 0xF00F Privileged true ∷ registers 0xFF00 0x00FF User false ∷ [])
    ≡ 0x3003 ∷ 0x3003 ∷ 0 ∷ [])
modes_and_contexts = (refl, refl, refl)

-- one register of four is another, from either end of each
pub registers_changed :
    with_context 5 (registers 1 2 Privileged true) ∷ with_mask 5 (registers 1 2 Privileged true) ∷ with_mode User (registers 1 2 Privileged true)
    ∷ with_mode Privileged (registers 1 2 User true) ∷ with_pending false (registers 1 2 Privileged true)
    ∷ with_pending true (registers 1 2 Privileged false) ∷ []
    ≡ registers 5 2 Privileged true ∷ registers 1 5 Privileged true ∷ registers 1 2 User true ∷ registers 1 2 Privileged true
    ∷ registers 1 2 Privileged false ∷ registers 1 2 Privileged true ∷ []
registers_changed = refl

-- the mask command on a record of each mode and flag: its number, and the whole record after it
pub mask_commands :
    map (λ (r : Registers). masked_of r 0xFF0C)
    (registers 7 3 User false ∷ registers 7 3 User true ∷ registers 7 3 Privileged false ∷ registers 7 3 Privileged true ∷ [])
    ≡ record { number = 0; registers = registers 7 0xFF0C User false }
    ∷ record { number = 8; registers = registers 7 3 User true }
    ∷ record { number = 6; registers = registers 7 3 Privileged false }
    ∷ record { number = 6; registers = registers 7 3 Privileged true }
    ∷ []
unfolding masked_of
mask_commands = refl

-- masks that are empty: the number and the whole record after it, for each mode and flag, where mask and global context fill each other's gaps, where the mask shares
-- something with the one that it would replace, and for an empty global context. Masks that are not: of one shared domain in either byte, also where the mask before
-- is another one or none.
pub empty_masks :
    let gives : ℕ → Registers → Masked = λ number r. record { number = number; registers = r } in
    (map (λ (r : Registers). masked_of r 0xFF08)
    (registers 7 3 User false ∷ registers 7 3 User true ∷ registers 7 3 Privileged false ∷ registers 7 3 Privileged true
    ∷ registers 0x00F7 0xFF08 User false ∷ registers 0 0xFFFF User false ∷ [])
    ≡ gives 19 (registers 7 3 User false) ∷ gives 8 (registers 7 3 User true) ∷ gives 6 (registers 7 3 Privileged false)
    ∷ gives 6 (registers 7 3 Privileged true) ∷ gives 19 (registers 0x00F7 0xFF08 User false) ∷ gives 19 (registers 0 0xFFFF User false) ∷ [])
    × (map (masked_of (registers 0xFFFF 0x0101 User false)) (0 ∷ 2 ∷ 0x8000 ∷ 0xFFFF ∷ [])
    ≡ gives 19 (registers 0xFFFF 0x0101 User false) ∷ gives 0 (registers 0xFFFF 2 User false) ∷ gives 0 (registers 0xFFFF 0x8000 User false)
    ∷ gives 0 (registers 0xFFFF 0xFFFF User false) ∷ [])
    × (map (masked_of (registers 0x4081 0 User false)) (1 ∷ 0x4000 ∷ 0xBFFE ∷ 0x7F7E ∷ 0xBF7E ∷ [])
    ≡ gives 0 (registers 0x4081 1 User false) ∷ gives 0 (registers 0x4081 0x4000 User false) ∷ gives 0 (registers 0x4081 0xBFFE User false)
    ∷ gives 0 (registers 0x4081 0x7F7E User false) ∷ gives 19 (registers 0x4081 0 User false) ∷ [])
unfolding masked_of
empty_masks = (refl, refl, refl)

-- the number of each refusal (RULES 9.1), in the table's order
pub refusals_numbered :
    map refusal_number
    (
    Unsound ∷ NoSuchRight ∷ OutsideMemory ∷ NoSuchPage ∷ NoSuchDomain ∷ PrivilegedMode ∷ UserMode ∷ InterruptPending ∷ Violation ∷ NotPrevailing ∷
    NotLower ∷ StackFull ∷ StackEmpty ∷ DepthNotOne ∷ NoSuchProgram ∷ NoSuchMode ∷ NoSuchCall ∷ EmptyMask ∷ WrongLength ∷ WrongKinds ∷
    WrongShapeEntry ∷ WrongShape ∷ WrongBodies ∷ WrongModes ∷ NotAtRest ∷ ShortBuffer ∷ WrongCount ∷ NoSuchParent ∷ Cycle ∷ TooManyPairs ∷ NoMask ∷ []
    )
    ≡ (
    1 ∷ 2 ∷ 3 ∷ 4 ∷ 5 ∷ 6 ∷ 7 ∷ 8 ∷ 9 ∷ 11 ∷ 12 ∷ 13 ∷ 14 ∷ 15 ∷ 16 ∷ 17 ∷ 18 ∷ 19 ∷ 20 ∷ 21 ∷ 22 ∷ 23 ∷ 24 ∷ 25 ∷ 26 ∷ 27 ∷ 30 ∷ 31 ∷ 32 ∷ 33 ∷ 34 ∷ []
    )
refusals_numbered = refl

-- the number of an outcome, and what it gives
pub outcomes_numbered : (refusal : Refusal) (given other : ℕ)
    → (outcome_number (Ok given) ≡ 0)
    × (outcome_number {A = ℕ} (Err refusal) ≡ refusal_number refusal)
    × (given_or other (Ok given) ≡ given)
    × (given_or other (Err refusal) ≡ other)
outcomes_numbered refusal given other = (refl, refl, refl, refl)
