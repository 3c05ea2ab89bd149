-- What the definitions of this crate come to on written machines: the largest machine, whose last page, domain, program and stack place are used,
-- machines at both ends of each range, and machines that are not sound. All is computed: each law sets what a definition gives beside what it
-- must be, written out, and a part of a definition that was misread makes the two differ.
use Prim.Native.Nat.{ℕ}
use mathlib.Core.Path.{◌≡◌, refl}
use mathlib.Core.Bool.{Bool, true, false, ◌||◌}
use mathlib.Core.List.{List, [], ◌∷◌, ◌++◌, map}
use lib.Count.{count_trailing_zeros}
use lib.Dec.{eqb}
use lib.ListN.{replicate}
use Rattle.rules.specs.Domains.{domain_bit, prevailing, giving_domain}
use Rattle.rules.specs.declared.registers.Mode.{Mode}
use Rattle.rules.specs.declared.registers.Mode.TheVariants.{User, Privileged}
use Rattle.rules.specs.declared.registers.Registers.{Registers}
use Rattle.machine.specs.Machine.{zero, no_program, is_right, is_sound, memory_size, place_of, field_of, with_fields, with_registers, with_stack, with_programs, with_last, with_lent}
use Rattle.machine.specs.Calls.{as_page, as_domain, in_privileged_mode, in_user_mode, page_of, touched, any, mode_of, violated, call_of, unchecked_of, change_call, keeping, handed_out, silent, checks_of, access_checks, change_checks, effect_of, entered, returned, switched, after}
use Rattle.machine.specs.Listed.{is_in, listed, sound_numbers}
use Rattle.machine.specs.declared.record.Machine.{Machine}
use Rattle.machine.specs.declared.record.Program.{Program}
use Rattle.machine.specs.declared.record.Page.{Page}
use Rattle.machine.specs.declared.record.Domain.{Domain}
use Rattle.machine.specs.declared.record.Report.TheVariants.{Nothing, Denied}
use Rattle.machine.specs.declared.record.Answered.{Answered}
use Rattle.machine.specs.declared.record.Width.TheVariants.{One, Two}
use Rattle.machine.specs.declared.record.Call.{Call}
use Rattle.machine.specs.declared.record.Call.TheVariants.{Access, Grant, Revoke, SetMask, Enter, Return, Switch, StoreField, StoreContext, StoreMask, StoreMode, AskViolation}
use Rattle.machine.proofs.Written.{stored, live, denied, holding, whole, gives, goes_through, Answers, both}
use Rattle.std.specs.Prelude.{Option, None}
use Rattle.machine.specs.declared.record.Violation.{Violation}

-- "every number is zero, every mode user and the flag clear": 256 fields, eight places on the stack, eight entries in the table
pub all_zero :
    (zero ≡ whole 0 0 (replicate 256 0) (live 0 0 User false) 0 (replicate 8 false) 0 0 (replicate 8 (stored 0 0 User)))
    × (no_program ≡ stored 0 0 User)
all_zero = (refl, refl)

-- numbers of rights, pages, domains and modes
pub numbers_named :
    (map is_right (0 ∷ 1 ∷ 2 ∷ 3 ∷ 255 ∷ []) ≡ true ∷ true ∷ false ∷ false ∷ false ∷ [])
    × (map as_page (0 ∷ 127 ∷ 515 ∷ []) ≡ record { 0 = 0 } ∷ record { 0 = 127 } ∷ record { 0 = 515 } ∷ [])
    × (map as_domain (0 ∷ 15 ∷ 1029 ∷ []) ≡ record { 0 = 0 } ∷ record { 0 = 15 } ∷ record { 0 = 1029 } ∷ [])
    × (map mode_of (0 ∷ 1 ∷ 2 ∷ []) ≡ User ∷ Privileged ∷ Privileged ∷ [])
numbers_named = (refl, refl, refl, refl)

-- ---- the largest machine: 128 pages of 512 bytes, eight programs. READ of the last page is held by domains 8 and 9, WRITE by 9 and 15.
-- The last violation was one of program 3.

abbrev entries : List Program
entries =
    stored 1 11 User ∷ stored 2 12 User ∷ stored 3 13 User ∷ stored 4 14 User ∷ stored 5 15 User ∷ stored 6 16 User ∷ stored 7 17 Privileged
    ∷ stored 8 18 User ∷ []

abbrev last : ℕ → ℕ → List ℕ
last read write = replicate 254 0 ++ read ∷ write ∷ []

abbrev wide : List ℕ → Registers → Machine
wide fields registers = holding (denied 3 0 513) 128 9 fields registers 0 (replicate 8 false) 8 7 entries

-- where fields, pages and memory are
pub places :
    let m = wide (last 0x0300 0x8200) (live 0x0300 0xFFFF User false) in
    (place_of 0 0 ∷ place_of 1 0 ∷ place_of 0 1 ∷ place_of 1 1 ∷ place_of 0 127 ∷ place_of 1 127 ∷ [] ≡ 0 ∷ 1 ∷ 2 ∷ 3 ∷ 254 ∷ 255 ∷ [])
    × (field_of m 0 126 ∷ field_of m 0 127 ∷ field_of m 1 127 ∷ field_of m 0 128 ∷ [] ≡ 0 ∷ 0x0300 ∷ 0x8200 ∷ 0 ∷ [])
    × (map (page_of m) (0 ∷ 511 ∷ 512 ∷ 65535 ∷ 65536 ∷ []) ≡ 0 ∷ 0 ∷ 1 ∷ 127 ∷ 128 ∷ [])
    × (memory_size m ∷ memory_size (whole 3 5 [] (live 0 0 User false) 0 [] 1 0 []) ∷ [] ≡ 65536 ∷ 96 ∷ [])
places = (refl, refl, refl, refl)

-- the bytes that accesses touch, past the greatest address too, and one of a list that meets a condition
pub bytes_touched :
    (map (touched One) (0 ∷ 255 ∷ 0xFFFFFFFF ∷ []) ≡ (0 ∷ []) ∷ (255 ∷ []) ∷ (0xFFFFFFFF ∷ []) ∷ [])
    × (map (touched Two) (0 ∷ 255 ∷ 0xFFFFFFFF ∷ []) ≡ (0 ∷ 1 ∷ []) ∷ (255 ∷ 256 ∷ []) ∷ (0xFFFFFFFF ∷ 0x100000000 ∷ []) ∷ [])
    × (map (any (eqb 3)) ([] ∷ (3 ∷ []) ∷ (1 ∷ 3 ∷ []) ∷ (3 ∷ 1 ∷ []) ∷ (1 ∷ 2 ∷ []) ∷ []) ≡ false ∷ true ∷ true ∷ true ∷ false ∷ [])
bytes_touched = (refl, refl, refl)

-- accesses of two bytes about the last page: it gives READ and WRITE, the page before it neither. And without the check for 1, where memory goes on past
-- the greatest address: the second byte is on page 1 there, not on page 0 again.
pub last_page_two_bytes :
    let far : ℕ → Machine = λ second. whole 2 32 (1 ∷ 0 ∷ second ∷ 0 ∷ []) (live 3 3 User false) 0 [] 1 0 [] in
    (Answers call_of (wide (last 0x0300 0x8200) (live 0x0300 0xFFFF User false))
    ((Access Two 0 65534, 0)
    ∷ (Access Two 1 65024, 0)
    ∷ (Access Two 0 65023, 9)
    ∷ (Access Two 1 65022, 9)
    ∷ (Access Two 0 65535, 3)
    ∷ (Access Two 2 65535, 2)
    ∷ []))
    × (Answers unchecked_of (far 2) ((Access Two 0 0xFFFFFFFF, 0) ∷ (Access Two 1 0xFFFFFFFF, 9) ∷ []))
    × (Answers unchecked_of (far 4) ((Access Two 0 0xFFFFFFFF, 9) ∷ (Access Two 0 0xFFFFFFFE, 0) ∷ []))
unfolding call_of unchecked_of checks_of access_checks is_sound
last_page_two_bytes = (refl, refl, refl)

pub last_page_order :
    (Answers call_of (wide (last 0x0300 0x8200) (live 0x0300 0xFFFF User false))
    ((Access One 0 65535, 0)
    ∷ (Access One 1 65024, 0)
    ∷ (Access One 0 65023, 9)
    ∷ (Access One 1 65023, 9)
    ∷ (Access One 0 65536, 3)
    ∷ (Access One 1 4294967295, 3)
    ∷ (Access One 3 65535, 2)
    ∷ (Access One 255 65536, 2)
    ∷ both 255 128 16 2
    (both 3 127 9 2
    (both 1 128 16 4
    (both 0 65535 15 4
    (both 0 127 16 5
    (both 1 127 65535 5
    (both 0 126 15 11
    (both 1 126 15 11
    (both 0 127 7 12
    (both 0 127 8 12
    (both 0 127 9 0
    (both 0 127 15 0
    (both 1 127 8 12
    (both 1 127 9 12
    (both 1 127 10 0
    (both 1 127 15 0
    ((StoreField 255 (record { 0 = 128 }) 0, 2)
    ∷ (StoreField 1 (record { 0 = 128 }) 0, 4)
    ∷ (StoreField 1 (record { 0 = 127 }) 0, 7)
    ∷ (StoreMode 255, 17)
    ∷ []))))))))))))))))))
    × (Answers call_of (wide (last 0x0300 0x8200) (live 0x8100 0xFFFF User false))
    ((Access One 1 65535, 0) ∷ both 0 127 9 0 (both 1 127 15 11 [])))
    × (Answers call_of (wide (last 0x0300 0x8200) (live 0xFFFF 0x0200 User false)) ((Access One 0 65535, 0) ∷ both 0 127 15 11 (both 1 127 15 0 [])))
    × (Answers call_of (wide (last 0x0300 0x8200) (live 0x0200 0xFFFF User false)) ((Access One 0 65535, 0) ∷ both 0 127 15 11 (both 1 127 15 0 [])))
unfolding call_of checks_of access_checks change_checks is_sound prevailing domain_bit count_trailing_zeros
last_page_order = (refl, refl, refl, refl)

-- where 15 prevails, below which no domain is, no grant and no revocation is done: 11 for who does not hold 15 locally, 12 for who does
pub lowest_prevails :
    (Answers call_of (wide (last 0x8000 0) (live 0x7FFF 0xFFFF User false)) (both 0 127 3 11 (both 0 127 15 11 [])))
    × (Answers call_of (wide (last 0x8000 0) (live 0xFFFF 0x7FFF User false)) (both 0 127 3 11 (both 0 127 15 11 [])))
    × (Answers call_of (wide (last 0x8000 0) (live 0x8000 0xFFFF User false)) (both 0 127 3 12 (both 0 127 15 12 [])))
unfolding call_of checks_of change_checks is_sound prevailing domain_bit count_trailing_zeros
lowest_prevails = (refl, refl, refl)

-- a machine, a call on it that reports nothing, and the number and the machine after it
abbrev Outcomes : (Machine → Call → Answered) → List (Machine × Call × ℕ × Machine) → Type 0
Outcomes made rows = map (λ row. made row.0 row.1) rows ≡ map (λ row. gives row.2 row.3) rows

pub last_page_outcomes :
    let r = live 0x0300 0xFFFF User false in
    let m = wide (last 0x0300 0x8200) r in
    let page : Page = record { 0 = 127 } in
    (Outcomes call_of
    ((m, Access One 1 65023, 9, with_last (denied 7 1 65023) (wide (last 0x0300 0x8200) (live 0x0300 0xFFFF User true)))
    ∷ (m, Access One 1 65536, 3, m)
    ∷ (m, Grant 0 page (record { 0 = 15 }), 0, wide (last 0x8300 0x8200) r)
    ∷ (m, Grant 0 page (record { 0 = 9 }), 0, m)
    ∷ (m, Grant 1 page (record { 0 = 12 }), 0, wide (last 0x0300 0x9200) r)
    ∷ (m, Grant 1 page (record { 0 = 15 }), 0, m)
    ∷ (m, Grant 1 page (record { 0 = 9 }), 12, m)
    ∷ (m, Grant 1 (record { 0 = 126 }) (record { 0 = 15 }), 11, m)
    ∷ (m, Revoke 0 page (record { 0 = 9 }), 0, wide (last 0x0100 0x8200) r)
    ∷ (m, Revoke 0 page (record { 0 = 10 }), 0, m)
    ∷ (m, Revoke 1 page (record { 0 = 15 }), 0, wide (last 0x0300 0x0200) r)
    ∷ (m, Revoke 1 page (record { 0 = 14 }), 0, m)
    ∷ (m, Revoke 0 page (record { 0 = 8 }), 12, m)
    ∷ (m, SetMask 0xFE00, 0, wide (last 0x0300 0x8200) (live 0x0300 0xFE00 User false))
    ∷ (m, SetMask 0xFCFF, 19, m)
    ∷ (m, Return, 7, m)
    ∷ (m, AskViolation, 7, m)
    ∷ []))
    × (call_of m (Access One 0 65535) ≡ goes_through 8 m)
unfolding call_of checks_of access_checks change_checks effect_of after is_sound prevailing giving_domain domain_bit count_trailing_zeros
last_page_outcomes = (refl, refl)

-- ---- what accesses name: two pages of 32 bytes whose fields share other domains with the local context, 3 and 7 to 15, than with the global context or the
-- mask alone

abbrev shared : Registers → Machine
shared registers =
    holding (denied 0 1 63) 2 5 (0x0A36 ∷ 0x9050 ∷ 0x8C81 ∷ 0x0018 ∷ replicate 252 0xFFFF) registers 0 (replicate 8 false) 1 0
    (replicate 8 (stored 0xFFFF 0xFFFF User))

pub domains_named :
    let user = live 0xFFE8 0xFF9C User false in
    let high = live 0xFFE8 0xF000 User false in
    let privileged = live 0xFFE8 0xFF9C Privileged false in
    let pending = live 0xFFE8 0xFF9C User true in
    (map (call_of (shared user))
    (Access One 0 0 ∷ Access One 0 31 ∷ Access One 1 0 ∷ Access One 0 32 ∷ Access One 0 63 ∷ Access One 1 40
    ∷ Access Two 0 30 ∷ Access Two 0 31 ∷ Access Two 1 31 ∷ Access Two 0 32 ∷ Access Two 1 62 ∷ [])
    ≡ map (λ (s : ℕ). goes_through s (shared user)) (9 ∷ 9 ∷ 12 ∷ 7 ∷ 7 ∷ 3 ∷ 9 ∷ 9 ∷ 12 ∷ 7 ∷ 3 ∷ []))
    × (map (call_of (shared high)) (Access One 1 5 ∷ Access One 0 40 ∷ Access Two 1 5 ∷ []) ≡ map (λ (s : ℕ). goes_through s (shared high)) (12 ∷ 15 ∷ 12 ∷ []))
    × (map (λ (call : Call). (call_of (shared high) call).report) (Access One 0 5 ∷ Access One 1 40 ∷ Access Two 0 31 ∷ Access Two 1 31 ∷ []) ≡ replicate 4 Nothing)
    × (map (call_of (shared user)) (Access One 2 0 ∷ Access Two 0 63 ∷ Access One 1 64 ∷ []) ≡ gives 2 (shared user) ∷ gives 3 (shared user) ∷ gives 3 (shared user) ∷ [])
    × (map (call_of (shared privileged)) (Access One 0 0 ∷ Access One 1 40 ∷ Access Two 0 31 ∷ []) ≡ replicate 3 (gives 0 (shared privileged)))
    × (map (call_of (shared pending)) (Access One 0 0 ∷ Access Two 0 31 ∷ []) ≡ replicate 2 (gives 8 (shared pending)))
unfolding call_of checks_of access_checks effect_of after is_sound giving_domain count_trailing_zeros
domains_named = (refl, refl, refl, refl, refl, refl)

-- the last program and the last stack place, of a machine whose every part differs from zero
abbrev kernel : List ℕ → Registers → ℕ → List Bool → ℕ → List Program → Machine
kernel fields registers depth saved current table = holding (denied 6 1 65535) 128 9 fields registers depth saved 8 current table

abbrev marked : Bool → Bool → List Bool
marked first eighth = first ∷ true ∷ false ∷ true ∷ false ∷ false ∷ true ∷ eighth ∷ []

abbrev from_last : Program → List Program
from_last eighth =
    stored 1 11 User ∷ stored 2 12 User ∷ stored 3 13 User ∷ stored 4 14 User ∷ stored 5 15 User ∷ stored 6 16 User ∷ stored 7 17 Privileged
    ∷ eighth ∷ []

pub kernel_outcomes :
    let f = last 0x0300 0x8200 in
    let r = live 0x0300 0xFF00 Privileged false in
    let one = kernel f r 1 (marked false true) 7 entries in
    Outcomes call_of
    ((one, Switch 6, 0, kernel f (live 7 17 Privileged false) 1 (marked true true) 6 (from_last (stored 0x0300 0xFF00 User)))
    ∷ (one, Switch 0, 0, kernel f (live 1 11 Privileged false) 1 (marked false true) 0 (from_last (stored 0x0300 0xFF00 User)))
    ∷ (one, Switch 7, 0, kernel f r 1 (marked false true) 7 (from_last (stored 0x0300 0xFF00 User)))
    ∷ (one, Switch 8, 16, one)
    ∷ (
      kernel f r 1 (marked true true) 7 entries,
      Switch 1,
      0,
      kernel f (live 2 12 Privileged false) 1 (marked false true) 1 (from_last (stored 0x0300 0xFF00 Privileged)),
    )
    ∷ (kernel f r 2 (marked true true) 7 entries, Switch 1, 15, kernel f r 2 (marked true true) 7 entries)
    ∷ (kernel f r 7 (marked true false) 7 entries, Enter, 0, kernel f r 8 (marked true true) 7 entries)
    ∷ (kernel f (live 0x0300 0xFF00 User true) 7 (marked true true) 7 entries, Enter, 0, kernel f r 8 (marked true false) 7 entries)
    ∷ (kernel f r 8 (marked true true) 7 entries, Enter, 13, kernel f r 8 (marked true true) 7 entries)
    ∷ (kernel f r 8 (marked true true) 7 entries, Return, 0, kernel f r 7 (marked true false) 7 entries)
    ∷ (kernel f r 8 (marked true false) 7 entries, Return, 0, kernel f (live 0x0300 0xFF00 User false) 7 (marked true false) 7 entries)
    ∷ (one, Return, 0, kernel f (live 0x0300 0xFF00 User false) 0 (marked false true) 7 entries)
    ∷ (one, SetMask 0, 6, one)
    ∷ (one, Access One 1 0, 0, one)
    ∷ (one, StoreField 0 (record { 0 = 127 }) 0xFFFF, 0, kernel (last 0xFFFF 0x8200) r 1 (marked false true) 7 entries)
    ∷ (one, StoreField 1 (record { 0 = 127 }) 0x00FF, 0, kernel (last 0x0300 0x00FF) r 1 (marked false true) 7 entries)
    ∷ (one, StoreField 1 (record { 0 = 128 }) 0x00FF, 4, one)
    ∷ (one, StoreContext 0xFFFF, 0, kernel f (live 0xFFFF 0xFF00 Privileged false) 1 (marked false true) 7 entries)
    ∷ (one, StoreMask 0x00FF, 0, kernel f (live 0x0300 0x00FF Privileged false) 1 (marked false true) 7 entries)
    ∷ (one, StoreMode 0, 0, kernel f (live 0x0300 0xFF00 User false) 1 (marked false true) 7 entries)
    ∷ (one, StoreMode 1, 0, one)
    ∷ (one, StoreMode 2, 17, one)
    ∷ [])
unfolding call_of checks_of access_checks effect_of entered returned switched after is_sound
kernel_outcomes = refl

-- ---- the question for the last violation

-- an answer that reports a violation
abbrev hands : Machine → ℕ → ℕ → ℕ → Answered
hands machine program right address =
    record { number = 0; machine = machine; report = Denied (record { program = program; right = right; address = address }) }

-- in privileged mode it hands out what is kept, or nothing; in user mode and on a machine that is not sound it hands out nothing, whatever is kept
pub question_cases :
    let kept : Mode → ℕ → Option Violation → Machine = λ mode depth last. holding last 2 5 [] (live 1 2 mode false) depth [] 3 1 [] in
    (map (λ (m : Machine). call_of m AskViolation)
    (kept Privileged 0 None
    ∷ kept Privileged 8 (denied 2 1 63)
    ∷ kept Privileged 1 (denied 0 0 0)
    ∷ kept User 0 (denied 2 1 63)
    ∷ kept Privileged 9 (denied 2 1 63)
    ∷ kept Privileged 1 (denied 3 1 63)
    ∷ [])
    ≡ gives 0 (kept Privileged 0 None)
    ∷ hands (kept Privileged 8 (denied 2 1 63)) 2 1 63
    ∷ hands (kept Privileged 1 (denied 0 0 0)) 0 0 0
    ∷ gives 7 (kept User 0 (denied 2 1 63))
    ∷ gives 1 (kept Privileged 9 (denied 2 1 63))
    ∷ gives 1 (kept Privileged 1 (denied 3 1 63))
    ∷ [])
    × (unchecked_of (kept Privileged 9 (denied 3 2 64)) AskViolation ≡ hands (kept Privileged 9 (denied 3 2 64)) 3 2 64)
    × (handed_out None ∷ handed_out (denied 7 1 65023) ∷ [] ≡ Nothing ∷ Denied (record { program = 7; right = 1; address = 65023 }) ∷ [])
    × (silent 18 zero ≡ gives 18 zero)
unfolding call_of unchecked_of checks_of effect_of after is_sound
question_cases = (refl, refl, refl, refl)

-- a stored violation of a machine with 3 pages of 256 bytes and 2 programs, and of one with 128 pages of 512 bytes and 8 programs
pub violations_sound :
    let small : Option Violation → Machine = λ last. holding last 3 8 [] (live 0 0 User false) 0 [] 2 0 [] in
    let large : Option Violation → Machine = λ last. holding last 128 9 [] (live 0 0 User false) 0 [] 8 0 [] in
    (map (λ (last : Option Violation). is_sound (small last))
    (None ∷ denied 0 0 0 ∷ denied 1 1 767 ∷ denied 2 0 0 ∷ denied 0 2 0 ∷ denied 0 255 0 ∷ denied 0 0 768 ∷ denied 65535 255 4294967295 ∷ [])
    ≡ true ∷ true ∷ true ∷ false ∷ false ∷ false ∷ false ∷ false ∷ [])
    × (map (λ (last : Option Violation). is_sound (large last)) (denied 7 1 65535 ∷ denied 8 1 65535 ∷ denied 7 2 65535 ∷ denied 7 1 65536 ∷ [])
    ≡ true ∷ false ∷ false ∷ false ∷ [])
unfolding is_sound
violations_sound = (refl, refl)

-- ---- both ends of each range of soundness

abbrev ranged : ℕ → ℕ → ℕ → ℕ → ℕ → Mode → Bool → Machine
ranged pages exponent depth programs current mode pending = whole pages exponent [] (live 0 0 mode pending) depth [] programs current []

pub ends_sound :
    map is_sound
    (ranged 1 8 0 1 0 User false
    ∷ ranged 128 8 0 1 0 User false
    ∷ ranged 1 5 0 1 0 User false
    ∷ ranged 1 12 0 1 0 User false
    ∷ ranged 1 8 8 1 0 User false
    ∷ ranged 1 8 0 8 7 User false
    ∷ ranged 16 12 0 1 0 User false
    ∷ ranged 64 10 0 1 0 User false
    ∷ ranged 1 8 0 1 0 User true
    ∷ ranged 1 8 0 1 0 Privileged false
    ∷ [])
    ≡ replicate 10 true
unfolding is_sound
ends_sound = refl

pub past_ends_not_sound :
    map is_sound
    (ranged 0 8 0 1 0 User false
    ∷ ranged 129 5 0 1 0 User false
    ∷ ranged 1 4 0 1 0 User false
    ∷ ranged 1 13 0 1 0 User false
    ∷ ranged 1 8 9 1 0 User false
    ∷ ranged 1 8 0 0 0 User false
    ∷ ranged 1 8 0 9 0 User false
    ∷ ranged 17 12 0 1 0 User false
    ∷ ranged 65 10 0 1 0 User false
    ∷ ranged 128 10 0 1 0 User false
    ∷ ranged 1 8 0 1 1 User false
    ∷ ranged 1 8 0 7 7 User false
    ∷ ranged 1 8 0 1 0 Privileged true
    ∷ [])
    ≡ replicate 13 false
unfolding is_sound
past_ends_not_sound = refl

-- ---- calls without the check for 1, on machines that are not sound; with it they answer 1 and change nothing

abbrev loose : ℕ → ℕ → ℕ → Mode → Bool → Machine
loose depth programs current mode pending =
    whole 3 8 (1 ∷ 2 ∷ []) (live 0x0101 0xFF01 mode pending) depth (replicate 8 true) programs current (replicate 8 (stored 1 2 Privileged))

pub unchecked_order :
    (Answers unchecked_of (loose 9 2 0 User false)
    ((Access One 2 0, 2) ∷ (Access One 0 768, 3) ∷ (Access One 0 0, 0) ∷ (Access One 1 0, 9) ∷ (SetMask 0, 19) ∷ (SetMask 0x00FE, 19) ∷ (SetMask 0x00FF, 0) ∷ (Enter, 13) ∷ (Return, 7) ∷ (Switch 0, 7) ∷ []))
    × (Answers unchecked_of (loose 255 2 0 Privileged false) ((Enter, 13) ∷ (Return, 0) ∷ (Switch 0, 15) ∷ []))
    × (Answers unchecked_of (loose 0 2 2 User false) ((Enter, 0) ∷ (Return, 7) ∷ (Switch 3, 7) ∷ []))
    × (Answers unchecked_of (loose 0 2 2 Privileged false) ((Return, 14) ∷ (Switch 3, 15) ∷ (Switch 0, 15) ∷ []))
    × (Answers unchecked_of (loose 1 2 2 Privileged false) ((Switch 2, 16) ∷ (Switch 65535, 16) ∷ (Switch 0, 0) ∷ (Switch 1, 0) ∷ []))
    × (Answers unchecked_of (loose 1 2 1 Privileged false) ((Switch 2, 16) ∷ (Switch 1, 0) ∷ []))
    × (Answers unchecked_of (loose 0 2 1 Privileged false) ((Switch 2, 15) ∷ []))
    × (Answers unchecked_of (loose 0 2 0 Privileged true)
    ((Access One 1 0, 0) ∷ (Access One 1 768, 3) ∷ (Access Two 1 255, 0) ∷ (Access Two 1 767, 3) ∷ both 0 0 3 6 (both 0 0 16 5 ((SetMask 0, 6) ∷ (Enter, 0) ∷ []))))
    × (Answers unchecked_of (loose 0 2 0 User true)
    ((Access One 1 0, 8) ∷ (Access One 0 0, 8) ∷ both 0 0 3 8 ((SetMask 0, 8) ∷ (StoreMode 2, 17) ∷ (StoreMode 1, 7) ∷ [])))
unfolding unchecked_of checks_of access_checks change_checks prevailing domain_bit count_trailing_zeros
unchecked_order = (refl, refl, refl, refl, refl, refl, refl, refl, refl)

-- past its places, also where it has none, the stack gives user, past its entries the table gives an empty one, and nothing is stored there
pub unchecked_outcomes :
    let empty = loose 9 2 0 User false in
    let bare = with_stack 1 [] (loose 1 2 0 Privileged false) in
    let deep = loose 9 2 0 Privileged false in
    let many = loose 1 9 8 Privileged false in
    let past = loose 1 2 2 Privileged false in
    Outcomes unchecked_of
    ((empty, SetMask 7, 0, with_registers (live 0x0101 7 User false) empty)
    ∷ (empty, Access One 1 0, 9, with_last (denied 0 1 0) (with_registers (live 0x0101 0xFF01 User true) empty))
    ∷ (empty, Enter, 13, empty)
    ∷ (deep, Return, 0, with_registers (live 0x0101 0xFF01 User false) (loose 8 2 0 Privileged false))
    ∷ (
      many,
      Switch 8,
      0,
      whole 3 8 (1 ∷ 2 ∷ []) (live 0 0 Privileged false) 1 (false ∷ replicate 7 true) 9 8 (replicate 8 (stored 1 2 Privileged)),
    )
    ∷ (
      bare,
      Switch 1,
      0,
      whole 3 8 (1 ∷ 2 ∷ []) (live 1 2 Privileged false) 1 [] 2 1 (stored 0x0101 0xFF01 User ∷ replicate 7 (stored 1 2 Privileged)),
    )
    ∷ (
      past,
      Switch 1,
      0,
      whole 3 8 (1 ∷ 2 ∷ []) (live 1 2 Privileged false) 1 (replicate 8 true) 2 1
          (replicate 2 (stored 1 2 Privileged) ++ stored 0x0101 0xFF01 Privileged ∷ replicate 5 (stored 1 2 Privileged)),
    )
    ∷ (many, StoreContext 5, 0, with_registers (live 5 0xFF01 Privileged false) many)
    ∷ [])
unfolding unchecked_of checks_of access_checks effect_of entered returned switched after
unchecked_outcomes = refl

pub checked_outcomes :
    let m = loose 9 2 0 User false in
    Outcomes call_of
    ((m, SetMask 7, 1, m) ∷ (m, Access One 1 0, 1, m) ∷ (m, Enter, 1, m) ∷ (m, Return, 1, m) ∷ (m, StoreMode 2, 1, m) ∷ [])
unfolding call_of after is_sound
checked_outcomes = refl

-- ---- the parts of a machine, put in one by one

-- a machine, and parts that differ from each of its own
abbrev one_machine : Machine
one_machine = holding (denied 1 1 1) 1 5 (1 ∷ []) (live 1 2 Privileged true) 1 (true ∷ []) 1 1 (stored 1 2 Privileged ∷ [])

pub parts_put_in :
    with_fields (2 ∷ []) one_machine
    ∷ with_registers (live 3 4 User false) one_machine
    ∷ with_stack 2 (false ∷ []) one_machine
    ∷ with_programs 2 (stored 3 4 User ∷ []) one_machine
    ∷ with_lent (2 ∷ []) (false ∷ []) one_machine
    ∷ with_last (denied 2 0 3) one_machine
    ∷ violated (with_registers (live 3 4 User false) one_machine) (Access One 0 4)
    ∷ []
    ≡ holding (denied 1 1 1) 1 5 (2 ∷ []) (live 1 2 Privileged true) 1 (true ∷ []) 1 1 (stored 1 2 Privileged ∷ [])
    ∷ holding (denied 1 1 1) 1 5 (1 ∷ []) (live 3 4 User false) 1 (true ∷ []) 1 1 (stored 1 2 Privileged ∷ [])
    ∷ holding (denied 1 1 1) 1 5 (1 ∷ []) (live 1 2 Privileged true) 2 (false ∷ []) 1 1 (stored 1 2 Privileged ∷ [])
    ∷ holding (denied 1 1 1) 1 5 (1 ∷ []) (live 1 2 Privileged true) 1 (true ∷ []) 1 2 (stored 3 4 User ∷ [])
    ∷ holding (denied 1 1 1) 1 5 (2 ∷ []) (live 1 2 Privileged true) 1 (false ∷ []) 1 1 (stored 1 2 Privileged ∷ [])
    ∷ holding (denied 2 0 3) 1 5 (1 ∷ []) (live 1 2 Privileged true) 1 (true ∷ []) 1 1 (stored 1 2 Privileged ∷ [])
    ∷ holding (denied 1 0 4) 1 5 (1 ∷ []) (live 3 4 User true) 1 (true ∷ []) 1 1 (stored 1 2 Privileged ∷ [])
    ∷ []
parts_put_in = refl

-- what comes back of a call on lent parts: its number, its report and its machine, but the caller's fields and stack
pub kept_back :
    let own = whole 2 6 (3 ∷ []) (live 5 6 User false) 3 (false ∷ []) 2 2 [] in
    let report = Denied (record { program = 4; right = 0; address = 5 }) in
    let answer : Answered = record { number = 7; machine = one_machine; report = report } in
    ◌≡◌ {A = Answered} (keeping own answer) (record {
      number = 7;
      machine = holding (denied 1 1 1) 1 5 (3 ∷ []) (live 1 2 Privileged true) 1 (false ∷ []) 1 1 (stored 1 2 Privileged ∷ []);
      report = report;
    })
kept_back = refl

-- modes of a machine, and the grant and the revocation that a flag tells apart, of any right, page and domain
pub told_apart : (right : ℕ) (page : Page) (s : Domain)
    → (in_privileged_mode one_machine ∷ in_user_mode one_machine ∷ in_privileged_mode zero ∷ in_user_mode zero ∷ [] ≡ true ∷ false ∷ false ∷ true ∷ [])
    × (change_call true right page s ≡ Grant right page s)
    × (change_call false right page s ≡ Revoke right page s)
told_apart right page s = (refl, refl, refl)

-- the machine after a call: the effect on 0, flag and last violation on 9, the machine before it on every other number
pub after_numbers :
    let m = holding (denied 0 1 2) 1 5 [] (live 1 2 User false) 0 [] 3 2 [] in
    (map (λ (n : ℕ). after n m (Access One 0 31)) (0 ∷ 1 ∷ 2 ∷ 8 ∷ 9 ∷ 10 ∷ 11 ∷ 18 ∷ [])
    ≡ m ∷ m ∷ m ∷ m ∷ holding (denied 2 0 31) 1 5 [] (live 1 2 User true) 0 [] 3 2 [] ∷ m ∷ m ∷ m ∷ [])
    × (map (λ (n : ℕ). after n m (SetMask 4)) (0 ∷ 1 ∷ 6 ∷ 8 ∷ 19 ∷ [])
    ≡ holding (denied 0 1 2) 1 5 [] (live 1 4 User false) 0 [] 3 2 [] ∷ m ∷ m ∷ m ∷ m ∷ [])
unfolding after effect_of
after_numbers = (refl, refl)

-- ---- the numbers that are listed, whatever the arguments are, and no others

pub numbers_listed : (right address bits : ℕ) (page : Page) (s : Domain)
    → (map listed
    (Access One right address
    ∷ Access Two right address
    ∷ Grant right page s
    ∷ Revoke right page s
    ∷ SetMask bits
    ∷ Enter
    ∷ Return
    ∷ Switch bits
    ∷ StoreField right page bits
    ∷ StoreContext bits
    ∷ StoreMask bits
    ∷ StoreMode bits
    ∷ AskViolation
    ∷ [])
    ≡ (0 ∷ 1 ∷ 2 ∷ 3 ∷ 8 ∷ 9 ∷ [])
    ∷ (0 ∷ 1 ∷ 2 ∷ 3 ∷ 8 ∷ 9 ∷ [])
    ∷ (0 ∷ 1 ∷ 2 ∷ 4 ∷ 5 ∷ 6 ∷ 8 ∷ 11 ∷ 12 ∷ [])
    ∷ (0 ∷ 1 ∷ 2 ∷ 4 ∷ 5 ∷ 6 ∷ 8 ∷ 11 ∷ 12 ∷ [])
    ∷ (0 ∷ 1 ∷ 6 ∷ 8 ∷ 19 ∷ [])
    ∷ (0 ∷ 1 ∷ 13 ∷ [])
    ∷ (0 ∷ 1 ∷ 7 ∷ 14 ∷ [])
    ∷ (0 ∷ 1 ∷ 7 ∷ 15 ∷ 16 ∷ [])
    ∷ (0 ∷ 1 ∷ 2 ∷ 4 ∷ 7 ∷ [])
    ∷ (0 ∷ 1 ∷ 7 ∷ [])
    ∷ (0 ∷ 1 ∷ 7 ∷ [])
    ∷ (0 ∷ 1 ∷ 17 ∷ 7 ∷ [])
    ∷ (0 ∷ 1 ∷ 7 ∷ [])
    ∷ [])
    × (sound_numbers ≡ 0 ∷ 2 ∷ 3 ∷ 4 ∷ 5 ∷ 6 ∷ 7 ∷ 8 ∷ 9 ∷ 11 ∷ 12 ∷ 13 ∷ 14 ∷ 15 ∷ 16 ∷ 17 ∷ 19 ∷ [])
    × (map (λ (n : ℕ). is_in n (3 ∷ 5 ∷ [])) (0 ∷ 3 ∷ 4 ∷ 5 ∷ 6 ∷ []) ≡ false ∷ true ∷ false ∷ true ∷ false ∷ [])
numbers_listed right address bits page s = (refl, refl, refl)

-- whether a number stands in a list, for every number and every list: in the empty one none does
pub in_list_spelled : (n x : ℕ) (rest : List ℕ) → (is_in n [] ≡ false) × (is_in n (x ∷ rest) ≡ (eqb n x || is_in n rest))
in_list_spelled n x rest = (refl, refl)
