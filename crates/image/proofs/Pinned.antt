-- What the definitions of this crate come to on a second image, longer than 255 bytes and with numbers in both bytes of each field, on a refused
-- load, and in the starred cases. All is computed, and every machine is written out by its parts: no law here uses the sample's own names for
-- what it must be.
use Prim.Native.Nat.{ℕ, zero, suc}
use mathlib.Core.Path.{◌≡◌, refl}
use mathlib.Core.Bool.{Bool, true, false}
use mathlib.Core.List.{List, [], ◌∷◌, ◌++◌, map}
use lib.Count.{count_trailing_zeros}
use lib.ListN.{length, replicate, set, take}
use Rattle.rules.specs.Domains.{domain_bit, prevailing, giving_domain}
use Rattle.rules.specs.declared.registers.Mode.TheVariants.{User, Privileged}
use Rattle.rules.specs.declared.registers.Registers.{Registers}
use Rattle.machine.specs.Machine.{is_sound, with_last}
use Rattle.machine.specs.Calls.{call_of, checks_of, effect_of, entered, access_checks, change_checks, after}
use Rattle.machine.specs.declared.record.Machine.{Machine}
use Rattle.machine.specs.declared.record.Program.{Program}
use Rattle.machine.specs.declared.record.Report.TheVariants.{Nothing, Denied, Through}
use Rattle.machine.specs.declared.record.Answered.{Answered}
use Rattle.machine.specs.declared.record.Width.TheVariants.{One}
use Rattle.machine.specs.declared.record.Call.{Call}
use Rattle.machine.specs.declared.record.Call.TheVariants.{Access, Grant, Revoke, SetMask, Enter, Return, AskViolation}
use Rattle.machine.proofs.Written.{stored, live, denied, whole, gives, goes_through}
use Rattle.image.specs.Bytes.{byte_at, word_of, word_at, word, entries, bodies}
use Rattle.image.specs.Description.{bytes_of, machine_of, pad}
use Rattle.image.specs.Load.{describe, load_checks, load_of, length_tests, kind_tests, shape_entry_tests, shape_tests, body_tests}
use Rattle.image.specs.Sample.{sample_bytes, sample_machine}
use Rattle.image.specs.Starred.{Case, starred, after_calls, outcome, expected}

-- bytes and 16-bit numbers, read and written, and bodies of two bytes
pub bytes_read :
    (map (byte_at (7 ∷ 8 ∷ 9 ∷ [])) (0 ∷ 1 ∷ 2 ∷ 3 ∷ 4 ∷ []) ≡ 7 ∷ 8 ∷ 9 ∷ 0 ∷ 0 ∷ [])
    × (map (word_at (1 ∷ 2 ∷ 3 ∷ [])) (0 ∷ 1 ∷ 2 ∷ 3 ∷ []) ≡ 0x0102 ∷ 0x0203 ∷ 0x0300 ∷ 0 ∷ [])
    × (word_of 0xFF 0x01 ≡ 0xFF01)
    × (map word (0x0102 ∷ 0xFF00 ∷ 0x00FF ∷ []) ≡ (0x01 ∷ 0x02 ∷ []) ∷ (0xFF ∷ 0x00 ∷ []) ∷ (0x00 ∷ 0xFF ∷ []) ∷ [])
    × (entries 2 (byte_at (4 ∷ 5 ∷ 6 ∷ 7 ∷ 8 ∷ 9 ∷ [])) 1 2 ≡ 5 ∷ 7 ∷ [])
    × (bodies word (0x0102 ∷ 0x0304 ∷ []) ≡ 1 ∷ 2 ∷ 3 ∷ 4 ∷ [])
    × (pad {A = ℕ} 3 9 (1 ∷ []) ≡ 1 ∷ 9 ∷ 9 ∷ [])
    × (pad {A = ℕ} 2 9 (1 ∷ 2 ∷ 3 ∷ []) ≡ 1 ∷ 2 ∷ [])
bytes_read = (refl, refl, refl, refl, refl, refl, refl, refl)

-- a machine at depth 0, with user in its eight stack places, that has no last violation
abbrev resting : ℕ → ℕ → List ℕ → Registers → ℕ → List Program → Machine
resting pages exponent fields registers programs table = whole pages exponent fields registers 0 (replicate 8 false) programs 0 table

-- where no program is described, nothing is made live
pub no_program_live :
    machine_of (record { pages = 1; exponent = 5; fields = 3 ∷ 4 ∷ []; programs = [] })
    ≡ resting 1 5 (3 ∷ 4 ∷ replicate 254 0) (live 0 0 User false) 0 (replicate 8 (stored 0 0 User))
unfolding machine_of
no_program_live = refl

-- "every number is zero, every mode user and the flag clear": after each of the six refusals
abbrev pub nothing : Machine
nothing = resting 0 0 (replicate 256 0) (live 0 0 User false) 0 (replicate 8 (stored 0 0 User))

pub refused_written :
    map load_of
    ([]
    ∷ set sample_bytes 0 2
    ∷ set sample_bytes 3 0x13
    ∷ set sample_bytes 21 1
    ∷ set sample_bytes 9 0x17
    ∷ set sample_bytes 38 2
    ∷ [])
    ≡ gives 20 nothing
    ∷ gives 21 nothing
    ∷ gives 22 nothing
    ∷ gives 23 nothing
    ∷ gives 24 nothing
    ∷ gives 25 nothing
    ∷ []
unfolding load_of load_checks length_tests kind_tests shape_entry_tests shape_tests body_tests sample_bytes
refused_written = refl

-- ---- an image of 318 bytes: 64 pages of 1,024 bytes, the first, second and last of which are held, and eight programs

abbrev repeated : ℕ → List ℕ → List ℕ
repeated zero bytes = []
repeated (suc n) bytes = bytes ++ repeated n bytes

abbrev long_programs : List ℕ
long_programs =
    0x01 ∷ 0x02 ∷ 0x03 ∷ 0x04 ∷ 0x01
    ∷ 0x05 ∷ 0x06 ∷ 0x07 ∷ 0x08 ∷ 0x00
    ∷ 0x00 ∷ 0x09 ∷ 0x0A ∷ 0x00 ∷ 0x01
    ∷ (repeated 4 (0x00 ∷ 0x00 ∷ 0x00 ∷ 0x00 ∷ 0x00 ∷ [])
    ++ (0xFF ∷ 0xFE ∷ 0xFD ∷ 0xFC ∷ 0x01 ∷ []))

abbrev pub long_bytes : List ℕ
long_bytes =
    0x01 ∷ 0x00 ∷ 0x00 ∷ 0x12 ∷ 0x00 ∷ 0x04
    ∷ 0x02 ∷ 0x00 ∷ 0x00 ∷ 0x16 ∷ 0x01 ∷ 0x00
    ∷ 0x03 ∷ 0x00 ∷ 0x01 ∷ 0x16 ∷ 0x00 ∷ 0x28
    ∷ 0x40 ∷ 0x0A ∷ 0x08 ∷ 0x00
    ∷ 0x12 ∷ 0x34 ∷ 0x56 ∷ 0x78
    ∷ 0x9A ∷ 0xBC ∷ 0xDE ∷ 0xF0
    ∷ (repeated 61 (0x00 ∷ 0x00 ∷ 0x00 ∷ 0x00 ∷ [])
    ++ (0xFE ∷ 0xDC ∷ 0xBA ∷ 0x98 ∷ long_programs))

abbrev long_fields : List ℕ
long_fields = 0x1234 ∷ 0x5678 ∷ 0x9ABC ∷ 0xDEF0 ∷ (replicate 122 0 ++ (0xFEDC ∷ 0xBA98 ∷ []))

abbrev long_table : List Program
long_table =
    stored 0x0102 0x0304 Privileged
    ∷ stored 0x0506 0x0708 User
    ∷ stored 0x0009 0x0A00 Privileged
    ∷ stored 0 0 User ∷ stored 0 0 User ∷ stored 0 0 User ∷ stored 0 0 User
    ∷ stored 0xFFFE 0xFDFC Privileged
    ∷ []

-- what it loads to, what it says, and the bytes that are written for that
pub long_image :
    (length long_bytes ≡ 318)
    × (load_of long_bytes
    ≡ gives 0 (resting 64 10 (long_fields ++ replicate 128 0) (live 0x0102 0x0304 Privileged false) 8 long_table))
    × (bytes_of (record { pages = 64; exponent = 10; fields = long_fields; programs = long_table }) ≡ long_bytes)
unfolding load_of load_checks length_tests kind_tests shape_entry_tests shape_tests body_tests describe machine_of bytes_of
long_image = (refl, refl, refl)

-- the longest image, of 574 bytes: 128 pages and eight programs; and the shortest, of 31. The shortest one's mask is empty, 0x1004 with global
-- context 0x2003, and so is that of the third program above: a load does not ask (RULES 5.6).
abbrev ends : ℕ → ℕ → ℕ → ℕ → ℕ → ℕ → ℕ → ℕ → List ℕ
ends size size' offset offset' length pages exponent programs =
    0x01 ∷ 0x00 ∷ 0x00 ∷ 0x12 ∷ 0x00 ∷ 0x04 ∷ 0x02 ∷ 0x00 ∷ 0x00 ∷ 0x16 ∷ size ∷ size' ∷ 0x03 ∷ 0x00 ∷ offset ∷ offset' ∷ 0x00 ∷ length ∷ pages
    ∷ exponent ∷ programs ∷ 0x00 ∷ []

abbrev longest : List ℕ
longest = ends 0x02 0x00 0x02 0x16 0x28 0x80 0x09 0x08 ++ (repeated 512 (0x80 ∷ []) ++ repeated 40 (0x01 ∷ []))

abbrev shortest : List ℕ
shortest = ends 0x00 0x04 0x00 0x1A 0x05 0x01 0x05 0x01 ++ (0x80 ∷ 0x01 ∷ 0x40 ∷ 0x02 ∷ 0x20 ∷ 0x03 ∷ 0x10 ∷ 0x04 ∷ 0x00 ∷ [])

pub ends_load :
    (length longest ∷ length shortest ∷ [] ≡ 574 ∷ 31 ∷ [])
    × (load_of longest
    ≡ gives 0 (resting 128 9 (replicate 256 0x8080) (live 0x0101 0x0101 Privileged false) 8 (replicate 8 (stored 0x0101 0x0101 Privileged))))
    × (load_of shortest
    ≡ gives 0
    (resting 1 5 (0x8001 ∷ 0x4002 ∷ replicate 254 0) (live 0x2003 0x1004 User false) 1
    (stored 0x2003 0x1004 User ∷ replicate 7 (stored 0 0 User))))
unfolding load_of load_checks length_tests kind_tests shape_entry_tests shape_tests body_tests describe machine_of
ends_load = (refl, refl, refl)

-- what they are answered with one byte less or more, memories of 65,536 bytes and of one page more, and wrong mode bytes of the last and of
-- the first program
pub ends_refused :
    map (λ (s : List ℕ). (load_of s).number)
    (take 573 longest
    ∷ (longest ++ 0 ∷ [])
    ∷ take 30 shortest
    ∷ (shortest ++ 0 ∷ [])
    ∷ set longest 19 10
    ∷ set (set sample_bytes 18 64) 19 10
    ∷ set (set sample_bytes 18 65) 19 10
    ∷ set longest 573 2
    ∷ set longest 538 2
    ∷ set shortest 30 1
    ∷ set shortest 30 2
    ∷ set long_bytes 11 1
    ∷ set long_bytes 14 0
    ∷ set long_bytes 10 0
    ∷ [])
    ≡ 24 ∷ 20 ∷ 20 ∷ 24 ∷ 23 ∷ 24 ∷ 23 ∷ 25 ∷ 25 ∷ 0 ∷ 25 ∷ 24 ∷ 24 ∷ 24 ∷ []
unfolding load_of load_checks length_tests kind_tests shape_entry_tests shape_tests body_tests sample_bytes
ends_refused = refl

-- ---- the starred cases: which twelve they are, and what each gives

abbrev of_sample : (read₀ mask : ℕ) → Bool → Machine
of_sample read₀ mask pending =
    resting 3 8 (read₀ ∷ 0 ∷ 10 ∷ 2 ∷ 12 ∷ 4 ∷ replicate 250 0) (live 7 mask User pending) 2
    (stored 7 3 User ∷ stored 8 65535 User ∷ replicate 6 (stored 0 0 User))

abbrev page : ℕ → ℕ → (right : ℕ) → Call
page p s right = Grant right (record { 0 = p }) (record { 0 = s })

abbrev asked : Case → List Call × Call
asked c = (c.before, c.call)

abbrev case : List Call → Call → List Call × Call
case before call = (before, call)

pub twelve_asked :
    map asked starred
    ≡ case [] (Access One 0 256)
    ∷ case [] (Access One 1 256)
    ∷ case [] (Access One 1 0)
    ∷ case [] (Access One 0 767)
    ∷ case [] (Access One 0 768)
    ∷ case [] (page 0 0 0)
    ∷ case [] (page 0 3 1)
    ∷ case [] (Revoke 0 (record { 0 = 0 }) (record { 0 = 3 }))
    ∷ case [] (page 2 3 0)
    ∷ case (SetMask 0x0007 ∷ []) (page 2 3 0)
    ∷ case [] (page 0 16 0)
    ∷ case [] Return
    ∷ []
unfolding starred
twelve_asked = refl

-- "0" through domain 1 twice, "9", "9", "3", "12", "11", "0, field 0x0001", "11", "0", "5", "7"
abbrev twelve : List Answered
twelve =
    goes_through 1 (of_sample 9 3 false)
    ∷ goes_through 1 (of_sample 9 3 false)
    ∷ gives 9 (with_last (denied 0 1 0) (of_sample 9 3 true))
    ∷ gives 9 (with_last (denied 0 0 767) (of_sample 9 3 true))
    ∷ gives 3 (of_sample 9 3 false)
    ∷ gives 12 (of_sample 9 3 false)
    ∷ gives 11 (of_sample 9 3 false)
    ∷ gives 0 (of_sample 0x0001 3 false)
    ∷ gives 11 (of_sample 9 3 false)
    ∷ gives 0 (of_sample 9 7 false)
    ∷ gives 5 (of_sample 9 3 false)
    ∷ gives 7 (of_sample 9 3 false)
    ∷ []

pub twelve_given : (map outcome starred ≡ twelve) × (map expected starred ≡ twelve)
unfolding starred sample_machine call_of checks_of effect_of access_checks change_checks after is_sound domain_bit prevailing giving_domain load_of load_checks length_tests kind_tests shape_entry_tests shape_tests body_tests describe machine_of sample_bytes count_trailing_zeros
twelve_given = (refl, refl)

-- a case that says what is not so: what it must give is what it says, and what the definitions give is something else; and one whose call reports
pub cases_judged :
    let wrong : Case = record { before = SetMask 0x0007 ∷ []; call = Return; number = 99; machine = nothing; report = Through (record { 0 = 5 }) } in
    let asked : Case = record { before = Access One 1 0 ∷ Enter ∷ []; call = AskViolation; number = 0; machine = nothing; report = Nothing } in
    (outcome wrong ∷ expected wrong ∷ []
    ≡ gives 7 (of_sample 9 7 false) ∷ record { number = 99; machine = nothing; report = Through (record { 0 = 5 }) } ∷ [])
    × ((outcome asked).report ≡ Denied (record { program = 0; right = 1; address = 0 }))
unfolding call_of checks_of access_checks effect_of entered after is_sound load_of load_checks length_tests kind_tests shape_entry_tests shape_tests body_tests describe machine_of sample_bytes
cases_judged = (refl, refl)

-- and for any case, with any calls before it
pub cases_spelled : (c : Case) (m : Machine) (call : Call) (rest : List Call)
    → (after_calls m [] ≡ m)
    × (after_calls m (call ∷ rest) ≡ after_calls (call_of m call).machine rest)
    × (outcome c ≡ call_of (after_calls (load_of sample_bytes).machine c.before) c.call)
    × (◌≡◌ {A = Answered} (expected c) (record { number = c.number; machine = c.machine; report = c.report }))
cases_spelled c m call rest = (refl, refl, refl, refl)

-- the sample's bytes by themselves: their places and what stands there
pub sample_bytes_lem :
    sample_bytes
    ≡ 1 ∷ 0 ∷ 0 ∷ 18 ∷ 0 ∷ 4 ∷ 2 ∷ 0 ∷ 0 ∷ 22 ∷ 0 ∷ 12 ∷ 3 ∷ 0 ∷ 0 ∷ 34 ∷ 0 ∷ 10 ∷ 3 ∷ 8 ∷ 2 ∷ 0 ∷ 0 ∷ 9 ∷ 0 ∷ 0 ∷ 0 ∷ 10 ∷ 0 ∷ 2 ∷ 0 ∷ 12 ∷ 0 ∷ 4
    ∷ 0 ∷ 7 ∷ 0 ∷ 3 ∷ 0 ∷ 0 ∷ 8 ∷ 255 ∷ 255 ∷ 0 ∷ []
unfolding sample_bytes
sample_bytes_lem = refl
