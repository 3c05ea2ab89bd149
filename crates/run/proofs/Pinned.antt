-- What the definitions of this crate come to on records with parts that no call takes, on inputs cut at every place that matters, on machines that
-- are not sound, and on an image longer than 255 bytes. All is computed: what a definition gives stands beside what it must be, written out.
use Rattle.std.specs.Prelude.{Some, None}
use Prim.Native.Nat.{ℕ}
use mathlib.Core.Path.{◌≡◌, refl}
use mathlib.Core.Bool.{Bool, true, false}
use mathlib.Core.List.{List, [], ◌∷◌, ◌++◌, map}
use lib.Count.{count_trailing_zeros}
use lib.ListN.{length, replicate, set}
use Rattle.rules.specs.Domains.{domain_bit, prevailing, giving_domain}
use Rattle.rules.specs.declared.registers.Mode.{Mode}
use Rattle.rules.specs.declared.registers.Mode.TheVariants.{User, Privileged}
use Rattle.image.specs.Description.{machine_of}
use Rattle.image.specs.Load.{load_of, load_checks, length_tests, kind_tests, shape_entry_tests, shape_tests, body_tests, describe}
use Rattle.image.specs.Sample.{sample_bytes}
use Rattle.image.proofs.Pinned.{long_bytes}
use Rattle.machine.specs.Machine.{is_sound, with_last}
use Rattle.machine.specs.Calls.{call_of, unchecked_of, checks_of, access_checks, change_checks, effect_of, entered, returned, switched, after}
use Rattle.machine.specs.declared.record.Report.{Report}
use Rattle.machine.specs.declared.record.Report.TheVariants.{Nothing, Denied, Through}
use Rattle.machine.specs.declared.record.Machine.{Machine}
use Rattle.machine.specs.declared.record.Width.TheVariants.{One, Two}
use Rattle.machine.specs.declared.record.Call.TheVariants.{Access, Grant, Revoke, SetMask, Enter, Return, Switch, StoreField, StoreContext, StoreMask, StoreMode, AskViolation}
use Rattle.machine.proofs.Written.{stored, live, denied, whole, gives}
use Rattle.run.specs.Records.{call_of_kind, calls_of, step_by, step_of, unchecked_step_of}
use Rattle.run.specs.Run.{steps_from, answers_of, call_steps, call_reports, call_bytes, image_of, is_long, name_of, report_named, sent, sent_reports}

-- a right above 1 is read as it stands, every part that a call does not use is passed over, and no kind past 13 is known
pub parts_read :
    (map (λ (right : ℕ). call_of_kind 1 right 0xFFFF 0xFFFE) (0 ∷ 1 ∷ 2 ∷ 255 ∷ [])
    ≡ Some (Access One 0 0xFFFFFFFE) ∷ Some (Access One 1 0xFFFFFFFE) ∷ Some (Access One 2 0xFFFFFFFE) ∷ Some (Access One 255 0xFFFFFFFE) ∷ [])
    × (map (λ (kind : ℕ). call_of_kind kind 254 0xFFFF 0xFFFE) (2 ∷ 3 ∷ 4 ∷ 5 ∷ 6 ∷ 7 ∷ 8 ∷ 9 ∷ 10 ∷ 11 ∷ 12 ∷ 13 ∷ [])
    ≡ Some (Grant 254 (record { 0 = 0xFFFF }) (record { 0 = 0xFFFE }))
    ∷ Some (Revoke 254 (record { 0 = 0xFFFF }) (record { 0 = 0xFFFE }))
    ∷ Some (SetMask 0xFFFE)
    ∷ Some Enter
    ∷ Some Return
    ∷ Some (Switch 0xFFFE)
    ∷ Some (StoreField 254 (record { 0 = 0xFFFF }) 0xFFFE)
    ∷ Some (StoreContext 0xFFFE)
    ∷ Some (StoreMask 0xFFFE)
    ∷ Some (StoreMode 0xFFFE)
    ∷ Some AskViolation
    ∷ Some (Access Two 254 0xFFFFFFFE)
    ∷ [])
    × (map (λ (kind : ℕ). call_of_kind kind 1 2 3) (0 ∷ 14 ∷ 15 ∷ 16 ∷ 17 ∷ 32 ∷ 65 ∷ 127 ∷ 128 ∷ 129 ∷ 133 ∷ 255 ∷ []) ≡ replicate 12 None)
unfolding call_of_kind
parts_read = (refl, refl, refl)

-- the bytes of records, and each remainder, which is no call
pub records_cut :
    (map calls_of
    ([] ∷ (5 ∷ []) ∷ (5 ∷ 0 ∷ []) ∷ (5 ∷ 0 ∷ 0 ∷ []) ∷ (5 ∷ 0 ∷ 0 ∷ 0 ∷ []) ∷ (5 ∷ 0 ∷ 0 ∷ 0 ∷ 0 ∷ []) ∷ [])
    ≡ replicate 6 [])
    × (map calls_of
    ((5 ∷ 255 ∷ 1 ∷ 2 ∷ 3 ∷ 4 ∷ [])
    ∷ (1 ∷ 2 ∷ 0x12 ∷ 0x34 ∷ 0x56 ∷ 0x78 ∷ 6 ∷ [])
    ∷ (200 ∷ 0 ∷ 0 ∷ 0 ∷ 0 ∷ 0 ∷ 4 ∷ 0 ∷ 0x12 ∷ 0x34 ∷ 0x56 ∷ 0x78 ∷ 6 ∷ 0 ∷ 0 ∷ 0 ∷ 0 ∷ [])
    ∷ [])
    ≡ (Some Enter ∷ []) ∷ (Some (Access One 2 0x12345678) ∷ []) ∷ (None ∷ Some (SetMask 0x5678) ∷ []) ∷ [])
unfolding calls_of call_of_kind
records_cut = (refl, refl)

-- one page, held by domain 0 for READ, and one program
abbrev small : ℕ → ℕ → Mode → Bool → List Bool → Machine
small depth mask mode pending saved = whole 1 5 (1 ∷ 0 ∷ []) (live 1 mask mode pending) depth saved 1 0 (stored 1 1 User ∷ [])

-- steps: an unknown record is answered 18 and leaves the machine alone, sound or not; a call is made, with the check for 1 or without it
pub steps_made :
    let m = small 0 1 User false (false ∷ []) in
    let deep = small 9 1 User false (false ∷ []) in
    (map (step_of m) (None ∷ Some (SetMask 7) ∷ Some (SetMask 6) ∷ Some (Access One 1 0) ∷ Some Enter ∷ Some Return ∷ [])
    ≡ gives 18 m
    ∷ gives 0 (small 0 7 User false (false ∷ []))
    ∷ gives 19 m
    ∷ gives 9 (with_last (denied 0 1 0) (small 0 1 User true (false ∷ [])))
    ∷ gives 0 (small 1 1 Privileged false (false ∷ []))
    ∷ gives 7 m
    ∷ [])
    × (map (step_of deep) (None ∷ Some (SetMask 7) ∷ Some Enter ∷ []) ≡ gives 18 deep ∷ gives 1 deep ∷ gives 1 deep ∷ [])
    × (map (unchecked_step_of deep) (None ∷ Some (SetMask 7) ∷ Some (SetMask 6) ∷ Some Enter ∷ [])
    ≡ gives 18 deep ∷ gives 0 (small 9 7 User false (false ∷ [])) ∷ gives 19 deep ∷ gives 13 deep ∷ [])
unfolding step_by call_of unchecked_of checks_of access_checks effect_of entered after is_sound
steps_made = (refl, refl, refl)

-- the image and the calls of an input: a length in two bytes, more than there is, less than there is, and none
pub inputs_cut :
    let inputs : List (List ℕ) = [] ∷ (1 ∷ []) ∷ (0 ∷ 0 ∷ 7 ∷ []) ∷ (0 ∷ 2 ∷ 7 ∷ 8 ∷ 9 ∷ []) ∷ (1 ∷ 0 ∷ 7 ∷ 8 ∷ 9 ∷ []) ∷ (0 ∷ 3 ∷ 7 ∷ 8 ∷ 9 ∷ []) ∷ [] in
    (map image_of inputs ≡ [] ∷ [] ∷ [] ∷ (7 ∷ 8 ∷ []) ∷ (7 ∷ 8 ∷ 9 ∷ []) ∷ (7 ∷ 8 ∷ 9 ∷ []) ∷ [])
    × (map call_bytes inputs ≡ [] ∷ [] ∷ (7 ∷ []) ∷ (9 ∷ []) ∷ [] ∷ [] ∷ [])
    × (length (image_of (1 ∷ 2 ∷ replicate 300 7)) ∷ length (call_bytes (1 ∷ 2 ∷ replicate 300 7)) ∷ [] ≡ 258 ∷ 42 ∷ [])
inputs_cut = (refl, refl, refl)

-- a run of nine records on the sample: what each answer leaves decides the next, and an unknown record leaves everything
pub sample_run :
    answers_of
    (0x00 ∷ 0x2C ∷ (sample_bytes
    ++ (0xFF ∷ 0x00 ∷ 0x00 ∷ 0x00 ∷ 0x00 ∷ 0x00
    ∷ 0x04 ∷ 0x00 ∷ 0x00 ∷ 0x00 ∷ 0x00 ∷ 0x07
    ∷ 0x02 ∷ 0x00 ∷ 0x00 ∷ 0x01 ∷ 0x00 ∷ 0x0F
    ∷ 0x03 ∷ 0x02 ∷ 0x00 ∷ 0x01 ∷ 0x00 ∷ 0x0F
    ∷ 0x01 ∷ 0x01 ∷ 0x00 ∷ 0x00 ∷ 0x00 ∷ 0x00
    ∷ 0x0E ∷ 0x00 ∷ 0x00 ∷ 0x00 ∷ 0x00 ∷ 0x00
    ∷ 0x04 ∷ 0x00 ∷ 0x00 ∷ 0x00 ∷ 0x00 ∷ 0x07
    ∷ 0x05 ∷ 0x00 ∷ 0x00 ∷ 0x00 ∷ 0x00 ∷ 0x00
    ∷ 0x0B ∷ 0x00 ∷ 0x00 ∷ 0x00 ∷ 0x00 ∷ 0x00
    ∷ 0x07 ∷ 0x00 ∷ 0x00 ∷ 0x00 ∷ 0x00 ∷ 0x01
    ∷ 0x05 ∷ [])))
    ≡ 0 ∷ 18 ∷ 0 ∷ 0 ∷ 2 ∷ 9 ∷ 18 ∷ 8 ∷ 0 ∷ 0 ∷ 7 ∷ []
unfolding sample_bytes call_steps steps_from calls_of call_of_kind step_by load_of load_checks length_tests kind_tests shape_entry_tests shape_tests body_tests describe machine_of call_of checks_of access_checks change_checks effect_of entered returned switched after is_sound prevailing domain_bit count_trailing_zeros
sample_run = refl

-- accesses of two bytes on the sample: within page 0, from page 0 to page 1, of which each gives READ through a domain of its own, and from page 1 to
-- page 2, which does not give it; then the flag is set. In privileged mode memory ends all the same, and past the greatest address nothing wraps.
pub two_bytes_run :
    answers_of
    (0x00 ∷ 0x2C ∷ (sample_bytes
    ++ (0x0D ∷ 0x00 ∷ 0x00 ∷ 0x00 ∷ 0x00 ∷ 0xFE
    ∷ 0x0D ∷ 0x00 ∷ 0x00 ∷ 0x00 ∷ 0x00 ∷ 0xFF
    ∷ 0x0D ∷ 0x00 ∷ 0x00 ∷ 0x00 ∷ 0x01 ∷ 0xFE
    ∷ 0x0D ∷ 0x02 ∷ 0x00 ∷ 0x00 ∷ 0x02 ∷ 0xFF
    ∷ 0x0D ∷ 0x00 ∷ 0x00 ∷ 0x00 ∷ 0x02 ∷ 0xFF
    ∷ 0x0D ∷ 0x00 ∷ 0x00 ∷ 0x00 ∷ 0x01 ∷ 0xFF
    ∷ 0x0D ∷ 0x00 ∷ 0x00 ∷ 0x00 ∷ 0x00 ∷ 0xFE
    ∷ 0x05 ∷ 0x00 ∷ 0x00 ∷ 0x00 ∷ 0x00 ∷ 0x00
    ∷ 0x0D ∷ 0x01 ∷ 0x00 ∷ 0x00 ∷ 0x02 ∷ 0xFE
    ∷ 0x0D ∷ 0x01 ∷ 0x00 ∷ 0x00 ∷ 0x02 ∷ 0xFF
    ∷ 0x0D ∷ 0x01 ∷ 0xFF ∷ 0xFF ∷ 0xFF ∷ 0xFF
    ∷ [])))
    ≡ 0 ∷ 0 ∷ 0 ∷ 0 ∷ 2 ∷ 3 ∷ 9 ∷ 8 ∷ 0 ∷ 0 ∷ 3 ∷ 3 ∷ []
unfolding sample_bytes call_steps steps_from calls_of call_of_kind step_by load_of load_checks length_tests kind_tests shape_entry_tests shape_tests body_tests describe machine_of call_of checks_of access_checks effect_of entered after is_sound
two_bytes_run = refl

-- what a run on the sample reports: accesses of one byte and of two that go through domains 0 and 1; a grant, an unknown record, a violation and an access
-- after it, an entry and an access in privileged mode, which name none; the question, which hands out the violation; and after a return and another mask the
-- same access through the domain that was granted. It is sent with the answers where these fit, and is none after a refused load.
pub reports_run :
    let input : List ℕ =
    0x00 ∷ 0x2C ∷ (sample_bytes
    ++ (0x01 ∷ 0x00 ∷ 0x00 ∷ 0x00 ∷ 0x00 ∷ 0x10
    ∷ 0x0D ∷ 0x00 ∷ 0x00 ∷ 0x00 ∷ 0x00 ∷ 0xFF
    ∷ 0x0D ∷ 0x00 ∷ 0x00 ∷ 0x00 ∷ 0x01 ∷ 0x00
    ∷ 0x01 ∷ 0x01 ∷ 0x00 ∷ 0x00 ∷ 0x01 ∷ 0x00
    ∷ 0x02 ∷ 0x00 ∷ 0x00 ∷ 0x00 ∷ 0x00 ∷ 0x01
    ∷ 0x0E ∷ 0x00 ∷ 0x00 ∷ 0x00 ∷ 0x00 ∷ 0x00
    ∷ 0x01 ∷ 0x01 ∷ 0x00 ∷ 0x00 ∷ 0x00 ∷ 0x00
    ∷ 0x01 ∷ 0x00 ∷ 0x00 ∷ 0x00 ∷ 0x00 ∷ 0x10
    ∷ 0x05 ∷ 0x00 ∷ 0x00 ∷ 0x00 ∷ 0x00 ∷ 0x00
    ∷ 0x01 ∷ 0x00 ∷ 0x00 ∷ 0x00 ∷ 0x00 ∷ 0x10
    ∷ 0x0C ∷ 0x00 ∷ 0x00 ∷ 0x00 ∷ 0x00 ∷ 0x00
    ∷ 0x06 ∷ 0x00 ∷ 0x00 ∷ 0x00 ∷ 0x00 ∷ 0x00
    ∷ 0x04 ∷ 0x00 ∷ 0x00 ∷ 0x00 ∷ 0x00 ∷ 0x06
    ∷ 0x01 ∷ 0x00 ∷ 0x00 ∷ 0x00 ∷ 0x00 ∷ 0x10
    ∷ []))
    in
    let goes : ℕ → Report = λ s. Through (record { 0 = s }) in
    let reports : List Report =
    goes 0 ∷ goes 0 ∷ goes 1 ∷ goes 1 ∷ Nothing ∷ Nothing ∷ Nothing ∷ Nothing ∷ Nothing ∷ Nothing
    ∷ Denied (record { program = 0; right = 1; address = 0 }) ∷ Nothing ∷ Nothing ∷ goes 1 ∷ []
    in
    (call_reports input ≡ reports)
    × (map (sent_reports input) (0 ∷ 14 ∷ 15 ∷ 16 ∷ []) ≡ [] ∷ [] ∷ reports ∷ reports ∷ [])
    × (map name_of reports ≡ 1 ∷ 1 ∷ 2 ∷ 2 ∷ 0 ∷ 0 ∷ 0 ∷ 0 ∷ 0 ∷ 0 ∷ 0 ∷ 0 ∷ 0 ∷ 2 ∷ [])
    × (map name_of (goes 9 ∷ goes 15 ∷ goes 65535 ∷ []) ≡ 10 ∷ 16 ∷ 65536 ∷ [])
    × (map report_named (0 ∷ 1 ∷ 2 ∷ 16 ∷ 65536 ∷ []) ≡ Nothing ∷ goes 0 ∷ goes 1 ∷ goes 15 ∷ goes 65535 ∷ [])
    × (call_reports (0x00 ∷ 0x2C ∷ (set sample_bytes 38 2 ++ (0x05 ∷ 0x00 ∷ 0x00 ∷ 0x00 ∷ 0x00 ∷ 0x00 ∷ []))) ≡ [])
    × (sent_reports (replicate 32769 0) 9 ≡ [])
unfolding sample_bytes call_steps sent sent_reports steps_from calls_of call_of_kind step_by load_of load_checks length_tests kind_tests shape_entry_tests shape_tests body_tests describe machine_of call_of checks_of access_checks change_checks effect_of entered returned switched after is_sound prevailing giving_domain domain_bit count_trailing_zeros
reports_run = (refl, refl, refl, refl, refl, refl, refl)

-- an image of 318 bytes, whose length stands in both bytes: program 0 is privileged
pub long_run :
    answers_of
    (0x01 ∷ 0x3E ∷ (long_bytes
    ++ (0x01 ∷ 0x01 ∷ 0x00 ∷ 0x00 ∷ 0xFF ∷ 0xFF
    ∷ 0x01 ∷ 0x00 ∷ 0x00 ∷ 0x01 ∷ 0x00 ∷ 0x00
    ∷ 0x01 ∷ 0x02 ∷ 0x00 ∷ 0x00 ∷ 0x00 ∷ 0x00
    ∷ 0x08 ∷ 0x01 ∷ 0x00 ∷ 0x3F ∷ 0x00 ∷ 0x00
    ∷ 0x08 ∷ 0x01 ∷ 0x00 ∷ 0x40 ∷ 0x00 ∷ 0x00
    ∷ 0x06 ∷ 0x00 ∷ 0x00 ∷ 0x00 ∷ 0x00 ∷ 0x00
    ∷ 0x05 ∷ 0x00 ∷ 0x00 ∷ 0x00 ∷ 0x00 ∷ 0x00
    ∷ 0x07 ∷ 0x00 ∷ 0x00 ∷ 0x00 ∷ 0x00 ∷ 0x08
    ∷ 0x07 ∷ 0x00 ∷ 0x00 ∷ 0x00 ∷ 0x00 ∷ 0x01
    ∷ 0x06 ∷ 0x00 ∷ 0x00 ∷ 0x00 ∷ 0x00 ∷ 0x00
    ∷ 0x04 ∷ 0x00 ∷ 0x00 ∷ 0x00 ∷ 0xFF ∷ 0xFF
    ∷ 0x01 ∷ 0x00 ∷ 0x00 ∷ 0x00 ∷ 0xFF ∷ 0xFF
    ∷ [])))
    ≡ 0 ∷ 0 ∷ 3 ∷ 2 ∷ 0 ∷ 4 ∷ 14 ∷ 0 ∷ 16 ∷ 0 ∷ 0 ∷ 0 ∷ 0 ∷ []
unfolding call_steps steps_from calls_of call_of_kind step_by load_of load_checks length_tests kind_tests shape_entry_tests shape_tests body_tests describe machine_of call_of checks_of access_checks change_checks effect_of entered returned switched after is_sound
long_run = refl

-- after each refusal of a load that one answer is all there is
pub refused_runs :
    let with_entry : List ℕ → List ℕ = λ image. 0x00 ∷ 0x2C ∷ (image ++ (0x05 ∷ 0x00 ∷ 0x00 ∷ 0x00 ∷ 0x00 ∷ 0x00 ∷ [])) in
    map answers_of
    ((0x00 ∷ 0x00 ∷ 0x05 ∷ 0x00 ∷ 0x00 ∷ 0x00 ∷ 0x00 ∷ 0x00 ∷ [])
    ∷ with_entry (set sample_bytes 0 2)
    ∷ with_entry (set sample_bytes 3 0x13)
    ∷ with_entry (set sample_bytes 21 1)
    ∷ with_entry (set sample_bytes 9 0x17)
    ∷ with_entry (set sample_bytes 38 2)
    ∷ with_entry sample_bytes
    ∷ [])
    ≡ (20 ∷ []) ∷ (21 ∷ []) ∷ (22 ∷ []) ∷ (23 ∷ []) ∷ (24 ∷ []) ∷ (25 ∷ []) ∷ (0 ∷ 0 ∷ []) ∷ []
unfolding sample_bytes call_steps steps_from calls_of call_of_kind step_by load_of load_checks length_tests kind_tests shape_entry_tests shape_tests body_tests describe machine_of call_of checks_of effect_of entered after is_sound
refused_runs = refl

-- what a buffer of a length gets, and which inputs are long
pub rooms :
    (map (sent (0x00 ∷ [])) (0 ∷ 1 ∷ 2 ∷ 255 ∷ []) ≡ [] ∷ (20 ∷ []) ∷ (20 ∷ []) ∷ (20 ∷ []) ∷ [])
    × (map (λ (n : ℕ). is_long (replicate n 0)) (0 ∷ 1 ∷ 32767 ∷ 32768 ∷ 32769 ∷ 40000 ∷ []) ≡ false ∷ false ∷ false ∷ false ∷ true ∷ true ∷ [])
    × (sent (replicate 32769 0) 9 ∷ sent (replicate 32768 0) 9 ∷ [] ≡ [] ∷ (20 ∷ []) ∷ [])
unfolding sent call_steps load_of load_checks length_tests kind_tests
rooms = (refl, refl, refl)
