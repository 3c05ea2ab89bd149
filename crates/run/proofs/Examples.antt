-- Computed examples: each kind of record with parts that differ, and what the sample node answers and reports (RULES 6.5, 6.11).
use Rattle.std.specs.Prelude.{Some, None}
use Prim.Native.Nat.{ℕ}
use mathlib.Core.Path.{◌≡◌, refl, ap}
use mathlib.Core.List.{List, [], ◌∷◌, ◌++◌, map}
use lib.Count.{count_trailing_zeros}
use lib.ListN.{length, drop, replicate}
use Rattle.rules.specs.Domains.{domain_bit, prevailing, giving_domain}
use Rattle.image.specs.Description.{machine_of}
use Rattle.image.specs.Load.{load_of, load_checks, length_tests, kind_tests, shape_entry_tests, shape_tests, body_tests, describe}
use Rattle.image.specs.Sample.{sample_bytes}
use Rattle.machine.specs.Machine.{is_sound}
use Rattle.machine.specs.Calls.{as_page, as_domain, call_of, checks_of, access_checks, change_checks, effect_of, entered, returned, switched, after}
use Rattle.machine.specs.declared.record.Report.TheVariants.{Nothing, Through}
use Rattle.machine.specs.declared.record.Width.TheVariants.{One, Two}
use Rattle.machine.specs.declared.record.Call.TheVariants.{Access, Grant, Revoke, SetMask, Enter, Return, Switch, StoreField, StoreContext, StoreMask, StoreMode, AskViolation}
use Rattle.run.specs.Records.{call_of_kind, calls_of, step_by}
use Rattle.run.specs.Run.{steps_from, answers_of, call_steps, call_reports, sent}

-- a record of a kind, with right 1, A = 0x0203 and B = 0x0405
abbrev record_of : ℕ → List ℕ → List ℕ
record_of kind rest = kind ∷ 1 ∷ 2 ∷ 3 ∷ 4 ∷ 5 ∷ rest

-- RULES 6.5, 6.6, 6.9: the thirteen kinds, the two next to them, and a remainder that is no record
pub kinds_read :
    calls_of
    (record_of 0 (record_of 1 (record_of 2 (record_of 3 (record_of 4 (record_of 5 (record_of 6 (record_of 7 (record_of 8
    (record_of 9 (record_of 10 (record_of 11 (record_of 12 (record_of 13 (record_of 14 (1 ∷ 1 ∷ 2 ∷ 3 ∷ 4 ∷ []))))))))))))))))
    ≡ None
    ∷ Some (Access One 1 0x02030405)
    ∷ Some (Grant 1 (as_page 0x0203) (as_domain 0x0405))
    ∷ Some (Revoke 1 (as_page 0x0203) (as_domain 0x0405))
    ∷ Some (SetMask 0x0405)
    ∷ Some Enter
    ∷ Some Return
    ∷ Some (Switch 0x0405)
    ∷ Some (StoreField 1 (as_page 0x0203) 0x0405)
    ∷ Some (StoreContext 0x0405)
    ∷ Some (StoreMask 0x0405)
    ∷ Some (StoreMode 0x0405)
    ∷ Some AskViolation
    ∷ Some (Access Two 1 0x02030405)
    ∷ None
    ∷ []
unfolding calls_of call_of_kind
kinds_read = refl

-- RULES 6.11: the sample input, with a line for each record there
unfoldable pub sample_input : List ℕ
sample_input =
    0x00 ∷ 0x2C ∷ (sample_bytes
    ++ (0x01 ∷ 0x00 ∷ 0x00 ∷ 0x00 ∷ 0x00 ∷ 0x10
    ∷ 0x01 ∷ 0x00 ∷ 0x00 ∷ 0x00 ∷ 0x02 ∷ 0x00
    ∷ 0x04 ∷ 0x00 ∷ 0x00 ∷ 0x00 ∷ 0x00 ∷ 0x07
    ∷ 0x05 ∷ 0x00 ∷ 0x00 ∷ 0x00 ∷ 0x00 ∷ 0x00
    ∷ 0x07 ∷ 0x00 ∷ 0x00 ∷ 0x00 ∷ 0x00 ∷ 0x01
    ∷ 0x06 ∷ 0x00 ∷ 0x00 ∷ 0x00 ∷ 0x00 ∷ 0x00
    ∷ 0x01 ∷ 0x00 ∷ 0x00 ∷ 0x00 ∷ 0x02 ∷ 0x00
    ∷ 0x01 ∷ 0x01 ∷ 0x00 ∷ 0x00 ∷ 0x00 ∷ 0x00
    ∷ []))

-- RULES 6.11: its answers
pub sample_answered : answers_of sample_input ≡ 0 ∷ 0 ∷ 9 ∷ 8 ∷ 0 ∷ 0 ∷ 0 ∷ 0 ∷ 9 ∷ []
unfolding sample_input sample_bytes call_steps steps_from calls_of call_of_kind step_by load_of load_checks length_tests kind_tests shape_entry_tests shape_tests body_tests describe machine_of call_of checks_of access_checks change_checks effect_of entered returned switched after is_sound prevailing domain_bit count_trailing_zeros
sample_answered = refl

-- RULES 6.11: what it reports: the first access goes through domain 0, the seventh record's through domain 3
pub sample_reported : call_reports sample_input
    ≡ Through (as_domain 0) ∷ Nothing ∷ Nothing ∷ Nothing ∷ Nothing ∷ Nothing ∷ Through (as_domain 3) ∷ Nothing ∷ []
unfolding sample_input sample_bytes call_steps steps_from calls_of call_of_kind step_by load_of load_checks length_tests kind_tests shape_entry_tests shape_tests body_tests describe machine_of call_of checks_of access_checks change_checks effect_of entered returned switched after is_sound prevailing giving_domain domain_bit count_trailing_zeros
sample_reported = refl

-- RULES 6.9: a remainder has no answer, and reports nothing
pub remainder_answered : (answers_of (sample_input ++ 0x01 ∷ []) ≡ 0 ∷ 0 ∷ 9 ∷ 8 ∷ 0 ∷ 0 ∷ 0 ∷ 0 ∷ 9 ∷ []) × (call_reports (sample_input ++ 0x01 ∷ []) ≡ call_reports sample_input)
unfolding sample_input sample_bytes call_steps steps_from calls_of call_of_kind step_by load_of load_checks length_tests kind_tests shape_entry_tests shape_tests body_tests describe machine_of call_of checks_of access_checks change_checks effect_of entered returned switched after is_sound prevailing giving_domain domain_bit count_trailing_zeros
remainder_answered = (refl, refl)

-- RULES 6.6: an unknown record leaves the machine alone, so that the access after it is allowed. RULES 6.2, 6.3, 6.8: a declared length of
-- one byte more and of one byte less than the image has, and inputs of 1 byte and of none.
pub ends_answered :
    map answers_of
    ((0x00 ∷ 0x2C ∷ (sample_bytes ++ (0x0E ∷ 0x00 ∷ 0x00 ∷ 0x00 ∷ 0x00 ∷ 0x00 ∷ 0x01 ∷ 0x00 ∷ 0x00 ∷ 0x00 ∷ 0x00 ∷ 0x10 ∷ [])))
    ∷ (0x00 ∷ 0x2D ∷ sample_bytes)
    ∷ (0x00 ∷ 0x2B ∷ (sample_bytes ++ (0x05 ∷ 0x00 ∷ 0x00 ∷ 0x00 ∷ 0x00 ∷ [])))
    ∷ (0x00 ∷ [])
    ∷ []
    ∷ [])
    ≡ (0 ∷ 18 ∷ 0 ∷ []) ∷ (0 ∷ []) ∷ (24 ∷ []) ∷ (20 ∷ []) ∷ (20 ∷ []) ∷ []
unfolding sample_bytes call_steps steps_from calls_of call_of_kind step_by load_of load_checks length_tests kind_tests shape_entry_tests shape_tests body_tests describe machine_of call_of checks_of access_checks change_checks effect_of entered returned switched after is_sound prevailing domain_bit count_trailing_zeros
ends_answered = refl

-- RULES 7.4: the sample's nine answers in buffers about as long
pub room_sent : map (sent sample_input) (0 ∷ 8 ∷ 9 ∷ 10 ∷ []) ≡ [] ∷ [] ∷ answers_of sample_input ∷ answers_of sample_input ∷ []
unfolding sent sample_input sample_bytes
room_sent = rw (ap (λ (l : List ℕ). drop 1 l) sample_answered)

-- RULES 7.4: the longest input that is run, and one byte more
pub long_sent : map (λ (n : ℕ). length (sent (replicate n 0) 1)) (32768 ∷ 32769 ∷ []) ≡ 1 ∷ 0 ∷ []
unfolding sent call_steps load_of load_checks length_tests kind_tests
long_sent = refl
