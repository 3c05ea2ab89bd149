-- Records and runs spelled out for any input: the call of each kind, the steps in a row, what they answer and report, and what is sent into any room. The
-- tables of Pinned try inputs that are written out; here none is left out.
use Rattle.std.specs.Prelude.{Option, Some, None}
use Prim.Native.Nat.{ℕ, zero, suc, ◌+◌, ◌*◌}
use mathlib.Core.Path.{◌≡◌, refl}
use mathlib.Core.List.{List, [], ◌∷◌, map}
use lib.Dec.{leb, ltb, eqb}
use lib.ListN.{length, take, drop}
use Rattle.rules.specs.Refusals.{pick}
use Rattle.image.specs.Bytes.{word_at}
use Rattle.image.specs.Load.{load_of}
use Rattle.machine.specs.Calls.{call_of, unchecked_of}
use Rattle.machine.specs.declared.record.Machine.{Machine}
use Rattle.machine.specs.declared.record.Domain.{Domain}
use Rattle.machine.specs.declared.record.Violation.{Violation}
use Rattle.machine.specs.declared.record.Answered.{Answered}
use Rattle.machine.specs.declared.record.Report.TheVariants.{Nothing, Denied, Through}
use Rattle.machine.specs.declared.record.Width.TheVariants.{One, Two}
use Rattle.machine.specs.declared.record.Call.{Call}
use Rattle.machine.specs.declared.record.Call.TheVariants.{Access, Grant, Revoke, SetMask, Enter, Return, Switch, StoreField, StoreContext, StoreMask, StoreMode, AskViolation}
use Rattle.run.specs.Records.{call_of_kind, calls_of, step_by, unchecked_step_of}
use Rattle.run.specs.Run.{answers_of, call_reports, call_steps, loaded_of, name_of, report_named, sent, sent_reports, steps_from}

-- the kinds for any parts, and a kind past the last
pub kinds_spelled : (right a b more : ℕ)
    → (map (λ kind. call_of_kind kind right a b) (0 ∷ 1 ∷ 2 ∷ 3 ∷ 4 ∷ 5 ∷ 6 ∷ 7 ∷ 8 ∷ 9 ∷ 10 ∷ 11 ∷ 12 ∷ 13 ∷ [])
    ≡ None
    ∷ Some (Access One right (65536 * a + b))
    ∷ Some (Grant right (record { 0 = a }) (record { 0 = b }))
    ∷ Some (Revoke right (record { 0 = a }) (record { 0 = b }))
    ∷ Some (SetMask b)
    ∷ Some Enter
    ∷ Some Return
    ∷ Some (Switch b)
    ∷ Some (StoreField right (record { 0 = a }) b)
    ∷ Some (StoreContext b)
    ∷ Some (StoreMask b)
    ∷ Some (StoreMode b)
    ∷ Some AskViolation
    ∷ Some (Access Two right (65536 * a + b))
    ∷ [])
    × (call_of_kind (suc (suc (suc (suc (suc (suc (suc (suc (suc (suc (suc (suc (suc (suc more)))))))))))))) right a b ≡ None)
unfolding call_of_kind
kinds_spelled right a b more = (refl, refl)

-- any six bytes are one record, and the calls of what follows them come after it
pub records_spelled : (kind right a a' b b' : ℕ) (rest : List ℕ)
    → calls_of (kind ∷ right ∷ a ∷ a' ∷ b ∷ b' ∷ rest) ≡ call_of_kind kind right (256 * a + a') (256 * b + b') ∷ calls_of rest
unfolding calls_of
records_spelled kind right a a' b b' rest = refl

-- the answers of any input and what is sent of them into any room, with what they report and how a name stands in a buffer
pub run_spelled : (input : List ℕ) (room : ℕ) (m : Machine) (call : Call) (rest : List (Option Call)) (violation : Violation) (s : Domain)
    → let start = load_of (take (word_at input 0) (drop 2 input)) in
    let calls = drop (word_at input 0) (drop 2 input) in
    let steps : List Answered = pick (eqb start.number 0) (steps_from start.machine (calls_of calls)) [] in
    let answers : List ℕ = start.number ∷ map (λ (a : Answered). a.number) steps in
    let given : List ℕ = pick (ltb 32768 (length input)) [] (pick (leb (length answers) room) answers []) in
    (loaded_of input ≡ start)
    × (answers_of input ≡ answers)
    × (sent input room ≡ given)
    × (steps_from m (Some call ∷ rest) ≡ call_of m call ∷ steps_from (call_of m call).machine rest)
    × (steps_from m (None ∷ rest) ≡ record { number = 18; machine = m; report = Nothing } ∷ steps_from m rest)
    × (steps_from m [] ≡ [])
    × (call_reports input ≡ map (λ (a : Answered). a.report) steps)
    × (sent_reports input room ≡ pick (eqb (length given) 0) [] (call_reports input))
    × (name_of Nothing ∷ name_of (Denied violation) ∷ name_of (Through s) ∷ [] ≡ 0 ∷ 0 ∷ (s.0 + 1) ∷ [])
    × (report_named zero ∷ report_named (suc room) ∷ [] ≡ Nothing ∷ Through (record { 0 = room }) ∷ [])
    × (unchecked_step_of m (Some call) ≡ unchecked_of m call)
    × (unchecked_step_of m None ≡ record { number = 18; machine = m; report = Nothing })
unfolding sent sent_reports call_steps steps_from step_by
run_spelled input room m call rest violation s = (refl, refl, refl, refl, refl, refl, refl, refl, refl, refl, refl, refl)
