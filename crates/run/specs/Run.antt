-- The run over a whole input, and the bench (RULES, sections 6 and 7).
use Rattle.std.specs.Prelude.{ℕ, zero, suc, ◌+◌, Bool, Option, List, [], ◌∷◌, map, eqb, leb, ltb, length, take, drop}
use Rattle.machine.specs.declared.record.Call.{Call}
use Rattle.rules.specs.Refusals.{pick}
use Rattle.image.specs.Bytes.{word_at}
use Rattle.image.specs.Load.{load_of}
use Rattle.machine.specs.Calls.{as_domain}
use Rattle.machine.specs.declared.record.Machine.{Machine}
use Rattle.machine.specs.declared.record.Answered.{Answered}
use Rattle.machine.specs.declared.record.Report.{Report}
use Rattle.machine.specs.declared.record.Report.TheVariants.{Nothing, Denied, Through}
use Rattle.run.specs.Records.{calls_of, step_of}

-- RULES 6.1 to 6.3: as many bytes past the first two as these declare, or those that are there
abbrev pub image_of : List ℕ → List ℕ
image_of input = take (word_at input 0) (drop 2 input)

-- RULES 6.1, 6.2: all that is left after the image
abbrev pub call_bytes : List ℕ → List ℕ
call_bytes input = drop (word_at input 0) (drop 2 input)

-- RULES 6.7: the load of an input's image
abbrev pub loaded_of : List ℕ → Answered
loaded_of input = load_of (image_of input)

-- RULES 6.7: the records taken as steps, each on the machine that was given back before it
unfoldable pub steps_from : Machine → List (Option Call) → List Answered
steps_from m [] = []
steps_from m (call ∷ rest) = step_of m call ∷ steps_from (step_of m call).machine rest

-- RULES 6.7: the answers of steps
abbrev pub numbers_of : List Answered → List ℕ
numbers_of steps = map (λ (a : Answered). a.number) steps

-- RULES 6.7: what steps report
abbrev pub reports_of : List Answered → List Report
reports_of steps = map (λ (a : Answered). a.report) steps

-- RULES 6.7, 6.8: the steps of an input's records, from the loaded machine on; after a refused load no record is read
unfoldable pub call_steps : List ℕ → List Answered
call_steps input = pick (eqb (loaded_of input).number 0) (steps_from (loaded_of input).machine (calls_of (call_bytes input))) []

-- RULES 6.7: the answers of the records
abbrev pub call_answers : List ℕ → List ℕ
call_answers input = numbers_of (call_steps input)

-- RULES 6.7: what the records report, one report for each
abbrev pub call_reports : List ℕ → List Report
call_reports input = reports_of (call_steps input)

-- RULES 6.7, 7.2: the load's number, then each record's
abbrev pub answers_of : List ℕ → List ℕ
answers_of input = (loaded_of input).number ∷ call_answers input

-- RULES 6.10: an input that is not run
abbrev pub is_long : List ℕ → Bool
is_long input = ltb 32768 (length input)

-- RULES 7.2 to 7.4: what the bench gets: every answer, or none where they do not all fit in the buffer or the input is too long
unfoldable pub sent : List ℕ → ℕ → List ℕ
sent input room = pick (is_long input) [] (pick (leb (length (answers_of input)) room) (answers_of input) [])

-- RULES 7.7: what is reported with the answers: nothing where none is sent
unfoldable pub sent_reports : List ℕ → ℕ → List Report
sent_reports input room = pick (eqb (length (sent input room)) 0) [] (call_reports input)

-- RULES 7.7: a report as a number in a lent buffer of names: one more than the domain that it names, and 0 where it names none
abbrev pub name_of : Report → ℕ
name_of Nothing = 0
name_of (Denied violation) = 0
name_of (Through s) = s.0 + 1

-- RULES 7.7: what such a number stands for, which is all that a line shows of a report
abbrev pub report_named : ℕ → Report
report_named zero = Nothing
report_named (suc s) = Through (as_domain s)
