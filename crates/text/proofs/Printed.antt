-- The text of an input from its parts, the answers and names that a run gives, and how long they are at the most.
use Prim.Native.Nat.{ℕ, suc, ◌+◌, ◌-◌, ◌*◌, ◌%◌, ◌≤◌, min}
use mathlib.Core.Path.{◌≡◌, refl, ap, ◌∙◌}
use mathlib.Core.Bool.{Bool, true, false}
use mathlib.Core.List.{List, [], ◌∷◌, ◌++◌, map}
use native.Mathlib.Numerals.{add-one}
use native.Mathlib.Omega.{arith}
use borrow.Author.Tests.{ltb-false, eq-eqb, ne_eqb}
use lib.Dec.{eqb, leb}
use lib.ListN.{length, get_or, take, drop, length-append, length-map}
use lib.Seq.{sets, sets-eq, take-append_seam}
use Rattle.rules.specs.Refusals.{pick}
use Rattle.image.specs.Bytes.{word_at}
use Rattle.machine.specs.declared.record.Report.{Report}
use Rattle.machine.specs.declared.record.Report.TheVariants.{Nothing, Denied, Through}
use Rattle.run.specs.Records.{calls_of}
use Rattle.machine.specs.declared.record.Answered.{Answered}
use Rattle.run.specs.Run.{answers_of, call_answers, call_bytes, call_reports, call_steps, is_long, loaded_of, name_of, numbers_of, report_named, reports_of, sent, sent_reports, steps_from}
use Rattle.run.proofs.Sent.{all_reported, all_sent, answers_most, bytes_left, reports_count}
use Rattle.text.specs.Text.{letters, cut_of, line_of, lines_from, load_line, printed, run_text, text_of}
use Rattle.text.specs.Put.{Put}
use Rattle.text.proofs.Puts.{decimal_most, line_most}

pub load_most : (number : ℕ) → length (load_line number) ≤ 11
unfolding load_line
load_most number = simp length-append (omega (arith, decimal_most number))

pub lines_most : (i : ℕ) (answers : List ℕ) (reports : List Report) → length (lines_from i answers reports) ≤ 18 * length answers
unfolding lines_from
lines_most i [] reports = omega arith
lines_most i (answer ∷ rest) [] = simp length-append (omega (arith, line_most i answer Nothing, lines_most (i + 1) rest []))
lines_most i (answer ∷ rest) (report ∷ reports) =
    simp length-append (omega (arith, line_most i answer report, lines_most (i + 1) rest reports))

-- an input of at most 32,768 bytes has at most 5,462 answers
pub answers_fit : (input : List ℕ) → length input ≤ 32768 → length (answers_of input) ≤ 5462
answers_fit input within = omega (arith, answers_most input, within)

-- so what a run gives to a buffer of that size has all of them at its front, the load's first
pub front : (input entry : List ℕ) {exit : List ℕ} {count : ℕ} → length input ≤ 32768 → length entry ≡ 5462
    → count ≡ length (sent input (length entry)) → exit ≡ sent input (length entry) ++ drop (length (sent input (length entry))) entry
    → (count ≡ length (answers_of input)) × (take count exit ≡ answers_of input) × (get_or exit 0 0 ≡ (loaded_of input).number)
front input entry {exit} {count} within long counted stored =
    let all : sent input (length entry) ≡ answers_of input = rw long (all_sent input 5462 within (answers_fit input within)) in
    let size : count ≡ length (answers_of input) = counted ∙ ap length all in
    let held : exit ≡ answers_of input ++ drop (length (answers_of input)) entry = rw all at stored in
    (size, rw (held, size) (take-append_seam (answers_of input) _), rw held)

-- and the names behind the first place are those of the reports, as many as there are answers of calls
pub front_names : (input names : List ℕ) {names' : List ℕ} {count : ℕ} → length input ≤ 32768 → length names ≡ 5462
    → count ≡ length (answers_of input) → names' ≡ sets names 1 (map name_of (sent_reports input 5462))
    → (drop 1 (take count names') ≡ map name_of (call_reports input)) × (length (take count names') ≡ count)
front_names input names {names'} {count} within long counted stored =
    let all = all_reported input 5462 (all_sent input 5462 within (answers_fit input within)) in
    let many : length (map name_of (call_reports input)) ≡ length (call_answers input) = length-map (call_reports input) name_of ∙ reports_count input in
    rw (stored, all) (taken names (map name_of (call_reports input)) (omega (arith, counted, many)) (omega (arith, counted, long, answers_fit input within)))
  where
    taken : (l new : List ℕ) {n : ℕ} → n ≡ suc (length new) → n ≤ length l → (drop 1 (take n (sets l 1 new)) ≡ new) × (length (take n (sets l 1 new)) ≡ n)
    taken [] new e h = absurd (omega arith)
    taken (x ∷ l) new e h =
        let seam = take-append_seam new (drop (1 + length new) (x ∷ l)) in
        rw (e, sets-eq new (x ∷ l) 1 (omega arith)) (seam, ap (λ (front : List ℕ). suc (length front)) seam)

-- a name that was stored stands for what was reported, as far as a line shows it
lines_named : (i : ℕ) (answers : List ℕ) (reports : List Report) → lines_from i answers (map report_named (map name_of reports)) ≡ lines_from i answers reports
unfolding lines_from line_of
lines_named i [] reports = refl
lines_named i (answer ∷ rest) [] = refl
lines_named i (answer ∷ rest) (Nothing ∷ reports) = rw (lines_named (i + 1) rest reports)
lines_named i (answer ∷ rest) (Denied violation ∷ reports) = rw (lines_named (i + 1) rest reports)
lines_named i (answer ∷ rest) (Through s ∷ reports) = rw (add-one, lines_named (i + 1) rest reports)

-- the text from the answers and the names: with the bytes that the calls were read from, and after a load that is refused
pub run_text_loaded : (input : List ℕ) {end : ℕ} → (loaded_of input).number ≡ 0 → end ≡ min (2 + word_at input 0) (length input)
    → load_line (loaded_of input).number
    ++ (lines_from 1 (drop 1 (answers_of input)) (map report_named (map name_of (call_reports input)))
    ++ pick (eqb ((length input - end) % 6) 0) [] (letters "cut\n"))
    ≡ run_text input
unfolding run_text cut_of
run_text_loaded input loads ends = rw (lines_named 1 (call_answers input) (call_reports input), eq-eqb _ 0 loads, bytes_left input ends)

pub run_text_refused : (input : List ℕ) → ((loaded_of input).number ≡ 0 → ⊥)
    → load_line (loaded_of input).number ++ lines_from 1 (drop 1 (answers_of input)) (map report_named (map name_of (call_reports input))) ≡ run_text input
unfolding run_text call_steps lines_from
run_text_refused input refused = rw (ne_eqb _ 0 refused)

-- both in one
pub run_text_lem : (input : List ℕ) {end : ℕ} → end ≡ min (2 + word_at input 0) (length input)
    → load_line (loaded_of input).number
    ++ (lines_from 1 (drop 1 (answers_of input)) (map report_named (map name_of (call_reports input)))
    ++ pick (eqb (pick (eqb (loaded_of input).number 0) (length input - end) 0 % 6) 0) [] (letters "cut\n"))
    ≡ run_text input
unfolding run_text call_steps cut_of lines_from
run_text_lem input {end} ends = rw (lines_named 1 (call_answers input) (call_reports input)) (split (eqb (loaded_of input).number 0))
  where
    steps : Bool → List Answered
    steps b = pick b (steps_from (loaded_of input).machine (calls_of (call_bytes input))) []

    split : (b : Bool)
        → load_line (loaded_of input).number
        ++ (lines_from 1 (numbers_of (steps b)) (reports_of (steps b)) ++ pick (eqb (pick b (length input - end) 0 % 6) 0) [] (letters "cut\n"))
        ≡ load_line (loaded_of input).number
        ++ pick b (lines_from 1 (numbers_of (steps b)) (reports_of (steps b)) ++ pick (eqb (length (call_bytes input) % 6) 0) [] (letters "cut\n")) []
    split true = rw (bytes_left input ends)
    split false = refl

-- every text is shorter than the buffer that `text_of` asks for
run_most : (input : List ℕ) → length input ≤ 32768 → length (run_text input) ≤ 100000
unfolding run_text cut_of
run_most input within =
    simp length-append (omega (arith, load_most (loaded_of input).number, rest (eqb (loaded_of input).number 0)))
  where
    word : (b : Bool) → length (pick b [] (letters "cut\n")) ≤ 4
    word true = omega arith
    word false = omega arith

    rest : (b : Bool)
        → length (pick b (lines_from 1 (call_answers input) (call_reports input) ++ pick (eqb (length (call_bytes input) % 6) 0) [] (letters "cut\n")) [])
        ≤ 98302
    rest true =
        simp length-append
        (omega (arith, lines_most 1 (call_answers input) (call_reports input), answers_fit input within, word (eqb (length (call_bytes input) % 6) 0)))
    rest false = omega arith

pub text_fits : (input : List ℕ) → length (text_of input) ≤ 100000
unfolding text_of
text_fits input = split (is_long input) refl
  where
    split : (b : Bool) → is_long input ≡ b → length (pick b (letters "long\n") (run_text input)) ≤ 100000
    split true e = omega arith
    split false e = run_most input (ltb-false 32768 (length input) e)

-- and so is what `text_of` answers
pub answer_fits : {entry exit : List ℕ} {past : ℕ} (input : List ℕ) (room : ℕ) → Put entry 0 (printed input room) exit past → past ≤ 100000
unfolding printed
answer_fits {past = past} input room put = omega (arith, put.next, split (leb 100000 room))
  where
    split : (b : Bool) → length (pick b (text_of input) []) ≤ 100000
    split true = text_fits input
    split false = omega arith
