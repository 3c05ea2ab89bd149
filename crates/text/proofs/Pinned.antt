-- What the definitions of this crate come to, written out byte by byte: each word, each remainder, each power of ten, lines past the ninth, and
-- the ends of the buffer. All is computed but the last laws, which spell out the text of any input and what it is to store a text.
use Prim.Native.Nat.{ℕ, ◌+◌, ◌/◌, ◌%◌, ◌≤◌}
use lib.Dec.{leb, ltb, eqb}
use mathlib.Core.Path.{◌≡◌, refl, sym, ◌∙◌}
use mathlib.Core.List.{List, [], ◌∷◌, ◌++◌, map}
use mathlib.Core.Logic.{◌↔◌}
use lib.ListN.{length, replicate, set, take, drop}
use lib.Seq.{sets-eq}
use Rattle.image.specs.Description.{machine_of}
use Rattle.image.specs.Load.{load_of, load_checks, length_tests, kind_tests, shape_entry_tests, shape_tests, body_tests, describe}
use Rattle.image.specs.Sample.{sample_bytes}
use Rattle.machine.specs.Machine.{is_sound}
use Rattle.machine.specs.Calls.{call_of, checks_of, access_checks, effect_of, entered, returned, after}
use Rattle.machine.specs.declared.record.Domain.{Domain}
use Rattle.machine.specs.declared.record.Violation.{Violation}
use Rattle.machine.specs.declared.record.Report.{Report}
use Rattle.machine.specs.declared.record.Report.TheVariants.{Nothing, Denied, Through}
use Rattle.run.specs.Records.{calls_of, call_of_kind, step_by}
use Rattle.rules.specs.Refusals.{pick}
use Rattle.run.specs.Run.{steps_from, call_steps, call_answers, call_reports, call_bytes, loaded_of}
use Rattle.text.specs.Text.{letters, decimal_of, line_of, lines_from, cut_of, load_line, run_text, text_of, printed}
use Rattle.text.specs.Put.{Put}

-- words as their bytes
pub words :
    letters "load 0\n" ∷ letters "cut\n" ∷ letters "long\n" ∷ letters "" ∷ []
    ≡ (108 ∷ 111 ∷ 97 ∷ 100 ∷ 32 ∷ 48 ∷ 10 ∷ []) ∷ (99 ∷ 117 ∷ 116 ∷ 10 ∷ []) ∷ (108 ∷ 111 ∷ 110 ∷ 103 ∷ 10 ∷ []) ∷ [] ∷ []
words = refl

-- both sides of each power of ten
pub decimals :
    map decimal_of (0 ∷ 1 ∷ 9 ∷ 10 ∷ 11 ∷ 99 ∷ 100 ∷ 101 ∷ 110 ∷ 999 ∷ 1000 ∷ 1001 ∷ 9999 ∷ 10000 ∷ 10001 ∷ 32768 ∷ 98765 ∷ [])
    ≡ (48 ∷ [])
    ∷ (49 ∷ [])
    ∷ (57 ∷ [])
    ∷ (49 ∷ 48 ∷ [])
    ∷ (49 ∷ 49 ∷ [])
    ∷ (57 ∷ 57 ∷ [])
    ∷ (49 ∷ 48 ∷ 48 ∷ [])
    ∷ (49 ∷ 48 ∷ 49 ∷ [])
    ∷ (49 ∷ 49 ∷ 48 ∷ [])
    ∷ (57 ∷ 57 ∷ 57 ∷ [])
    ∷ (49 ∷ 48 ∷ 48 ∷ 48 ∷ [])
    ∷ (49 ∷ 48 ∷ 48 ∷ 49 ∷ [])
    ∷ (57 ∷ 57 ∷ 57 ∷ 57 ∷ [])
    ∷ (49 ∷ 48 ∷ 48 ∷ 48 ∷ 48 ∷ [])
    ∷ (49 ∷ 48 ∷ 48 ∷ 48 ∷ 49 ∷ [])
    ∷ (51 ∷ 50 ∷ 55 ∷ 54 ∷ 56 ∷ [])
    ∷ (57 ∷ 56 ∷ 55 ∷ 54 ∷ 53 ∷ [])
    ∷ []
unfolding decimal_of
decimals = refl

-- lines of one and of two digits in each field, in order, with a domain and with none; the load's line for each of its answers
pub lines_written :
    let goes : ℕ → Report = λ s. Through (record { 0 = s }) in
    let denied = Denied (record { program = 7; right = 1; address = 5 }) in
    (lines_from 1 (0 ∷ 18 ∷ []) (Nothing ∷ Nothing ∷ []) ≡ letters "1 0 -\n2 18 -\n")
    × (lines_from 9 (9 ∷ 12 ∷ 0 ∷ 0 ∷ []) (Nothing ∷ Nothing ∷ goes 0 ∷ denied ∷ []) ≡ letters "9 9 -\n10 12 -\n11 0 0\n12 0 -\n")
    × (lines_from 99 (0 ∷ 0 ∷ 0 ∷ []) (goes 9 ∷ goes 10 ∷ goes 15 ∷ []) ≡ letters "99 0 9\n100 0 10\n101 0 15\n")
    × (lines_from 5461 (17 ∷ []) [] ≡ letters "5461 17 -\n")
    × (map load_line (0 ∷ 20 ∷ 21 ∷ 22 ∷ 23 ∷ 24 ∷ 25 ∷ [])
    ≡ map letters ("load 0\n" ∷ "load 20\n" ∷ "load 21\n" ∷ "load 22\n" ∷ "load 23\n" ∷ "load 24\n" ∷ "load 25\n" ∷ []))
unfolding lines_from line_of decimal_of load_line
lines_written = (refl, refl, refl, refl, refl)

-- each remainder of a division by six
pub remainders :
    map (λ (n : ℕ). cut_of (replicate n 0)) (0 ∷ 1 ∷ 2 ∷ 3 ∷ 4 ∷ 5 ∷ 6 ∷ 7 ∷ 8 ∷ 9 ∷ 10 ∷ 11 ∷ 12 ∷ [])
    ≡ [] ∷ (replicate 5 (letters "cut\n") ++ ([] ∷ (replicate 5 (letters "cut\n") ++ ([] ∷ []))))
unfolding cut_of
remainders = refl

-- whole texts: a sample run with an unknown record and an entry, with remainders of 1 to 5 bytes and without calls; refused loads; long inputs
pub texts :
    let sample : List ℕ → List ℕ = λ calls. 0x00 ∷ 0x2C ∷ (sample_bytes ++ calls) in
    let two : List ℕ → List ℕ = λ rest. 0x0E ∷ 0x00 ∷ 0x00 ∷ 0x00 ∷ 0x00 ∷ 0x00 ∷ 0x06 ∷ 0x00 ∷ 0x00 ∷ 0x00 ∷ 0x00 ∷ 0x00 ∷ rest in
    (map text_of
    (sample []
    ∷ sample (5 ∷ [])
    ∷ sample (two [])
    ∷ sample (two (5 ∷ 0 ∷ []))
    ∷ sample (two (5 ∷ 0 ∷ 0 ∷ []))
    ∷ sample (two (5 ∷ 0 ∷ 0 ∷ 0 ∷ []))
    ∷ sample (two (5 ∷ 0 ∷ 0 ∷ 0 ∷ 0 ∷ []))
    ∷ [])
    ≡ map letters
    ("load 0\n"
    ∷ "load 0\ncut\n"
    ∷ "load 0\n1 18 -\n2 7 -\n"
    ∷ "load 0\n1 18 -\n2 7 -\ncut\n"
    ∷ "load 0\n1 18 -\n2 7 -\ncut\n"
    ∷ "load 0\n1 18 -\n2 7 -\ncut\n"
    ∷ "load 0\n1 18 -\n2 7 -\ncut\n"
    ∷ []))
    × (map text_of ([] ∷ (7 ∷ []) ∷ (0x00 ∷ 0x2C ∷ (set sample_bytes 38 2 ++ 0x05 ∷ [])) ∷ replicate 32768 0 ∷ replicate 32769 0 ∷ [])
    ≡ map letters ("load 20\n" ∷ "load 20\n" ∷ "load 25\n" ∷ "load 20\n" ∷ "long\n" ∷ []))
unfolding text_of run_text load_line decimal_of lines_from line_of cut_of sample_bytes call_steps steps_from calls_of call_of_kind step_by load_of load_checks length_tests kind_tests shape_entry_tests shape_tests body_tests describe machine_of call_of checks_of access_checks effect_of entered returned after is_sound
texts = (refl, refl)

-- the text in a buffer of 100,000 bytes and more, and nothing in a shorter one
pub buffers :
    map (printed []) (0 ∷ 8 ∷ 99999 ∷ 100000 ∷ 100001 ∷ []) ≡ [] ∷ [] ∷ [] ∷ letters "load 20\n" ∷ letters "load 20\n" ∷ []
unfolding printed text_of run_text load_line decimal_of load_of load_checks length_tests
buffers = refl

-- the text of any input, any number in it and any room for it; a line is counted on by one
pub text_spelled : (input answers : List ℕ) (reports : List Report) (violation : Violation) (s : Domain) (n i room : ℕ)
    → let digit : ℕ → List ℕ = λ power. pick (leb power n) ((48 + n / power % 10) ∷ []) [] in
    let loads = (loaded_of input).number in
    let long = ltb 32768 (length input) in
    let line : List ℕ → List ℕ = λ name. decimal_of i ++ (32 ∷ decimal_of n) ++ (32 ∷ name) ++ (10 ∷ []) in
    let cut : List ℕ = pick (eqb (length (call_bytes input) % 6) 0) [] (99 ∷ 117 ∷ 116 ∷ 10 ∷ []) in
    (decimal_of n ≡ digit 10000 ++ digit 1000 ++ digit 100 ++ digit 10 ++ ((48 + n % 10) ∷ []))
    × (lines_from i (n ∷ answers) (Through s ∷ reports) ≡ line (decimal_of s.0) ++ lines_from (i + 1) answers reports)
    × (lines_from i (n ∷ answers) (Nothing ∷ reports) ≡ line (45 ∷ []) ++ lines_from (i + 1) answers reports)
    × (lines_from i (n ∷ answers) (Denied violation ∷ reports) ≡ line (45 ∷ []) ++ lines_from (i + 1) answers reports)
    × (lines_from i (n ∷ answers) [] ≡ line (45 ∷ []) ++ lines_from (i + 1) answers [])
    × (lines_from i [] reports ≡ [])
    × (text_of input
    ≡ pick long (108 ∷ 111 ∷ 110 ∷ 103 ∷ 10 ∷ [])
    (((108 ∷ 111 ∷ 97 ∷ 100 ∷ 32 ∷ []) ++ decimal_of loads ++ (10 ∷ [])) ++ pick (eqb loads 0) (lines_from 1 (call_answers input) (call_reports input) ++ cut) []))
    × (printed input room ≡ pick (leb 100000 room) (text_of input) [])
unfolding decimal_of line_of lines_from cut_of load_line run_text text_of printed
text_spelled input answers reports violation s n i room = (refl, refl, refl, refl, refl, refl, refl, refl)

-- storing two bytes from place 1 on: the four bytes of the buffer after it, and the place past them
pub put_means : (exit : List ℕ) (past : ℕ) → Put (1 ∷ 2 ∷ 3 ∷ 4 ∷ []) 1 (8 ∷ 9 ∷ []) exit past → (exit ≡ 1 ∷ 8 ∷ 9 ∷ 4 ∷ []) × (past ≡ 3)
put_means exit past put = (put.stored, put.next)

-- RULES 8.7: storing any text that the buffer has room for, in both directions: what stood before the text, the text, and what stood after it
pub put_exactly : (entry text exit : List ℕ) (at past : ℕ) → at + length text ≤ length entry
    → Put entry at text exit past ↔ ((exit ≡ take at entry ++ text ++ drop (at + length text) entry) × (past ≡ at + length text))
put_exactly entry text exit at past room =
    let stands = sets-eq text entry at room in
    ((λ put. (put.stored ∙ stands, put.next)), λ so. record { stored = so.0 ∙ sym stands; next = so.1 })
