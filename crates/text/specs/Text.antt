-- What `pagerun` prints (RULES, section 8).
use Rattle.std.specs.Prelude.{ℕ, ◌+◌, ◌/◌, ◌%◌, List, [], ◌∷◌, ◌++◌, eqb, leb, length}
use Prim.Native.Char.{code}
use Prim.Native.String.{String, [] as no_letters, ◌∷◌ as ◌then◌}
use Rattle.rules.specs.Refusals.{pick}
use Rattle.machine.specs.declared.record.Report.{Report}
use Rattle.machine.specs.declared.record.Report.TheVariants.{Nothing, Denied, Through}
use Rattle.run.specs.Run.{call_bytes, call_answers, call_reports, is_long, loaded_of}

-- a text as its bytes
abbrev pub letters : String → List ℕ
letters no_letters = []
letters (letter then rest) = code letter ∷ letters rest

-- RULES 8.1: the digit of n that counts a power of ten; none where n is smaller, so that no zeros stand in front
abbrev pub leading_digit : ℕ → ℕ → List ℕ
leading_digit n power = pick (leb power n) ((48 + n / power % 10) ∷ []) []

-- RULES 8.1: a number below 100,000 in decimal
unfoldable pub decimal_of : ℕ → List ℕ
decimal_of n =
    leading_digit n 10000 ++ leading_digit n 1000 ++ leading_digit n 100 ++ leading_digit n 10 ++ ((48 + n % 10) ∷ [])

-- RULES 8.3: what stands in a line past its first field, with the space before it
abbrev pub column : List ℕ → List ℕ
column text = letters " " ++ text

-- RULES 8.3: what a report names: a domain, or `-` for none
abbrev pub name_text : Report → List ℕ
name_text Nothing = letters "-"
name_text (Denied violation) = letters "-"
name_text (Through s) = decimal_of s.0

-- RULES 8.3: the line of a record: which one it is, its number and what it names
unfoldable pub line_of : ℕ → ℕ → Report → List ℕ
line_of i answer report = decimal_of i ++ column (decimal_of answer) ++ column (name_text report) ++ letters "\n"

-- RULES 8.3: the lines of all records, counted from i on, from their numbers and what they report; one without a report names none
unfoldable pub lines_from : ℕ → List ℕ → List Report → List ℕ
lines_from i [] reports = []
lines_from i (answer ∷ rest) [] = line_of i answer Nothing ++ lines_from (i + 1) rest []
lines_from i (answer ∷ rest) (report ∷ reports) = line_of i answer report ++ lines_from (i + 1) rest reports

-- RULES 8.4: the line for a remainder of call bytes
unfoldable pub cut_of : List ℕ → List ℕ
cut_of bytes = pick (eqb (length bytes % 6) 0) [] (letters "cut\n")

-- RULES 8.2: the first line
unfoldable pub load_line : ℕ → List ℕ
load_line number = letters "load " ++ decimal_of number ++ letters "\n"

-- RULES 8.2: after a refused load the first line is all, with no `cut`
unfoldable pub run_text : List ℕ → List ℕ
run_text input =
    load_line (loaded_of input).number
    ++ pick (eqb (loaded_of input).number 0) (lines_from 1 (call_answers input) (call_reports input) ++ cut_of (call_bytes input)) []

-- RULES 8.5: the whole text, which for an input that is not run is one line of its own
unfoldable pub text_of : List ℕ → List ℕ
text_of input = pick (is_long input) (letters "long\n") (run_text input)

-- RULES 8.7: the text in a lent buffer: all of it from 100,000 bytes of room on, where every text fits, and nothing below
unfoldable pub printed : List ℕ → ℕ → List ℕ
printed input room = pick (leb 100000 room) (text_of input) []
