-- Computed texts (RULES, section 8): the sample node's, by its answers and reports; with a remainder; of a refused load; and decimal numbers. Also the
-- word for a long input.
use mathlib.Core.Path.{◌≡◌, refl, ap}
use mathlib.Core.List.{List, [], ◌∷◌, ◌++◌, map}
use Prim.Native.Nat.{ℕ, ◌<◌}
use borrow.Author.Tests.{lt-ltb}
use lib.ListN.{length, get_or, drop}
use Rattle.image.specs.Load.{load_of, load_checks, length_tests}
use Rattle.image.specs.Sample.{sample_bytes}
use Rattle.run.proofs.Examples.{sample_input, sample_answered, sample_reported, remainder_answered}
use Rattle.text.specs.Text.{letters, decimal_of, line_of, lines_from, cut_of, load_line, run_text, text_of}

-- RULES 8.6: the sample's nine lines
pub sample_printed : text_of sample_input ≡ letters "load 0\n1 0 0\n2 9 -\n3 8 -\n4 0 -\n5 0 -\n6 0 -\n7 0 3\n8 9 -\n"
unfolding sample_input sample_bytes text_of run_text load_line decimal_of lines_from line_of cut_of
sample_printed = rw (ap (λ (l : List ℕ). get_or l 0 0) sample_answered, ap (λ (l : List ℕ). drop 1 l) sample_answered, sample_reported)

-- RULES 8.4: with a byte more a line for the remainder
pub remainder_printed : text_of (sample_input ++ 0x01 ∷ []) ≡ letters "load 0\n1 0 0\n2 9 -\n3 8 -\n4 0 -\n5 0 -\n6 0 -\n7 0 3\n8 9 -\ncut\n"
unfolding sample_input sample_bytes text_of run_text load_line decimal_of lines_from line_of cut_of
remainder_printed =
    rw (ap (λ (l : List ℕ). get_or l 0 0) remainder_answered.0, ap (λ (l : List ℕ). drop 1 l) remainder_answered.0, remainder_answered.1, sample_reported)

-- RULES 8.2: nothing follows a refused load, also where a remainder is left
pub refused_printed : text_of (0x00 ∷ 0x00 ∷ 0x01 ∷ []) ≡ letters "load 20\n"
unfolding text_of run_text load_line decimal_of load_of load_checks length_tests
refused_printed = refl

-- RULES 8.5: an input that is too long has one word for its text
pub long_printed : (input : List ℕ) → 32768 < length input → text_of input ≡ letters "long\n"
unfolding text_of
long_printed input long = rw (lt-ltb 32768 (length input) long)

-- RULES 8.1: numbers with each count of digits, and zeros inside but none in front
pub decimal_cases :
    map decimal_of (0 ∷ 9 ∷ 10 ∷ 18 ∷ 99 ∷ 100 ∷ 1020 ∷ 5461 ∷ 10203 ∷ 65535 ∷ [])
    ≡ map letters ("0" ∷ "9" ∷ "10" ∷ "18" ∷ "99" ∷ "100" ∷ "1020" ∷ "5461" ∷ "10203" ∷ "65535" ∷ [])
unfolding decimal_of
decimal_cases = refl
