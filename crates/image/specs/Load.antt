-- Loading an image (RULES, section 5): what the bytes say, and what is refused.
use Rattle.std.specs.Prelude.{ℕ, ◌+◌, ◌*◌, ◌^◌, Bool, true, not, ◌&&◌, leb, eqb, length}
use mathlib.Core.List.{List, [], ◌∷◌, foldl}
use Rattle.rules.specs.Refusals.{Check, ◌⇒◌, first, pick}
use Rattle.machine.specs.Machine.{zero}
use Rattle.machine.specs.Calls.{mode_of, silent}
use Rattle.machine.specs.declared.record.Program.{Program}
use Rattle.machine.specs.declared.record.Answered.{Answered}
use Rattle.image.specs.Bytes.{byte_at, word_at, entries}
use Rattle.image.specs.Description.{Description, machine_of}

-- RULES 5.3: the kind in an entry of the table of contents, entries counted from 0
abbrev pub kind_at : List ℕ → ℕ → ℕ
kind_at s entry = byte_at s (6 * entry)

-- RULES 5.3: the second byte of an entry, which should be 0
abbrev pub zero_at : List ℕ → ℕ → ℕ
zero_at s entry = byte_at s (1 + 6 * entry)

-- RULES 5.3: where the part of an entry starts
abbrev pub offset_at : List ℕ → ℕ → ℕ
offset_at s entry = word_at s (2 + 6 * entry)

-- RULES 5.3: how long the part of an entry is
abbrev pub length_at : List ℕ → ℕ → ℕ
length_at s entry = word_at s (4 + 6 * entry)

-- RULES 5.4: p
abbrev pub page_count : List ℕ → ℕ
page_count s = byte_at s 18

-- RULES 5.4: e
abbrev pub page_exponent : List ℕ → ℕ
page_exponent s = byte_at s 19

-- RULES 5.4: n
abbrev pub program_count : List ℕ → ℕ
program_count s = byte_at s 20

-- RULES 5.4: the last byte of the shape, which should be 0
abbrev pub shape_zero : List ℕ → ℕ
shape_zero s = byte_at s 21

-- RULES 5.5: the field at a place of the pages
abbrev pub field_at : List ℕ → ℕ → ℕ
field_at s at = word_at s at

-- RULES 5.5: all fields, READ and WRITE of each page in turn
abbrev pub fields_of : List ℕ → List ℕ
fields_of s = entries 2 (field_at s) 22 (2 * page_count s)

-- RULES 5.6: the global context of the program at a place
abbrev pub context_at : List ℕ → ℕ → ℕ
context_at s at = word_at s at

-- RULES 5.6: its mask
abbrev pub mask_at : List ℕ → ℕ → ℕ
mask_at s at = word_at s (2 + at)

-- RULES 5.6: its mode byte
abbrev pub mode_at : List ℕ → ℕ → ℕ
mode_at s at = byte_at s (4 + at)

-- RULES 5.6: the whole program at a place
abbrev pub program_at : List ℕ → ℕ → Program
program_at s at = record { context = context_at s at; mask = mask_at s at; mode = mode_of (mode_at s at) }

-- RULES 5.6: all programs, the first where the pages end
abbrev pub programs_of : List ℕ → List Program
programs_of s = entries 5 (program_at s) (22 + 4 * page_count s) (program_count s)

-- RULES 5.6: their mode bytes as they are written, for 25
abbrev pub modes_of : List ℕ → List ℕ
modes_of s = entries 5 (mode_at s) (22 + 4 * page_count s) (program_count s)

-- RULES 5.4 to 5.6: what the bytes say, read by the counts of the shape and not by the table of contents, which 22 and 24 make agree with
-- them
unfoldable pub describe : List ℕ → Description
describe s =
    record {
      pages = page_count s;
      exponent = page_exponent s;
      fields = fields_of s;
      programs = programs_of s;
    }

-- all tests of a list hold
abbrev pub every : List Bool → Bool
every tests = foldl ◌&&◌ true tests

-- RULES 5.8, for 20: the least and the greatest length (5.7)
unfoldable pub length_tests : List ℕ → List Bool
length_tests s = leb 31 (length s) ∷ leb (length s) 574 ∷ []

-- RULES 5.8, for 21: kind and second byte of each entry
unfoldable pub kind_tests : List ℕ → List Bool
kind_tests s =
    eqb (kind_at s 0) 1
    ∷ eqb (zero_at s 0) 0
    ∷ eqb (kind_at s 1) 2
    ∷ eqb (zero_at s 1) 0
    ∷ eqb (kind_at s 2) 3
    ∷ eqb (zero_at s 2) 0
    ∷ []

-- RULES 5.8, for 22: where the shape stands
unfoldable pub shape_entry_tests : List ℕ → List Bool
shape_entry_tests s = eqb (offset_at s 0) 18 ∷ eqb (length_at s 0) 4 ∷ []

-- RULES 5.8, for 23: the ranges of p, e and n, the shape's last byte, and the most memory
unfoldable pub shape_tests : List ℕ → List Bool
shape_tests s =
    leb 1 (page_count s)
    ∷ leb (page_count s) 128
    ∷ leb 5 (page_exponent s)
    ∷ leb (page_exponent s) 12
    ∷ leb 1 (program_count s)
    ∷ leb (program_count s) 8
    ∷ eqb (shape_zero s) 0
    ∷ leb (page_count s * 2 ^ page_exponent s) 65536
    ∷ []

-- RULES 5.8, for 24: where pages and programs stand, and where the image ends
unfoldable pub body_tests : List ℕ → List Bool
body_tests s =
    eqb (offset_at s 1) 22
    ∷ eqb (length_at s 1) (4 * page_count s)
    ∷ eqb (offset_at s 2) (22 + 4 * page_count s)
    ∷ eqb (length_at s 2) (5 * program_count s)
    ∷ eqb (length s) (22 + 4 * page_count s + 5 * program_count s)
    ∷ []

-- RULES 5.8, for 25: each of these bytes is a mode
abbrev pub are_modes : List ℕ → Bool
are_modes [] = true
are_modes (mode ∷ rest) = leb mode 1 && are_modes rest

-- RULES 5.8: the conditions of a load, in order
unfoldable pub load_checks : List ℕ → List Check
load_checks s =
    (not (every (length_tests s)) ⇒ 20)
    ∷ (not (every (kind_tests s)) ⇒ 21)
    ∷ (not (every (shape_entry_tests s)) ⇒ 22)
    ∷ (not (every (shape_tests s)) ⇒ 23)
    ∷ (not (every (body_tests s)) ⇒ 24)
    ∷ (not (are_modes (modes_of s)) ⇒ 25)
    ∷ []

-- RULES 5.9, 5.10: the load: the machine that the bytes stand for where its number is 0, the all-zero one elsewhere
unfoldable pub load_of : List ℕ → Answered
load_of s =
    let number = first (load_checks s) in
    silent number (pick (eqb number 0) (machine_of (describe s)) zero)
