-- Writing an image back (RULES 5.14 to 5.18): what is written of a machine, what is refused, the buffer after it, and the machine that the
-- image starts.
use Rattle.std.specs.Prelude.{ℕ, ◌*◌, Bool, false, not, ◌&&◌, List, [], ◌∷◌, ◌++◌, eqb, ltb, length, drop, replicate, None}
use Rattle.rules.specs.Refusals.{Check, ◌⇒◌, first, pick}
use Rattle.rules.specs.declared.registers.Registers.{Registers}
use Rattle.machine.specs.Machine.{is_sound, no_program}
use Rattle.machine.specs.declared.record.Machine.{Machine}
use Rattle.machine.specs.declared.record.Program.{Program}
use Rattle.image.specs.Description.{Description, bytes_of, pad}

-- RULES 5.14: the live registers as a program's entry; the flag is no part of one
abbrev pub entry_of : Registers → Program
entry_of r = record { context = r.context; mask = r.mask; mode = r.mode }

-- RULES 5.14: both fields of each page below the page count, none past it
abbrev pub counted_fields : Machine → List ℕ
counted_fields m = pad (2 * m.pages) 0 m.fields

-- RULES 5.14: the programs below the program count, none past it: the live registers for program 0, the stored entries for the others
abbrev pub counted_programs : Machine → List Program
counted_programs m = pad m.programs no_program (entry_of m.registers ∷ drop 1 m.table)

-- RULES 5.14: what the image says of a machine
unfoldable pub description_of : Machine → Description
description_of m =
    record {
      pages = m.pages;
      exponent = m.exponent;
      fields = counted_fields m;
      programs = counted_programs m;
    }

-- RULES 5.14: the image of a machine
abbrev pub image_for : Machine → List ℕ
image_for m = bytes_of (description_of m)

-- RULES 5.15: program 0 runs, no mode is saved and the flag is clear
abbrev pub is_at_rest : Machine → Bool
is_at_rest m = eqb m.current 0 && eqb m.depth 0 && not m.registers.pending

-- RULES 5.15: the conditions of writing into a buffer of so many bytes, in order
unfoldable pub write_checks : Machine → ℕ → List Check
write_checks m room =
    (not (is_sound m) ⇒ 1)
    ∷ (not (is_at_rest m) ⇒ 26)
    ∷ (ltb room (length (image_for m)) ⇒ 27)
    ∷ []

-- RULES 5.16: the bytes that are written: the whole image where nothing refuses it, else none
unfoldable pub written_bytes : Machine → ℕ → List ℕ
written_bytes m room = pick (eqb (first (write_checks m room)) 0) (image_for m) []

-- RULES 5.15, 5.16: what the writer gives back: its number, and how many bytes it wrote
pub record Written : Type 0 where
  pub number : ℕ
  pub count : ℕ

-- RULES 5.15, 5.16: what the writer gives back
unfoldable pub written_of : Machine → ℕ → Written
written_of m room = record { number = first (write_checks m room); count = length (written_bytes m room) }

-- RULES 5.16: the buffer after it: what is written, from the first byte on, and past its end what was there
unfoldable pub buffer_after : Machine → List ℕ → List ℕ
buffer_after m buffer =
    let written = written_bytes m (length buffer) in
    written ++ drop (length written) buffer

-- RULES 5.17: the machine that the image of a machine at rest starts
unfoldable pub restarted : Machine → Machine
restarted m =
    record {
      pages = m.pages;
      exponent = m.exponent;
      fields = pad 256 0 (counted_fields m);
      registers = m.registers;
      depth = 0;
      saved = replicate 8 false;
      programs = m.programs;
      current = 0;
      table = pad 8 no_program (counted_programs m);
      violations = record { last = None };
    }
