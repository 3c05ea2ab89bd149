-- The sample node (RULES 5.12): its bytes, what they say, and the machine that they load to.
use Rattle.std.specs.Prelude.{ℕ, Bool, false, List, [], ◌∷◌, ◌++◌, replicate, None}
use Rattle.rules.specs.declared.registers.Mode.TheVariants.{User}
use Rattle.rules.specs.declared.registers.Registers.{Registers}
use Rattle.machine.specs.Machine.{no_program}
use Rattle.machine.specs.declared.record.Machine.{Machine}
use Rattle.machine.specs.declared.record.Program.{Program}
use Rattle.image.specs.Description.{Description}

-- RULES 5.12: the 44 bytes, with a line for each row there
unfoldable pub sample_bytes : List ℕ
sample_bytes =
    0x01 ∷ 0x00 ∷ 0x00 ∷ 0x12 ∷ 0x00 ∷ 0x04
    ∷ 0x02 ∷ 0x00 ∷ 0x00 ∷ 0x16 ∷ 0x00 ∷ 0x0C
    ∷ 0x03 ∷ 0x00 ∷ 0x00 ∷ 0x22 ∷ 0x00 ∷ 0x0A
    ∷ 0x03 ∷ 0x08 ∷ 0x02 ∷ 0x00
    ∷ 0x00 ∷ 0x09 ∷ 0x00 ∷ 0x00
    ∷ 0x00 ∷ 0x0A ∷ 0x00 ∷ 0x02
    ∷ 0x00 ∷ 0x0C ∷ 0x00 ∷ 0x04
    ∷ 0x00 ∷ 0x07 ∷ 0x00 ∷ 0x03 ∷ 0x00
    ∷ 0x00 ∷ 0x08 ∷ 0xFF ∷ 0xFF ∷ 0x00
    ∷ []

-- RULES 5.12: READ and WRITE of page 0, of page 1 and of page 2
abbrev pub sample_fields : List ℕ
sample_fields = 0x0009 ∷ 0x0000 ∷ 0x000A ∷ 0x0002 ∷ 0x000C ∷ 0x0004 ∷ []

-- RULES 5.12: program 0 of domains 0 to 2, whose mask leaves out domain 2, and program 1 of domain 3
abbrev pub sample_programs : List Program
sample_programs =
    record { context = 0x0007; mask = 0x0003; mode = User }
    ∷ record { context = 0x0008; mask = 0xFFFF; mode = User }
    ∷ []

-- RULES 5.12: all that the bytes say: three pages of 256 bytes
unfoldable pub sample_description : Description
sample_description = record { pages = 3; exponent = 8; fields = sample_fields; programs = sample_programs }

-- RULES 5.9: the sample node with some fields and live registers, and the rest as loaded
abbrev pub node : List ℕ → Registers → Machine
node fields registers =
    record {
      pages = 3;
      exponent = 8;
      fields = fields ++ replicate 250 0;
      registers = registers;
      depth = 0;
      saved = replicate 8 false;
      programs = 2;
      current = 0;
      table = sample_programs ++ replicate 6 no_program;
      violations = record { last = None };
    }

-- RULES 5.12: program 0's registers, with a mask and a flag
abbrev pub live : ℕ → Bool → Registers
live mask pending = record { context = 0x0007; mask = mask; mode = User; pending = pending }

-- RULES 5.9: the machine that the sample loads to
unfoldable pub sample_machine : Machine
sample_machine = node sample_fields (live 0x0003 false)
