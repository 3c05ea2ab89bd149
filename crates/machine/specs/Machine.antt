-- The machine (RULES, section 1).
use Rattle.std.specs.Prelude.{ℕ, ◌+◌, ◌*◌, ◌^◌, Bool, true, false, not, ◌&&◌, List, leb, ltb, replicate, get_or, Option, None, Some}
use Rattle.rules.specs.Registers.{is_privileged}
use Rattle.rules.specs.declared.registers.Mode.TheVariants.{User}
use Rattle.rules.specs.declared.registers.Registers.{Registers}
use Rattle.machine.specs.declared.record.Machine.{Machine}
use Rattle.machine.specs.declared.record.Program.{Program}
use Rattle.machine.specs.declared.record.Violation.{Violation}

-- RULES 1.14, 2.9: an entry of zeros and user mode, which is also what is read past the end of the table
abbrev pub no_program : Program
no_program = record { context = 0; mask = 0; mode = User }

-- RULES 1.14: the all-zero machine
abbrev pub zero : Machine
zero =
    record {
      pages = 0;
      exponent = 0;
      fields = replicate 256 0;
      registers = record { context = 0; mask = 0; mode = User; pending = false };
      depth = 0;
      saved = replicate 8 false;
      programs = 0;
      current = 0;
      table = replicate 8 no_program;
      violations = record { last = None };
    }

-- RULES 1.2, 1.9: page count × page size, the first address that is not in memory
abbrev pub memory_size : Machine → ℕ
memory_size m = m.pages * 2 ^ m.exponent

-- RULES 1.11: the ranges of the counts, the exponent and the depth
abbrev pub ranges_hold : Machine → Bool
ranges_hold m =
    leb 1 m.pages && leb m.pages 128 && leb 5 m.exponent && leb m.exponent 12 && leb m.depth 8
    && leb 1 m.programs && leb m.programs 8

-- RULES 1.5: 0 is READ and 1 is WRITE; there is no other right
abbrev pub is_right : ℕ → Bool
is_right right = leb right 1

-- RULES 1.11, 1.16: with that program count and that memory size, the last violation is of a program in the table, a right and an address in memory;
-- or there is none
abbrev pub violation_fits : ℕ → ℕ → Option Violation → Bool
violation_fits programs memory None = true
violation_fits programs memory (Some violation) =
    ltb violation.program programs && is_right violation.right && ltb violation.address memory

-- RULES 1.11, 1.12: all that soundness asks of a machine, and no more
unfoldable pub is_sound : Machine → Bool
is_sound m =
    ranges_hold m && leb (memory_size m) 65536 && ltb m.current m.programs
    && not (m.registers.pending && is_privileged m.registers.mode)
    && violation_fits m.programs (memory_size m) m.violations.last

-- RULES 1.5: where the field of a right to a page stands
abbrev pub place_of : ℕ → ℕ → ℕ
place_of right page = 2 * page + right

-- RULES 1.5, 2.9: the field of a right to a page; past the last place it reads as 0
abbrev pub field_of : Machine → ℕ → ℕ → ℕ
field_of m right page = get_or m.fields (place_of right page) 0

-- RULES 3.1: the machine with other fields; the rest stays
abbrev pub with_fields : List ℕ → Machine → Machine
with_fields fields m =
    record {
      pages = m.pages;
      exponent = m.exponent;
      fields = fields;
      registers = m.registers;
      depth = m.depth;
      saved = m.saved;
      programs = m.programs;
      current = m.current;
      table = m.table;
      violations = m.violations;
    }

-- RULES 3.1: the machine with other live registers
abbrev pub with_registers : Registers → Machine → Machine
with_registers registers m =
    record {
      pages = m.pages;
      exponent = m.exponent;
      fields = m.fields;
      registers = registers;
      depth = m.depth;
      saved = m.saved;
      programs = m.programs;
      current = m.current;
      table = m.table;
      violations = m.violations;
    }

-- RULES 3.1: the machine with another depth and other saved modes, each true for privileged
abbrev pub with_stack : ℕ → List Bool → Machine → Machine
with_stack depth saved m =
    record {
      pages = m.pages;
      exponent = m.exponent;
      fields = m.fields;
      registers = m.registers;
      depth = depth;
      saved = saved;
      programs = m.programs;
      current = m.current;
      table = m.table;
      violations = m.violations;
    }

-- RULES 3.1: the machine with another current program and another table
abbrev pub with_programs : ℕ → List Program → Machine → Machine
with_programs current table m =
    record {
      pages = m.pages;
      exponent = m.exponent;
      fields = m.fields;
      registers = m.registers;
      depth = m.depth;
      saved = m.saved;
      programs = m.programs;
      current = current;
      table = table;
      violations = m.violations;
    }

-- RULES 3.1: the machine with another last violation
abbrev pub with_last : Option Violation → Machine → Machine
with_last last m =
    record {
      pages = m.pages;
      exponent = m.exponent;
      fields = m.fields;
      registers = m.registers;
      depth = m.depth;
      saved = m.saved;
      programs = m.programs;
      current = m.current;
      table = m.table;
      violations = record { last = last };
    }

-- RULES 2.10: lent fields and a lent stack stand in for the machine's own
abbrev pub with_lent : List ℕ → List Bool → Machine → Machine
with_lent fields saved m = with_fields fields (with_stack m.depth saved m)
