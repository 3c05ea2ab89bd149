-- Machines, registers and entries of the table written out by all their parts, and tables of calls with their answers: what the computed laws are
-- put together from. A new part of the machine has its place here.
use Prim.Native.Nat.{ℕ}
use mathlib.Core.Path.{◌≡◌}
use mathlib.Core.Bool.{Bool}
use mathlib.Core.List.{List, ◌∷◌, map}
use Rattle.rules.specs.declared.registers.Mode.{Mode}
use Rattle.rules.specs.declared.registers.Registers.{Registers}
use Rattle.machine.specs.declared.record.Machine.{Machine}
use Rattle.machine.specs.declared.record.Program.{Program}
use Rattle.machine.specs.declared.record.Report.TheVariants.{Nothing, Through}
use Rattle.machine.specs.declared.record.Answered.{Answered}
use Rattle.machine.specs.declared.record.Call.{Call}
use Rattle.machine.specs.declared.record.Call.TheVariants.{Grant, Revoke}
use Rattle.std.specs.Prelude.{Option, None, Some}
use Rattle.machine.specs.declared.record.Violation.{Violation}

abbrev pub stored : ℕ → ℕ → Mode → Program
stored context mask mode = record { context = context; mask = mask; mode = mode }

abbrev pub live : ℕ → ℕ → Mode → Bool → Registers
live context mask mode pending = record { context = context; mask = mask; mode = mode; pending = pending }

-- the last violation: that program was denied that right to that address
abbrev pub denied : ℕ → ℕ → ℕ → Option Violation
denied program right address = Some (record { program = program; right = right; address = address })

-- a machine by all its parts, the last violation first
abbrev pub holding : Option Violation → ℕ → ℕ → List ℕ → Registers → ℕ → List Bool → ℕ → ℕ → List Program → Machine
holding last pages exponent fields registers depth saved programs current table =
    record {
      pages = pages;
      exponent = exponent;
      fields = fields;
      registers = registers;
      depth = depth;
      saved = saved;
      programs = programs;
      current = current;
      table = table;
      violations = record { last = last };
    }

-- one that has no last violation
abbrev pub whole : ℕ → ℕ → List ℕ → Registers → ℕ → List Bool → ℕ → ℕ → List Program → Machine
whole = holding None

-- an answer that reports nothing, written out beside the definition `silent`
abbrev pub gives : ℕ → Machine → Answered
gives number machine = record { number = number; machine = machine; report = Nothing }

-- the answer of an access that is allowed through a domain
abbrev pub goes_through : ℕ → Machine → Answered
goes_through s machine = record { number = 0; machine = machine; report = Through (record { 0 = s }) }

-- what calls on a machine answer, each by itself
abbrev pub Answers : (Machine → Call → Answered) → Machine → List (Call × ℕ) → Type 0
Answers made m rows = map (λ row. (made m row.0).number) rows ≡ map (λ row. row.1) rows

-- a grant and a revocation, which have one list of conditions
abbrev pub both : ℕ → ℕ → ℕ → ℕ → List (Call × ℕ) → List (Call × ℕ)
both right p s number rest =
    (Grant right (record { 0 = p }) (record { 0 = s }), number) ∷ (Revoke right (record { 0 = p }) (record { 0 = s }), number) ∷ rest
