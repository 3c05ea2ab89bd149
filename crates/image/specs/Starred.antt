-- The starred cases: the twelve of RULES 5.13, each made on the machine that the sample node loads to.
use Rattle.std.specs.Prelude.{ℕ, true, false, List, [], ◌∷◌, Option, Some}
use Rattle.machine.specs.Calls.{as_page, as_domain, call_of}
use Rattle.machine.specs.Machine.{with_last}
use Rattle.machine.specs.declared.record.Machine.{Machine}
use Rattle.machine.specs.declared.record.Report.{Report}
use Rattle.machine.specs.declared.record.Report.TheVariants.{Nothing, Through}
use Rattle.machine.specs.declared.record.Answered.{Answered}
use Rattle.machine.specs.declared.record.Width.TheVariants.{One}
use Rattle.machine.specs.declared.record.Call.{Call}
use Rattle.machine.specs.declared.record.Call.TheVariants.{Access, Grant, Revoke, SetMask, Return}
use Rattle.image.specs.Load.{load_of}
use Rattle.image.specs.Sample.{sample_bytes, sample_fields, sample_machine, node, live}
use Rattle.machine.specs.declared.record.Violation.{Violation}

-- RULES 5.13: the calls made first, the call, and the number, the machine and the report that it must give
pub record Case : Type 0 where
  pub before : List Call
  pub call : Call
  pub number : ℕ
  pub machine : Machine
  pub report : Report

-- a case that reports nothing, as a line of the table below
abbrev row : List Call → Call → ℕ → Machine → Case
row before call number machine = record { before = before; call = call; number = number; machine = machine; report = Nothing }

-- an access that is allowed and changes nothing, with the domain that it names
abbrev through : Call → ℕ → Case
through call s = record { before = []; call = call; number = 0; machine = sample_machine; report = Through (as_domain s) }

-- RULES 1.5: the number of READ
abbrev READ : ℕ
READ = 0

-- RULES 1.5: the number of WRITE
abbrev WRITE : ℕ
WRITE = 1

-- RULES 1.16: a violation of program 0, which the sample node starts on
abbrev denied : ℕ → ℕ → Option Violation
denied right address = Some (record { program = 0; right = right; address = address })

-- RULES 5.13: the table, in its order; page 1 starts at address 256
unfoldable pub starred : List Case
starred =
    -- READ of page 1 has domain 1, which is in the local context
    through (Access One READ 256) 1
    -- and so has WRITE
    ∷ through (Access One WRITE 256) 1
    -- WRITE of page 0 has no domain
    ∷ row [] (Access One WRITE 0) 9 (with_last (denied WRITE 0) (node sample_fields (live 0x0003 true)))
    -- READ of page 2 has domains 2 and 3, neither of them in the local context
    ∷ row [] (Access One READ 767) 9 (with_last (denied READ 767) (node sample_fields (live 0x0003 true)))
    -- memory ends before this address
    ∷ row [] (Access One READ 768) 3 sample_machine
    -- domain 0 prevails, and its own level is not lower
    ∷ row [] (Grant READ (as_page 0) (as_domain 0)) 12 sample_machine
    -- no domain prevails
    ∷ row [] (Grant WRITE (as_page 0) (as_domain 3)) 11 sample_machine
    -- domain 0 prevails, so that 3 loses the right
    ∷ row [] (Revoke READ (as_page 0) (as_domain 3)) 0
    (node (0x0001 ∷ 0x0000 ∷ 0x000A ∷ 0x0002 ∷ 0x000C ∷ 0x0004 ∷ []) (live 0x0003 false))
    -- domain 2 prevails, and the mask leaves it out
    ∷ row [] (Grant READ (as_page 2) (as_domain 3)) 11 sample_machine
    -- with another mask it is in the local context; the bit was set already
    ∷ row (SetMask 0x0007 ∷ []) (Grant READ (as_page 2) (as_domain 3)) 0 (node sample_fields (live 0x0007 false))
    -- there is no such domain
    ∷ row [] (Grant READ (as_page 0) (as_domain 16)) 5 sample_machine
    -- the mode is user
    ∷ row [] Return 7 sample_machine
    ∷ []

-- RULES 5.13: the machine after the calls made first
abbrev pub after_calls : Machine → List Call → Machine
after_calls m [] = m
after_calls m (call ∷ rest) = after_calls (call_of m call).machine rest

-- RULES 5.13: what the definitions give for a case
abbrev pub outcome : Case → Answered
outcome c = call_of (after_calls (load_of sample_bytes).machine c.before) c.call

-- RULES 5.13: what a case must give
abbrev pub expected : Case → Answered
expected c = record { number = c.number; machine = c.machine; report = c.report }
