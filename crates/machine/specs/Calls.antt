-- The twelve calls (RULES, sections 2 and 3): for each a row of `rule_of`, with its own conditions, in order, its effect, what it
-- reports and what 9 leaves.
use Rattle.std.specs.Prelude.{ℕ, ◌+◌, ◌-◌, ◌^◌, ◌/◌, Bool, true, false, not, ◌||◌, List, [], ◌∷◌, leb, ltb, eqb, get_or, set, Option, None, Some}
use Rattle.std.specs.Int.Bits.{bit_and}
use Rattle.rules.specs.Registers.{is_privileged, mode_where, local_context, mask_checks, with_context, with_mask, with_mode, with_pending}
use Rattle.rules.specs.Domains.{is_domain, with_bit, without_bit, prevailing, giving_domain, is_outside, is_not_lower}
use Rattle.rules.specs.Refusals.{Check, ◌⇒◌, first, pick}
use Rattle.rules.specs.declared.registers.Mode.{Mode}
use Rattle.rules.specs.declared.registers.Mode.TheVariants.{User, Privileged}
use Rattle.machine.specs.declared.record.Machine.{Machine}
use Rattle.machine.specs.declared.record.Program.{Program}
use Rattle.machine.specs.declared.record.Page.{Page}
use Rattle.machine.specs.declared.record.Domain.{Domain}
use Rattle.machine.specs.declared.record.Report.{Report}
use Rattle.machine.specs.declared.record.Report.TheVariants.{Nothing, Denied, Through}
use Rattle.machine.specs.declared.record.Answered.{Answered}
use Rattle.machine.specs.declared.record.Width.{Width}
use Rattle.machine.specs.declared.record.Width.TheVariants.{One, Two}
use Rattle.machine.specs.declared.record.Call.{Call}
use Rattle.machine.specs.declared.record.Call.TheVariants.{Access, Grant, Revoke, SetMask, Enter, Return, Switch, StoreField, StoreContext, StoreMask, StoreMode, AskViolation}
use Rattle.machine.specs.Machine.{is_right, is_sound, memory_size, place_of, field_of, no_program, with_fields, with_registers, with_stack, with_programs, with_last, with_lent}
use Rattle.machine.specs.declared.record.Violation.{Violation}

-- RULES 1.10: a number as a page, which cannot be passed for a domain
abbrev pub as_page : ℕ → Page
as_page p = record { 0 = p }

-- RULES 1.10: a number as a domain
abbrev pub as_domain : ℕ → Domain
as_domain s = record { 0 = s }

-- RULES 1.2: the live mode is privileged
abbrev pub in_privileged_mode : Machine → Bool
in_privileged_mode m = is_privileged m.registers.mode

-- RULES 1.2: the live mode is user, which is the only other one
abbrev pub in_user_mode : Machine → Bool
in_user_mode m = not (in_privileged_mode m)

-- RULES 1.9: the page of an address
abbrev pub page_of : Machine → ℕ → ℕ
page_of m address = address / 2 ^ m.exponent

-- RULES 3.2: the addresses of the bytes that an access touches, the first of them first. The one after 0xFFFFFFFF is 0x100000000: nothing wraps.
abbrev pub touched : Width → ℕ → List ℕ
touched One address = address ∷ []
touched Two address = address ∷ (address + 1) ∷ []

-- RULES 3.2: some number of a list meets a condition, here some byte that is touched
abbrev pub any : (ℕ → Bool) → List ℕ → Bool
any meets [] = false
any meets (x ∷ rest) = meets x || any meets rest

-- RULES 1.9, 3.2, for 3: a byte is outside memory
abbrev pub is_outside_memory : Machine → ℕ → Bool
is_outside_memory m byte = leb (memory_size m) byte

-- RULES 3.2, for 9: the page of a byte does not give the right: its field for that right shares no domain with the local context
abbrev pub is_denied : Machine → ℕ → ℕ → Bool
is_denied m right byte = eqb (bit_and (field_of m right (page_of m byte)) (local_context m.registers)) 0

-- RULES 3.2: the own conditions of an access to these bytes: one byte outside memory is enough for 3, and one whose page denies for 9. 8 and 9 are for user
-- mode: in privileged mode every access within memory is allowed (3.3).
unfoldable pub access_checks : Machine → ℕ → List ℕ → List Check
access_checks m right bytes =
    (not (is_right right) ⇒ 2)
    ∷ (any (is_outside_memory m) bytes ⇒ 3)
    ∷ pick (in_privileged_mode m) []
    ((m.registers.pending ⇒ 8) ∷ (any (is_denied m right) bytes ⇒ 9) ∷ [])

-- RULES 3.4, 3.6: the own conditions of grant and revoke alike, from the domain that prevails in the field, which the row finds once
unfoldable pub change_checks : Machine → ℕ → Page → Domain → Option ℕ → List Check
change_checks m right page s prevails =
    (not (is_right right) ⇒ 2)
    ∷ (not (ltb page.0 m.pages) ⇒ 4)
    ∷ (not (is_domain s.0) ⇒ 5)
    ∷ (in_privileged_mode m ⇒ 6)
    ∷ (m.registers.pending ⇒ 8)
    ∷ (is_outside prevails (local_context m.registers) ⇒ 11)
    ∷ (is_not_lower prevails s.0 ⇒ 12)
    ∷ []

-- RULES 3.23, 5.6: the mode of a number. Above 1 it is privileged, which no answer shows: 17 and 25 refuse such numbers.
abbrev pub mode_of : ℕ → Mode
mode_of mode = pick (eqb mode 0) User Privileged

-- RULES 1.5, 2.9: the machine with other bits in the field of a right to a page; past the last place nothing is stored
abbrev pub with_field : Machine → ℕ → ℕ → ℕ → Machine
with_field m right page bits = with_fields (set m.fields (place_of right page) bits) m

-- RULES 3.11: an entry saves the live mode at the depth, goes up to privileged mode and clears the flag
unfoldable pub entered : Machine → Machine
entered m =
    with_stack (m.depth + 1) (set m.saved m.depth (is_privileged m.registers.mode))
    (with_registers (with_mode Privileged (with_pending false m.registers)) m)

-- RULES 3.13: a return takes the live mode from the last filled place of the stack and leaves user there
unfoldable pub returned : Machine → Machine
returned m =
    let top = m.depth - 1 in
    with_stack top (set m.saved top false)
    (with_registers (with_mode (mode_where (get_or m.saved top false)) m.registers) m)

-- RULES 3.15: the current program's three are stored before the named program's are read, so that a switch to the current one finds its own.
-- Its mode is the one that the interrupt saved, at place 0 of the stack; the live one is privileged.
unfoldable pub switched : Machine → ℕ → Machine
switched m program =
    let r = m.registers in
    let live : Program = record { context = r.context; mask = r.mask; mode = mode_where (get_or m.saved 0 false) } in
    let table = set m.table m.current live in
    let named = get_or table program no_program in
    with_programs program table
    (with_stack m.depth (set m.saved 0 (is_privileged named.mode))
    (with_registers (with_context named.context (with_mask named.mask r)) m))

-- RULES 3.25: the last violation as a report; where there is none, nothing is reported
abbrev pub handed_out : Option Violation → Report
handed_out None = Nothing
handed_out (Some violation) = Denied violation

-- RULES 1.17, 3.3: the domain through which the page of an address gives the right to the local context
abbrev pub domain_through : Machine → ℕ → ℕ → Domain
domain_through m right address = as_domain (giving_domain (field_of m right (page_of m address)) (local_context m.registers))

-- RULES 3.3: what an allowed access names: in user mode the domain that its first byte's page gives the right through. In privileged mode no domain is
-- asked, and none is named.
abbrev pub named : Machine → ℕ → ℕ → Report
named m right address = pick (in_privileged_mode m) Nothing (Through (domain_through m right address))

-- RULES 2.3, 2.5, 2.13: all that section 3 says of a call on a machine
pub record Rule : Type 0 where
  -- its own conditions, in the order in which they are looked at
  pub checks : List Check
  -- where none of them is met, the machine after it; what an effect does not name stays (3.1)
  pub effect : Machine
  -- where none of them is met, what it reports
  pub report : Report
  -- where 9 is answered, what that leaves as the last violation (1.16)
  pub last : Option Violation

-- RULES 2.13, 9.1: a call that reports nothing and never answers 9, by its conditions and its effect
abbrev pub plain : Machine → List Check → Machine → Rule
plain m checks effect = record { checks = checks; effect = effect; report = Nothing; last = m.violations.last }

-- RULES, section 3: the rule of each call, one row a call, in the section's order.
-- RULES 3.2, 3.3: access, of either width. What is allowed changes nothing. The last violation is that the current program was denied that right to that
-- address, which is the first byte's, whichever byte's page denied it.
abbrev pub rule_of : Machine → Call → Rule
rule_of m (Access width right address) =
    record {
      checks = access_checks m right (touched width address);
      effect = m;
      report = named m right address;
      last = Some (record { program = m.current; right = right; address = address });
    }
-- RULES 3.4, 3.5: grant sets the bit of s, whatever it was
rule_of m (Grant right page s) =
    let field = field_of m right page.0 in
    plain m (change_checks m right page s (prevailing field)) (with_field m right page.0 (with_bit field s.0))
-- RULES 3.6, 3.7: revoke refuses the same and clears the bit, whatever it was
rule_of m (Revoke right page s) =
    let field = field_of m right page.0 in
    plain m (change_checks m right page s (prevailing field)) (with_field m right page.0 (without_bit field s.0))
-- RULES 3.8, 3.9: the mask command looks at its mask and at the live registers alone; the mask as it is given, not trimmed to the global context
rule_of m (SetMask bits) = plain m (mask_checks m.registers bits) (with_registers (with_mask bits m.registers) m)
-- RULES 3.10, 3.11: interrupt entry, refused where all places of the stack are taken
rule_of m Enter = plain m ((not (ltb m.depth 8) ⇒ 13) ∷ []) (entered m)
-- RULES 3.12, 3.13: return
rule_of m Return = plain m ((in_user_mode m ⇒ 7) ∷ (eqb m.depth 0 ⇒ 14) ∷ []) (returned m)
-- RULES 3.14, 3.15: switch. It does not ask whether the current program has an entry: a sound machine's has one.
rule_of m (Switch program) =
    plain m
    ((in_user_mode m ⇒ 7) ∷ (not (eqb m.depth 1) ⇒ 15) ∷ (not (ltb program m.programs) ⇒ 16) ∷ [])
    (switched m program)
-- RULES 3.16, 3.17: the kernel's store of a field. No store touches the current program's table entry.
rule_of m (StoreField right page bits) =
    plain m ((not (is_right right) ⇒ 2) ∷ (not (ltb page.0 m.pages) ⇒ 4) ∷ (in_user_mode m ⇒ 7) ∷ []) (with_field m right page.0 bits)
-- RULES 3.18 to 3.21: the stores of the global context and of the mask
rule_of m (StoreContext bits) = plain m ((in_user_mode m ⇒ 7) ∷ []) (with_registers (with_context bits m.registers) m)
rule_of m (StoreMask bits) = plain m ((in_user_mode m ⇒ 7) ∷ []) (with_registers (with_mask bits m.registers) m)
-- RULES 3.22, 3.23: the store of the mode, where 17 comes before 7
rule_of m (StoreMode mode) =
    plain m ((not (leb mode 1) ⇒ 17) ∷ (in_user_mode m ⇒ 7) ∷ []) (with_registers (with_mode (mode_of mode) m.registers) m)
-- RULES 3.24, 3.25: the question for the last violation, which changes nothing, so that it can be asked again
rule_of m AskViolation =
    record { checks = (in_user_mode m ⇒ 7) ∷ []; effect = m; report = handed_out m.violations.last; last = m.violations.last }

-- RULES 2.3: a call's own conditions
unfoldable pub checks_of : Machine → Call → List Check
checks_of m call = (rule_of m call).checks

-- RULES 2.3: the machine after a call that nothing refuses
unfoldable pub effect_of : Machine → Call → Machine
effect_of m call = (rule_of m call).effect

-- RULES 2.13: what a call reports that nothing refuses
abbrev pub report_of : Machine → Call → Report
report_of m call = (rule_of m call).report

-- RULES 1.16, 3.3: what an answer of 9 leaves as the last violation
abbrev pub last_after_violation : Machine → Call → Option Violation
last_after_violation m call = (rule_of m call).last

-- RULES 2.3, 2.8: a call's number by its own conditions alone
abbrev pub own_number_of : Machine → Call → ℕ
own_number_of m call = first (checks_of m call)

-- RULES 2.4: the number of a call by value, which looks at soundness before all else
abbrev pub number_of : Machine → Call → ℕ
number_of m call = pick (not (is_sound m)) 1 (own_number_of m call)

-- RULES 3.3: a violation sets the flag, and is the last one from now on
abbrev pub violated : Machine → Call → Machine
violated m call = with_last (last_after_violation m call) (with_registers (with_pending true m.registers) m)

-- RULES 2.3, 2.5: the machine after a call by its number: the effect on 0, the violation on 9, the machine as it was on any other
unfoldable pub after : ℕ → Machine → Call → Machine
after number m call = pick (eqb number 0) (effect_of m call) (pick (eqb number 9) (violated m call) m)

-- RULES 2.1, 2.13: a call's answer: a number, the machine after it, and what it reports, which is nothing where it is refused
abbrev pub answer_by : ℕ → Machine → Call → Answered
answer_by number m call =
    record { number = number; machine = after number m call; report = pick (eqb number 0) (report_of m call) Nothing }

-- RULES 2.13: an answer that reports nothing
abbrev pub silent : ℕ → Machine → Answered
silent number machine = record { number = number; machine = machine; report = Nothing }

-- RULES 2.8: the call without the check for 1, on any machine; for a caller that knows its machine to be sound
unfoldable pub unchecked_of : Machine → Call → Answered
unchecked_of m call = answer_by (own_number_of m call) m call

-- RULES 2.4, 2.7: the call by value, with the check for 1 in front
unfoldable pub call_of : Machine → Call → Answered
call_of m call = answer_by (number_of m call) m call

-- RULES 2.10: the grant or the revocation that `change_lent` makes
abbrev pub change_call : Bool → ℕ → Page → Domain → Call
change_call granting right page s = pick granting (Grant right page s) (Revoke right page s)

-- RULES 2.10: what comes back of a call on a lent part. What it changed there stands in the lent one; the machine of the answer keeps its own
-- fields and stack.
abbrev pub keeping : Machine → Answered → Answered
keeping own answer =
    record { number = answer.number; machine = with_lent own.fields own.saved answer.machine; report = answer.report }
