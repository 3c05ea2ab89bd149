-- Laws that a wrong reading of the rules breaks, where the definition and the code were changed together: the mask as it was given, by a
-- program or by the kernel, what a switch stores, what a return leaves and that a violation sets the flag.
use Prim.Native.Nat.{ℕ, ◌-◌}
use mathlib.Core.Path.{◌≡◌, ap, ◌∙◌}
use mathlib.Core.Bool.{true, false}
use native.Mathlib.Omega.{arith}
use lib.ListN.{length, get_or, set}
use lib.Seq.{get_or-set_same, set-get_or}
use Rattle.rules.specs.Registers.{mode_where, with_mask}
use Rattle.rules.specs.declared.registers.Mode.TheVariants.{Privileged}
use Rattle.rules.proofs.Laws.{privileged_back}
use Rattle.machine.specs.Machine.{is_sound, no_program, with_registers, with_programs}
use Rattle.machine.specs.Calls.{call_of, silent, checks_of, effect_of, returned, switched, after}
use Rattle.machine.specs.declared.record.Machine.{Machine}
use Rattle.machine.specs.declared.record.Program.{Program}
use Rattle.machine.specs.declared.record.Call.{Call}
use Rattle.machine.specs.declared.record.Call.TheVariants.{SetMask, Return, Switch, StoreMask}
use Rattle.machine.proofs.Answers.{return_within, switch_within}

-- an accepted call gives back its effect
done_effect : (m : Machine) (call : Call) → (call_of m call).number ≡ 0 → (call_of m call).machine ≡ effect_of m call
unfolding call_of after
done_effect m call n = rw n

-- RULES 3.9: the live mask is the given one, with its bits outside the global context
pub mask_as_given : (m : Machine) (bits : ℕ) → (call_of m (SetMask bits)).number ≡ 0
    → (call_of m (SetMask bits)).machine.registers.mask ≡ bits
unfolding effect_of
mask_as_given m bits n = ap (λ (end : Machine). end.registers.mask) (done_effect m (SetMask bits) n)

-- RULES 3.20, 3.21: the kernel may store any mask, an empty one too
pub any_mask_stored : (m : Machine) (bits : ℕ) → is_sound m ≡ true → m.registers.mode ≡ Privileged
    → call_of m (StoreMask bits) ≡ silent 0 (with_registers (with_mask bits m.registers) m)
unfolding call_of checks_of effect_of after
any_mask_stored m bits sound mode = rw (sound, mode)

-- RULES 3.15: what a switch stores for the program that it leaves: the live global context and mask, and the mode that the interrupt saved
abbrev stored : Machine → Program
stored m =
    record {
      context = m.registers.context;
      mask = m.registers.mask;
      mode = mode_where (get_or m.saved 0 false);
    }

pub switch_stores : (m : Machine) (program : ℕ) → length m.table ≡ 8 → (call_of m (Switch program)).number ≡ 0
    → get_or (call_of m (Switch program)).machine.table m.current no_program
    ≡ record { context = m.registers.context; mask = m.registers.mask; mode = mode_where (get_or m.saved 0 false) }
unfolding call_of effect_of switched
switch_stores m program long n =
    let current = (switch_within m program n).0 in
    ap (λ (end : Machine). get_or end.table m.current no_program) (done_effect m (Switch program) n)
    ∙ get_or-set_same m.table m.current (stored m) no_program (omega arith)

-- RULES 3.15: a switch to the program that is current already changes its entry alone
pub switch_to_current : (m : Machine) → length m.table ≡ 8 → (call_of m (Switch m.current)).number ≡ 0
    → (call_of m (Switch m.current)).machine
    ≡ with_programs m.current
    (set m.table m.current
    (record { context = m.registers.context; mask = m.registers.mask; mode = mode_where (get_or m.saved 0 false) })) m
unfolding call_of effect_of switched
switch_to_current m long n =
    let current = (switch_within m m.current n).0 in
    done_effect m (Switch m.current) n
    ∙ rw (get_or-set_same m.table m.current (stored m) no_program (omega arith), privileged_back (get_or m.saved 0 false), set-get_or m.saved 0 false)

-- RULES 3.13: the saved mode is the live one again, and user stands in its place
pub return_restores : (m : Machine) → length m.saved ≡ 8 → (call_of m Return).number ≡ 0
    → ((call_of m Return).machine.registers.mode ≡ mode_where (get_or m.saved (m.depth - 1) false))
    × (get_or (call_of m Return).machine.saved (m.depth - 1) false ≡ false)
unfolding call_of effect_of returned
return_restores m long n =
    let top = return_within m n in
    let end = done_effect m Return n in (
      ap (λ (end : Machine). end.registers.mode) end,
      ap (λ (end : Machine). get_or end.saved (m.depth - 1) false) end
          ∙ get_or-set_same m.saved (m.depth - 1) false false (omega arith),
    )

-- RULES 3.3: a violation sets the flag
pub violation_sets_flag : (m : Machine) (call : Call) → (call_of m call).number ≡ 9 → (call_of m call).machine.registers.pending ≡ true
unfolding call_of after
violation_sets_flag m call n = rw n
