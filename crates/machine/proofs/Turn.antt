-- Entry and return in a row, at any depth below 8: the machine is back, its flag clear. Entry, switch and return in a row, from depth 0 to a
-- program in the table: none is refused, and what stands after them; on a machine whose depth is written as 0 and whose stack as a list
-- the three calls compute. A violation and an entry in a row: the question for the last violation then hands it out.
use Prim.Native.Nat.{ℕ, ◌+◌, ◌-◌, ◌<◌}
use mathlib.Core.Path.{◌≡◌, refl, sym, ap, subst, ◌∙◌}
use mathlib.Core.Bool.{Bool, true, false}
use mathlib.Core.List.{List, [], ◌∷◌}
use borrow.Author.Tests.{lt-ltb, ne_eqb, not-false}
use lib.ListN.{length, get_or, set}
use lib.Seq.{get_or-set_same, set-set}
use native.Mathlib.Omega.{arith}
use Rattle.rules.specs.Registers.{is_privileged, with_pending}
use Rattle.rules.proofs.Laws.{mode_back}
use Rattle.rules.specs.declared.registers.Registers.{Registers}
use Rattle.machine.specs.Machine.{is_sound, no_program, with_stack, with_registers, with_programs}
use Rattle.machine.specs.Calls.{call_of, silent, number_of, checks_of, effect_of, after, entered, switched, returned}
use Rattle.machine.specs.declared.record.Machine.{Machine}
use Rattle.machine.specs.declared.record.Program.{Program}
use Rattle.machine.specs.declared.record.Report.TheVariants.{Denied}
use Rattle.machine.specs.declared.record.Width.{Width}
use Rattle.machine.specs.declared.record.Call.TheVariants.{Access, Enter, Return, Switch, AskViolation}
use Rattle.machine.proofs.Sound.{sound_facts, moved_sound}
use Rattle.machine.proofs.Laws.{one_exactly, soundness_kept, access_violated, question_answered}

-- RULES 3.11, 3.13: an entry and the return from it: the mode is back, the flag is clear, and the place that was filled is user
pub record Interrupted (m : Machine) : Type 0 where
  pub entry : call_of m Enter ≡ silent 0 (entered m)
  pub return :
      call_of (entered m) Return
      ≡ silent 0 (with_stack m.depth (set m.saved m.depth false) (with_registers (with_pending false m.registers) m))

entry_accepted : (m : Machine) → is_sound m ≡ true → m.depth < 8 → call_of m Enter ≡ silent 0 (entered m)
unfolding call_of checks_of effect_of after
entry_accepted m sound below = rw (sound, lt-ltb m.depth 8 below)

pub interrupted : (m : Machine) → is_sound m ≡ true → m.depth < 8 → length m.saved ≡ 8 → Interrupted m
unfolding call_of checks_of effect_of after entered returned
interrupted m sound below long =
    let s = sound_facts m sound in
    let one = moved_sound m (entered m) (refl, refl, refl) sound (omega arith) s.current_below refl s.violation_fits_lem in
    let place = is_privileged m.registers.mode in
    let number : number_of (entered m) Return ≡ 0 = rw (one, ne_eqb (m.depth + 1) 0 (λ (none : m.depth + 1 ≡ 0). omega arith)) in
    let top : m.depth + 1 - 1 ≡ m.depth = omega arith in
    record {
      entry = entry_accepted m sound below;
      return = rw (number, top, get_or-set_same m.saved m.depth place false (omega arith), mode_back m.registers.mode, set-set m.saved m.depth place false);
    }

-- the program table with the current program's entry as a switch would leave it
abbrev pub entry_of : Registers → Program
entry_of r = record { context = r.context; mask = r.mask; mode = r.mode }

abbrev pub home : Machine → List Program
home m = set m.table m.current (entry_of m.registers)

-- the live registers from a program's entry, with the flag clear
abbrev pub registers_of : Program → Registers
registers_of entry = record { context = entry.context; mask = entry.mask; mode = entry.mode; pending = false }

-- the machine on which a program's turn begins
abbrev pub turned : Machine → ℕ → Machine
turned m program =
    with_programs program (home m)
    (with_stack 0 (set m.saved 0 false) (with_registers (registers_of (get_or (home m) program no_program)) m))

pub record Turned (m : Machine) (program : ℕ) : Type 0 where
  pub entry : call_of m Enter ≡ silent 0 (entered m)
  pub switch : call_of (entered m) (Switch program) ≡ silent 0 (switched (entered m) program)
  pub return : call_of (switched (entered m) program) Return ≡ silent 0 (turned m program)
  pub sound : is_sound (turned m program) ≡ true

module _ (m : Machine) (top : Bool) (rest : List Bool) (program : ℕ) where
  -- the machine before, with its depth and stack written out
  abbrev start : Machine
  start = with_stack 0 (top ∷ rest) m

  turned_start : is_sound start ≡ true → program < m.programs → Turned start program
  unfolding call_of checks_of effect_of after entered switched returned
  turned_start sound below =
      let s = sound_facts start sound in
      let one = moved_sound start (entered start) (refl, refl, refl) sound (omega arith) s.current_below refl s.violation_fits_lem in
      let two = moved_sound start (switched (entered start) program) (refl, refl, refl) sound (omega arith) below refl s.violation_fits_lem in
      record {
        entry = rw sound;
        switch = rw (one, lt-ltb program m.programs below);
        return = rw (two, mode_back m.registers.mode, mode_back (get_or (home start) program no_program).mode);
        sound = moved_sound start (turned start program) (refl, refl, refl) sound (omega arith) below refl s.violation_fits_lem;
      }

pub turn_begins : (m : Machine) (program : ℕ) → is_sound m ≡ true → m.depth ≡ 0 → 0 < length m.saved → program < m.programs
    → Turned m program
turn_begins m program sound depth long below = by_stack m.saved refl long
  where
    by_stack : (saved : List Bool) → m.saved ≡ saved → 0 < length saved → Turned m program
    by_stack [] e h = absurd (omega arith)
    by_stack (top ∷ rest) e h =
        let same : start m top rest program ≡ m = rw (← e, ← depth) in
        subst (λ x. Turned x program) same (turned_start m top rest program (rw same sound) below)

-- RULES 3.25: who was denied what: after a violation below depth 8 and the interrupt that it asks for, the question hands out its program, right and
-- address
pub denial_handed_out : (m : Machine) (width : Width) (right address : ℕ) → (call_of m (Access width right address)).number ≡ 9 → m.depth < 8
    → let flagged = (call_of m (Access width right address)).machine in
    let interrupt = (call_of flagged Enter).machine in
    ((call_of interrupt AskViolation).number ≡ 0)
    × ((call_of interrupt AskViolation).report ≡ Denied (record { program = m.current; right = right; address = address }))
unfolding entered
denial_handed_out m width right address nine below =
    let call = Access width right address in
    let sound : is_sound m ≡ true = not-false (is_sound m) (sym (one_exactly m call) ∙ rw nine) in
    let flagged = (call_of m call).machine in
    let left = access_violated m width right address nine in
    let entry = entry_accepted flagged (soundness_kept m call ∙ sound) (rw left below) in
    let asked = question_answered (entered flagged) in
    let calm : is_sound (entered flagged) ≡ true = ap (λ r. is_sound r.machine) (sym entry) ∙ soundness_kept flagged Enter ∙ soundness_kept m call ∙ sound in
    rw (entry, asked, calm, left) (refl, refl)
