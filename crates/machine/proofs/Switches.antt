-- The switch: when it gives each of its numbers, that a test for the current program's entry would change no answer, and what it does without the check
-- for 1 on any machine. By cases over its tests, in their order.
use Prim.Native.Nat.{ℕ, ◌≤◌, ◌<◌}
use mathlib.Core.Path.{◌≡◌, refl, sym, subst, ◌∙◌}
use mathlib.Core.Bool.{Bool, true, false, not}
use mathlib.Core.List.{List, [], ◌∷◌}
use mathlib.Core.Logic.{◌↔◌}
use borrow.Author.Tests.{eqb-true, eqb-false, ltb-true, ltb-false, lt-ltb, le-ltb, ne_eqb}
use lib.Dec.{eqb, ltb}
use Rattle.rules.specs.Refusals.{Check, ◌⇒◌, first, pick}
use Rattle.rules.specs.declared.registers.Mode.{Mode}
use Rattle.rules.specs.declared.registers.Mode.TheVariants.{User, Privileged}
use Rattle.machine.specs.Machine.{is_sound}
use Rattle.machine.specs.Calls.{call_of, unchecked_of, answer_by, silent, number_of, checks_of, effect_of, after, switched, in_user_mode}
use Rattle.machine.specs.declared.record.Machine.{Machine}
use Rattle.machine.specs.declared.record.Call.TheVariants.{Switch}
use Rattle.machine.proofs.Sound.{sound_facts}

-- RULES 3.14, 3.15: where each number of a switch is due
pub data SwitchGives (m : Machine) (program : ℕ) : ℕ → Type 0 where
  unsound : is_sound m ≡ false → SwitchGives m program 1
  in_user_mode_lem : is_sound m ≡ true → m.registers.mode ≡ User → SwitchGives m program 7
  other_depth : is_sound m ≡ true → m.registers.mode ≡ Privileged → (m.depth ≡ 1 → ⊥) → SwitchGives m program 15
  no_program_past : is_sound m ≡ true → m.registers.mode ≡ Privileged → m.depth ≡ 1 → m.programs ≤ program → SwitchGives m program 16
  done : is_sound m ≡ true → m.registers.mode ≡ Privileged → m.depth ≡ 1 → program < m.programs → SwitchGives m program 0

module _ (m : Machine) (program : ℕ) where
  switch_number_given : {n : ℕ} → SwitchGives m program n → number_of m (Switch program) ≡ n
  unfolding checks_of
  switch_number_given (unsound s) = rw s
  switch_number_given (in_user_mode_lem s user) = rw (s, user)
  switch_number_given (other_depth s kernel other) = rw (s, kernel, ne_eqb m.depth 1 other)
  switch_number_given (no_program_past s kernel one past) = rw (s, kernel, one, le-ltb program m.programs past)
  switch_number_given (done s kernel one below) = rw (s, kernel, one, lt-ltb program m.programs below)

  some_switch_number : (n : ℕ) × SwitchGives m program n
  some_switch_number =
      split (is_sound m) refl m.registers.mode refl (eqb m.depth 1) refl (ltb program m.programs) refl
    where
      split : (sound : Bool) → is_sound m ≡ sound → (mode : Mode) → m.registers.mode ≡ mode → (one : Bool) → eqb m.depth 1 ≡ one
          → (there : Bool) → ltb program m.programs ≡ there → (n : ℕ) × SwitchGives m program n
      split false s mode k one d there t = (1, unsound s)
      split true s User k one d there t = (7, in_user_mode_lem s k)
      split true s Privileged k false d there t = (15, other_depth s k (eqb-false m.depth 1 d))
      split true s Privileged k true d false t = (16, no_program_past s k (eqb-true m.depth 1 d) (ltb-false program m.programs t))
      split true s Privileged k true d true t = (0, done s k (eqb-true m.depth 1 d) (ltb-true program m.programs t))

  -- RULES 3.14, 3.15: each number of a switch exactly where it is due
  pub switch_number_exactly : (n : ℕ) → ((call_of m (Switch program)).number ≡ n) ↔ SwitchGives m program n
  unfolding call_of
  switch_number_exactly n =
      let one = some_switch_number in
      ((λ e. subst (SwitchGives m program) (sym (switch_number_given one.1) ∙ e) one.1), switch_number_given)

  -- the conditions of a switch that also asks whether the current program has an entry
  abbrev asking : List Check
  asking =
      (in_user_mode m ⇒ 7)
      ∷ (not (ltb m.current m.programs) ⇒ 10)
      ∷ (not (eqb m.depth 1) ⇒ 15)
      ∷ (not (ltb program m.programs) ⇒ 16)
      ∷ []

  -- RULES 3.15, 9.2: it would answer the same on every machine: a sound one's current program has an entry, and on the others 1 comes first
  pub entry_asked_in_vain : call_of m (Switch program) ≡ answer_by (first ((not (is_sound m) ⇒ 1) ∷ asking)) m (Switch program)
  unfolding call_of checks_of
  entry_asked_in_vain = split (is_sound m) refl
    where
      split : (sound : Bool) → is_sound m ≡ sound
          → answer_by (first ((not sound ⇒ 1) ∷ checks_of m (Switch program))) m (Switch program)
          ≡ answer_by (first ((not sound ⇒ 1) ∷ asking)) m (Switch program)
      split true s = rw (lt-ltb m.current m.programs (sound_facts m s).current_below)
      split false s = refl

-- RULES 2.8, 3.14, 3.15: the switch without the check for 1 in full, on any machine, whether or not its current program has an entry
pub unchecked_switch : (m : Machine) (program : ℕ)
    → unchecked_of m (Switch program)
    ≡ pick (in_user_mode m) (silent 7 m)
    (pick (not (eqb m.depth 1)) (silent 15 m) (pick (not (ltb program m.programs)) (silent 16 m) (silent 0 (switched m program))))
unfolding unchecked_of checks_of effect_of after
unchecked_switch m program = split (in_user_mode m) (eqb m.depth 1) (ltb program m.programs)
  where
    split : (user one there : Bool)
        → answer_by (first ((user ⇒ 7) ∷ (not one ⇒ 15) ∷ (not there ⇒ 16) ∷ [])) m (Switch program)
        ≡ pick user (silent 7 m) (pick (not one) (silent 15 m) (pick (not there) (silent 16 m) (silent 0 (switched m program))))
    split true one there = refl
    split false false there = refl
    split false true false = refl
    split false true true = refl
