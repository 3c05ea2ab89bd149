-- The mask command on the register record and the one on the machine do the same to a sound machine's registers, by cases over
-- the mode, the flag, the mask and soundness. So what is shown of the numbers on the record holds of those on the machine.
use Prim.Native.Nat.{ℕ, ◌<◌}
use mathlib.Core.Path.{◌≡◌, refl, sym, ap, ◌∙◌}
use mathlib.Core.Bool.{Bool, true, false}
use mathlib.Core.Logic.{◌⊎◌, ◌↔◌, inl, inr, ⊎_elim}
use lib.Dec.{eqb}
use Rattle.rules.specs.Refusals.{pick}
use Rattle.rules.specs.Registers.{is_privileged, is_empty_mask, local_context, with_mask, masked_of}
use Rattle.rules.proofs.Masks.{MaskGives, mask_number_exactly, mask_lets_through, mask_needs_context}
use Rattle.machine.specs.Machine.{is_sound}
use Rattle.machine.specs.Calls.{call_of, checks_of, effect_of, after}
use Rattle.machine.specs.declared.record.Machine.{Machine}
use Rattle.machine.specs.declared.record.Answered.{Answered}
use Rattle.machine.specs.declared.record.Call.TheVariants.{SetMask}
use Rattle.machine.proofs.Answers.{accepted}

-- RULES 2.11: on a sound machine the two answer the same number
pub lent_answers : (m : Machine) (bits : ℕ) → is_sound m ≡ true
    → (call_of m (SetMask bits)).number ≡ (masked_of m.registers bits).number
unfolding call_of checks_of masked_of
lent_answers m bits sound = rw sound

-- RULES 2.11: and leave the same registers
pub lent_alters : (m : Machine) (bits : ℕ) → is_sound m ≡ true
    → (call_of m (SetMask bits)).machine.registers ≡ (masked_of m.registers bits).registers
unfolding call_of checks_of effect_of after masked_of
lent_alters m bits sound = rw sound (split (is_privileged m.registers.mode) m.registers.pending (is_empty_mask m.registers bits))
  where
    split : (privileged pending empty : Bool)
        → let number : ℕ = pick privileged 6 (pick pending 8 (pick empty 19 0)) in
        (after number m (SetMask bits)).registers ≡ pick (eqb number 0) (with_mask bits m.registers) m.registers
    split true pending empty = refl
    split false true empty = refl
    split false false true = refl
    split false false false = refl

module _ (m : Machine) (bits : ℕ) where
  abbrev answer : Answered
  answer = call_of m (SetMask bits)

  not_sound : is_sound m ≡ false → answer.number ≡ 1
  unfolding call_of
  not_sound unsound = rw unsound

  -- RULES 2.4, 3.8: each number of the mask command exactly where it is due: 1 on a machine that is not sound, and else what the command on its registers gives
  pub set_mask_exactly : bits < 65536 → (n : ℕ)
      → (answer.number ≡ n) ↔ (((is_sound m ≡ false) × (1 ≡ n)) ⊎ ((is_sound m ≡ true) × MaskGives m.registers bits n))
  set_mask_exactly small n = (
    λ e. split e (is_sound m) refl,
    ⊎_elim (λ u. not_sound u.0 ∙ u.1) (λ g. lent_answers m bits g.0 ∙ exactly.1 g.1),
  )
    where
      exactly : ((masked_of m.registers bits).number ≡ n) ↔ MaskGives m.registers bits n
      exactly = mask_number_exactly m.registers bits small n

      split : answer.number ≡ n → (b : Bool) → is_sound m ≡ b → ((is_sound m ≡ false) × (1 ≡ n)) ⊎ ((is_sound m ≡ true) × MaskGives m.registers bits n)
      split e true s = inr (s, exactly.0 (sym (lent_answers m bits s) ∙ e))
      split e false s = inl (s, sym (not_sound s) ∙ e)

  -- an accepted mask command, as the one on the registers
  on_registers : answer.number ≡ 0 → (is_sound m ≡ true) × ((masked_of m.registers bits).number ≡ 0)
  unfolding call_of
  on_registers done = let sound = (accepted m (SetMask bits) done).0 in (sound, sym (lent_answers m bits sound) ∙ done)

  -- RULES 3.9: an accepted mask command leaves a local context that is not empty
  pub set_mask_lets_through : answer.number ≡ 0 → local_context answer.machine.registers ≡ 0 → ⊥
  set_mask_lets_through done none =
      let lent = on_registers done in
      mask_lets_through m.registers bits lent.1 (ap local_context (sym (lent_alters m bits lent.0)) ∙ none)

  -- RULES 3.8: a program whose global context is empty can set no mask
  pub set_mask_needs_context : m.registers.context ≡ 0 → answer.number ≡ 0 → ⊥
  set_mask_needs_context none done = mask_needs_context m.registers bits none (on_registers done).1

-- RULES 3.8: for its number the mask command looks at soundness, the global context, the mode and the flag of the machine, and at nothing else of it
pub own_context_asked : (m other : Machine) (bits : ℕ) → is_sound m ≡ is_sound other → m.registers.context ≡ other.registers.context
    → m.registers.mode ≡ other.registers.mode → m.registers.pending ≡ other.registers.pending
    → (call_of m (SetMask bits)).number ≡ (call_of other (SetMask bits)).number
unfolding call_of checks_of
own_context_asked m other bits sound context mode pending = rw (sound, context, mode, pending)
