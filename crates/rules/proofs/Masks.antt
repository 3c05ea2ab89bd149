-- When the mask command on a register record gives each of its numbers, with the domains written out: a mask is empty exactly where no domain is in it and in
-- the global context. By cases over the mode, the flag and what the two share.
use Prim.Native.Nat.{ℕ, ◌<◌}
use mathlib.Core.Path.{◌≡◌, refl, sym, ap, subst, ◌∙◌}
use mathlib.Core.Bool.{Bool, true, false, ◌&&◌, true≢false}
use mathlib.Core.List.{[], ◌∷◌}
use mathlib.Core.Logic.{◌↔◌}
use native.Mathlib.Omega.{arith}
use lib.Bits.{bit_and, and_zero_r, and_comm, and_le_l}
use Rattle.rules.specs.Refusals.{first, ◌⇒◌}
use Rattle.rules.specs.Registers.{is_privileged, is_empty_mask, local_context, masked_of}
use Rattle.rules.specs.Domains.{holds}
use Rattle.rules.specs.declared.registers.Mode.{Mode}
use Rattle.rules.specs.declared.registers.Mode.TheVariants.{User, Privileged}
use Rattle.rules.specs.declared.registers.Registers.{Registers}
use Rattle.rules.proofs.Laws.{mask_replaced}
use Rattle.rules.proofs.Lowest.{none_shared, one_shared}

-- RULES 2.11, 3.8: where the mask command on a record gives each number
pub data MaskGives (r : Registers) (bits : ℕ) : ℕ → Type 0 where
  privileged : r.mode ≡ Privileged → MaskGives r bits 6
  pending : r.mode ≡ User → r.pending ≡ true → MaskGives r bits 8
  empty : r.mode ≡ User → r.pending ≡ false → ((s : ℕ) → holds bits s && holds r.context s ≡ false) → MaskGives r bits 19
  taken : r.mode ≡ User → r.pending ≡ false → (s : ℕ) → holds bits s && holds r.context s ≡ true → MaskGives r bits 0

module _ (r : Registers) (bits : ℕ) where
  -- a mask that is not empty has a domain in common with the global context
  mask_shares : bits < 65536 → is_empty_mask r bits ≡ false → (s : ℕ) × (holds bits s && holds r.context s ≡ true)
  mask_shares small = one_shared bits r.context (omega (arith, and_le_l bits r.context))

  one_given : bits < 65536 → (n : ℕ) × MaskGives r bits n
  one_given small = split r.mode refl r.pending refl (is_empty_mask r bits) refl
    where
      split : (mode : Mode) → r.mode ≡ mode → (flag : Bool) → r.pending ≡ flag → (none : Bool) → is_empty_mask r bits ≡ none
          → (n : ℕ) × MaskGives r bits n
      split Privileged m flag f none e = (6, privileged m)
      split User m true f none e = (8, pending m f)
      split User m false f true e = (19, empty m f (none_shared bits r.context e))
      split User m false f false e = let s = mask_shares small e in (0, taken m f s.0 s.1)

  given_number : bits < 65536 → {n : ℕ} → MaskGives r bits n → (masked_of r bits).number ≡ n
  unfolding masked_of
  given_number small (privileged m) = rw m
  given_number small (pending m f) = rw (m, f)
  given_number small (empty m f none) = rw (m, f, split (is_empty_mask r bits) refl)
    where
      split : (b : Bool) → is_empty_mask r bits ≡ b → b ≡ true
      split true e = refl
      split false e = let s = mask_shares small e in absurd (true≢false (sym s.1 ∙ none s.0))
  given_number small (taken m f s share) = rw (m, f, split (is_empty_mask r bits) refl)
    where
      split : (b : Bool) → is_empty_mask r bits ≡ b → b ≡ false
      split true e = absurd (true≢false (sym share ∙ none_shared bits r.context e s))
      split false e = refl

  -- RULES 2.11, 3.8: each number exactly where it is due: 19 where no domain is in the mask and in the global context, 0 where one is
  pub mask_number_exactly : bits < 65536 → (n : ℕ) → ((masked_of r bits).number ≡ n) ↔ MaskGives r bits n
  mask_number_exactly small n =
      let one = one_given small in
      ((λ e. subst (MaskGives r bits) (sym (given_number small one.1) ∙ e) one.1), given_number small)

  -- an accepted mask shares something with the global context
  not_empty : (masked_of r bits).number ≡ 0 → bit_and bits r.context ≡ 0 → ⊥
  unfolding masked_of
  not_empty done none = refused (is_privileged r.mode) r.pending (rw none at done)
    where
      refused : (a b : Bool) → first ((a ⇒ 6) ∷ (b ⇒ 8) ∷ (true ⇒ 19) ∷ []) ≡ 0 → ⊥
      refused true b h = absurd (omega arith)
      refused false true h = absurd (omega arith)
      refused false false h = absurd (omega arith)

  -- RULES 3.9: so the local context that an accepted mask command leaves is not empty
  pub mask_lets_through : (masked_of r bits).number ≡ 0 → local_context (masked_of r bits).registers ≡ 0 → ⊥
  mask_lets_through done none =
      not_empty done (and_comm bits r.context ∙ ap local_context (sym (mask_replaced r bits done)) ∙ none)

  -- RULES 3.8: and with an empty global context none is accepted
  pub mask_needs_context : r.context ≡ 0 → (masked_of r bits).number ≡ 0 → ⊥
  mask_needs_context none done = not_empty done (ap (bit_and bits) none ∙ and_zero_r bits)
