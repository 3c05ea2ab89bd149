-- Laws of domain bits, of the prevailing domain and of the mask command on the register record that a wrong reading breaks, where
-- the definition and the code were changed together.
use Prim.Native.Nat.{ℕ, ◌≤◌, ◌<◌, ◌^◌}
use mathlib.Core.Path.{◌≡◌, refl}
use mathlib.Core.Bool.{Bool, true, false}
use mathlib.Core.List.{[], ◌∷◌, map}
use native.Mathlib.Nat.{le_refl}
use borrow.Author.Tests.{lt-ltb, le-ltb, le-leb, ne_eqb}
use lib.Bits.{bit_and, and_zero_r, or_zero_r}
use lib.Count.{count_trailing_zeros}
use Rattle.rules.specs.Registers.{is_privileged, mode_where, local_context, masked_of}
use Rattle.rules.specs.Domains.{domain_bit, holds, prevailing, is_outside, is_not_lower, with_bit, without_bit}
use Rattle.rules.specs.declared.registers.Mode.{Mode}
use Rattle.rules.specs.declared.registers.Mode.TheVariants.{User, Privileged}
use Rattle.rules.specs.declared.registers.Registers.{Registers}
use Rattle.std.specs.Prelude.{None, Some}

-- RULES 1.6: each of the sixteen domains has a bit, and no other number has one
pub domain_bit_lem : (s : ℕ) → s < 16 → domain_bit s ≡ 2 ^ s
unfolding domain_bit
domain_bit_lem s h = rw (lt-ltb s 16 h)

pub no_domain_bit : (s : ℕ) → 16 ≤ s → domain_bit s ≡ 0
unfolding domain_bit
no_domain_bit s h = rw (le-ltb s 16 h)

-- so nothing holds such a number, and to set or clear its bit changes none of the sixteen
pub no_domain_held : (set s : ℕ) → 16 ≤ s → holds set s ≡ false
no_domain_held set s h = rw (no_domain_bit s h, and_zero_r set)

pub no_domain_changed : (field s : ℕ) → 16 ≤ s → (with_bit field s ≡ field) × (without_bit field s ≡ bit_and field 65535)
no_domain_changed field s h = rw (no_domain_bit s h) (or_zero_r field, refl)

-- RULES 1.8: no domain prevails in an empty field, so that no local context has it
pub empty_field_refused : (local : ℕ) → is_outside (prevailing 0) local ≡ true
unfolding prevailing
empty_field_refused local = refl

-- RULES 3.4: a domain does not act on its own level
pub own_level_refused : (s : ℕ) → is_not_lower (Some s) s ≡ true
own_level_refused s = le-leb s s (le_refl s)

-- the lowest-numbered bit set, computed for some fields
pub prevailing_cases :
    map prevailing (1 ∷ 9 ∷ 12 ∷ 32768 ∷ 65535 ∷ 0 ∷ []) ≡ Some 0 ∷ Some 0 ∷ Some 2 ∷ Some 15 ∷ Some 0 ∷ None ∷ []
unfolding prevailing count_trailing_zeros
prevailing_cases = refl

-- setting and clearing a bit, and the local context, computed for some numbers
pub bit_cases :
    with_bit 9 1 ∷ with_bit 9 3 ∷ without_bit 9 3 ∷ without_bit 9 1 ∷ without_bit 65535 15
    ∷ local_context (record { context = 7; mask = 65283; mode = User; pending = false }) ∷ []
    ≡ 11 ∷ 9 ∷ 1 ∷ 9 ∷ 32767 ∷ 3 ∷ []
unfolding domain_bit
bit_cases = refl

-- RULES 3.9: the mask as it was given, and nothing else
pub mask_replaced : (r : Registers) (bits : ℕ) → (masked_of r bits).number ≡ 0
    → (masked_of r bits).registers ≡ record { context = r.context; mask = bits; mode = r.mode; pending = r.pending }
unfolding masked_of
mask_replaced r bits n = rw n

-- RULES 2.11: a mask command that is refused leaves the record as it was
pub mask_refused : (r : Registers) (bits : ℕ) → ((masked_of r bits).number ≡ 0 → ⊥) → (masked_of r bits).registers ≡ r
unfolding masked_of
mask_refused r bits n = rw (ne_eqb (masked_of r bits).number 0 n)

-- a mode is known by whether it is privileged
pub mode_back : (mode : Mode) → mode_where (is_privileged mode) ≡ mode
mode_back User = refl
mode_back Privileged = refl

pub privileged_back : (privileged : Bool) → is_privileged (mode_where privileged) ≡ privileged
privileged_back true = refl
privileged_back false = refl

-- RULES 2.11: the number for each mode and flag, also for a record that no sound machine has
pub mask_number_cases :
    map (λ (r : Registers). (masked_of r 12).number)
    (record { context = 7; mask = 3; mode = User; pending = false }
    ∷ record { context = 7; mask = 3; mode = User; pending = true }
    ∷ record { context = 7; mask = 3; mode = Privileged; pending = false }
    ∷ record { context = 7; mask = 3; mode = Privileged; pending = true }
    ∷ [])
    ≡ 0 ∷ 8 ∷ 6 ∷ 6 ∷ []
unfolding masked_of
mask_number_cases = refl
