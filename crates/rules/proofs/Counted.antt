-- How many domains a set holds, counted one by one: the ones among its binary digits. By induction on the digits.
use Prim.Native.Nat.{ℕ, zero, suc, ◌+◌, ◌/◌, ◌%◌, ◌^◌, ◌<◌, ◌≤◌}
use mathlib.Core.Path.{◌≡◌, refl, ap, ◌∙◌}
use mathlib.Core.Bool.{not}
use lib.Count.{ones, ones_in, ones_step}
use lib.Dec.{eqb}
use native.Mathlib.Nat.{pow-suc, div-one}
use native.Mathlib.Numerals.{add-one}
use native.Mathlib.Omega.{arith}
use Rattle.rules.specs.Domains.{holds, domain_count}
use Rattle.rules.specs.Refusals.{pick}
use Rattle.rules.proofs.Bits.{digit}
use Rattle.rules.proofs.Lowest.{halved, held_digit}

-- the ones of a number of k digits are those among its k digits
pub ones_counted : (k n : ℕ) → n < 2 ^ k → ones n ≡ ones_in k n
unfolding ones ones_in
ones_counted zero n small = let none : n ≡ 0 = omega arith in rw none
ones_counted (suc k) n small = ones_step n ∙ ap (λ (rest : ℕ). n % 2 + rest) (ones_counted k (n / 2) (omega (arith, small, pow-suc 2 k)))

-- the digit above the first d is counted with them
digit_more : (d n : ℕ) → ones_in (suc d) n ≡ ones_in d n + n / 2 ^ d % 2
unfolding ones_in
digit_more zero n = rw (div-one n) (omega arith)
digit_more (suc d) n = rw (halved n d) (omega (arith, digit_more d (n / 2)))

-- RULES 1.6: so a count is that of the domains that the set holds, one by one
pub domain_counted : (set s : ℕ) → s < 16 → ones_in (s + 1) set ≡ ones_in s set + pick (holds set s) 1 0
domain_counted set s known =
    rw (add-one s, digit_more s set, held_digit set s known) (ap (λ (x : ℕ). ones_in s set + x) (split (set / 2 ^ s % 2) (digit (set / 2 ^ s))))
  where
    split : (d : ℕ) → d < 2 → d ≡ pick (not (eqb d 0)) 1 0
    split zero h = refl
    split (suc zero) h = refl
    split (suc (suc d)) h = absurd (omega arith)

-- there are no more than there are digits
pub counted_most : (d n : ℕ) → ones_in d n ≤ d
unfolding ones_in
counted_most zero n = omega arith
counted_most (suc d) n = omega (arith, digit n, counted_most d (n / 2))

-- RULES 1.6: all of them, one by one
pub count_each : (set : ℕ)
    → let one : ℕ → ℕ = λ s. pick (holds set s) 1 0 in
    domain_count set
    ≡ 0 + one 0 + one 1 + one 2 + one 3 + one 4 + one 5 + one 6 + one 7 + one 8 + one 9 + one 10 + one 11 + one 12 + one 13 + one 14 + one 15
unfolding ones_in
count_each set =
    omega (
      arith,
      domain_counted set 0 (omega arith),
      domain_counted set 1 (omega arith),
      domain_counted set 2 (omega arith),
      domain_counted set 3 (omega arith),
      domain_counted set 4 (omega arith),
      domain_counted set 5 (omega arith),
      domain_counted set 6 (omega arith),
      domain_counted set 7 (omega arith),
      domain_counted set 8 (omega arith),
      domain_counted set 9 (omega arith),
      domain_counted set 10 (omega arith),
      domain_counted set 11 (omega arith),
      domain_counted set 12 (omega arith),
      domain_counted set 13 (omega arith),
      domain_counted set 14 (omega arith),
      domain_counted set 15 (omega arith),
    )
