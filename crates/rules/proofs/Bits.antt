-- A domain's bit set or cleared: who does not see it, and what it does not move. By induction on the binary digits, and
-- where a fact is one of sixteen domains, by computing it for each.
use Prim.Native.Nat.{ℕ, zero, suc, ◌+◌, ◌-◌, ◌*◌, ◌/◌, ◌%◌, ◌^◌, ◌<◌, min, max}
use mathlib.Core.Path.{◌≡◌, refl, sym, ap, ◌∙◌}
use mathlib.Core.Bool.{Bool, true, false, ◌&&◌}
use borrow.Author.Tests.{eqb-true, eqb-false, ne_eqb, not-false}
use lib.Arith.{bin_ind, mod-mul}
use lib.Bits.{bit_and, bit_or, and_step, or_step, and_comm, or_self, or_zero_r, or_mod, and_mod, and_mask, and_shr, or_shr}
use lib.Count.{count_trailing_zeros, trailing_of_zero, under}
use lib.Dec.{eqb}
use lib.Pow.{pow_pos}
use native.Mathlib.Nat.{mod-lt, zero-lt-suc, pow-suc, mod-eq_of_lt, mod_self, mod-mod, div-add-mod'}
use native.Mathlib.Omega.{arith}
use Rattle.rules.specs.Domains.{domain_bit, holds, with_bit, without_bit, prevailing}
use Rattle.rules.specs.Refusals.{pick}
use Rattle.std.specs.Prelude.{None, Some}
use Rattle.rules.proofs.Decided.{and_both}
use Rattle.rules.proofs.Laws.{domain_bit_lem}

-- ---- AND and OR, digit by digit

two_pos : zero < 2
two_pos = zero-lt-suc 1

pub digit : (n : ℕ) → n % 2 < 2
digit n = mod-lt n two_pos

-- the upper digits of the two operations, and the last one
pub and_half : (a b : ℕ) → bit_and a b / 2 ≡ bit_and (a / 2) (b / 2)
and_half a b = and_shr a b 1

or_half : (a b : ℕ) → bit_or a b / 2 ≡ bit_or (a / 2) (b / 2)
or_half a b = or_shr a b 1

pub and_last : (a b : ℕ) → bit_and a b % 2 ≡ min (a % 2) (b % 2)
and_last a b = omega (arith, and_half a b, and_step a b, div-add-mod' (bit_and a b) 2)

or_last : (a b : ℕ) → bit_or a b % 2 ≡ max (a % 2) (b % 2)
or_last a b = omega (arith, or_half a b, or_step a b, div-add-mod' (bit_or a b) 2)

pub and_assoc : (a b c : ℕ) → bit_and (bit_and a b) c ≡ bit_and a (bit_and b c)
and_assoc =
    bin_ind (λ (n : ℕ). (b c : ℕ) → bit_and (bit_and n b) c ≡ bit_and n (bit_and b c)) (λ b c. refl)
    (λ n ih b c.
    let up = ih (b / 2) (c / 2) in
    and_step (bit_and n b) c ∙ rw (and_half n b, and_last n b, up) (
    sym (and_step n (bit_and b c) ∙ rw (and_half b c, and_last b c) (omega arith))))

pub and_or : (a b c : ℕ) → bit_and (bit_or a b) c ≡ bit_or (bit_and a c) (bit_and b c)
and_or =
    bin_ind (λ (n : ℕ). (b c : ℕ) → bit_and (bit_or n b) c ≡ bit_or (bit_and n c) (bit_and b c)) (λ b c. refl)
    (λ n ih b c.
    let up = ih (b / 2) (c / 2) in
    and_step (bit_or n b) c ∙ rw (or_half n b, or_last n b, up) (
    sym (or_step (bit_and n c) (bit_and b c) ∙ rw (and_half n c, and_last n c, and_half b c, and_last b c) (omega arith))))

pub or_twice : (a b : ℕ) → bit_or (bit_or a b) b ≡ bit_or a b
or_twice =
    bin_ind (λ (n : ℕ). (b : ℕ) → bit_or (bit_or n b) b ≡ bit_or n b) or_self
    (λ n ih b.
    let up = ih (b / 2) in
    or_step (bit_or n b) b ∙ rw (or_half n b, or_last n b, up) (sym (or_step n b ∙ (omega arith))))

-- ---- a domain that a context does not hold

-- a test that holds of every number below n
unfoldable pub every : ℕ → (ℕ → Bool) → Bool
every zero test = true
every (suc n) test = test n && every n test

pub every_holds : (n : ℕ) (test : ℕ → Bool) → every n test ≡ true → (s : ℕ) → s < n → test s ≡ true
unfolding every
every_holds zero test all s h = absurd (omega arith)
every_holds (suc n) test all s h = split (eqb s n) refl (every_holds n test)
  where
    both : (test n ≡ true) × (every n test ≡ true)
    both = and_both (test n) (every n test) all

    split : (b : Bool) → eqb s n ≡ b → (every n test ≡ true → (k : ℕ) → k < n → test k ≡ true) → test s ≡ true
    split true e rest = rw (eqb-true s n e) both.0
    split false e rest =
        let less = eqb-false s n e in
        rest both.1 s (omega arith)

-- every domain's number: its bit with the others makes up all sixteen, and below it all bits are kept when it is cleared
parts : (s : ℕ) → s < 16 → bit_or (65535 - 2 ^ s) (2 ^ s) ≡ 65535
unfolding every
parts s h = eqb-true _ _ (every_holds 16 (λ n. eqb (bit_or (65535 - 2 ^ n) (2 ^ n)) 65535) refl s h)

lower_parts : (s : ℕ) → s < 16 → (65535 - 2 ^ s) % 2 ^ s ≡ 2 ^ s - 1
unfolding every
lower_parts s h = eqb-true _ _ (every_holds 16 (λ n. eqb ((65535 - 2 ^ n) % 2 ^ n) (2 ^ n - 1)) refl s h)

not_held : (context s : ℕ) → holds context s ≡ false → bit_and context (domain_bit s) ≡ 0
not_held context s h = eqb-true _ _ (not-false (eqb (bit_and context (domain_bit s)) 0) h)

module _ (field context s : ℕ) (known : s < 16) (lacks : holds context s ≡ false) (small : context < 65536) where
  lacks_bit : bit_and (2 ^ s) context ≡ 0
  lacks_bit = and_comm (2 ^ s) context ∙ (rw (domain_bit_lem s known) at (not_held context s lacks))

  others : bit_and (65535 - 2 ^ s) context ≡ context
  others =
      sym (or_zero_r (bit_and (65535 - 2 ^ s) context)) ∙ ap (bit_or (bit_and (65535 - 2 ^ s) context)) (sym lacks_bit)
      ∙ sym (and_or (65535 - 2 ^ s) (2 ^ s) context)
      ∙ rw (parts s known) (and_comm 65535 context ∙ and_mask context 16 ∙ mod-eq_of_lt small)

  -- a context that does not hold domain s does not see it granted, nor revoked
  pub unseen : (granting : Bool) → bit_and (pick granting (with_bit field s) (without_bit field s)) context ≡ bit_and field context
  unseen true =
      rw (domain_bit_lem s known) (and_or field (2 ^ s) context ∙ rw lacks_bit (or_zero_r (bit_and field context)))
  unseen false = rw (domain_bit_lem s known) (and_assoc field (65535 - 2 ^ s) context ∙ ap (bit_and field) others)

-- two fields that a context sees alike it sees alike after a grant, and after a revocation
pub seen_alike : (one two context s : ℕ) → bit_and one context ≡ bit_and two context → (granting : Bool)
    → bit_and (pick granting (with_bit one s) (without_bit one s)) context
    ≡ bit_and (pick granting (with_bit two s) (without_bit two s)) context
seen_alike one two context s alike true =
    and_or one (domain_bit s) context ∙ rw alike (sym (and_or two (domain_bit s) context))
seen_alike one two context s alike false = within one ∙ rw alike (sym (within two))
  where
    within : (field : ℕ)
        → bit_and (bit_and field (65535 - domain_bit s)) context ≡ bit_and (bit_and field context) (65535 - domain_bit s)
    within field =
        and_assoc field (65535 - domain_bit s) context ∙ ap (bit_and field) (and_comm (65535 - domain_bit s) context)
        ∙ sym (and_assoc field context (65535 - domain_bit s))

-- ---- the prevailing domain

-- the digits below s are all that a lowest set digit below s depends on
trailing_same : (k s n n' : ℕ) → n' % 2 ^ s ≡ n % 2 ^ s → count_trailing_zeros k n < s → count_trailing_zeros k n' ≡ count_trailing_zeros k n
unfolding count_trailing_zeros
trailing_same zero s n n' same less = refl
trailing_same (suc k) zero n n' same less = omega arith
trailing_same (suc k) (suc s) n n' same less =
    rw last (ends (n % 2) less (trailing_same k s (n / 2) (n' / 2) upper))
  where
    apart : (x : ℕ) → x % 2 ^ suc s ≡ (x / 2 % 2 ^ s) * 2 + x % 2
    apart x = rw (pow-suc 2 s) (mod-mul x (pow_pos s) two_pos)

    last : n' % 2 ≡ n % 2
    last = omega (arith, same, apart n, apart n', digit n, digit n')

    upper : n' / 2 % 2 ^ s ≡ n / 2 % 2 ^ s
    upper = omega (arith, same, apart n, apart n', digit n, digit n')

    ends : (d : ℕ) {t t' : ℕ} → under d t < suc s → (t < s → t' ≡ t) → under d t' ≡ under d t
    ends zero h rest = ap suc (rest (omega arith))
    ends (suc d) h rest = refl

lower_set : (field s : ℕ) → s < 16 → with_bit field s % 2 ^ s ≡ field % 2 ^ s
lower_set field s known =
    rw (domain_bit_lem s known) (or_mod field (2 ^ s) s ∙ rw (mod_self (2 ^ s)) (or_zero_r (field % 2 ^ s)))

lower_cleared : (field s : ℕ) → s < 16 → without_bit field s % 2 ^ s ≡ field % 2 ^ s
lower_cleared field s known =
    rw (domain_bit_lem s known)
    (and_mod field (65535 - 2 ^ s) s ∙ rw (lower_parts s known) (and_mask (field % 2 ^ s) s ∙ mod-mod field (2 ^ s)))

-- a field that differs from another only from s on has the same prevailing domain, where that is below s
prevailing_same : (field field' s d : ℕ) → s < 16 → field' % 2 ^ s ≡ field % 2 ^ s → prevailing field ≡ Some d → d < s
    → prevailing field' ≡ prevailing field
unfolding prevailing
prevailing_same field field' s d known same at less = split (eqb field 0) refl at
  where
    split : (b : Bool) → eqb field 0 ≡ b → pick b None (Some (count_trailing_zeros 16 field)) ≡ Some d
        → pick (eqb field' 0) None (Some (count_trailing_zeros 16 field')) ≡ pick b None (Some (count_trailing_zeros 16 field))
    split true e f = cc
    split false e f =
        let place : count_trailing_zeros 16 field ≡ d = cc in
        let there : count_trailing_zeros 16 field' ≡ count_trailing_zeros 16 field = trailing_same 16 s field field' same (omega arith) in
        rw (ne_eqb field' 0 (λ (none : field' ≡ 0). omega (arith, ap (count_trailing_zeros 16) none, trailing_of_zero 16)), there)

-- a domain of lower level than the prevailing one, granted or revoked, does not move it
pub unmoved : (field s d : ℕ) → s < 16 → prevailing field ≡ Some d → d < s → (granting : Bool)
    → prevailing (pick granting (with_bit field s) (without_bit field s)) ≡ prevailing field
unmoved field s d known at less true = prevailing_same field (with_bit field s) s d known (lower_set field s known) at less
unmoved field s d known at less false =
    prevailing_same field (without_bit field s) s d known (lower_cleared field s known) at less
