-- A set holds a domain where the binary digit of its number is set. The prevailing domain is the lowest-numbered one that a field holds, the giving domain
-- the lowest-numbered one that a field and a local context both hold. By induction on the digits: those below the lowest set one are 0, and it is 1.
use Prim.Native.Nat.{ℕ, zero, suc, ◌+◌, ◌-◌, ◌*◌, ◌/◌, ◌%◌, ◌^◌, ◌<◌, ◌≤◌}
use mathlib.Core.Path.{◌≡◌, refl, sym, ap, ◌∙◌}
use mathlib.Core.Bool.{Bool, true, false, not, ◌&&◌, ◌||◌, beq, true≢false}
use borrow.Author.Tests.{eqb-true, eqb-false, ne_eqb, ltb-true, ltb-false}
use lib.Bits.{bit_and, bit_or, and_zero_l, and_le_r, and_mask, and_high, and_mod, and_shr, or_lt, or_mod, or_shr}
use lib.Count.{count_trailing_zeros, under}
use lib.Dec.{eqb, ltb}
use lib.Pow.{pow_pos, pow-add, mod-pow-add}
use native.Mathlib.Nat.{pow-suc, pow-succ', div-div-eq-div-mul, div-one, zero-mul, suc-mul, mod-one, mod-eq_of_lt}
use native.Mathlib.Omega.{arith}
use Rattle.rules.specs.Domains.{domain_bit, holds, with_bit, without_bit, prevailing, giving_domain}
use Rattle.rules.specs.Refusals.{pick}
use Rattle.std.specs.Prelude.{None, Some}
use Rattle.rules.proofs.Bits.{digit, every, every_holds}
use Rattle.rules.proofs.Decided.{and_both}
use Rattle.rules.proofs.Laws.{domain_bit_lem, no_domain_bit, no_domain_held}

pub halved : (n s : ℕ) → n / 2 ^ suc s ≡ n / 2 / 2 ^ s
halved n s = ap (λ (x : ℕ). n / x) (pow-succ' 2 s) ∙ sym (div-div-eq-div-mul n 2 (2 ^ s))

-- the lowest set digit of a number of k digits is one of them, and set
lowest_set : (k n : ℕ) → 0 < n → n < 2 ^ k → (count_trailing_zeros k n < k) × (n / 2 ^ count_trailing_zeros k n % 2 ≡ 1)
unfolding count_trailing_zeros
lowest_set zero n some small = absurd (omega arith)
lowest_set (suc k) n some small = go (n % 2) refl (λ (h : 0 < n / 2). lowest_set k (n / 2) h (omega (arith, small, pow-suc 2 k)))
  where
    go : (r : ℕ) → n % 2 ≡ r → (0 < n / 2 → (count_trailing_zeros k (n / 2) < k) × (n / 2 / 2 ^ count_trailing_zeros k (n / 2) % 2 ≡ 1))
        → (under r (count_trailing_zeros k (n / 2)) < suc k) × (n / 2 ^ under r (count_trailing_zeros k (n / 2)) % 2 ≡ 1)
    go zero e rest =
        let half = rest (omega arith) in
        (omega (arith, half), rw (halved n (count_trailing_zeros k (n / 2))) half.1)
    go (suc r) e rest = (omega arith, rw (div-one n) (omega arith))

-- the digits below it are not set
below_unset : (k n s : ℕ) → s < count_trailing_zeros k n → n / 2 ^ s % 2 ≡ 0
unfolding count_trailing_zeros
below_unset zero n s below = absurd (omega arith)
below_unset (suc k) n s below = go (n % 2) refl s below (below_unset k (n / 2))
  where
    go : (r : ℕ) → n % 2 ≡ r → (t : ℕ) → t < under r (count_trailing_zeros k (n / 2))
        → ((u : ℕ) → u < count_trailing_zeros k (n / 2) → n / 2 / 2 ^ u % 2 ≡ 0) → n / 2 ^ t % 2 ≡ 0
    go zero e zero h rest = rw (div-one n) e
    go zero e (suc t) h rest = rw (halved n t) (rest t (omega arith))
    go (suc r) e t h rest = absurd (omega arith)

-- a field holds a domain exactly where the digit of its number is set
pub held_digit : (field s : ℕ) → s < 16 → holds field s ≡ not (eqb (field / 2 ^ s % 2) 0)
held_digit field s known = rw part (ap not (scaled (field / 2 ^ s % 2)))
  where
    alone : 2 ^ s ≡ 2 ^ (1 + s) - 2 ^ s
    alone = omega (arith, pow-add 2 1 s)

    part : bit_and field (domain_bit s) ≡ (field / 2 ^ s % 2) * 2 ^ s
    part = rw (domain_bit_lem s known) (ap (bit_and field) alone ∙ and_high field 1 s)

    scaled : (digit : ℕ) → eqb (digit * 2 ^ s) 0 ≡ eqb digit 0
    scaled zero = rw (zero-mul (2 ^ s))
    scaled (suc d) = rw (suc-mul d (2 ^ s), ne_eqb (suc d) 0 (omega arith), ne_eqb (d * 2 ^ s + 2 ^ s) 0 (omega (arith, pow_pos s)))

-- so exactly where that digit, moved down to the lowest place, is not 0, as `holds_domain` asks
pub held_moved : (field s : ℕ) → s < 16 → not (eqb (bit_and (field / 2 ^ s) 1) 0) ≡ holds field s
held_moved field s known = rw (and_mask (field / 2 ^ s) 1, held_digit field s known)

-- what holds of the digits 0 and 1
two_digits : (P : ℕ → ℕ → Type 0) → P 0 0 → P 0 1 → P 1 0 → P 1 1 → (x y : ℕ) → x < 2 → y < 2 → P x y
two_digits P zz zo oz oo zero zero _ _ = zz
two_digits P zz zo oz oo zero (suc zero) _ _ = zo
two_digits P zz zo oz oo (suc zero) zero _ _ = oz
two_digits P zz zo oz oo (suc zero) (suc zero) _ _ = oo
two_digits P zz zo oz oo zero (suc (suc y)) _ h = absurd (omega arith)
two_digits P zz zo oz oo (suc zero) (suc (suc y)) _ h = absurd (omega arith)
two_digits P zz zo oz oo (suc (suc x)) y h _ = absurd (omega arith)

-- a set that is made of two, bit by bit, holds a domain as the bits of the two say
made_held : (op : ℕ → ℕ → ℕ) (said : Bool → Bool → Bool)
    → ((a b k : ℕ) → op a b / 2 ^ k ≡ op (a / 2 ^ k) (b / 2 ^ k)) → ((a b k : ℕ) → op a b % 2 ^ k ≡ op (a % 2 ^ k) (b % 2 ^ k))
    → ((x y : ℕ) → x < 2 → y < 2 → not (eqb (op x y) 0) ≡ said (not (eqb x 0)) (not (eqb y 0))) → said false false ≡ false
    → (one two s : ℕ) → holds (op one two) s ≡ said (holds one s) (holds two s)
made_held op said moved cut digits none one two s = split (ltb s 16) refl
  where
    split : (b : Bool) → ltb s 16 ≡ b → holds (op one two) s ≡ said (holds one s) (holds two s)
    split true e =
        let known = ltb-true s 16 e in
        rw (held_digit (op one two) s known, held_digit one s known, held_digit two s known, moved one two s, cut (one / 2 ^ s) (two / 2 ^ s) 1)
        (digits (one / 2 ^ s % 2) (two / 2 ^ s % 2) (digit (one / 2 ^ s)) (digit (two / 2 ^ s)))
    split false e =
        let past = ltb-false s 16 e in
        rw (no_domain_held (op one two) s past, no_domain_held one s past, no_domain_held two s past) (sym none)

-- RULES 1.6: what two sets share holds the domains that both hold, and no others
pub held_both : (one two s : ℕ) → holds (bit_and one two) s ≡ holds one s && holds two s
held_both =
    made_held bit_and ◌&&◌ and_shr and_mod
    (two_digits (λ x y. not (eqb (bit_and x y) 0) ≡ not (eqb x 0) && not (eqb y 0)) refl refl refl refl) refl

-- the union of two sets holds the domains that either holds
pub held_either : (one two s : ℕ) → holds (bit_or one two) s ≡ holds one s || holds two s
held_either =
    made_held bit_or ◌||◌ or_shr or_mod
    (two_digits (λ x y. not (eqb (bit_or x y) 0) ≡ not (eqb x 0) || not (eqb y 0)) refl refl refl refl) refl

same : (a b : Bool) → beq a b ≡ true → a ≡ b
same true true h = refl
same true false h = sym h
same false true h = h
same false false h = refl

-- two tests of two domains that agree on each of the sixteen, which is computed
each_pair : (f g : ℕ → ℕ → Bool) → every 16 (λ k. every 16 (λ n. beq (f k n) (g k n))) ≡ true
    → (d s : ℕ) → d < 16 → s < 16 → f d s ≡ g d s
each_pair f g all d s first second =
    same (f d s) (g d s)
    (every_holds 16 (λ n. beq (f d n) (g d n)) (every_holds 16 (λ k. every 16 (λ n. beq (f k n) (g k n))) all d first) s second)

-- the bit of a domain holds that domain and no other
pub bit_held : (d s : ℕ) → d < 16 → holds (domain_bit d) s ≡ eqb s d
unfolding domain_bit every
bit_held d s known = split (ltb s 16) refl
  where
    split : (b : Bool) → ltb s 16 ≡ b → holds (domain_bit d) s ≡ eqb s d
    split true e = each_pair (λ k n. holds (domain_bit k) n) (λ k n. eqb n k) refl d s known (ltb-true s 16 e)
    split false e =
        let past = ltb-false s 16 e in
        rw (no_domain_held (domain_bit d) s past, ne_eqb s d (omega arith))

-- all sixteen domains but one, or all where it is none
rest_held : (d s : ℕ) → holds (65535 - domain_bit d) s ≡ ltb s 16 && not (ltb d 16 && eqb s d)
unfolding domain_bit every
rest_held d s = split (ltb s 16) refl (ltb d 16) refl
  where
    split : (b : Bool) → ltb s 16 ≡ b → (c : Bool) → ltb d 16 ≡ c → holds (65535 - domain_bit d) s ≡ b && not (c && eqb s d)
    split true e true f =
        each_pair (λ k n. holds (65535 - domain_bit k) n) (λ k n. not (eqb n k)) refl d s (ltb-true d 16 f) (ltb-true s 16 e)
    split true e false f = rw (no_domain_bit d (ltb-false d 16 f)) (every_holds 16 (holds 65535) refl s (ltb-true s 16 e))
    split false e c f = no_domain_held (65535 - domain_bit d) s (ltb-false s 16 e)

-- RULES 3.5: after a grant to s a field holds s and what it held before, whichever these are, and nothing else; what is no domain is granted nothing
pub granted_holds : (field s t : ℕ) → holds (with_bit field s) t ≡ holds field t || ltb s 16 && eqb t s
granted_holds field s t = held_either field (domain_bit s) t ∙ ap (λ (b : Bool). holds field t || b) (split (ltb s 16) refl)
  where
    split : (b : Bool) → ltb s 16 ≡ b → holds (domain_bit s) t ≡ b && eqb t s
    split true e = bit_held s t (ltb-true s 16 e)
    split false e = rw (no_domain_bit s (ltb-false s 16 e))

-- RULES 3.7: after a revocation from s a field holds what it held before but s
pub revoked_holds : (field s t : ℕ) → holds (without_bit field s) t ≡ holds field t && not (ltb s 16 && eqb t s)
revoked_holds field s t =
    held_both field (65535 - domain_bit s) t ∙ rw (rest_held s t) (split (ltb t 16) refl)
  where
    split : (b : Bool) → ltb t 16 ≡ b → holds field t && (b && not (ltb s 16 && eqb t s)) ≡ holds field t && not (ltb s 16 && eqb t s)
    split true e = refl
    split false e = rw (no_domain_held field t (ltb-false t 16 e))

bit_fits : (s : ℕ) → domain_bit s < 65536
unfolding domain_bit every
bit_fits s = split (ltb s 16) refl
  where
    split : (b : Bool) → ltb s 16 ≡ b → domain_bit s < 65536
    split true e = ltb-true _ _ (every_holds 16 (λ n. ltb (domain_bit n) 65536) refl s (ltb-true s 16 e))
    split false e = rw (no_domain_bit s (ltb-false s 16 e)) (omega arith)

-- and either leaves a number of 16 bits
pub changed_fits : (field s : ℕ) → (field < 65536 → with_bit field s < 65536) × (without_bit field s < 65536)
changed_fits field s =
    let bit = bit_fits s in
    (λ small. or_lt 16 field (domain_bit s) small bit, omega (arith, and_le_r field (65535 - domain_bit s)))

pub both_held : (one two s : ℕ) → holds (bit_and one two) s ≡ true → (holds one s ≡ true) × (holds two s ≡ true)
both_held one two s h = and_both (holds one s) (holds two s) (sym (held_both one two s) ∙ h)

-- the digits below k of two sets that hold the same domains below k
digits_alike : (k a b : ℕ) → k ≤ 16 → ((s : ℕ) → s < k → holds a s ≡ holds b s) → a % 2 ^ k ≡ b % 2 ^ k
digits_alike zero a b few same = mod-one a ∙ sym (mod-one b)
digits_alike (suc k) a b few same =
    rw (next a, next b, digits_alike k a b (omega arith) (λ s below. same s (omega arith)), last)
  where
    next : (n : ℕ) → n % 2 ^ suc k ≡ (n / 2 ^ k % 2) * 2 ^ k + n % 2 ^ k
    next n = let e : suc k ≡ 1 + k = omega arith in rw e (mod-pow-add n 1 k)

    last : a / 2 ^ k % 2 ≡ b / 2 ^ k % 2
    last =
        two_digits (λ x y. not (eqb x 0) ≡ not (eqb y 0) → x ≡ y) (λ e. refl) (λ e. absurd (true≢false (sym e))) (λ e. absurd (true≢false e)) (λ e. refl)
        (a / 2 ^ k % 2) (b / 2 ^ k % 2) (digit (a / 2 ^ k)) (digit (b / 2 ^ k))
        (sym (held_digit a k (omega arith)) ∙ same k (omega arith) ∙ held_digit b k (omega arith))

-- RULES 1.6: two numbers of sixteen bits that hold the same domains are the same
pub held_alike : (a b : ℕ) → a < 65536 → b < 65536 → ((s : ℕ) → s < 16 → holds a s ≡ holds b s) → a ≡ b
held_alike a b small small' same = sym (mod-eq_of_lt small) ∙ digits_alike 16 a b (omega arith) same ∙ mod-eq_of_lt small'

-- the lowest set digit of a set that is not empty is a domain that it holds, and it holds none of lower number
pub lowest_held : (set : ℕ) → eqb set 0 ≡ false → set < 65536
    → (count_trailing_zeros 16 set < 16) × (holds set (count_trailing_zeros 16 set) ≡ true) × ((s : ℕ) → s < count_trailing_zeros 16 set → holds set s ≡ false)
lowest_held set some small =
    let empty = eqb-false set 0 some in
    let lowest = lowest_set 16 set (omega (arith, empty)) small in (
      lowest.0,
      rw (held_digit set (count_trailing_zeros 16 set) lowest.0, lowest.1),
      λ s below. rw (held_digit set s (omega (arith, lowest.0)), below_unset 16 set s below),
    )

-- RULES 1.6: two sets share no domain where AND is 0, and some domain where it is not
pub none_shared : (one two : ℕ) → eqb (bit_and one two) 0 ≡ true → (s : ℕ) → holds one s && holds two s ≡ false
none_shared one two none s =
    sym (held_both one two s) ∙ ap (λ (set : ℕ). holds set s) (eqb-true (bit_and one two) 0 none)
    ∙ ap (λ (set : ℕ). not (eqb set 0)) (and_zero_l (domain_bit s))

pub one_shared : (one two : ℕ) → bit_and one two < 65536 → eqb (bit_and one two) 0 ≡ false → (s : ℕ) × (holds one s && holds two s ≡ true)
one_shared one two small some =
    let lowest = lowest_held (bit_and one two) some small in
    (_, sym (held_both one two _) ∙ lowest.1)

-- RULES 1.8: where a domain prevails, the field holds it and none of lower number
pub prevailing_lowest : (field d : ℕ) → field < 65536 → prevailing field ≡ Some d
    → (d < 16) × (holds field d ≡ true) × ((s : ℕ) → s < d → holds field s ≡ false)
unfolding prevailing
prevailing_lowest field d small at = split (eqb field 0) refl at
  where
    split : (b : Bool) → eqb field 0 ≡ b → pick b None (Some (count_trailing_zeros 16 field)) ≡ Some d
        → (d < 16) × (holds field d ≡ true) × ((s : ℕ) → s < d → holds field s ≡ false)
    split true e f = absurd (true≢false cc)
    split false e f =
        let place : count_trailing_zeros 16 field ≡ d = cc in
        rw (← place) (lowest_held field e small)

-- RULES 1.8: where none prevails, the field is empty
pub prevailing_absent : (field : ℕ) → prevailing field ≡ None → field ≡ 0
unfolding prevailing
prevailing_absent field none = split (eqb field 0) refl none
  where
    split : (b : Bool) → eqb field 0 ≡ b → pick b None (Some (count_trailing_zeros 16 field)) ≡ None → field ≡ 0
    split true e f = eqb-true field 0 e
    split false e f = cc

-- RULES 1.17: where a field and a local context share a domain, the giving domain is in both, and no domain of higher level is
pub giving_lowest : (field local : ℕ) → local < 65536 → eqb (bit_and field local) 0 ≡ false
    → let d = giving_domain field local in
    (d < 16) × (holds field d ≡ true) × (holds local d ≡ true) × ((s : ℕ) → s < d → holds field s && holds local s ≡ false)
unfolding giving_domain
giving_lowest field local small share =
    let d = count_trailing_zeros 16 (bit_and field local) in
    let lowest = lowest_held (bit_and field local) share (omega (arith, and_le_r field local)) in
    let both = both_held field local d lowest.1 in
    (lowest.0, both.0, both.1, λ s below. sym (held_both field local s) ∙ lowest.2 s below)
