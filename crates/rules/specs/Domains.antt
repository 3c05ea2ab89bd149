-- Domains as bits of a field or a context, the domain that prevails in a field, and the one that a field shares with a context (RULES, section 1).
use Rattle.std.specs.Prelude.{ℕ, ◌-◌, ◌^◌, Bool, true, not, ltb, eqb, leb, Option, None, Some}
use Rattle.std.specs.Int.Bits.{bit_and, bit_or}
use Rattle.std.specs.Int.Count.{ones_in, count_trailing_zeros}
use Rattle.rules.specs.Refusals.{pick}

-- RULES 1.1, 1.6: there are sixteen domains, and a number above 15 is none
abbrev pub is_domain : ℕ → Bool
is_domain s = ltb s 16

-- RULES 1.6: the bit of domain s, alone in a number of 16 bits; what is no domain has no bit
unfoldable pub domain_bit : ℕ → ℕ
domain_bit s = pick (is_domain s) (2 ^ s) 0

-- RULES 1.6: a field or a context holds s where its bit is set
abbrev pub holds : ℕ → ℕ → Bool
holds set s = not (eqb (bit_and set (domain_bit s)) 0)

-- RULES 1.6: how many domains a field or a context holds: the ones among its sixteen bits
abbrev pub domain_count : ℕ → ℕ
domain_count set = ones_in 16 set

-- RULES 3.5: a set with s put in, as a field after a grant to s
abbrev pub with_bit : ℕ → ℕ → ℕ
with_bit field s = bit_or field (domain_bit s)

-- RULES 3.7: a set with s taken out, as a field after a revocation from s
abbrev pub without_bit : ℕ → ℕ → ℕ
without_bit field s = bit_and field (65535 - domain_bit s)

-- RULES 1.8: the lowest-numbered domain that the whole field holds, no context being looked at; an empty field has none
unfoldable pub prevailing : ℕ → Option ℕ
prevailing field = pick (eqb field 0) None (Some (count_trailing_zeros 16 field))

-- RULES 1.17: the domain through which a field gives a right to a local context: the lowest-numbered one that both hold. It is not the prevailing
-- domain, which the field has without a context. Where they share none it is 16, which is no domain.
unfoldable pub giving_domain : (field local : ℕ) → ℕ
giving_domain field local = count_trailing_zeros 16 (bit_and field local)

-- RULES 3.4, for 11: no domain prevails, or the local context does not hold the one that does
abbrev pub is_outside : Option ℕ → ℕ → Bool
is_outside None local = true
is_outside (Some domain) local = not (holds local domain)

-- RULES 3.4, for 12: s is the prevailing domain itself, or has a lower number. Where none prevails 11 has come before.
abbrev pub is_not_lower : Option ℕ → ℕ → Bool
is_not_lower None s = true
is_not_lower (Some domain) s = leb s domain
