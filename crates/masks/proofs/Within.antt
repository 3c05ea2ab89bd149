-- Which masks are looked at: those that add to a mask some of the domains that are left, each of them and no others. By induction on the domains; and a mask that has
-- another's domains holds as many at least and is no smaller number, by its binary digits.
use Prim.Native.Nat.{ℕ, zero, suc, ◌+◌, ◌/◌, ◌%◌, ◌^◌, ◌<◌, ◌≤◌}
use mathlib.Core.Path.{◌≡◌, refl, sym, ap, subst, ◌∙◌}
use mathlib.Core.Bool.{Bool, true, false, not, ◌&&◌, ◌||◌, or-true, and-false, or-false}
use mathlib.Core.List.Memᴰ
use mathlib.Core.List.{[], ◌++◌, Memᴰ}
use mathlib.Core.Logic.{◌⊎◌, inl, inr, ⊎_elim}
use borrow.Author.Tests.{eqb-true, eqb-false, ltb-true, ltb-false, lt-ltb, eq-eqb, ne_eqb}
use native.Mathlib.Nat.{pow-suc, div-one, pow-succ', div-div-eq-div-mul}
use native.Mathlib.Omega.{arith}
use lib.Bits.{bit_and, bit_or, and_zero_l, and_le_l, and_le_r}
use lib.Count.{ones, ones_in, ones_step}
use lib.Dec.{eqb, ltb}
use Rattle.rules.specs.Domains.{domain_bit, holds, with_bit}
use Rattle.rules.specs.Refusals.{pick}
use Rattle.rules.proofs.Bits.{and_half, and_last, digit}
use Rattle.rules.proofs.Laws.{no_domain_held}
use Rattle.rules.proofs.Lowest.{changed_fits, granted_holds, held_alike, held_both, held_either, held_digit}
use Rattle.masks.specs.Least.{domain_count, masks_from, masks_within}
use Rattle.masks.proofs.Order.{Before}
use native.Mathlib.Numerals.{add-one}

-- every domain that one set holds is in the other
abbrev pub Within : (one other : ℕ) → Type 0
Within one other = (s : ℕ) → holds one s ≡ true → holds other s ≡ true

-- each of two sets is within their union
pub either_left : (one other : ℕ) → Within one (bit_or one other)
either_left one other s held = held_either one other s ∙ rw held

pub either_right : (one other : ℕ) → Within other (bit_or one other)
either_right one other s held = held_either one other s ∙ rw held (or-true (holds one s))

pub empty_holds : (s : ℕ) → holds 0 s ≡ false
empty_holds s = ap (λ (set : ℕ). not (eqb set 0)) (and_zero_l (domain_bit s))

-- ---- counts of domains

-- the ones of a number of k digits are those among its k digits
pub ones_counted : (k n : ℕ) → n < 2 ^ k → ones n ≡ ones_in k n
unfolding ones ones_in
ones_counted zero n small = let none : n ≡ 0 = omega arith in rw none
ones_counted (suc k) n small = ones_step n ∙ ap (λ (rest : ℕ). n % 2 + rest) (ones_counted k (n / 2) (omega (arith, small, pow-suc 2 k)))

-- the digit above the first d is counted with them
digit_more : (d n : ℕ) → ones_in (suc d) n ≡ ones_in d n + n / 2 ^ d % 2
unfolding ones_in
digit_more zero n = rw (div-one n) (omega arith)
digit_more (suc d) n =
    let half : n / 2 ^ suc d ≡ n / 2 / 2 ^ d = ap (λ (x : ℕ). n / x) (pow-succ' 2 d) ∙ sym (div-div-eq-div-mul n 2 (2 ^ d)) in
    rw half (omega (arith, digit_more d (n / 2)))

-- RULES 12.3: so a count is that of the domains that the mask holds, one by one
pub domain_counted : (mask s : ℕ) → s < 16 → ones_in (s + 1) mask ≡ ones_in s mask + pick (holds mask s) 1 0
domain_counted mask s known =
    rw (add-one s, digit_more s mask, held_digit mask s known) (ap (λ (x : ℕ). ones_in s mask + x) (split (mask / 2 ^ s % 2) (digit (mask / 2 ^ s))))
  where
    split : (d : ℕ) → d < 2 → d ≡ pick (not (eqb d 0)) 1 0
    split zero h = refl
    split (suc zero) h = refl
    split (suc (suc d)) h = absurd (omega arith)

-- there are no more than there are digits
pub counted_most : (d n : ℕ) → ones_in d n ≤ d
unfolding ones_in
counted_most zero n = omega arith
counted_most (suc d) n = omega (arith, digit n, counted_most d (n / 2))

shared_fewer : (k a b : ℕ) → ones_in k (bit_and a b) ≤ ones_in k b
unfolding ones_in
shared_fewer zero a b = omega arith
shared_fewer (suc k) a b = rw (and_half a b, and_last a b) (omega (arith, shared_fewer k (a / 2) (b / 2)))

-- a set within another is what the two share, so it holds no more domains, and is no greater number
pub within_shared : (a b : ℕ) → a < 65536 → Within a b → bit_and a b ≡ a
within_shared a b small within =
    held_alike (bit_and a b) a (omega (arith, and_le_l a b)) small (λ s known. held_both a b s ∙ split s (holds a s) refl)
  where
    split : (s : ℕ) (h : Bool) → holds a s ≡ h → h && holds b s ≡ h
    split s true e = within s e
    split s false e = refl

pub within_before : (a b : ℕ) → a < 65536 → Within a b → Before a b
within_before a b small within =
    let same = within_shared a b small within in
    let few : domain_count a ≤ domain_count b = subst (λ (n : ℕ). domain_count n ≤ domain_count b) same (shared_fewer 16 a b) in
    let less : a ≤ b = subst (λ (n : ℕ). n ≤ b) same (and_le_r a b) in
    split (ltb (domain_count a) (domain_count b)) refl few less
  where
    split : (t : Bool) → ltb (domain_count a) (domain_count b) ≡ t → domain_count a ≤ domain_count b → a ≤ b → Before a b
    split true e few less = inl (ltb-true _ _ e)
    split false e few less = let most = ltb-false (domain_count a) (domain_count b) e in inr (omega arith, less)

-- ---- the masks that are looked at

-- a domain put in
put_held : (mask n s : ℕ) → holds mask s ≡ true → holds (with_bit mask n) s ≡ true
put_held mask n s held = rw (granted_holds mask n s, held)

put_within : (mask n set : ℕ) → Within mask set → holds set n ≡ true → Within (with_bit mask n) set
put_within mask n set within held s h = split (eqb s n) refl (sym (granted_holds mask n s) ∙ h)
  where
    split : (same : Bool) → eqb s n ≡ same → holds mask s || ltb n 16 && same ≡ true → holds set s ≡ true
    split true e f = rw (eqb-true s n e) held
    split false e f = within s (rw (and-false (ltb n 16), or-false (holds mask s)) at f)

module _ (rest : ℕ) where
  -- what is looked at with one domain more: with it left out, or put in
  next_cases : (mask n x : ℕ) → Memᴰ x (masks_from rest mask (suc n))
      → Memᴰ x (masks_from rest mask n) ⊎ ((holds rest n ≡ true) × Memᴰ x (masks_from rest (with_bit mask n) n))
  unfolding masks_from
  next_cases mask n x in_List = ⊎_elim inl (split (holds rest n) refl) (Memᴰ.append_cases (masks_from rest mask n) in_List)
    where
      split : (b : Bool) → holds rest n ≡ b → Memᴰ x (pick b (masks_from rest (with_bit mask n) n) [])
          → Memᴰ x (masks_from rest mask n) ⊎ ((holds rest n ≡ true) × Memᴰ x (masks_from rest (with_bit mask n) n))
      split true e m = inr (e, m)
      split false e m = absurd (Memᴰ.not-nil m)

  -- each has the mask's domains, those of the set that are put in, and no others
  pub looked_within : (set : ℕ) → Within rest set → (mask n : ℕ) → Within mask set → (x : ℕ) → Memᴰ x (masks_from rest mask n) → Within x set
  unfolding masks_from
  looked_within set left mask zero within x in_List = rw (Memᴰ.eq_of_singleton in_List) within
  looked_within set left mask (suc n) within x in_List =
      ⊎_elim (looked_within set left mask n within x)
      (λ put. looked_within set left (with_bit mask n) n (put_within mask n set within (left n put.0)) x put.1) (next_cases mask n x in_List)

  pub looked_above : (mask n x : ℕ) → Memᴰ x (masks_from rest mask n) → Within mask x
  unfolding masks_from
  looked_above mask zero x in_List = rw (Memᴰ.eq_of_singleton in_List) (λ s h. h)
  looked_above mask (suc n) x in_List =
      ⊎_elim (looked_above mask n x) (λ put s h. looked_above (with_bit mask n) n x put.1 s (put_held mask n s h)) (next_cases mask n x in_List)

  pub looked_fits : (mask n x : ℕ) → mask < 65536 → Memᴰ x (masks_from rest mask n) → x < 65536
  unfolding masks_from
  looked_fits mask zero x small in_List = rw (Memᴰ.eq_of_singleton in_List) small
  looked_fits mask (suc n) x small in_List =
      ⊎_elim (looked_fits mask n x small) (λ put. looked_fits (with_bit mask n) n x ((changed_fits mask n).0 small) put.1) (next_cases mask n x in_List)

-- at the domain just put in a mask holds it, and elsewhere it holds what it held
put_here : (mask n : ℕ) → n < 16 → holds (with_bit mask n) n ≡ true
put_here mask n known = granted_holds mask n n ∙ rw (lt-ltb n 16 known, eq-eqb n n refl) (or-true (holds mask n))

put_elsewhere : (mask n s : ℕ) → (s ≡ n → ⊥) → holds (with_bit mask n) s ≡ holds mask s
put_elsewhere mask n s other = granted_holds mask n s ∙ rw (ne_eqb s n other, and-false (ltb n 16)) (or-false (holds mask s))

-- what holds from the next number on holds from here on, where it holds here
from_here : (P : ℕ → Type 0) (n : ℕ) → P n → ((s : ℕ) → suc n ≤ s → P s) → (s : ℕ) → n ≤ s → P s
from_here P n here rest s least = split (eqb s n) refl
  where
    split : (b : Bool) → eqb s n ≡ b → P s
    split true e = rw (eqb-true s n e) here
    split false e = let other = eqb-false s n e in rest s (omega (arith, other))

-- every mask that has a mask's domains, some of a context's below n, and no others, is looked at
looked_from : (context n mask x : ℕ) → n ≤ 16 → mask < 65536 → x < 65536 → ((s : ℕ) → n ≤ s → holds x s ≡ holds mask s)
    → ((s : ℕ) → s < n → holds mask s ≡ false) → Within x context → Memᴰ x (masks_from context mask n)
unfolding masks_from
looked_from context zero mask x few small fits same none within = Memᴰ.head (held_alike x mask fits small (λ s known. same s (omega arith)))
looked_from context (suc n) mask x few small fits same none within =
    split (holds x n) refl
    (λ out. looked_from context n mask x (omega arith) small fits
    (from_here (λ s. holds x s ≡ holds mask s) n (out ∙ sym (none n (omega arith))) same) (λ s below. none s (omega arith)) within)
    (λ put. looked_from context n (with_bit mask n) x (omega arith) ((changed_fits mask n).0 small) fits
    (from_here (λ s. holds x s ≡ holds (with_bit mask n) s) n (put ∙ sym (put_here mask n (omega arith)))
    (λ s past. same s past ∙ sym (put_elsewhere mask n s (omega arith))))
    (λ s below. put_elsewhere mask n s (omega arith) ∙ none s (omega arith)) within)
  where
    split : (b : Bool) → holds x n ≡ b → (holds x n ≡ false → Memᴰ x (masks_from context mask n))
        → (holds x n ≡ true → Memᴰ x (masks_from context (with_bit mask n) n))
        → Memᴰ x (masks_from context mask n ++ pick (holds context n) (masks_from context (with_bit mask n) n) [])
    split true e out put = Memᴰ.append_right (masks_from context mask n) (rw (within n e) (put e))
    split false e out put = Memᴰ.append_left (pick (holds context n) (masks_from context (with_bit mask n) n) []) (out e)

-- so every mask within a context is
pub looked_all : (context x : ℕ) → x < 65536 → Within x context → Memᴰ x (masks_within context)
looked_all context x fits within =
    looked_from context 16 0 x (omega arith) (omega arith) fits
    (λ s past. no_domain_held x s past ∙ sym (no_domain_held 0 s past)) (λ s below. empty_holds s) within
