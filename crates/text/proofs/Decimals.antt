-- A number as it is printed, read again: the digits give the number back, as far as it has no more digits than are printed, and no zero stands in front. Digit by digit,
-- from the greatest power of ten on: what is read so far is the number divided by the power.
use Prim.Native.Nat.{ℕ, ◌+◌, ◌*◌, ◌-◌, ◌/◌, ◌%◌, ◌≤◌, ◌<◌}
use mathlib.Core.Path.{◌≡◌, refl, ◌∙◌}
use mathlib.Core.Bool.{Bool, true, false}
use mathlib.Core.List.{List, [], ◌∷◌, ◌++◌, foldl}
use native.Mathlib.Nat.{div-eq_of_lt}
use native.Mathlib.Omega.{arith}
use borrow.Author.Tests.{leb-true, leb-false}
use lib.Dec.{leb}
use lib.ListN.{length, get_or}
use Rattle.rules.specs.Refusals.{pick}
use Rattle.rights.specs.Site.{images_of, rights_held, total_of, refused_of}
use Rattle.rights.proofs.Rights.{counts_fit}
use Rattle.text.specs.Text.{leading_digit, decimal_of}
use Rattle.text.specs.Rights.{sum_of}

-- a digit read behind others
abbrev read_digit : (so_far digit : ℕ) → ℕ
read_digit so_far digit = 10 * so_far + (digit - 48)

-- the number that digits stand for
abbrev pub value_of : List ℕ → ℕ
value_of digits = foldl read_digit 0 digits

read_append : (v : ℕ) (a b : List ℕ) → foldl read_digit v (a ++ b) ≡ foldl read_digit (foldl read_digit v a) b
read_append v [] b = refl
read_append v (digit ∷ a) b = read_append (read_digit v digit) a b

read_leading : (n power v : ℕ) → v ≡ n / power / 10 → foldl read_digit v (leading_digit n power) ≡ n / power
read_leading n power v e = split (leb power n) refl
  where
    split : (t : Bool) → leb power n ≡ t → foldl read_digit v (pick t ((48 + n / power % 10) ∷ []) []) ≡ n / power
    split true t = omega (arith, e)
    split false t = let none : n / power ≡ 0 = div-eq_of_lt (leb-false power n t) in omega (arith, e, none)

read_next : (n power v : ℕ) (front : List ℕ) → foldl read_digit v front ≡ n / power / 10 → foldl read_digit v (front ++ leading_digit n power) ≡ n / power
read_next n power v front e = read_append v front (leading_digit n power) ∙ read_leading n power (foldl read_digit v front) e

-- the last five digits, behind what stands before them
read_decimal : (n v : ℕ) → v ≡ n / 100000 → foldl read_digit v (decimal_of n) ≡ n
unfolding decimal_of
read_decimal n v e =
    let a = leading_digit n 10000 in
    let b = a ++ leading_digit n 1000 in
    let c = b ++ leading_digit n 100 in
    let d = c ++ leading_digit n 10 in
    let thousands = read_next n 1000 v a (omega (arith, read_leading n 10000 v (omega (arith, e)))) in
    let hundreds = read_next n 100 v b (omega (arith, thousands)) in
    let tens = read_next n 10 v c (omega (arith, hundreds)) in
    read_append v d ((48 + n % 10) ∷ []) ∙ omega (arith, tens)

pub decimal_value : (n : ℕ) → n < 100000 → value_of (decimal_of n) ≡ n
decimal_value n small = read_decimal n 0 (omega arith)

pub sum_value : (n : ℕ) → n < 1000000 → value_of (sum_of n) ≡ n
sum_value n small =
    read_append 0 (leading_digit n 100000) (decimal_of n) ∙ rw (read_leading n 100000 0 (omega arith)) (read_decimal n (n / 100000) refl)

-- RULES 8.1, 13.4: a number above 0 starts with a digit that is not zero
module _ (n : ℕ) where
  abbrev at : Bool → ℕ → List ℕ
  at t power = pick t ((48 + n / power % 10) ∷ []) []

  front : (b : Bool) → leb 10000 n ≡ b → (c : Bool) → leb 1000 n ≡ c → (d : Bool) → leb 100 n ≡ d → (e : Bool) → leb 10 n ≡ e → 0 < n → n < 100000
      → 49 ≤ get_or (at b 10000 ++ at c 1000 ++ at d 100 ++ at e 10 ++ ((48 + n % 10) ∷ [])) 0 0
  front true i c _ d _ e _ some small = omega (arith, leb-true 10000 n i)
  front false h true i d _ e _ some small = omega (arith, leb-false 10000 n h, leb-true 1000 n i)
  front false _ false h true i e _ some small = omega (arith, leb-false 1000 n h, leb-true 100 n i)
  front false _ false _ false h true i some small = omega (arith, leb-false 100 n h, leb-true 10 n i)
  front false _ false _ false _ false h some small = omega (arith, leb-false 10 n h)

  pub decimal_front : 0 < n → n < 100000 → 49 ≤ get_or (decimal_of n) 0 0
  unfolding decimal_of
  decimal_front some small = front (leb 10000 n) refl (leb 1000 n) refl (leb 100 n) refl (leb 10 n) refl some small

  pub sum_front : 0 < n → n < 1000000 → 49 ≤ get_or (sum_of n) 0 0
  sum_front some small = split (leb 100000 n) refl
    where
      split : (a : Bool) → leb 100000 n ≡ a → 49 ≤ get_or (at a 100000 ++ decimal_of n) 0 0
      split true h = omega (arith, leb-true 100000 n h)
      split false h = decimal_front some (leb-false 100000 n h)

-- RULES 8.1, 13.4: what is printed of a number are digits
pub data Digits : List ℕ → Type 0 where
  none : Digits []
  more : {digit : ℕ} {rest : List ℕ} → 48 ≤ digit → digit ≤ 57 → Digits rest → Digits (digit ∷ rest)

digits_joined : {a b : List ℕ} → Digits a → Digits b → Digits (a ++ b)
digits_joined none rest = rest
digits_joined (more low high front) rest = more low high (digits_joined front rest)

one_digit : (n : ℕ) → Digits ((48 + n % 10) ∷ [])
one_digit n = more {digit = 48 + n % 10} (omega arith) (omega arith) none

leading_digit_lem : (n power : ℕ) → Digits (leading_digit n power)
leading_digit_lem n power = split (leb power n)
  where
    split : (t : Bool) → Digits (pick t ((48 + n / power % 10) ∷ []) [])
    split true = one_digit (n / power)
    split false = none

pub decimal_digits : (n : ℕ) → Digits (decimal_of n)
unfolding decimal_of
decimal_digits n =
    digits_joined (digits_joined (digits_joined (digits_joined (leading_digit_lem n 10000) (leading_digit_lem n 1000)) (leading_digit_lem n 100)) (leading_digit_lem n 10))
    (one_digit n)

pub sum_digits : (n : ℕ) → Digits (sum_of n)
sum_digits n = digits_joined (leading_digit_lem n 100000) (decimal_digits n)

-- RULES 13.4, 13.5: so every number of the text is printed in full
pub numbers_printed : (input : List ℕ) → length input ≤ 32768 → (right s : ℕ)
    → let images = images_of input in
    (value_of (sum_of (rights_held right s images)) ≡ rights_held right s images) × (value_of (sum_of (total_of right images)) ≡ total_of right images)
    × (value_of (decimal_of (refused_of images)) ≡ refused_of images)
numbers_printed input within right s =
    let images = images_of input in
    let fit = counts_fit input within right s in
    (sum_value (rights_held right s images) (omega (arith, fit.0)), sum_value (total_of right images) (omega (arith, fit.1)), decimal_value (refused_of images) (omega (arith, fit.2)))
