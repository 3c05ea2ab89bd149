-- The page of a byte: the byte is outside memory where its page is none of the counted ones, and a shift by 63 places finds it for every exponent from
-- there on.
use Prim.Native.Nat.{ℕ, ◌*◌, ◌/◌, ◌^◌, ◌≤◌, ◌<◌}
use mathlib.Core.Path.{◌≡◌, refl, sym, ◌∙◌}
use mathlib.Core.Bool.{Bool, true, false}
use mathlib.Core.Logic.{◌↔◌}
use native.Mathlib.Nat.{div-eq_of_lt, le-div_iff_mul-le, lt_of_lt_of_le}
use borrow.Author.Tests.{leb-true, leb-false, le-leb}
use lib.Dec.{leb}
use lib.Pow.{pow_pos, pow_mono}
use native.Mathlib.Omega.{arith}
use Rattle.rules.specs.Refusals.{pick}

pub outside_page : (pages exponent address : ℕ) → leb pages (address / 2 ^ exponent) ≡ leb (pages * 2 ^ exponent) address
outside_page pages exponent address = split (leb (pages * 2 ^ exponent) address) refl
  where
    both : (pages ≤ address / 2 ^ exponent) ↔ (pages * 2 ^ exponent ≤ address)
    both = le-div_iff_mul-le {k = 2 ^ exponent} {x = pages} {y = address} (pow_pos exponent)

    split : (b : Bool) → leb (pages * 2 ^ exponent) address ≡ b → leb pages (address / 2 ^ exponent) ≡ b
    split true e = le-leb _ _ (both.1 (leb-true _ _ e))
    split false e = test (leb pages (address / 2 ^ exponent)) refl
      where
        test : (t : Bool) → leb pages (address / 2 ^ exponent) ≡ t → t ≡ false
        test true f = sym (le-leb _ _ (both.0 (leb-true _ _ f))) ∙ e
        test false f = refl

pub page_shifted : (byte exponent : ℕ) → byte < 2 ^ 63 → byte / 2 ^ pick (leb exponent 63) exponent 63 ≡ byte / 2 ^ exponent
page_shifted byte exponent small = split (leb exponent 63) refl
  where
    split : (b : Bool) → leb exponent 63 ≡ b → byte / 2 ^ pick b exponent 63 ≡ byte / 2 ^ exponent
    split true e = refl
    split false e =
        let past = leb-false exponent 63 e in
        let longer : 63 ≤ exponent = omega (arith, past) in
        div-eq_of_lt small ∙ sym (div-eq_of_lt (lt_of_lt_of_le small (pow_mono longer)))
