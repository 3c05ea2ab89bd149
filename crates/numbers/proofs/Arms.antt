-- A number that no arm of a match names is past the arms: by induction on how many there are.
use Prim.Native.Nat.{ℕ, zero, suc, ◌+◌, ◌≤◌}
use mathlib.Core.Path.{◌≡◌}
use native.Mathlib.Omega.{arith}

-- k is none of the n numbers from the first one on, as the arms of a match leave it
abbrev pub NoneOf : (first n k : ℕ) → Type 0
NoneOf first zero k = Unit
NoneOf first (suc n) k = NoneOf first n k × (k ≡ first + n → ⊥)

-- one number after the other, since omega takes at most six that are left out at once
pub past : (first n k : ℕ) → first ≤ k → NoneOf first n k → first + n ≤ k
past first zero k least none = omega arith
past first (suc n) k least none = omega (arith, past first n k least none.0, none.1)
