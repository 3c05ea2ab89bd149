-- Bodies that stand one after another, read into a list and into the places of an array.
use Prim.Native.Nat.{ℕ, zero, suc, ◌+◌, ◌*◌, ◌-◌, ◌≤◌, ◌<◌, min}
use mathlib.Core.Path.{◌≡◌, refl, ap}
use mathlib.Core.List.{List, [], ◌∷◌}
use native.Mathlib.Omega.{arith}
use native.Mathlib.Nat.{mul-suc}
use lib.ListN.{length, get_or, set, replicate}
use Rattle.image.specs.Bytes.{entries}
use Rattle.image.specs.Description.{pad}

module _ {A : Type 0} (size : ℕ) (read : ℕ → A) where
  pub length_entries : (at n : ℕ) → length (entries size read at n) ≡ n
  length_entries at zero = refl
  length_entries at (suc n) = ap suc (length_entries (size + at) n)

  -- which body is which: body i is read at its own place
  pub entry_at : (z : A) (at n i : ℕ) → i < n → get_or (entries size read at n) i z ≡ read (at + size * i)
  entry_at z at zero i h = absurd (omega arith)
  entry_at z at (suc n) zero h = let e : at + size * 0 ≡ at = omega arith in rw e
  entry_at z at (suc n) (suc i) h =
      let e : at + size * suc i ≡ size + at + size * i = omega (arith, mul-suc size i) in
      rw e (entry_at z (size + at) n i (omega arith))

  -- what holds of every body, and of what stands past the last
  pub each_entry : (P : A → Type 0) (z : A) → P z → ((at : ℕ) → P (read at))
      → (at n i : ℕ) → P (get_or (entries size read at n) i z)
  each_entry P z none some at zero i = none
  each_entry P z none some at (suc n) zero = some at
  each_entry P z none some at (suc n) (suc i) = each_entry P z none some (size + at) n i

  -- the next body goes to the next place
  pub pad_next : (z : A) (n at i : ℕ) → i < n
      → set (pad n z (entries size read at i)) i (read (at + size * i)) ≡ pad n z (entries size read at (suc i))
  pad_next z zero at i h = absurd (omega arith)
  pad_next z (suc n) at zero h = let e : at + size * 0 ≡ at = omega arith in rw e
  pad_next z (suc n) at (suc i) h =
      let e : at + size * suc i ≡ size + at + size * i = omega (arith, mul-suc size i) in
      rw e (ap (λ (l : List A). read at ∷ l) (pad_next z n (size + at) i (omega arith)))

  -- bodies past the last place are not seen
  pub pad_least : (z : A) (n at i m : ℕ) → i ≡ min m n
      → pad n z (entries size read at i) ≡ pad n z (entries size read at m)
  pad_least z zero at i m least = refl
  pad_least z (suc n) at zero zero least = refl
  pad_least z (suc n) at zero (suc m) least = absurd (omega arith)
  pad_least z (suc n) at (suc i) zero least = absurd (omega arith)
  pad_least z (suc n) at (suc i) (suc m) least =
      ap (λ (l : List A). read at ∷ l) (pad_least z n (size + at) i m (omega arith))

  -- what is left from body i on
  pub left_none : (n i at : ℕ) → n ≤ i → entries size read at (n - i) ≡ []
  left_none n i at h = let e : n - i ≡ 0 = omega arith in rw e

  pub left_some : (n i at : ℕ) → i < n
      → entries size read (at + size * i) (n - i) ≡ read (at + size * i) ∷ entries size read (at + size * (i + 1)) (n - (i + 1))
  left_some n i at h =
      let e : n - i ≡ suc (n - (i + 1)) = omega arith in
      let f : at + size * (i + 1) ≡ size + (at + size * i) = omega (arith, mul-suc size i) in
      rw (e, f)

-- no list in n places
pub pad_none : {A : Type 0} (z : A) (n : ℕ) → replicate n z ≡ pad n z []
pad_none z zero = refl
pad_none z (suc n) = rw (pad_none z n)

-- a list in n places has n places
pub length_pad : {A : Type 0} (z : A) (n : ℕ) (l : List A) → length (pad n z l) ≡ n
length_pad z zero l = refl
length_pad z (suc n) [] = ap suc (length_pad z n [])
length_pad z (suc n) (x ∷ l) = ap suc (length_pad z n l)

-- what stands at a place of a list in n places
pub pad_at : {A : Type 0} (z : A) (n : ℕ) (l : List A) (i : ℕ) → i < n → get_or (pad n z l) i z ≡ get_or l i z
pad_at z zero l i h = absurd (omega arith)
pad_at z (suc n) [] zero h = refl
pad_at z (suc n) [] (suc i) h = pad_at z n [] i (omega arith)
pad_at z (suc n) (x ∷ l) zero h = refl
pad_at z (suc n) (x ∷ l) (suc i) h = pad_at z n l i (omega arith)

pub pad_past : {A : Type 0} (z : A) (n : ℕ) (l : List A) (i : ℕ) → length l ≤ i → get_or (pad n z l) i z ≡ z
pad_past z zero l i h = refl
pad_past z (suc n) [] zero h = refl
pad_past z (suc n) [] (suc i) h = pad_past z n [] i (omega arith)
pad_past z (suc n) (x ∷ l) zero h = absurd (omega arith)
pad_past z (suc n) (x ∷ l) (suc i) h = pad_past z n l i (omega arith)

-- what the loop of `image::body::read_bodies` stands on
pub ruleset placing = (pad_none, pad_next, pad_least)
