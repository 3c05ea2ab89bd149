-- Where cases stand: each ends past its start, and the next one stands past it and within the bytes. By cases of whether the bytes hold it.
-- And some that are written out.
use Prim.Native.Nat.{ℕ, ◌+◌, ◌*◌, ◌≤◌, ◌<◌}
use mathlib.Core.List.{List, [], ◌∷◌, map}
use mathlib.Core.Path.{◌≡◌, refl}
use mathlib.Core.Bool.{Bool, true, false}
use borrow.Author.Tests.{leb-true, le-leb, lt-leb}
use native.Mathlib.Omega.{arith}
use lib.Dec.{eqb, leb}
use lib.ListN.{length, get_or}
use Rattle.rules.specs.Refusals.{pick}
use Rattle.cases.specs.Cases.{is_writing, end_of, next_of}

-- kind, three bytes of length, high byte first, and as many bytes, at any place of any bytes
pub ends_spelled : (bytes : List ℕ) (at : ℕ)
    → end_of bytes at ≡ at + 4 + (65536 * get_or bytes (1 + at) 0 + (256 * get_or bytes (2 + at) 0 + get_or bytes (1 + (2 + at)) 0))
unfolding end_of
ends_spelled bytes at = refl

pub next_exactly : (bytes : List ℕ) (at : ℕ)
    → (end_of bytes at ≤ length bytes → next_of bytes at ≡ end_of bytes at) × (length bytes < end_of bytes at → next_of bytes at ≡ length bytes)
unfolding next_of
next_exactly bytes at = (λ within. rw (le-leb _ _ within), λ cut. rw (lt-leb _ _ cut))

pub end_past : (bytes : List ℕ) (at : ℕ) → at + 4 ≤ end_of bytes at
unfolding end_of
end_past bytes at = omega arith

pub next_past : (bytes : List ℕ) (at : ℕ) → at < length bytes → (at < next_of bytes at) × (next_of bytes at ≤ length bytes)
unfolding next_of
next_past bytes at before = split (leb (end_of bytes at) (length bytes)) refl
  where
    split : (b : Bool) → leb (end_of bytes at) (length bytes) ≡ b → (at < pick b (end_of bytes at) (length bytes)) × (pick b (end_of bytes at) (length bytes) ≤ length bytes)
    split true holds = (omega (arith, end_past bytes at), leb-true _ _ holds)
    split false cuts = (before, omega arith)

-- a length of three bytes, high byte first, at a place, whatever the kind before it; a case that the bytes hold, one that they end
-- with and one that they cut
pub cases_stand :
    (end_of (9 ∷ 0 ∷ 1 ∷ 0 ∷ 2 ∷ []) 1 ≡ 65543)
    × (end_of (1 ∷ 2 ∷ 3 ∷ 4 ∷ []) 0 ≡ 131848)
    × (next_of (0 ∷ 0 ∷ 0 ∷ 2 ∷ 7 ∷ 8 ∷ 9 ∷ []) 0 ≡ 6)
    × (next_of (0 ∷ 0 ∷ 0 ∷ 2 ∷ 7 ∷ 8 ∷ []) 0 ≡ 6)
    × (next_of (0 ∷ 0 ∷ 0 ∷ 2 ∷ 7 ∷ []) 0 ≡ 5)
unfolding end_of next_of
cases_stand = (refl, refl, refl, refl, refl)

-- the first byte of a case is its kind, and 1 alone is one of writing
pub writing_kinds :
    (is_writing (1 ∷ 0 ∷ 0 ∷ 0 ∷ []) 0 ≡ true)
    × (map (is_writing (0 ∷ 1 ∷ 0 ∷ 0 ∷ 2 ∷ 255 ∷ 0 ∷ 1 ∷ [])) (0 ∷ 1 ∷ 4 ∷ 5 ∷ 8 ∷ []) ≡ false ∷ true ∷ false ∷ false ∷ false ∷ [])
writing_kinds = (refl, refl)

-- of any bytes and at any place
pub writing_exactly : (bytes : List ℕ) (at : ℕ) → is_writing bytes at ≡ eqb (get_or bytes at 0) 1
writing_exactly bytes at = refl
