-- The load spelled out for any bytes: its number from its tests, one behind the other, each by the place of the byte that it reads, and the machine
-- by all its parts. The tables of Order and Pinned try images that are written out; here none is left out.
use Prim.Native.Nat.{ℕ, ◌+◌, ◌*◌, ◌/◌, ◌%◌, ◌^◌}
use mathlib.Core.Path.{◌≡◌, refl}
use mathlib.Core.Bool.{Bool, true, false, not, ◌&&◌}
use mathlib.Core.List.{List, [], ◌∷◌, foldl}
use lib.Dec.{leb, eqb}
use lib.ListN.{length, get_or, replicate}
use Rattle.rules.specs.Refusals.{pick}
use Rattle.rules.specs.declared.registers.Mode.TheVariants.{User, Privileged}
use Rattle.machine.specs.Machine.{zero}
use Rattle.machine.specs.declared.record.Program.{Program}
use Rattle.machine.proofs.Written.{stored, live, whole}
use Rattle.image.specs.Bytes.{byte_at, word_of, word_at, word, entries}
use Rattle.image.specs.Description.{machine_of, pad}
use Rattle.image.specs.Load.{every, are_modes, describe, load_checks, load_of, length_tests, kind_tests, shape_entry_tests, shape_tests, body_tests}

-- a byte and a number at any place of any bytes, the length that an input declares too, and a number as it is written
pub bytes_spelled : (s : List ℕ) (at high low w : ℕ)
    → (byte_at s at ≡ get_or s at 0)
    × (word_of high low ≡ 256 * high + low)
    × (word_at s at ≡ 256 * get_or s at 0 + get_or s (1 + at) 0)
    × (word w ≡ w / 256 ∷ w % 256 ∷ [])
bytes_spelled s at high low w = (refl, refl, refl, refl)

failed_stays : (tests : List Bool) → foldl ◌&&◌ false tests ≡ false
failed_stays [] = refl
failed_stays (test ∷ rest) = failed_stays rest

-- tests hold where each of them does, also where more than one fails
pub tests_spelled : (test : Bool) (rest : List Bool) → (every [] ≡ true) × (every (test ∷ rest) ≡ test && every rest)
tests_spelled true rest = (refl, refl)
tests_spelled false rest = (refl, failed_stays rest)

pub modes_spelled : (mode : ℕ) (rest : List ℕ) → (are_modes [] ≡ true) × (are_modes (mode ∷ rest) ≡ leb mode 1 && are_modes rest)
modes_spelled mode rest = (refl, refl)

module _ (s : List ℕ) where
  abbrev at : ℕ → ℕ
  at = byte_at s

  -- page count, exponent and program count
  abbrev p : ℕ
  p = at 18

  abbrev e : ℕ
  e = at 19

  abbrev n : ℕ
  n = at 20

  pub load_number_spelled :
      (load_of s).number
      ≡ pick (not (every (leb 31 (length s) ∷ leb (length s) 574 ∷ []))) 20
      (pick (not (every (eqb (at 0) 1 ∷ eqb (at 1) 0 ∷ eqb (at 6) 2 ∷ eqb (at 7) 0 ∷ eqb (at 12) 3 ∷ eqb (at 13) 0 ∷ []))) 21
      (pick (not (every (eqb (word_at s 2) 18 ∷ eqb (word_at s 4) 4 ∷ []))) 22
      (pick
      (not (every
      (leb 1 p ∷ leb p 128 ∷ leb 5 e ∷ leb e 12 ∷ leb 1 n ∷ leb n 8 ∷ eqb (at 21) 0 ∷ leb (p * 2 ^ e) 65536 ∷ [])))
      23
      (pick
      (not (every
      (eqb (word_at s 8) 22
      ∷ eqb (word_at s 10) (4 * p)
      ∷ eqb (word_at s 14) (22 + 4 * p)
      ∷ eqb (word_at s 16) (5 * n)
      ∷ eqb (length s) (22 + 4 * p + 5 * n)
      ∷ [])))
      24
      (pick (not (are_modes (entries 5 (λ (place : ℕ). at (4 + place)) (22 + 4 * p) n))) 25 0)))))
  unfolding load_of load_checks length_tests kind_tests shape_entry_tests shape_tests body_tests
  load_number_spelled = refl

  -- the programs, from where the pages end on
  abbrev programs : List Program
  programs =
      entries 5 (λ (place : ℕ). stored (word_at s place) (word_at s (2 + place)) (pick (eqb (at (4 + place)) 0) User Privileged)) (22 + 4 * p) n

  pub load_machine_spelled :
      let first = get_or programs 0 (stored 0 0 User) in
      (load_of s).machine
      ≡ pick (eqb (load_of s).number 0)
      (whole p e (pad 256 0 (entries 2 (word_at s) 22 (2 * p))) (live first.context first.mask first.mode false) 0 (replicate 8 false)
      (length programs) 0 (pad 8 (stored 0 0 User) programs))
      zero
  unfolding load_of describe machine_of
  load_machine_spelled = refl
