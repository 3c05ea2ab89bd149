-- The bytes that an access touches are those from its address on, as many as its width has: whether one of them meets a condition, and what follows for each.
-- `none_meets` and `one_meets` look at each width's bytes one by one; `none_met` and `some_meets` rest on them.
use Prim.Native.Nat.{ℕ, ◌+◌, ◌-◌, ◌≤◌, ◌<◌}
use mathlib.Core.Path.{◌≡◌, refl, sym, ◌∙◌}
use mathlib.Core.Bool.{Bool, true, false, ◌||◌, or-false, or_self, true≢false}
use mathlib.Core.List.{List, [], ◌∷◌}
use borrow.Author.Tests.{eqb-true, eqb-false}
use native.Mathlib.Omega.{arith}
use native.Mathlib.Nat.{add-zero}
use lib.Dec.{eqb}
use Rattle.machine.specs.Calls.{touched, any}
use Rattle.machine.specs.declared.record.Width.{Width}
use Rattle.machine.specs.declared.record.Width.TheVariants.{One, Two}

-- how many bytes a width has
abbrev pub bytes : Width → ℕ
bytes One = 1
bytes Two = 2

-- a byte is one of them
abbrev pub Touches : Width → ℕ → ℕ → Type 0
Touches width address byte = (address ≤ byte) × (byte < address + bytes width)

-- two conditions that agree on each number agree on whether one of a list meets them
pub any_same : {p q : ℕ → Bool} → ((x : ℕ) → p x ≡ q x) → (l : List ℕ) → any p l ≡ any q l
any_same same [] = refl
any_same same (x ∷ rest) = rw (same x, any_same same rest)

pub neither : (a b : Bool) → a || b ≡ false → (a ≡ false) × (b ≡ false)
neither true b h = absurd (true≢false h)
neither false b h = (refl, h)

module _ (p : ℕ → Bool) where
  -- one byte and two, each by how far it stands ahead of the address, from the width that a caller knows
  pub any_one : {width : Width} (address : ℕ) → width ≡ One → any p (touched width address) ≡ p (address + 0)
  any_one address one = rw (one, add-zero address) (or-false (p address))

  pub any_two : {width : Width} (address : ℕ) → width ≡ Two → any p (touched width address) ≡ p (address + 0) || p (address + 1)
  any_two address two = rw (two, add-zero address, or-false (p (address + 1)))

  -- two bytes of which both meet it or neither
  pub any_alike : {width : Width} (address : ℕ) → width ≡ Two → p (address + 1) ≡ p (address + 0) → any p (touched width address) ≡ p (address + 0)
  any_alike address two alike = rw (any_two address two, alike) (or_self (p (address + 0)))

  -- where none of them meets a condition, a byte that is touched does not
  pub none_meets : (width : Width) (address : ℕ) → any p (touched width address) ≡ false → (byte : ℕ) → Touches width address byte → p byte ≡ false
  none_meets One address none byte t =
      let here : byte ≡ address = omega (arith, t.0, t.1) in
      rw here (neither (p address) false none).0
  none_meets Two address none byte t = split (eqb byte address) refl
    where
      each : (p address ≡ false) × (p (address + 1) || false ≡ false)
      each = neither (p address) (p (address + 1) || false) none

      split : (b : Bool) → eqb byte address ≡ b → p byte ≡ false
      split true e = rw (eqb-true byte address e) each.0
      split false e =
          let other = eqb-false byte address e in
          let next : byte ≡ address + 1 = omega (arith, t.0, t.1, other) in
          rw next (neither (p (address + 1)) false each.1).0

  -- where one of them meets it, here is that byte
  pub record OneMeets (width : Width) (address : ℕ) : Type 0 where
    pub byte : ℕ
    pub touches : Touches width address byte
    pub meets : p byte ≡ true

  pub one_meets : (width : Width) (address : ℕ) → any p (touched width address) ≡ true → OneMeets width address
  one_meets One address some =
      record { byte = address; touches = (omega arith, omega arith); meets = rw (or-false (p address)) at some }
  one_meets Two address some = split (p address) refl
    where
      split : (b : Bool) → p address ≡ b → OneMeets Two address
      split true e = record { byte = address; touches = (omega arith, omega arith); meets = e }
      split false e =
          record {
            byte = address + 1;
            touches = (omega arith, omega arith);
            meets = rw (e, or-false (p (address + 1))) at some;
          }

  -- where no byte that is touched meets it, none of them does
  pub none_met : (width : Width) (address : ℕ) → ((byte : ℕ) → Touches width address byte → p byte ≡ false) → any p (touched width address) ≡ false
  none_met width address each = split (any p (touched width address)) refl
    where
      split : (b : Bool) → any p (touched width address) ≡ b → b ≡ false
      split true e =
          let found = one_meets width address e in
          absurd (true≢false (sym found.meets ∙ each found.byte found.touches))
      split false e = refl

  -- where a byte that is touched meets it, one of them does
  pub some_meets : (width : Width) (address byte : ℕ) → Touches width address byte → p byte ≡ true → any p (touched width address) ≡ true
  some_meets width address byte t meets = split (any p (touched width address)) refl
    where
      split : (b : Bool) → any p (touched width address) ≡ b → b ≡ true
      split true e = refl
      split false e = absurd (true≢false (sym meets ∙ none_meets width address e byte t))

-- the byte at the address is one of them
pub first_touched : (width : Width) (address : ℕ) → Touches width address address
first_touched One address = (omega arith, omega arith)
first_touched Two address = (omega arith, omega arith)

-- and so is the one before its end
pub last_touched : (width : Width) (address : ℕ) → Touches width address (address + bytes width - 1)
last_touched One address = (omega arith, omega arith)
last_touched Two address = (omega arith, omega arith)
