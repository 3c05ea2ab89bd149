-- The least mask for a subroutine (RULES, section 12).
use Rattle.std.specs.Prelude.{ℕ, zero, suc, ◌*◌, ◌/◌, ◌%◌, ◌^◌, Bool, false, not, ◌&&◌, ◌||◌, eqb, ltb, length}
use mathlib.Core.List.{List, [], ◌∷◌, ◌++◌, foldl}
use Rattle.std.specs.Int.Count.{ones_in}
use Rattle.rules.specs.Domains.{holds, with_bit}
use Rattle.rules.specs.Refusals.{Check, ◌⇒◌, first, pick}
use Rattle.rules.specs.declared.registers.Mode.TheVariants.{User}
use Rattle.machine.specs.Machine.{is_right, is_sound, with_registers}
use Rattle.machine.specs.Calls.{any, call_of}
use Rattle.machine.specs.declared.record.Machine.{Machine}
use Rattle.machine.specs.declared.record.Width.TheVariants.{One}
use Rattle.machine.specs.declared.record.Call.TheVariants.{Access}

-- RULES 12.3, 12.5: what is given: a number, and the least mask, which is 0 where the number is not
pub record LeastMask : Type 0 where
  pub number : ℕ
  pub mask : ℕ

-- RULES 12.1: a pair of a right and a page is one number, right × 65,536 + page
abbrev pub right_of : ℕ → ℕ
right_of pair = pair / 65536

abbrev pub page_in : ℕ → ℕ
page_in pair = pair % 65536

-- RULES 12.2: the machine with a mask live, in user mode and with the flag clear. Its own mask, mode and flag are gone.
abbrev pub under_mask : Machine → ℕ → Machine
under_mask m mask = with_registers (record { context = m.registers.context; mask = mask; mode = User; pending = false }) m

-- RULES 12.2: under a mask a pair is denied where the access for its right to the first byte of its page is not answered 0. No other byte of the page is
-- answered otherwise (`pair_allowed`).
abbrev pub denies : Machine → (mask pair : ℕ) → Bool
denies m mask pair = not (eqb (call_of (under_mask m mask) (Access One (right_of pair) (page_in pair * 2 ^ m.exponent))).number 0)

-- RULES 12.2: a mask will do where it denies no pair of the list
abbrev pub will_do : Machine → List ℕ → ℕ → Bool
will_do m pairs mask = not (any (denies m mask) pairs)

-- RULES 12.3: all masks that have the domains of one mask, any of a context's domains below s, and no others
unfoldable pub masks_from : (context mask s : ℕ) → List ℕ
masks_from context mask zero = mask ∷ []
masks_from context mask (suc s) = masks_from context mask s ++ pick (holds context s) (masks_from context (with_bit mask s) s) []

-- RULES 12.3: all masks within a context
abbrev pub masks_within : ℕ → List ℕ
masks_within context = masks_from context 0 16

-- those of a list that pass a test
unfoldable pub passing : (ℕ → Bool) → List ℕ → List ℕ
passing test [] = []
passing test (mask ∷ rest) = pick (test mask) (mask ∷ passing test rest) (passing test rest)

-- RULES 12.3: the masks within the live global context that will do
abbrev pub candidates : Machine → List ℕ → List ℕ
candidates m pairs = passing (will_do m pairs) (masks_within m.registers.context)

-- RULES 1.6, 12.3: how many domains a mask holds: the ones among its sixteen bits
abbrev pub domain_count : ℕ → ℕ
domain_count mask = ones_in 16 mask

-- RULES 12.3: a mask is less than another where it holds fewer domains, or as many and is the smaller number
abbrev pub is_less : (one other : ℕ) → Bool
is_less one other = ltb (domain_count one) (domain_count other) || eqb (domain_count one) (domain_count other) && ltb one other

-- RULES 12.3: the lesser of two masks
abbrev pub lesser : (one other : ℕ) → ℕ
lesser one other = pick (is_less other one) other one

-- RULES 12.3: the least of a list of masks. Where there is none it is 0, which stands beside a refusal alone (12.5).
abbrev pub least_of : List ℕ → ℕ
least_of [] = 0
least_of (mask ∷ rest) = foldl lesser mask rest

-- RULES 12.4: what is wrong with a pair, for each pair in the order of the list
unfoldable pub pair_checks : (pages : ℕ) → List ℕ → List Check
pair_checks pages [] = []
pair_checks pages (pair ∷ rest) = (not (is_right (right_of pair)) ⇒ 2) ∷ (not (ltb (page_in pair) pages) ⇒ 4) ∷ pair_checks pages rest

-- RULES 12.4: all conditions, in order
unfoldable pub least_checks : Machine → List ℕ → List Check
least_checks m pairs =
    (not (is_sound m) ⇒ 1)
    ∷ (ltb 64 (length pairs) ⇒ 33)
    ∷ pair_checks m.pages pairs
    ++ (eqb (length (candidates m pairs)) 0 ⇒ 34)
    ∷ []

-- RULES 12.3 to 12.5: the number of the first condition that is met, and the least mask that will do, or 0 beside a refusal
unfoldable pub least_mask_of : Machine → List ℕ → LeastMask
least_mask_of m pairs =
    let number = first (least_checks m pairs) in
    record { number = number; mask = pick (eqb number 0) (least_of (candidates m pairs)) 0 }
