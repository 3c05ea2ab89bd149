-- What the private functions of the search do. The definition of the least mask rests on nothing of this.
use Rattle.std.specs.Prelude.{ℕ, ◌-◌, Bool, not, List, ◌∷◌, map, eqb, get_or, length}
use Rattle.std.specs.Int.Bits.{bit_and}
use Rattle.std.specs.Int.Count.{count_leading_zeros}
use Rattle.rules.specs.Refusals.{first, pick}
use Rattle.machine.specs.Machine.{place_of}
use Rattle.machine.specs.Calls.{any}
use Rattle.masks.specs.Least.{LeastMask, right_of, page_in, masks_from, masks_within, passing, least_of, pair_checks}

-- what a pair needs: a domain that its field and a context both hold
abbrev pub need_of : (fields : List ℕ) (context pair : ℕ) → ℕ
need_of fields context pair = bit_and (get_or fields (place_of (right_of pair) (page_in pair)) 0) context

-- a set of domains has none that a need asks for
abbrev pub is_unmet : (set need : ℕ) → Bool
is_unmet set need = eqb (bit_and need set) 0

-- a set of domains meets every need
abbrev pub meets_all : List ℕ → ℕ → Bool
meets_all needs set = not (any (is_unmet set) needs)

-- the domain of greatest number in a set that is not empty
abbrev pub last_domain : ℕ → ℕ
last_domain set = 15 - count_leading_zeros 16 set

-- the least of one mask and of those that meet every need and add to another mask any domains of a set
abbrev pub least_from : (needs : List ℕ) (rest mask best : ℕ) → ℕ
least_from needs rest mask best = least_of (best ∷ passing (meets_all needs) (masks_from rest mask 16))

-- a refusal
abbrev pub refused_by : ℕ → LeastMask
refused_by number = record { number = number; mask = 0 }

-- what is given for these needs: the least mask within a context that meets them, or 34
unfoldable pub needed_mask : (needs : List ℕ) (context : ℕ) → LeastMask
needed_mask needs context =
    let masks = passing (meets_all needs) (masks_within context) in
    pick (eqb (length masks) 0) (refused_by 34) (record { number = 0; mask = least_of masks })

-- what is given for pairs of which there are not too many: the number of the first bad pair, or the least mask for what they need
abbrev pub mask_for : (pages : ℕ) (fields : List ℕ) (context : ℕ) (pairs : List ℕ) → LeastMask
mask_for pages fields context pairs =
    let bad = first (pair_checks pages pairs) in
    pick (eqb bad 0) (needed_mask (map (need_of fields context) pairs) context) (refused_by bad)
