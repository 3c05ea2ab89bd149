-- What is given, by the conditions that are met: behind soundness and the count of pairs it is what `mask_for` works out. From the list of conditions, pair by pair.
use Prim.Native.Nat.{ℕ, ◌<◌, ◌≤◌}
use mathlib.Core.Path.{◌≡◌, refl, sym, ◌∙◌}
use mathlib.Core.Bool.{Bool, true, false}
use mathlib.Core.List.{List, [], ◌∷◌, map}
use borrow.Author.Tests.{eqb-true, eqb-false, le-ltb, lt-ltb, ne_eqb}
use native.Mathlib.Omega.{arith}
use lib.Dec.{eqb}
use lib.ListN.{length}
use Rattle.rules.specs.Refusals.{◌⇒◌, first, pick}
use Rattle.machine.specs.Machine.{is_sound}
use Rattle.machine.specs.declared.record.Machine.{Machine}
use Rattle.masks.specs.Least.{will_do, masks_within, passing, candidates, least_of, pair_checks, least_checks, least_mask_of}
use Rattle.masks.specs.Search.{need_of, meets_all, refused_by, needed_mask, mask_for}
use Rattle.masks.proofs.Lists.{pairs_then}
use Rattle.masks.proofs.Order.{passing_alike}
use Rattle.masks.proofs.Pairs.{needs_judged}

module _ (m : Machine) (pairs : List ℕ) where
  pub unsound_first : is_sound m ≡ false → least_mask_of m pairs ≡ refused_by 1
  unfolding least_mask_of least_checks
  unsound_first unsound = rw unsound

  pub too_many : is_sound m ≡ true → 64 < length pairs → least_mask_of m pairs ≡ refused_by 33
  unfolding least_mask_of least_checks
  too_many sound many = rw (sound, lt-ltb 64 (length pairs) many)

  module _ (sound : is_sound m ≡ true) (few : length pairs ≤ 64) where
    -- behind the two the number of the first bad pair decides, and then whether some mask will do
    number_given : first (least_checks m pairs)
        ≡ pick (eqb (first (pair_checks m.pages pairs)) 0) (pick (eqb (length (candidates m pairs)) 0) 34 0) (first (pair_checks m.pages pairs))
    unfolding least_checks
    number_given = rw (sound, le-ltb 64 (length pairs) few) (pairs_then m.pages pairs ((eqb (length (candidates m pairs)) 0 ⇒ 34) ∷ []))

    pub bad_given : (first (pair_checks m.pages pairs) ≡ 0 → ⊥) → least_mask_of m pairs ≡ refused_by (first (pair_checks m.pages pairs))
    unfolding least_mask_of
    bad_given bad = let wrong = ne_eqb (first (pair_checks m.pages pairs)) 0 bad in rw (number_given, wrong, wrong)

    pub none_given : first (pair_checks m.pages pairs) ≡ 0 → candidates m pairs ≡ [] → least_mask_of m pairs ≡ refused_by 34
    unfolding least_mask_of
    none_given good none = rw (number_given, good, none)

    not_none : (mask : ℕ) (list : List ℕ) → candidates m pairs ≡ mask ∷ list → eqb (length (candidates m pairs)) 0 ≡ false
    not_none mask list some = rw some (ne_eqb (length (mask ∷ list)) 0 (omega arith))

    pub mask_given : first (pair_checks m.pages pairs) ≡ 0 → (mask : ℕ) (list : List ℕ) → candidates m pairs ≡ mask ∷ list
        → least_mask_of m pairs ≡ record { number = 0; mask = least_of (candidates m pairs) }
    unfolding least_mask_of
    mask_given good mask list some = rw (number_given, good, not_none mask list some)

    -- where no pair is bad, the masks that will do are those that meet what the pairs need
    candidates_meet : first (pair_checks m.pages pairs) ≡ 0
        → candidates m pairs ≡ passing (meets_all (map (need_of m.fields m.registers.context) pairs)) (masks_within m.registers.context)
    candidates_meet good =
        passing_alike (will_do m pairs) (meets_all (map (need_of m.fields m.registers.context) pairs)) (masks_within m.registers.context)
        (λ mask in_List. needs_judged m sound pairs good mask)

    -- so behind the two it is what the code finds for the machine's parts
    pub masked_for : least_mask_of m pairs ≡ mask_for m.pages m.fields m.registers.context pairs
    unfolding needed_mask
    masked_for = split (eqb (first (pair_checks m.pages pairs)) 0) refl
      where
        by_masks : (good : first (pair_checks m.pages pairs) ≡ 0) (list : List ℕ) → candidates m pairs ≡ list
            → least_mask_of m pairs ≡ needed_mask (map (need_of m.fields m.registers.context) pairs) m.registers.context
        by_masks good [] e = none_given good e ∙ rw (sym (candidates_meet good) ∙ e)
        by_masks good (mask ∷ list) e =
            mask_given good mask list e ∙ rw (← candidates_meet good, not_none mask list e)

        split : (b : Bool) → eqb (first (pair_checks m.pages pairs)) 0 ≡ b
            → least_mask_of m pairs
            ≡ pick b (needed_mask (map (need_of m.fields m.registers.context) pairs) m.registers.context) (refused_by (first (pair_checks m.pages pairs)))
        split true e = by_masks (eqb-true _ 0 e) (candidates m pairs) refl
        split false e = bad_given (eqb-false _ 0 e)
