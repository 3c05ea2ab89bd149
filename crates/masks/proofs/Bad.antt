-- When the pairs of a list give each number: the first bad pair decides, and of what is wrong with it the right before the page. By induction on the list.
use Prim.Native.Nat.{ℕ, zero, suc, ◌<◌, ◌≤◌}
use mathlib.Core.Path.{◌≡◌, refl, subst, ◌∙◌}
use mathlib.Core.Bool.{Bool, true, false, not}
use mathlib.Core.List.{List, [], ◌∷◌}
use mathlib.Core.Logic.{◌↔◌}
use borrow.Author.Tests.{leb-true, leb-false, le-leb, lt-leb, ltb-true, ltb-false, lt-ltb, le-ltb}
use native.Mathlib.Omega.{arith}
use lib.Dec.{ltb}
use lib.ListN.{length, get_or, drop}
use lib.Seq.{drop-cons}
use Rattle.rules.specs.Refusals.{◌⇒◌, first}
use Rattle.machine.specs.Machine.{is_right}
use Rattle.masks.specs.Least.{right_of, page_in, pair_checks}

-- a pair of a right that there is and a page that is counted
abbrev pub Good : (pages pair : ℕ) → Type 0
Good pages pair = (right_of pair ≤ 1) × (page_in pair < pages)

-- the pairs before a place are good
abbrev pub GoodBefore : (pages : ℕ) → List ℕ → ℕ → Type 0
GoodBefore pages pairs place = (i : ℕ) → i < place → Good pages (get_or pairs i 0)

-- RULES 12.4: where the pairs give each number
pub data PairsGive (pages : ℕ) (pairs : List ℕ) : ℕ → Type 0 where
  no_right : (i : ℕ) → i < length pairs → GoodBefore pages pairs i → 1 < right_of (get_or pairs i 0) → PairsGive pages pairs 2
  no_page : (i : ℕ) → i < length pairs → GoodBefore pages pairs i → right_of (get_or pairs i 0) ≤ 1 → pages ≤ page_in (get_or pairs i 0) → PairsGive pages pairs 4
  all_good : GoodBefore pages pairs (length pairs) → PairsGive pages pairs 0

module _ (pages : ℕ) where
  -- a good pair before the others
  good_more : (pair : ℕ) (pairs : List ℕ) (place : ℕ) → Good pages pair → GoodBefore pages pairs place → GoodBefore pages (pair ∷ pairs) (suc place)
  good_more pair pairs place good rest zero below = good
  good_more pair pairs place good rest (suc i) below = rest i (omega arith)

  -- the numbers of the others stay where they are
  later : (pair : ℕ) (pairs : List ℕ) → Good pages pair → {n : ℕ} → PairsGive pages pairs n → PairsGive pages (pair ∷ pairs) n
  later pair pairs good (no_right i below before high) = no_right (suc i) (omega arith) (good_more pair pairs i good before) high
  later pair pairs good (no_page i below before known past) = no_page (suc i) (omega arith) (good_more pair pairs i good before) known past
  later pair pairs good (all_good before) = all_good (good_more pair pairs (length pairs) good before)

  pairs_give : (pairs : List ℕ) → PairsGive pages pairs (first (pair_checks pages pairs))
  unfolding pair_checks
  pairs_give [] = all_good (λ i below. absurd (omega arith))
  pairs_give (pair ∷ pairs) = split (is_right (right_of pair)) refl (ltb (page_in pair) pages) refl (pairs_give pairs)
    where
      split : (known : Bool) → is_right (right_of pair) ≡ known → (counted : Bool) → ltb (page_in pair) pages ≡ counted
          → PairsGive pages pairs (first (pair_checks pages pairs))
          → PairsGive pages (pair ∷ pairs) (first ((not known ⇒ 2) ∷ (not counted ⇒ 4) ∷ pair_checks pages pairs))
      split true k true c rest = later pair pairs (leb-true _ _ k, ltb-true _ _ c) rest
      split true k false c rest = no_page 0 (omega arith) (λ i below. absurd (omega arith)) (leb-true _ _ k) (ltb-false _ _ c)
      split false k counted c rest = no_right 0 (omega arith) (λ i below. absurd (omega arith)) (leb-false _ _ k)

  -- the number of a first pair that is good is that of the others
  past_good : (pair : ℕ) (pairs : List ℕ) → Good pages pair → first (pair_checks pages (pair ∷ pairs)) ≡ first (pair_checks pages pairs)
  unfolding pair_checks
  past_good pair pairs good = rw (le-leb (right_of pair) 1 good.0, lt-ltb (page_in pair) pages good.1)

  -- a pair that follows good ones alone decides
  decides : (pairs : List ℕ) (i : ℕ) → i < length pairs → GoodBefore pages pairs i
      → first (pair_checks pages pairs) ≡ first (pair_checks pages (drop i pairs))
  decides [] i below before = absurd (omega arith)
  decides (pair ∷ pairs) zero below before = refl
  decides (pair ∷ pairs) (suc i) below before =
      past_good pair pairs (before 0 (omega arith)) ∙ decides pairs i (omega arith) (λ j less. before (suc j) (omega arith))

  given_pairs : (pairs : List ℕ) {n : ℕ} → PairsGive pages pairs n → first (pair_checks pages pairs) ≡ n
  unfolding pair_checks
  given_pairs pairs (no_right i below before high) =
      decides pairs i below before ∙ rw (drop-cons pairs i 0 below, lt-leb (right_of (get_or pairs i 0)) 1 high)
  given_pairs pairs (no_page i below before known past) =
      decides pairs i below before
      ∙ rw (drop-cons pairs i 0 below, le-leb (right_of (get_or pairs i 0)) 1 known, le-ltb (page_in (get_or pairs i 0)) pages past)
  given_pairs [] (all_good before) = refl
  given_pairs (pair ∷ pairs) (all_good before) =
      past_good pair pairs (before 0 (omega arith)) ∙ given_pairs pairs (all_good (λ i below. before (suc i) (omega arith)))

  -- RULES 12.4: each number of the pairs exactly where it is due
  pub pairs_exactly : (pairs : List ℕ) (n : ℕ) → (first (pair_checks pages pairs) ≡ n) ↔ PairsGive pages pairs n
  pairs_exactly pairs n = ((λ e. subst (PairsGive pages pairs) e (pairs_give pairs)), given_pairs pairs)
