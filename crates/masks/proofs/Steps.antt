-- What the search rests on. The masks that are left to look at fall into those without the domain of greatest number that is left and those with it; none of them
-- is before the mask that they all add to; and none meets every need where all that is left does not. From what is looked at, domain by domain.
use Prim.Native.Nat.{ℕ, zero, suc, ◌+◌, ◌-◌, ◌/◌, ◌%◌, ◌^◌, ◌<◌, ◌≤◌}
use mathlib.Core.Path.{◌≡◌, refl, sym, ap, ap₂, subst, ◌∙◌}
use mathlib.Core.Bool.{Bool, true, false, not, ◌&&◌, ◌||◌, true≢false, or-true, and-true, and-false}
use mathlib.Core.List.Memᴰ
use mathlib.Core.List.{List, [], ◌∷◌, ◌++◌, append-nil, Memᴰ}
use mathlib.Core.Logic.{⊎_elim}
use borrow.Author.Tests.{eqb-false, ltb-true, ltb-false, lt-ltb, eq-eqb, ne_eqb}
use native.Mathlib.Nat.{div-eq_of_lt, div-lt_iff_lt-mul, le-div_iff_mul-le, lt_of_lt_of_le, pow-suc}
use native.Mathlib.Omega.{arith}
use lib.Bits.{bit_or, and_le_l, and_le_r, or_lt, or_zero_l, or_zero_r}
use lib.Count.{leading_top}
use lib.Dec.{eqb, ltb}
use lib.ListN.{length}
use lib.Pow.{pow_mono, pow_pos}
use Rattle.rules.specs.Domains.{domain_bit, holds, with_bit, without_bit}
use Rattle.rules.proofs.Decided.{and_both}
use Rattle.rules.proofs.Laws.{no_domain_held}
use Rattle.rules.proofs.Lowest.{granted_holds, held_digit, held_either, none_shared, one_shared, revoked_holds}
use Rattle.machine.specs.Calls.{any}
use Rattle.masks.specs.Least.{is_less, masks_from, masks_within, passing, least_of}
use Rattle.masks.specs.Search.{needed_mask, refused_by, is_unmet, meets_all, last_domain, least_from}
use Rattle.masks.proofs.Order.{before_further, less_not, not_less, least_alike, least_kept, least_further, passing_further, passing_in, in_passing, passing_none}
use Rattle.masks.proofs.Within.{Within, either_left, either_right, empty_holds, within_before, looked_within, looked_above, looked_fits, looked_all}

-- ---- the domain of greatest number

-- it is a domain that the set holds, and the set holds none of greater number
last_held : (set : ℕ) → (set ≡ 0 → ⊥) → set < 65536
    → (last_domain set < 16) × (holds set (last_domain set) ≡ true) × ((s : ℕ) → last_domain set < s → holds set s ≡ false)
last_held set some small =
    let top = leading_top 16 set (omega (arith, some)) small in
    let j = top.0 in
    let here : last_domain set ≡ j = omega (arith, top.1) in
    let known : j < 16 = omega (arith, top.1) in
    rw here (known, rw (held_digit set j known, one j top.2 top.3), λ s past. none j top.3 s past (ltb s 16) refl)
  where
    one : (j : ℕ) → 2 ^ j ≤ set → set < 2 ^ suc j → set / 2 ^ j % 2 ≡ 1
    one j least most =
        let above : 1 ≤ set / 2 ^ j = (le-div_iff_mul-le (pow_pos j)).1 (omega arith) in
        let below : set / 2 ^ j < 2 = (div-lt_iff_lt-mul (pow_pos j)).1 (omega (arith, most, pow-suc 2 j)) in
        let alone : set / 2 ^ j ≡ 1 = omega (arith, above, below) in
        rw alone

    none : (j : ℕ) → set < 2 ^ suc j → (s : ℕ) → j < s → (b : Bool) → ltb s 16 ≡ b → holds set s ≡ false
    none j most s past true e =
        let zeros : set / 2 ^ s ≡ 0 = div-eq_of_lt (lt_of_lt_of_le most (pow_mono past)) in
        rw (held_digit set s (ltb-true s 16 e), zeros)
    none j most s past false e = no_domain_held set s (ltb-false s 16 e)

-- ---- the step: that domain left out, or put in

masks_alike : (n a b mask : ℕ) → ((s : ℕ) → s < n → holds a s ≡ holds b s) → masks_from a mask n ≡ masks_from b mask n
unfolding masks_from
masks_alike zero a b mask same = refl
masks_alike (suc n) a b mask same =
    rw (
      same n (omega arith),
      masks_alike n a b mask (λ s below. same s (omega arith)),
      masks_alike n a b (with_bit mask n) (λ s below. same s (omega arith)),
    )

masks_past : (n k a mask : ℕ) → ((s : ℕ) → n ≤ s → holds a s ≡ false) → masks_from a mask (n + k) ≡ masks_from a mask n
unfolding masks_from
masks_past n zero a mask none = let e : n + 0 ≡ n = omega arith in rw e
masks_past n (suc k) a mask none =
    let e : n + suc k ≡ suc (n + k) = omega arith in
    rw (e, none (n + k) (omega arith), append-nil) (masks_past n k a mask none)

masks_next : (n a mask : ℕ) → holds a n ≡ true → masks_from a mask (suc n) ≡ masks_from a mask n ++ masks_from a (with_bit mask n) n
unfolding masks_from
masks_next n a mask held = rw held

pub nothing_left : (mask : ℕ) → masks_from 0 mask 16 ≡ mask ∷ []
unfolding masks_from
nothing_left mask = masks_past 0 16 0 mask (λ s past. empty_holds s)

module _ (rest : ℕ) (some : rest ≡ 0 → ⊥) (small : rest < 65536) where
  abbrev last : ℕ
  last = last_domain rest

  -- what is left without it
  abbrev lower : ℕ
  lower = without_bit rest last

  lower_holds : (s : ℕ) → holds lower s ≡ holds rest s && not (eqb s last)
  lower_holds s = revoked_holds rest last s ∙ rw (lt-ltb last 16 (last_held rest some small).0)

  pub lower_less : lower < rest
  lower_less = split (ltb lower rest) refl
    where
      split : (b : Bool) → ltb lower rest ≡ b → lower < rest
      split true e = ltb-true lower rest e
      split false e =
          let most = ltb-false lower rest e in
          let same : lower ≡ rest = omega (arith, most, and_le_l rest (65535 - domain_bit last)) in
          let gone : holds lower last ≡ false = lower_holds last ∙ rw ((last_held rest some small).1, eq-eqb last last refl) in
          absurd (true≢false (sym (last_held rest some small).1 ∙ ap (λ (set : ℕ). holds set last) (sym same) ∙ gone))

  -- what is looked at below it is the same for what is left with it and without it
  without : (mask : ℕ) → masks_from lower mask 16 ≡ masks_from rest mask last
  without mask =
      let all : last + (16 - last) ≡ 16 = omega (arith, (last_held rest some small).0) in
      subst (λ (n : ℕ). masks_from lower mask n ≡ masks_from lower mask last) all (masks_past last (16 - last) lower mask none)
      ∙ masks_alike last lower rest mask (λ s below. lower_holds s ∙ rw (ne_eqb s last (omega arith)) (and-true (holds rest s)))
    where
      none : (s : ℕ) → last ≤ s → holds lower s ≡ false
      none s past = lower_holds s ∙ split (eqb s last) refl
        where
          split : (b : Bool) → eqb s last ≡ b → holds rest s && not b ≡ false
          split true e = and-false (holds rest s)
          split false e = let other = eqb-false s last e in rw ((last_held rest some small).2 s (omega (arith, other)))

  -- so all that is left falls into the masks without it and those with it
  split_last : (mask : ℕ) → masks_from rest mask 16 ≡ masks_from lower mask 16 ++ masks_from lower (with_bit mask last) 16
  split_last mask =
      let all : suc last + (15 - last) ≡ 16 = omega (arith, (last_held rest some small).0) in
      subst (λ (n : ℕ). masks_from rest mask n ≡ masks_from rest mask (suc last)) all
      (masks_past (suc last) (15 - last) rest mask (λ s past. (last_held rest some small).2 s (omega arith)))
      ∙ masks_next last rest mask (last_held rest some small).1 ∙ ap₂ (λ (a b : List ℕ). a ++ b) (sym (without mask)) (sym (without (with_bit mask last)))

  pub least_split : (needs : List ℕ) (mask best : ℕ)
      → least_from needs rest mask best ≡ least_from needs lower (with_bit mask last) (least_from needs lower mask best)
  least_split needs mask best =
      rw (split_last mask, passing_further (meets_all needs) (masks_from lower mask 16) (masks_from lower (with_bit mask last) 16))
      (least_further best (passing (meets_all needs) (masks_from lower mask 16)) (passing (meets_all needs) (masks_from lower (with_bit mask last) 16)))

  -- with it put in, what is left may add the same domains as before
  pub last_moved : (mask : ℕ) → Within (bit_or mask rest) (bit_or (with_bit mask last) lower)
  last_moved mask s held =
      held_either (with_bit mask last) lower s ∙ rw (granted_holds mask last s, lower_holds s, lt-ltb last 16 (last_held rest some small).0)
      (moved (holds mask s) (holds rest s) (eqb s last) (sym (held_either mask rest s) ∙ held))
    where
      moved : (a b c : Bool) → a || b ≡ true → a || c || b && not c ≡ true
      moved true b c h = refl
      moved false true true h = refl
      moved false true false h = refl
      moved false false c h = absurd (true≢false (sym h))

-- ---- needs

any_implied : {p q : ℕ → Bool} → ((n : ℕ) → p n ≡ true → q n ≡ true) → (list : List ℕ) → any p list ≡ true → any q list ≡ true
any_implied implies [] h = h
any_implied {p} {q} implies (x ∷ list) h = split (p x) refl h (any_implied implies list)
  where
    split : (b : Bool) → p x ≡ b → b || any p list ≡ true → (any p list ≡ true → any q list ≡ true) → q x || any q list ≡ true
    split true e f rest = rw (implies x e)
    split false e f rest = rw (rest f) (or-true (q x))

-- a need that a set leaves unmet is left unmet by each set within it
unmet_within : (one other : ℕ) → one < 65536 → Within one other → (need : ℕ) → is_unmet other need ≡ true → is_unmet one need ≡ true
unmet_within one other small within need unmet = split (is_unmet one need) refl
  where
    split : (b : Bool) → is_unmet one need ≡ b → b ≡ true
    split true e = refl
    split false e =
        let shared = one_shared need one (omega (arith, and_le_r need one)) e in
        let both = and_both (holds need shared.0) (holds one shared.0) shared.1 in
        let met = none_shared need other unmet shared.0 in
        absurd (true≢false (sym (rw both.0 (within shared.0 both.1)) ∙ met))

-- so where a set meets every need, each set that has its domains does
pub met_by_more : (needs : List ℕ) (one other : ℕ) → one < 65536 → Within one other → any (is_unmet one) needs ≡ false → any (is_unmet other) needs ≡ false
met_by_more needs one other small within met = split (any (is_unmet other) needs) refl
  where
    split : (b : Bool) → any (is_unmet other) needs ≡ b → b ≡ false
    split true e = absurd (true≢false (sym (any_implied (unmet_within one other small within) needs e) ∙ met))
    split false e = refl

-- and so does a mask with what is left where the last domain that is left is put in
pub still_met : (needs : List ℕ) (rest mask : ℕ) → (rest ≡ 0 → ⊥) → rest < 65536 → mask < 65536 → any (is_unmet (bit_or mask rest)) needs ≡ false
    → any (is_unmet (bit_or (with_bit mask (last_domain rest)) (without_bit rest (last_domain rest)))) needs ≡ false
still_met needs rest mask some small small' met =
    met_by_more needs (bit_or mask rest) _ (or_lt 16 mask rest small' small) (last_moved rest some small mask) met

module _ (needs : List ℕ) (rest mask : ℕ) (small : mask < 65536) where
  -- where the mask is not less than the best, nothing that adds to it is
  pub best_kept : (best : ℕ) → is_less mask best ≡ false → least_from needs rest mask best ≡ best
  best_kept best after =
      least_kept best (passing (meets_all needs) (masks_from rest mask 16)) (λ x m.
      let looked = (passing_in (meets_all needs) (masks_from rest mask 16) x m).0 in
      less_not x best (before_further (not_less mask best after) (within_before mask x small (looked_above rest mask 16 x looked))))

  -- where the mask with all that is left leaves a need unmet, nothing that is looked at meets all
  pub none_meets_all : any (is_unmet (bit_or mask rest)) needs ≡ true → passing (meets_all needs) (masks_from rest mask 16) ≡ []
  none_meets_all unmet =
      passing_none (meets_all needs) (masks_from rest mask 16) (λ x m.
      ap not (any_implied (unmet_within x (bit_or mask rest) (looked_fits rest mask 16 x small m)
      (looked_within rest (bit_or mask rest) (either_right mask rest) mask 16 (either_left mask rest) x m)) needs unmet))

-- with nothing left the mask itself is the only one
pub last_one : (needs : List ℕ) (mask best : ℕ) → is_less mask best ≡ true → any (is_unmet (bit_or mask 0)) needs ≡ false → least_from needs 0 mask best ≡ mask
unfolding passing
last_one needs mask best less met = rw (nothing_left mask, subst (λ (set : ℕ). any (is_unmet set) needs ≡ false) (or_zero_r mask) met, less)

-- where the whole context meets every need, it is one of the masks within it that do
context_meets : (needs : List ℕ) (context : ℕ) → context < 65536 → any (is_unmet context) needs ≡ false
    → Memᴰ context (passing (meets_all needs) (masks_within context))
context_meets needs context small met =
    in_passing (meets_all needs) (masks_within context) context (looked_all context context small (λ s h. h)) (ap not met)

-- so the search may start from it
pub from_context : (needs : List ℕ) (context : ℕ) → context < 65536 → any (is_unmet context) needs ≡ false
    → least_from needs context 0 context ≡ least_of (passing (meets_all needs) (masks_within context))
from_context needs context small met = split (passing (meets_all needs) (masks_within context)) (context_meets needs context small met)
  where
    split : (list : List ℕ) → Memᴰ context list → least_of (context ∷ list) ≡ least_of list
    split [] m = absurd (Memᴰ.not-nil m)
    split (first ∷ list) m =
        least_alike context (first ∷ list) first list (λ x n. ⊎_elim (λ e. Memᴰ.cast e m) (λ o. o) (Memᴰ.cases_cons n)) (λ x n. Memᴰ.tail n)

-- and there is one exactly where it does
pub none_exactly : (needs : List ℕ) (context : ℕ) → context < 65536
    → eqb (length (passing (meets_all needs) (masks_within context))) 0 ≡ any (is_unmet context) needs
none_exactly needs context small = split (any (is_unmet context) needs) refl
  where
    some : (list : List ℕ) → Memᴰ context list → eqb (length list) 0 ≡ false
    some [] in_List = absurd (Memᴰ.not-nil in_List)
    some (x ∷ list) in_List = ne_eqb (length (x ∷ list)) 0 (omega arith)

    split : (b : Bool) → any (is_unmet context) needs ≡ b → eqb (length (passing (meets_all needs) (masks_within context))) 0 ≡ b
    split true e =
        rw (none_meets_all needs context 0 (omega arith) (subst (λ (set : ℕ). any (is_unmet set) needs ≡ true) (sym (or_zero_l context)) e))
    split false e = some (passing (meets_all needs) (masks_within context)) (context_meets needs context small e)

-- so what is given for these needs is 34, or the mask to which the search from the context comes
pub needed_none : (needs : List ℕ) (context : ℕ) → context < 65536 → any (is_unmet context) needs ≡ true → needed_mask needs context ≡ refused_by 34
unfolding needed_mask
needed_none needs context small unmet = rw (none_exactly needs context small, unmet)

pub needed_found : (needs : List ℕ) (context : ℕ) → context < 65536 → any (is_unmet context) needs ≡ false
    → needed_mask needs context ≡ record { number = 0; mask = least_from needs context 0 context }
unfolding needed_mask
needed_found needs context small met = rw (from_context needs context small met, none_exactly needs context small, met)
