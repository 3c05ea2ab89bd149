-- What is promised of the least mask: when each number comes, and of the mask that it is within the global context, allows every pair, and that no other mask that does
-- comes before it; what its users do with it. From the candidates, which are all masks within the context that will do, and the order of masks.
use Prim.Native.Nat.{ℕ, zero, suc, ◌<◌, ◌≤◌}
use mathlib.Core.Path.{◌≡◌, refl, sym, ap, ◌∙◌}
use mathlib.Core.Bool.{Bool, true, false, not, true≢false}
use mathlib.Core.List.Memᴰ
use mathlib.Core.List.{List, [], ◌∷◌, Memᴰ}
use mathlib.Core.Logic.{◌↔◌, ⊎_elim}
use borrow.Author.Tests.{eqb-true, eqb-false, ne_eqb, ltb-true, ltb-false, not-true}
use native.Mathlib.Omega.{arith}
use lib.Bits.{bit_and, and_comm, and_self, and_le_l}
use lib.Count.{ones, ones_in}
use lib.Dec.{eqb, ltb}
use lib.ListN.{length, get_or}
use Rattle.rules.specs.Domains.{holds}
use Rattle.rules.specs.Refusals.{first}
use Rattle.rules.specs.declared.registers.Mode.{Mode}
use Rattle.rules.proofs.Bits.{and_assoc}
use Rattle.rules.proofs.Lowest.{both_held}
use Rattle.machine.specs.Machine.{is_sound, field_of, with_registers}
use Rattle.machine.specs.Calls.{access_checks, any, after, call_of, is_denied, page_of, touched, checks_of, effect_of, silent}
use Rattle.machine.specs.declared.record.Machine.{Machine}
use Rattle.machine.specs.declared.record.Width.{Width}
use Rattle.machine.specs.declared.record.Call.TheVariants.{Access, SetMask}
use Rattle.machine.proofs.Touched.{any_same, neither}
use Rattle.masks.specs.Least.{LeastMask, right_of, page_in, under_mask, denies, will_do, masks_within, candidates, least_of, pair_checks, least_checks, least_mask_of}
use Rattle.masks.specs.Search.{refused_by}
use Rattle.masks.proofs.Bad.{GoodBefore, PairsGive, no_right, no_page, all_good, pairs_exactly}
use Rattle.masks.proofs.Numbers.{unsound_first, too_many, bad_given, none_given, mask_given}
use Rattle.masks.proofs.Order.{Before, before_further, least_before, least_in, in_passing, passing_in, passing_none}
use Rattle.masks.proofs.Pairs.{OnPage, Allows, pair_allowed, under_sound, zero_denies}
use Rattle.masks.proofs.Within.{Within, empty_holds, within_before, within_shared, ones_counted, looked_within, looked_fits, looked_all}

-- RULES 12.2: a mask allows every pair of a list
abbrev pub AllowsAll : Machine → (mask : ℕ) → List ℕ → Type 0
AllowsAll m mask pairs = (i : ℕ) → i < length pairs → Allows m mask (get_or pairs i 0)

-- RULES 12.3: the mask that is looked for. Other masks are any numbers of 16 bits, whether or not they are within the global context.
pub record IsLeast (m : Machine) (pairs : List ℕ) (mask : ℕ) : Type 0 where
  pub fits : mask < 65536
  pub within : (s : ℕ) → holds mask s ≡ true → holds m.registers.context s ≡ true
  pub allows : AllowsAll m mask pairs
  pub fewest : (other : ℕ) → other < 65536 → AllowsAll m other pairs → ones mask ≤ ones other
  pub smallest : (other : ℕ) → other < 65536 → AllowsAll m other pairs → ones other ≡ ones mask → mask ≤ other

-- RULES 12.3 to 12.5: where each number is given, and which mask beside it
pub data LeastGives (m : Machine) (pairs : List ℕ) : (number mask : ℕ) → Type 0 where
  unsound : is_sound m ≡ false → LeastGives m pairs 1 0
  too_long : is_sound m ≡ true → 64 < length pairs → LeastGives m pairs 33 0
  bad_pair : {n : ℕ} → is_sound m ≡ true → length pairs ≤ 64 → PairsGive m.pages pairs n → (n ≡ 0 → ⊥) → LeastGives m pairs n 0
  none : is_sound m ≡ true → length pairs ≤ 64 → GoodBefore m.pages pairs (length pairs)
      → ((mask : ℕ) → mask < 65536 → AllowsAll m mask pairs → ⊥) → LeastGives m pairs 34 0
  found : {mask : ℕ} → is_sound m ≡ true → length pairs ≤ 64 → GoodBefore m.pages pairs (length pairs) → IsLeast m pairs mask
      → LeastGives m pairs 0 mask

-- what no number of a list meets, by its places
none_at : (p : ℕ → Bool) (list : List ℕ) → (any p list ≡ false) ↔ ((i : ℕ) → i < length list → p (get_or list i 0) ≡ false)
none_at p [] = ((λ e i below. absurd (omega arith)), (λ each. refl))
none_at p (x ∷ list) = (
  λ e. let both = neither (p x) (any p list) e in rest (none_at p list).0 both.0 both.1,
  λ each. rw (each 0 (omega arith)) ((none_at p list).1 (λ i below. each (suc i) (omega arith))),
)
  where
    rest : (any p list ≡ false → (i : ℕ) → i < length list → p (get_or list i 0) ≡ false) → (e : p x ≡ false) → any p list ≡ false
        → (i : ℕ) → i < length (x ∷ list) → p (get_or (x ∷ list) i 0) ≡ false
    rest later e others zero below = e
    rest later e others (suc i) below = later others i (omega arith)

-- in user mode with the flag clear the mask command takes every mask that shares a domain with the context, and leaves it live
mask_taken : (m : Machine) → is_sound m ≡ true → (before mask : ℕ) → eqb (bit_and mask m.registers.context) 0 ≡ false
    → call_of (under_mask m before) (SetMask mask) ≡ silent 0 (under_mask m mask)
unfolding call_of checks_of effect_of after
mask_taken m sound before mask some = rw (under_sound m sound before, some)

module _ (m : Machine) (pairs : List ℕ) where
  abbrev context : ℕ
  context = m.registers.context

  -- RULES 12.2: a mask will do exactly where it allows every pair
  pub will_do_lem : (mask : ℕ) → (will_do m pairs mask ≡ true) ↔ AllowsAll m mask pairs
  will_do_lem mask = (
    λ does i below. (pair_allowed m mask (get_or pairs i 0)).0 ((none_at (denies m mask) pairs).0 (not-true _ does) i below),
    λ all. ap not ((none_at (denies m mask) pairs).1 (λ i below. (pair_allowed m mask (get_or pairs i 0)).1 (all i below))),
  )

  -- bits outside the context do not count
  part_judged : (mask : ℕ) (width : Width) (right address : ℕ)
      → (call_of (under_mask m (bit_and mask context)) (Access width right address)).number ≡ (call_of (under_mask m mask) (Access width right address)).number
  unfolding call_of checks_of access_checks is_sound
  part_judged mask width right address =
      rw (any_same denied (touched width address))
    where
      same : bit_and context (bit_and mask context) ≡ bit_and context mask
      same = ap (bit_and context) (and_comm mask context) ∙ sym (and_assoc context context mask) ∙ ap (λ (set : ℕ). bit_and set mask) (and_self context)

      denied : (byte : ℕ) → is_denied (under_mask m (bit_and mask context)) right byte ≡ is_denied (under_mask m mask) right byte
      denied byte = ap (λ (local : ℕ). eqb (bit_and (field_of m right (page_of m byte)) local) 0) same

  -- so of a mask that allows every pair the part within the context does
  part_allows : (mask : ℕ) → AllowsAll m mask pairs → AllowsAll m (bit_and mask context) pairs
  part_allows mask all i below width address on = part_judged mask width (right_of (get_or pairs i 0)) address ∙ all i below width address on

  -- the candidates are the masks within the context that allow every pair
  candidate : (mask : ℕ) → Memᴰ mask (candidates m pairs) → (mask < 65536) × Within mask context × AllowsAll m mask pairs
  candidate mask in_List =
      let passed = passing_in (will_do m pairs) (masks_within context) mask in_List in (
        looked_fits context 0 16 mask (omega arith) passed.0,
        looked_within context context (λ s h. h) 0 16 (λ s h. absurd (true≢false (sym h ∙ empty_holds s))) mask passed.0,
        (will_do_lem mask).0 passed.1,
      )

  part_candidate : (mask : ℕ) → mask < 65536 → AllowsAll m mask pairs → Memᴰ (bit_and mask context) (candidates m pairs)
  part_candidate mask small all =
      in_passing (will_do m pairs) (masks_within context) (bit_and mask context)
      (looked_all context (bit_and mask context) (omega (arith, small, and_le_l mask context)) (λ s held. (both_held mask context s held).1))
      ((will_do_lem (bit_and mask context)).1 (part_allows mask all))

  -- what comes before a mask holds no more domains, and of as many is no greater number
  counts : {one other : ℕ} → one < 65536 → other < 65536 → Before one other → (ones one ≤ ones other) × (ones other ≡ ones one → one ≤ other)
  counts {one} {other} small small' =
      ⊎_elim (λ few. (omega (arith, few, ones_counted 16 one small, ones_counted 16 other small'), λ same. absurd (omega (arith, few, same, ones_counted 16 one small, ones_counted 16 other small'))))
      (λ as_many. (omega (arith, as_many.0, ones_counted 16 one small, ones_counted 16 other small'), λ same. as_many.1))

  -- the least of the candidates, where there is one, is the mask that is looked for
  least_found : (first : ℕ) (list : List ℕ) → candidates m pairs ≡ first ∷ list → IsLeast m pairs (least_of (candidates m pairs))
  least_found first list all =
      let least = least_of (candidates m pairs) in
      let it = candidate least (rw all (least_in first list)) in
      let before : (other : ℕ) → other < 65536 → AllowsAll m other pairs → Before least other = λ other small allowed.
      before_further (rw all (least_before first list (bit_and other context) (rw all at (part_candidate other small allowed))))
      (within_before (bit_and other context) other (omega (arith, small, and_le_l other context)) (λ s held. (both_held other context s held).0)) in
      record {
        fits = it.0;
        within = it.1;
        allows = it.2;
        fewest = λ other small allowed. (counts it.0 small (before other small allowed)).0;
        smallest = λ other small allowed. (counts it.0 small (before other small allowed)).1;
      }

  -- where there is none, no mask allows every pair
  none_found : candidates m pairs ≡ [] → (mask : ℕ) → mask < 65536 → AllowsAll m mask pairs → ⊥
  none_found empty mask small all = Memᴰ.not-nil (rw empty at (part_candidate mask small all))

  -- two masks that are looked for are one
  least_one : {one other : ℕ} → IsLeast m pairs one → IsLeast m pairs other → one ≡ other
  least_one {one} {other} a b =
      let few = a.fewest other b.fits b.allows in
      let many = b.fewest one a.fits a.allows in
      let first = a.smallest other b.fits b.allows (omega (arith, few, many)) in
      let last = b.smallest one a.fits a.allows (omega (arith, few, many)) in
      omega (arith, first, last)

  gives : LeastGives m pairs (least_mask_of m pairs).number (least_mask_of m pairs).mask
  gives = by_sound (is_sound m) refl
    where
      by_masks : is_sound m ≡ true → length pairs ≤ 64 → GoodBefore m.pages pairs (length pairs) → first (pair_checks m.pages pairs) ≡ 0
          → (list : List ℕ) → candidates m pairs ≡ list → LeastGives m pairs (least_mask_of m pairs).number (least_mask_of m pairs).mask
      by_masks sound few good fine [] e = rw (none_given m pairs sound few fine e) (none sound few good (none_found e))
      by_masks sound few good fine (x ∷ list) e = rw (mask_given m pairs sound few fine x list e) (found sound few good (least_found x list e))

      by_pairs : is_sound m ≡ true → length pairs ≤ 64 → (n : ℕ) → first (pair_checks m.pages pairs) ≡ n → PairsGive m.pages pairs n
          → LeastGives m pairs (least_mask_of m pairs).number (least_mask_of m pairs).mask
      by_pairs sound few n e (all_good good) = by_masks sound few good e (candidates m pairs) refl
      by_pairs sound few n e (no_right i below before high) =
          rw (bad_given m pairs sound few (rw e (omega arith)), e) (bad_pair sound few (no_right i below before high) (omega arith))
      by_pairs sound few n e (no_page i below before known past) =
          rw (bad_given m pairs sound few (rw e (omega arith)), e) (bad_pair sound few (no_page i below before known past) (omega arith))

      by_count : is_sound m ≡ true → (b : Bool) → ltb 64 (length pairs) ≡ b → LeastGives m pairs (least_mask_of m pairs).number (least_mask_of m pairs).mask
      by_count sound true e = let many = ltb-true 64 (length pairs) e in rw (too_many m pairs sound many) (too_long sound many)
      by_count sound false e =
          by_pairs sound (ltb-false 64 (length pairs) e) (first (pair_checks m.pages pairs)) refl ((pairs_exactly m.pages pairs _).0 refl)

      by_sound : (b : Bool) → is_sound m ≡ b → LeastGives m pairs (least_mask_of m pairs).number (least_mask_of m pairs).mask
      by_sound true e = by_count e (ltb 64 (length pairs)) refl
      by_sound false e = rw (unsound_first m pairs e) (unsound e)

  given : {number mask : ℕ} → LeastGives m pairs number mask → least_mask_of m pairs ≡ record { number = number; mask = mask }
  given (unsound e) = unsound_first m pairs e
  given (too_long sound many) = too_many m pairs sound many
  given (bad_pair {n} sound few give wrong) =
      let e = (pairs_exactly m.pages pairs n).1 give in
      bad_given m pairs sound few (rw e wrong) ∙ ap refused_by e
  given (none sound few good nothing) =
      none_given m pairs sound few ((pairs_exactly m.pages pairs 0).1 (all_good good))
      (passing_none (will_do m pairs) (masks_within context) (λ mask in_List. fails mask in_List (will_do m pairs mask) refl))
    where
      fails : (mask : ℕ) → Memᴰ mask (masks_within context) → (b : Bool) → will_do m pairs mask ≡ b → b ≡ false
      fails mask in_List true e = absurd (nothing mask (looked_fits context 0 16 mask (omega arith) in_List) ((will_do_lem mask).0 e))
      fails mask in_List false e = refl
  given (found {mask} sound few good it) = by_masks (candidates m pairs) refl
    where
      there : Memᴰ (bit_and mask context) (candidates m pairs)
      there = part_candidate mask it.fits it.allows

      by_masks : (list : List ℕ) → candidates m pairs ≡ list → least_mask_of m pairs ≡ record { number = 0; mask = mask }
      by_masks [] e = absurd (Memᴰ.not-nil (rw e at there))
      by_masks (x ∷ list) e =
          mask_given m pairs sound few ((pairs_exactly m.pages pairs 0).1 (all_good good)) x list e
          ∙ ap (λ (mask : ℕ). record { number = 0; mask = mask }) (least_one (least_found x list e) it)

  -- RULES 12.3 to 12.5: each number exactly where it is due, with the mask beside it
  pub least_exactly : (number mask : ℕ) → (least_mask_of m pairs ≡ record { number = number; mask = mask }) ↔ LeastGives m pairs number mask
  least_exactly number mask = ((λ e. rw e at gives), given)

  -- RULES 12.3: so on 0 the mask is the one that is looked for
  pub least_given : (least_mask_of m pairs).number ≡ 0 → IsLeast m pairs (least_mask_of m pairs).mask
  least_given done = of gives done
    where
      of : {number mask : ℕ} → LeastGives m pairs number mask → number ≡ 0 → IsLeast m pairs mask
      of (unsound e) zero' = absurd (omega arith)
      of (too_long sound many) zero' = absurd (omega arith)
      of (bad_pair sound few give wrong) zero' = absurd (wrong zero')
      of (none sound few good nothing) zero' = absurd (omega arith)
      of (found sound few good it) zero' = it

  sound_given : (least_mask_of m pairs).number ≡ 0 → is_sound m ≡ true
  sound_given done = split (is_sound m) refl
    where
      split : (b : Bool) → is_sound m ≡ b → b ≡ true
      split true e = refl
      split false e = absurd (omega (arith, done, ap (λ (a : LeastMask). a.number) (unsound_first m pairs e)))

  -- RULES 12.5: beside every other number it is 0
  pub refused_mask_zero : ((least_mask_of m pairs).number ≡ 0 → ⊥) → (least_mask_of m pairs).mask ≡ 0
  unfolding least_mask_of
  refused_mask_zero refused = rw (ne_eqb (least_mask_of m pairs).number 0 refused)

  -- so where it is not 0, the number is 0
  not_refused : ((least_mask_of m pairs).mask ≡ 0 → ⊥) → (least_mask_of m pairs).number ≡ 0
  not_refused some = split (eqb (least_mask_of m pairs).number 0) refl
    where
      split : (b : Bool) → eqb (least_mask_of m pairs).number 0 ≡ b → (least_mask_of m pairs).number ≡ 0
      split true e = eqb-true _ 0 e
      split false e = absurd (some (refused_mask_zero (eqb-false _ 0 e)))

  -- RULES 12.6: beside 0 mask 0 is given for an empty list alone
  pub zero_for_none : (least_mask_of m pairs).number ≡ 0 → (least_mask_of m pairs).mask ≡ 0 → length pairs ≡ 0
  zero_for_none done empty = split (eqb (length pairs) 0) refl
    where
      split : (b : Bool) → eqb (length pairs) 0 ≡ b → length pairs ≡ 0
      split true e = eqb-true _ 0 e
      split false e =
          let some = eqb-false (length pairs) 0 e in
          let all : AllowsAll m 0 pairs = rw empty at (least_given done).allows in
          absurd (zero_denies m (get_or pairs 0 0) ((pair_allowed m 0 (get_or pairs 0 0)).1 (all 0 (omega (arith, some)))))

  -- RULES 12.6: where the mask is not 0, the mask command takes it in user mode with the flag clear, whatever the mask before, and after it every access that the pairs
  -- ask for is answered 0
  pub mask_serves : ((least_mask_of m pairs).mask ≡ 0 → ⊥) → (before : ℕ)
      → let taken = call_of (under_mask m before) (SetMask (least_mask_of m pairs).mask) in
      (taken.number ≡ 0)
      × ((i : ℕ) → i < length pairs → (width : Width) (address : ℕ) → OnPage m width address (page_in (get_or pairs i 0))
      → (call_of taken.machine (Access width (right_of (get_or pairs i 0)) address)).number ≡ 0)
  mask_serves some before =
      let done = not_refused some in
      let it = least_given done in
      let whole = within_shared (least_mask_of m pairs).mask context it.fits it.within in
      let taken = mask_taken m (sound_given done) before (least_mask_of m pairs).mask (ne_eqb (bit_and (least_mask_of m pairs).mask context) 0 (rw whole some)) in
      rw taken (refl, λ i below. it.allows i below)

-- RULES 12.5: an empty list gives mask 0
pub empty_list : (m : Machine) → is_sound m ≡ true → least_mask_of m [] ≡ record { number = 0; mask = 0 }
unfolding ones_in
empty_list m sound =
    (least_exactly m [] 0 0).1
    (found sound (omega arith) (λ i below. absurd (omega arith))
    (record {
      fits = omega arith;
      within = λ s held. absurd (true≢false (sym held ∙ empty_holds s));
      allows = λ i below. absurd (omega arith);
      fewest = λ other small allowed. omega (arith, ones_counted 0 0 (omega arith));
      smallest = λ other small allowed same. omega arith;
    }))

-- RULES 12.6: which the mask command refuses with 19
pub empty_refused : (m : Machine) → is_sound m ≡ true → (before : ℕ)
    → call_of (under_mask m before) (SetMask (least_mask_of m []).mask) ≡ silent 19 (under_mask m before)
unfolding call_of checks_of after
empty_refused m sound before =
    ap (λ (given : LeastMask). call_of (under_mask m before) (SetMask given.mask)) (empty_list m sound) ∙ rw (under_sound m sound before)

-- RULES 12.2: the live mask, mode and flag play no part but in soundness
pub registers_aside : (m : Machine) (pairs : List ℕ) (mask : ℕ) (mode : Mode) (pending : Bool)
    → let other = with_registers (record { context = m.registers.context; mask = mask; mode = mode; pending = pending }) m in
    is_sound other ≡ is_sound m → least_mask_of other pairs ≡ least_mask_of m pairs
unfolding least_mask_of least_checks
registers_aside m pairs mask mode pending same = rw same
