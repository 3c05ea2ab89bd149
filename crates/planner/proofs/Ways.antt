-- The way up from a context, as the planner's loop goes it: one turn of the loop; the contexts that a way which ends has come to, by induction on how many are left; and that a way which does
-- not end comes to some context twice, since it has then stood at one context more than there are.
use Prim.Native.Nat.{ℕ, zero, suc, ◌+◌, ◌-◌, ◌<◌, ◌≤◌}
use mathlib.Core.Path.{◌≡◌, refl, sym, subst, ◌∙◌}
use mathlib.Core.Bool.{Bool, true, false, ◌||◌, or-true, or-false, true≢false}
use mathlib.Core.List.{List}
use mathlib.Core.Logic.{◌↔◌, ◌⊎◌, inl, ⊎_elim, ⊎_map}
use borrow.Author.Tests.{eqb-true, eq-eqb, ne_eqb, ltb-true, ltb-false, lt-ltb, le-ltb, le-leb, lt-leb, leb-false}
use lib.Dec.{eqb, ltb}
use lib.ListN.{length, get_or, set}
use native.Mathlib.Omega.{arith}
use Rattle.std.proofs.lemmas.Bool.{or_cases}
use Rattle.rules.specs.Domains.{domain_bit, with_bit}
use Rattle.rules.specs.Refusals.{pick}
use Rattle.rules.proofs.Bits.{or_twice}
use Rattle.planner.specs.Ancestors.{no_parent, is_parent, Ancestor, parent, above}
use Rattle.planner.specs.Plan.{each}
use Rattle.planner.specs.Ways.{ends, marked}
use Rattle.planner.proofs.Ancestry.{parent_stands}
use Rattle.planner.proofs.Each.{each_at, each_same, each_set}
use Rattle.planner.proofs.Forests.{first_parent, from_parent, ancestor_over}
use Rattle.planner.proofs.Found.{own_place}
use Rattle.planner.proofs.Pigeonhole.{pigeonhole}

-- ---- a turn of the loop

module _ (list : List ℕ) (at domain : ℕ) (sets : List ℕ) where
  -- out of the list
  pub out_ends : (left : ℕ) → length list ≤ at → (ends list left at ≡ true) × (marked list left at domain sets ≡ sets)
  unfolding ends marked
  out_ends zero h = (le-leb (length list) at h, refl)
  out_ends (suc left) h = rw (le-ltb at (length list) h) (refl, refl)

  -- at a context, with none left
  pub none_left : at < length list → (ends list 0 at ≡ false) × (marked list 0 at domain sets ≡ sets)
  unfolding ends marked
  none_left h = (lt-leb (length list) at h, refl)

  -- at a context: on to its parent
  pub goes_up : (left : ℕ) → at < length list → (left ≡ 0 → ⊥)
      → (ends list left at ≡ ends list (left - 1) (get_or list at no_parent))
      × (marked list left at domain sets ≡ marked list (left - 1) (get_or list at no_parent) domain (set sets at (with_bit (get_or sets at 0) domain)))
  unfolding ends marked
  goes_up zero h some = absurd (some refl)
  goes_up (suc left) h some =
      let e : suc left - 1 ≡ left = omega arith in
      rw (lt-ltb at (length list) h, e) (refl, refl)

-- ---- the contexts that it comes to

-- a is one of the first so many contexts on the way up
unfoldable pub on_way : List ℕ → (left at a : ℕ) → Bool
on_way list zero at a = false
on_way list (suc left) at a = pick (ltb at (length list)) (eqb a at || on_way list left (get_or list at no_parent) a) false

-- these are the ones that are marked
pub marked_each : (list : List ℕ) → length list ≤ 16 → (left at domain : ℕ) (of : ℕ → ℕ)
    → marked list left at domain (each 16 of) ≡ each 16 (λ a. pick (on_way list left at a) (with_bit (of a) domain) (of a))
unfolding marked on_way
marked_each list few zero at domain of = refl
marked_each list few (suc left) at domain of =
    go (ltb at (length list)) refl (marked_each list few left (get_or list at no_parent) domain here)
  where
    here : ℕ → ℕ
    here a = pick (eqb a at) (with_bit (of at) domain) (of a)

    stored : at < length list → set (each 16 of) at (with_bit (get_or (each 16 of) at 0) domain) ≡ each 16 here
    stored below = rw (each_at 0 16 of at (omega arith)) (each_set 16 of at (with_bit (of at) domain))

    both : (a : ℕ) (w b : Bool) → eqb a at ≡ b
        → pick w (with_bit (pick b (with_bit (of at) domain) (of a)) domain) (pick b (with_bit (of at) domain) (of a)) ≡ pick (b || w) (with_bit (of a) domain) (of a)
    both a true true e = rw (eqb-true a at e) (or_twice (of at) (domain_bit domain))
    both a false true e = rw (eqb-true a at e)
    both a w false e = refl

    go : (b : Bool) → ltb at (length list) ≡ b
        → marked list left (get_or list at no_parent) domain (each 16 here)
        ≡ each 16 (λ a. pick (on_way list left (get_or list at no_parent) a) (with_bit (here a) domain) (here a))
        → pick b (marked list left (get_or list at no_parent) domain (set (each 16 of) at (with_bit (get_or (each 16 of) at 0) domain))) (each 16 of)
        ≡ each 16 (λ a. pick (pick b (eqb a at || on_way list left (get_or list at no_parent) a) false) (with_bit (of a) domain) (of a))
    go false e rest = refl
    go true e rest =
        rw (stored (ltb-true at (length list) e)) (rest ∙ each_same 16 _ _ (λ a _. both a (on_way list left (get_or list at no_parent) a) (eqb a at) refl))

-- a context that is its own ancestor has a way that does not end
pub own_endless : (list : List ℕ) (left k : ℕ) → Ancestor list k k → ends list left k ≡ false
unfolding ends
own_endless list zero k way = lt-leb (length list) k (own_place list way)
own_endless list (suc left) k way =
    let up = first_parent list way in
    let stands = (parent_stands list up.0 k up.1).0 in
    rw (lt-ltb k (length list) (own_place list way), stands)
    (own_endless list left up.0 (⊎_elim (λ same. subst (λ (x : ℕ). Ancestor list x x) (sym same) way) (λ high. ancestor_over list (parent up.1) high) (from_parent list up.0 up.1 way)))

-- where every parent is a context of the list, the way comes to the context itself and its ancestors, where it ends; one that does not end comes to a context twice
module _ (list : List ℕ) (few : length list ≤ 16) (there : (p k : ℕ) → is_parent list p k ≡ true → p < length list) where
  -- what stands at a context's place is its parent, where it is in the list
  in_list : (k : ℕ) → get_or list k no_parent < length list → is_parent list (get_or list k no_parent) k ≡ true
  in_list k below = rw (eq-eqb (get_or list k no_parent) (get_or list k no_parent) refl, ne_eqb (get_or list k no_parent) no_parent (omega arith))

  -- and where it is not, there is no ancestor
  out_of_list : {a : ℕ} (k : ℕ) → length list ≤ get_or list k no_parent → Ancestor list a k → ⊥
  out_of_list k past way =
      let up = first_parent list way in
      omega (arith, there up.0 k up.1, (parent_stands list up.0 k up.1).0)

  not_on_way : (left at a : ℕ) → length list ≤ at → on_way list left at a ≡ false
  unfolding on_way
  not_on_way zero at a past = refl
  not_on_way (suc left) at a past = rw (le-ltb at (length list) past)

  pub way_exactly : (left at a : ℕ) → at < length list → ends list left at ≡ true → (on_way list left at a ≡ true) ↔ ((a ≡ at) ⊎ Ancestor list a at)
  unfolding ends on_way
  way_exactly zero at a below end = absurd (true≢false (sym end ∙ lt-leb (length list) at below))
  way_exactly (suc left) at a below end =
      rw (lt-ltb at (length list) below) (go (ltb up (length list)) refl (rw (lt-ltb at (length list) below) at end) (way_exactly left up a))
    where
      up : ℕ
      up = get_or list at no_parent

      go : (b : Bool) → ltb up (length list) ≡ b → ends list left up ≡ true
          → (up < length list → ends list left up ≡ true → (on_way list left up a ≡ true) ↔ ((a ≡ up) ⊎ Ancestor list a up))
          → (eqb a at || on_way list left up a ≡ true) ↔ ((a ≡ at) ⊎ Ancestor list a at)
      go true e end rest =
          let inside = ltb-true up (length list) e in
          let h = in_list at inside in
          let more = rest inside end in (
            (λ on. ⊎_map (eqb-true a at) (λ on. ⊎_elim (λ same. rw same (parent h)) (λ way. ancestor_over list way (parent h)) (more.0 on)) (or_cases (eqb a at) (on_way list left up a) on)),
            ⊎_elim (λ same. rw (eq-eqb a at same))
                (λ way. rw (more.1 (⊎_map (λ same. sym same) (λ high. high) (from_parent list up h way))) (or-true (eqb a at))),
          )
      go false e end rest =
          let past = ltb-false up (length list) e in
          rw (not_on_way left up a past, or-false (eqb a at)) (
            (λ on. inl (eqb-true a at on)),
            ⊎_elim (eq-eqb a at) (λ way. absurd (out_of_list at past way)),
          )

  -- the context that stands so many steps up
  up : ℕ → ℕ → ℕ
  up zero at = at
  up (suc i) at = up i (get_or list at no_parent)

  up_next : (i at : ℕ) → up (suc i) at ≡ get_or list (up i at) no_parent
  unfolding up
  up_next zero at = refl
  up_next (suc i) at = up_next i (get_or list at no_parent)

  -- all contexts on a way that does not end are in the list
  up_inside : (left at i : ℕ) → ends list left at ≡ false → i ≤ left → up i at < length list
  unfolding up ends
  up_inside zero at zero endless h = leb-false (length list) at endless
  up_inside zero at (suc i) endless h = absurd (omega arith)
  up_inside (suc left) at i endless h = go (ltb at (length list)) refl i h endless (up_inside left (get_or list at no_parent))
    where
      go : (b : Bool) → ltb at (length list) ≡ b → (i : ℕ) → i ≤ suc left → pick b (ends list left (get_or list at no_parent)) true ≡ false
          → ((i : ℕ) → ends list left (get_or list at no_parent) ≡ false → i ≤ left → up i (get_or list at no_parent) < length list) → up i at < length list
      go true e zero h endless rest = ltb-true at (length list) e
      go true e (suc i) h endless rest = rest i endless (omega arith)
      go false e i h endless rest = absurd (true≢false endless)

  -- so a later one is an ancestor of an earlier one
  up_ancestor : (left at i more : ℕ) → ends list left at ≡ false → suc (i + more) ≤ left → Ancestor list (up (suc (i + more)) at) (up i at)
  up_ancestor left at i zero endless h =
      let same : suc (i + 0) ≡ suc i = omega arith in
      rw (same, up_next i at) (parent (in_list (up i at) (rw (up_next i at) at (up_inside left at (suc i) endless (omega arith)))))
  up_ancestor left at i (suc more) endless h =
      let same : suc (i + suc more) ≡ suc (suc (i + more)) = omega arith in
      rw (same, up_next (suc (i + more)) at)
      (above (up_ancestor left at i more endless (omega arith))
      (in_list (up (suc (i + more)) at) (rw (up_next (suc (i + more)) at) at (up_inside left at (suc (suc (i + more))) endless (omega arith)))))

  -- and one of as many steps as there are contexts comes to one of them twice, which is then its own ancestor
  pub endless_own : (k : ℕ) → ends list (length list) k ≡ false → (a : ℕ) × Ancestor list a a
  endless_own k endless =
      let twice = pigeonhole (length list) (λ i. up i k) (λ i h. up_inside (length list) k i endless h) in
      let i = twice.0 in
      let j = twice.1 in
      let apart : suc (i + (j - suc i)) ≡ j = omega (arith, twice.2) in
      let way : Ancestor list (up j k) (up i k) = rw apart at (up_ancestor (length list) k i (j - suc i) endless (omega (arith, twice.2, twice.3))) in
      (up i k, rw (← twice.4) at way)
