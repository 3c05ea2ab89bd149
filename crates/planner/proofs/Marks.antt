-- What the planner's loop over the contexts has gathered: after the first k, each place holds those of them that are its own context or a descendant of it. One more way up
-- adds one more of them, from what a way that ends has come to, and after the last these are the contexts of the plan.
use Prim.Native.Nat.{ℕ, suc, ◌<◌, ◌≤◌, ◌+◌, ◌-◌}
use mathlib.Core.Path.{◌≡◌, refl, sym, ◌∙◌}
use mathlib.Core.Bool.{Bool, true, false, ◌||◌, or-true}
use mathlib.Core.List.{List}
use mathlib.Core.Logic.{◌⊎◌, ⊎_elim, ⊎_map}
use borrow.Author.Tests.{eqb-true, eq-eqb, ltb-true, ltb-false}
use lib.Dec.{eqb, ltb}
use lib.ListN.{length, replicate}
use native.Mathlib.Numerals.{add-one}
use native.Mathlib.Omega.{arith}
use Rattle.std.proofs.lemmas.Bool.{or_cases, false_from_ne_true, both_ways}
use Rattle.rules.specs.Refusals.{pick}
use Rattle.machine.specs.Calls.{any}
use Rattle.planner.specs.Ancestors.{Ancestor, is_ancestor}
use Rattle.planner.specs.Plan.{each, set_below, global_context, contexts_of, is_count, is_missing, plan_of}
use Rattle.planner.specs.Ways.{ends, marked}
use Rattle.planner.proofs.Ancestry.{ancestry_told, alike}
use Rattle.planner.proofs.Each.{each_same, pad_each}
use Rattle.planner.proofs.Forests.{someones_parent}
use Rattle.planner.proofs.Found.{Listed, listed_by, own_place, cycle_found}
use Rattle.planner.proofs.Numbers.{refused_by, planned_cycle}
use Rattle.planner.proofs.Plans.{planned_free}
use Rattle.planner.proofs.Sets.{set_same, set_more}
use Rattle.planner.proofs.Ways.{on_way, marked_each, own_endless, endless_own, way_exactly}

-- a is j or an ancestor of it
abbrev pub within : List ℕ → (a j : ℕ) → Bool
within list a j = eqb j a || is_ancestor list a j

-- what is gathered of the first k contexts
abbrev pub gathered : List ℕ → (k : ℕ) → List ℕ
gathered list k = each 16 (λ a. set_below k (within list a))

-- before the first context none is gathered
pub none_gathered : (list : List ℕ) → replicate 16 0 ≡ gathered list 0
unfolding each set_below
none_gathered list = refl

module _ (list : List ℕ) (listed : Listed list) where
  within_so : (a j : ℕ) → within list a j ≡ true → (j ≡ a) ⊎ Ancestor list a j
  within_so a j so = ⊎_map (eqb-true j a) (ancestry_told list a j).0 (or_cases (eqb j a) (is_ancestor list a j) so)

  -- the contexts on a way that ends are these
  on_within : (k a : ℕ) → k < length list → ends list (length list) k ≡ true → on_way list (length list) k a ≡ within list a k
  on_within k a below end =
      let exactly = way_exactly list listed.few listed.there (length list) k a below end in
      alike _ _
      (λ on. ⊎_elim (λ same. rw (eq-eqb k a (sym same))) (λ way. rw ((ancestry_told list a k).1 way) (or-true (eqb k a))) (exactly.0 on))
      (λ so. exactly.1 (⊎_map sym (λ way. way) (within_so a k so)))

  pub one_way_more : (k : ℕ) → k < length list → ends list (length list) k ≡ true → marked list (length list) k k (gathered list k) ≡ gathered list (suc k)
  unfolding set_below
  one_way_more k below end =
      marked_each list listed.few (length list) k k (λ a. set_below k (within list a))
      ∙ each_same 16 _ _ (λ a _. rw (on_within k a below end))

  pub all_gathered : gathered list (length list) ≡ contexts_of (is_ancestor list) (length list)
  unfolding set_below
  all_gathered =
      each_same 16 _ _ (λ a _. place a (ltb a (length list)) refl) ∙ sym (pad_each 0 16 (length list) (global_context (is_ancestor list)))
    where
      n : ℕ
      n = length list

      -- a context of the list has no descendant past it
      none_past : (a : ℕ) → a < n → (s : ℕ) → n ≤ s → within list a s ≡ false
      none_past a below s past =
          false_from_ne_true _ (λ so. ⊎_elim (λ same. omega arith) (λ way. omega (arith, own_place list way)) (within_so a s so))

      -- and what is no context has none in it
      none_within : (a : ℕ) → n ≤ a → (s : ℕ) → s < n → within list a s ≡ false
      none_within a past s below =
          false_from_ne_true _ (λ so.
          ⊎_elim (λ same. omega arith) (λ way. let child = someones_parent list way in omega (arith, listed.there a child.0 child.1)) (within_so a s so))

      place : (a : ℕ) (b : Bool) → ltb a n ≡ b → set_below n (within list a) ≡ pick b (global_context (is_ancestor list) a) 0
      place a true e =
          let size : n + (16 - n) ≡ 16 = omega (arith, listed.few) in
          sym (rw size at (set_more n (16 - n) (within list a) (none_past a (ltb-true a n e))))
      place a false e =
          let size : 0 + n ≡ n = omega arith in
          set_same n (within list a) (λ s. false) (none_within a (ltb-false a n e)) ∙ (rw size at (set_more 0 n (λ s. false) (λ s _. refl)))

-- so where neither 30 nor 31 is due, a way that leads round refuses the plan with 32, and where every way ends the plan has what is gathered of all contexts
module _ (list : List ℕ) (count : is_count (length list) ≡ true) (there : any (is_missing (length list)) list ≡ false) where
  listed : Listed list
  listed = listed_by list count there

  pub one_more_gathered : (k : ℕ) → k < length list → ends list (length list) k ≡ true → marked list (length list) k k (gathered list k) ≡ gathered list (k + 1)
  one_more_gathered k below end = rw add-one (one_way_more list listed k below end)

  pub planned_round : (k : ℕ) → ends list (length list) k ≡ false → plan_of list ≡ refused_by 32
  planned_round k endless =
      planned_cycle list (is_ancestor list) count there ((cycle_found list).1 (endless_own list listed.few listed.there k endless))

  pub planned_ways : (sets : List ℕ) → sets ≡ gathered list (length list) → ((k : ℕ) → k < length list → ends list (length list) k ≡ true)
      → plan_of list ≡ record { number = 0; contexts = sets }
  planned_ways sets all end =
      planned_free list listed (λ k way. both_ways _ (own_endless list (length list) k way) (end k (own_place list way)))
      ∙ rw (all, all_gathered list listed)
