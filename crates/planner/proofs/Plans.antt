-- What is promised of a plan, said with ancestors alone: when each number comes, which domains each place holds, and what follows for a context and its children
-- and for two contexts of which neither is the other's ancestor. From the plan's conditions, and by comparing sets domain by domain.
use Prim.Native.Nat.{ℕ, zero, suc, ◌<◌, ◌≤◌}
use mathlib.Core.Path.{◌≡◌, refl, sym, ap, subst, fun_ext, ◌∙◌}
use mathlib.Core.Bool.{Bool, true, false, ◌&&◌, ◌||◌, or-true, true≢false, and-false}
use mathlib.Core.List.{List, [], ◌∷◌}
use mathlib.Core.Logic.{◌↔◌, ◌⊎◌, inl, inr, ⊎_elim, ⊎_map}
use borrow.Author.Tests.{eqb-true, eqb-false, eq-eqb, ne_eqb, leb-false, lt-leb, ltb-true, ltb-false}
use lib.Bits.{bit_and, and_le_l}
use lib.Dec.{eqb, leb, ltb}
use lib.ListN.{length, get_or, replicate, get_or-eq_default}
use native.Mathlib.Omega.{arith}
use Rattle.std.proofs.lemmas.Bool.{or_cases, false_from_ne_true, both_ways}
use Rattle.rules.specs.Domains.{holds}
use Rattle.rules.proofs.Laws.{no_domain_held}
use Rattle.rules.proofs.Lowest.{both_held, held_alike, held_both}
use Rattle.machine.specs.Calls.{any}
use Rattle.machine.specs.Machine.{no_program}
use Rattle.image.specs.Description.{Description, Shaped, Legal}
use Rattle.image.proofs.Entries.{length_pad, pad_at, pad_past}
use Rattle.planner.specs.Ancestors.{is_parent, Ancestor, parent, above, Tells, is_ancestor}
use Rattle.planner.specs.Plan.{Planned, each, global_context, contexts_of, is_count, is_missing, planned_of, plan_of}
use Rattle.planner.proofs.Ancestry.{ancestry_told, has_place, told_alike}
use Rattle.planner.proofs.Each.{each_at, each_length}
use Rattle.planner.proofs.Forests.{on_one_way}
use Rattle.planner.proofs.Found.{Listed, listed_by, missing_exactly, own_place, cycle_found}
use Rattle.planner.proofs.Numbers.{count_exactly, planned_count, planned_missing, planned_cycle, planned_all}
use Rattle.planner.proofs.Sets.{set_holds, set_fits}

-- RULES 11.4: when each number comes
pub data PlanGives (list : List ℕ) : ℕ → Type 0 where
  none_given : length list ≡ 0 → PlanGives list 30
  too_many : 16 < length list → PlanGives list 30
  parent_missing : (p k : ℕ) → 1 ≤ length list → length list ≤ 16 → is_parent list p k ≡ true → length list ≤ p → PlanGives list 31
  own_ancestor : {k : ℕ} → Listed list → Ancestor list k k → PlanGives list 32
  accepted : Listed list → ((k : ℕ) → Ancestor list k k → ⊥) → PlanGives list 0

-- RULES 11.2: every test that tells the ancestors of a list makes its plan
pub plan_one : (list : List ℕ) (test : ℕ → ℕ → Bool) → Tells list test → planned_of list test ≡ plan_of list
plan_one list test told =
    ap (planned_of list) (fun_ext (λ a. fun_ext (told_alike list test (is_ancestor list) told (ancestry_told list) a)))

-- RULES 11.3: a plan that is refused has zero in all sixteen places, whatever refuses it
pub refused_plan_zero : (list : List ℕ) → ((plan_of list).number ≡ 0 → ⊥)
    → (plan_of list).contexts ≡ 0 ∷ 0 ∷ 0 ∷ 0 ∷ 0 ∷ 0 ∷ 0 ∷ 0 ∷ 0 ∷ 0 ∷ 0 ∷ 0 ∷ 0 ∷ 0 ∷ 0 ∷ 0 ∷ []
unfolding planned_of
refused_plan_zero list refused = rw (ne_eqb (plan_of list).number 0 refused)

zeros : (n k : ℕ) → get_or (replicate n 0) k 0 ≡ zero
zeros zero k = refl
zeros (suc n) zero = refl
zeros (suc n) (suc k) = zeros n k

module _ (list : List ℕ) where
  abbrev made : Planned
  made = plan_of list

  abbrev test : ℕ → ℕ → Bool
  test = is_ancestor list

  test_tells : Tells list test
  test_tells = ancestry_told list

  gives : PlanGives list made.number
  gives = by_count (is_count (length list)) refl
    where
      by_cycle : Listed list → is_count (length list) ≡ true → any (is_missing (length list)) list ≡ false
          → (b : Bool) → any (λ k. test k k) (each (length list) (λ k. k)) ≡ b → PlanGives list made.number
      by_cycle listed count there true e =
          let found = (cycle_found list).0 e in
          rw (planned_cycle list test count there e) (own_ancestor listed found.1)
      by_cycle listed count there false e =
          rw (planned_all list test count there e)
          (accepted listed (λ k way. both_ways _ e ((cycle_found list).1 (k, way))))

      by_parents : is_count (length list) ≡ true → (b : Bool) → any (is_missing (length list)) list ≡ b → PlanGives list made.number
      by_parents count true e =
          let range = (count_exactly (length list)).0 count in
          let found = (missing_exactly list).0 e in
          rw (planned_missing list test count e) (parent_missing found.0 found.1 range.0 range.1 found.2 found.3)
      by_parents count false e = by_cycle (listed_by list count e) count e (any (λ k. test k k) (each (length list) (λ k. k))) refl

      out_of_range : (a b : Bool) → leb 1 (length list) ≡ a → leb (length list) 16 ≡ b → a && b ≡ false → PlanGives list 30
      out_of_range true true e f h = absurd (true≢false h)
      out_of_range true false e f h = too_many (leb-false (length list) 16 f)
      out_of_range false b e f h = none_given (omega (arith, leb-false 1 (length list) e))

      by_count : (b : Bool) → is_count (length list) ≡ b → PlanGives list made.number
      by_count true e = by_parents e (any (is_missing (length list)) list) refl
      by_count false e = rw (planned_count list test e) (out_of_range (leb 1 (length list)) (leb (length list) 16) refl refl e)

  none_missing : Listed list → any (is_missing (length list)) list ≡ false
  none_missing listed =
      false_from_ne_true _ (λ found.
      let missing = (missing_exactly list).0 found in
      omega (arith, listed.there missing.0 missing.1 missing.2, missing.3))

  pub planned_free : Listed list → ((k : ℕ) → Ancestor list k k → ⊥) → made ≡ record { number = 0; contexts = contexts_of test (length list) }
  planned_free listed free =
      planned_all list test ((count_exactly (length list)).1 (listed.some, listed.few)) (none_missing listed)
      (false_from_ne_true _ (λ found. let at = (cycle_found list).0 found in free at.0 at.1))

  given : {n : ℕ} → PlanGives list n → made.number ≡ n
  given (none_given h) = rw (planned_count list test (rw h))
  given (too_many h) = rw (planned_count list test (rw (lt-leb (length list) 16 h) (and-false (leb 1 (length list)))))
  given (parent_missing p k some few h past) =
      rw (planned_missing list test ((count_exactly (length list)).1 (some, few)) ((missing_exactly list).1 (p, k, h, past)))
  given (own_ancestor {k} listed way) =
      rw (planned_cycle list test ((count_exactly (length list)).1 (listed.some, listed.few)) (none_missing listed) ((cycle_found list).1 (k, way)))
  given (accepted listed free) = rw (planned_free listed free)

  -- RULES 11.4: each number comes where its condition says, and nowhere else; there are no others
  pub plan_number_exactly : (n : ℕ) → (made.number ≡ n) ↔ PlanGives list n
  plan_number_exactly n = ((λ e. subst (PlanGives list) e gives), given)

  module _ (done : made.number ≡ 0) where
    planned_places : made.contexts ≡ contexts_of test (length list)
    unfolding planned_of
    planned_places = rw done

    pub listed : Listed list × ((k : ℕ) → Ancestor list k k → ⊥)
    listed = of made.number gives done
      where
        of : (n : ℕ) → PlanGives list n → n ≡ 0 → Listed list × ((k : ℕ) → Ancestor list k k → ⊥)
        of n (none_given h) e = absurd (omega arith)
        of n (too_many h) e = absurd (omega arith)
        of n (parent_missing p k some few h past) e = absurd (omega arith)
        of n (own_ancestor l way) e = absurd (omega arith)
        of n (accepted l free) e = (l, free)

    -- what stands at a context's place
    place : (k : ℕ) → k < length list → get_or made.contexts k 0 ≡ global_context test k
    place k below =
        rw planned_places
        (pad_at 0 16 (each (length list) (global_context test)) k (omega (arith, listed.0.few))
        ∙ each_at 0 (length list) (global_context test) k below)

    -- RULES 11.3: a context's place holds its own domain and those of its descendants, and no others
    pub context_exactly : (k j : ℕ) → k < length list → (holds (get_or made.contexts k 0) j ≡ true) ↔ ((j ≡ k) ⊎ Ancestor list k j)
    context_exactly k j below = rw (place k below) (there (ltb j 16) refl, back)
      where
        within : j < 16 → holds (global_context test k) j ≡ eqb j k || test k j
        within known = set_holds (λ s. eqb s k || test k s) j known

        there : (b : Bool) → ltb j 16 ≡ b → holds (global_context test k) j ≡ true → (j ≡ k) ⊎ Ancestor list k j
        there true e held =
            ⊎_map (eqb-true j k) (test_tells k j).0 (or_cases (eqb j k) (test k j) (sym (within (ltb-true j 16 e)) ∙ held))
        there false e held = absurd (both_ways _ (no_domain_held (global_context test k) j (ltb-false j 16 e)) held)

        back : (j ≡ k) ⊎ Ancestor list k j → holds (global_context test k) j ≡ true
        back (inl same) = within (omega (arith, listed.0.few)) ∙ rw (eq-eqb j k same)
        back (inr way) = within (omega (arith, listed.0.few, own_place list way)) ∙ rw ((test_tells k j).1 way) (or-true (eqb j k))

    -- RULES 11.3: the places past the last context are zero
    pub places_past_zero : (k : ℕ) → length list ≤ k → get_or made.contexts k 0 ≡ 0
    places_past_zero k past =
        rw planned_places (pad_past 0 16 (each (length list) (global_context test)) k (rw (each_length (length list) (global_context test)) past))

    small : (k : ℕ) → k < length list → get_or made.contexts k 0 < 65536
    small k below = rw (place k below) (set_fits (λ s. eqb s k || test k s))

    -- RULES 11.6: a context contains the contexts of its children
    pub child_contained : (p k : ℕ) → is_parent list p k ≡ true
        → bit_and (get_or made.contexts k 0) (get_or made.contexts p 0) ≡ get_or made.contexts k 0
    child_contained p k h =
        held_alike _ _ (omega (arith, and_le_l (get_or made.contexts k 0) (get_or made.contexts p 0), small k here)) (small k here) (λ s _.
        rw (held_both (get_or made.contexts k 0) (get_or made.contexts p 0) s)
        (kept (holds (get_or made.contexts k 0) s) (holds (get_or made.contexts p 0) s) (λ held.
        (context_exactly p s (listed.0.there p k h)).1 (inr (up s ((context_exactly k s here).0 held))))))
      where
        here : k < length list
        here = has_place list p k h

        up : (s : ℕ) → (s ≡ k) ⊎ Ancestor list k s → Ancestor list p s
        up s (inl same) = rw same (parent h)
        up s (inr way) = above way h

        kept : (a b : Bool) → (a ≡ true → b ≡ true) → a && b ≡ a
        kept true b also = also refl
        kept false b also = refl

    -- RULES 11.6: two different contexts, of which neither is an ancestor of the other, share no domain
    pub unrelated_apart : (a b : ℕ) → a < length list → b < length list
        → (a ≡ b → ⊥) → (Ancestor list a b → ⊥) → (Ancestor list b a → ⊥) → bit_and (get_or made.contexts a 0) (get_or made.contexts b 0) ≡ 0
    unrelated_apart a b here there differ under over =
        held_alike _ _ (omega (arith, and_le_l (get_or made.contexts a 0) (get_or made.contexts b 0), small a here)) (omega arith) (λ s _.
        false_from_ne_true _ (λ held.
        let both = both_held (get_or made.contexts a 0) (get_or made.contexts b 0) s held in
        clash s ((context_exactly a s here).0 both.0) ((context_exactly b s there).0 both.1)))
      where
        clash : (s : ℕ) → (s ≡ a) ⊎ Ancestor list a s → (s ≡ b) ⊎ Ancestor list b s → ⊥
        clash s (inl e) (inl f) = differ (sym e ∙ f)
        clash s (inl e) (inr way) = over (rw e at way)
        clash s (inr way) (inl f) = under (rw f at way)
        clash s (inr low) (inr way) = ⊎_elim differ (λ one. ⊎_elim under over one) (on_one_way list low way)

  -- RULES 11.3: there are sixteen places, and what stands in each is a number of sixteen bits, also where the plan is refused
  pub places_fit : (length made.contexts ≡ 16) × ((k : ℕ) → get_or made.contexts k 0 < 65536)
  places_fit = split (eqb made.number 0) refl
    where
      split : (b : Bool) → eqb made.number 0 ≡ b → (length made.contexts ≡ 16) × ((k : ℕ) → get_or made.contexts k 0 < 65536)
      split true e =
          let done = eqb-true made.number 0 e in
          (rw (planned_places done) (length_pad 0 16 (each (length list) (global_context test))), λ k. at done k (ltb k (length list)) refl)
        where
          at : made.number ≡ 0 → (k : ℕ) → (b : Bool) → ltb k (length list) ≡ b → get_or made.contexts k 0 < 65536
          at done k true h = small done k (ltb-true k (length list) h)
          at done k false h = rw (places_past_zero done k (ltb-false k (length list) h)) (omega arith)
      split false e = rw (refused_plan_zero list (eqb-false made.number 0 e)) (refl, λ k. rw (zeros 16 k) (omega arith))

  -- RULES 11.6: an image whose programs have their global contexts from a plan is legal, as far as its counts, fields and masks are
  pub planned_legal : (d : Description) → Shaped d → ((i : ℕ) → get_or d.fields i 0 < 65536) → ((i : ℕ) → (get_or d.programs i no_program).mask < 65536)
      → ((i : ℕ) → i < length d.programs → (k : ℕ) × ((get_or d.programs i no_program).context ≡ get_or made.contexts k 0)) → Legal d
  planned_legal d shaped fields masks planned =
      record { counts = shaped; fields_fit = fields; contexts_fit = λ i. fits i (ltb i (length d.programs)) refl; masks_fit = masks }
    where
      fits : (i : ℕ) (b : Bool) → ltb i (length d.programs) ≡ b → (get_or d.programs i no_program).context < 65536
      fits i true e = let from = planned i (ltb-true i (length d.programs) e) in rw from.1 (places_fit.1 from.0)
      fits i false e = rw (get_or-eq_default d.programs no_program (ltb-false i (length d.programs) e)) (omega arith)
