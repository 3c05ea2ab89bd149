-- The plan of a ring. In a ring the ancestors of a context are the contexts of greater number, by induction on the way up; so context i gets the bits 0 to i.
use Prim.Native.Nat.{ℕ, zero, suc, ◌+◌, ◌-◌, ◌^◌, ◌<◌, ◌≤◌}
use mathlib.Core.Path.{◌≡◌, refl, sym, ap, subst, ◌∙◌}
use mathlib.Core.Bool.{Bool, true, false, ◌&&◌, ◌||◌, and-true, or_comm}
use mathlib.Core.List.{List}
use mathlib.Core.Logic.{◌⊎◌, inl, inr, ⊎_elim}
use borrow.Author.Tests.{eqb-true, eqb-false, eq-eqb, ne_eqb, ltb-true, lt-ltb}
use lib.Dec.{eqb, ltb}
use lib.ListN.{length, get_or}
use native.Mathlib.Omega.{arith}
use Rattle.rules.specs.Domains.{domain_bit}
use Rattle.rules.specs.Refusals.{pick}
use Rattle.rules.proofs.Bits.{every, every_holds}
use Rattle.rules.proofs.Decided.{and_both}
use Rattle.image.specs.Description.{pad}
use Rattle.planner.specs.Ancestors.{no_parent, is_parent, Ancestor, parent, above, Tells, is_ancestor}
use Rattle.planner.specs.Plan.{each, set_below, set_of, global_context, plan_of}
use Rattle.planner.proofs.Ancestry.{ancestry_told, parent_stands, has_place, told_alike}
use Rattle.planner.proofs.Each.{each_at, each_length, each_same}
use Rattle.planner.proofs.Found.{Listed}
use Rattle.planner.proofs.Plans.{own_ancestor, planned_free, plan_number_exactly}
use Rattle.planner.proofs.Sets.{set_same, below_next}

-- contexts of which each has the next one as its parent, and the last has a parent that is given
abbrev pub row : (last n : ℕ) → List ℕ
row last n = each n (λ k. pick (eqb (1 + k) n) last (1 + k))

module _ (last n : ℕ) where
  row_length : length (row last n) ≡ n
  row_length = each_length n (λ k. pick (eqb (1 + k) n) last (1 + k))

  row_at : (k : ℕ) → k < n → get_or (row last n) k no_parent ≡ pick (eqb (1 + k) n) last (1 + k)
  row_at = each_at no_parent n (λ k. pick (eqb (1 + k) n) last (1 + k))

  -- a parent is the one that is given, or the next context
  row_parent : (p k : ℕ) → is_parent (row last n) p k ≡ true → (p ≡ last) ⊎ ((p ≡ suc k) × (p < n))
  row_parent p k h = split (eqb (1 + k) n) refl
    where
      below : k < n
      below = rw row_length at (has_place (row last n) p k h)

      here : pick (eqb (1 + k) n) last (1 + k) ≡ p
      here = sym (row_at k below) ∙ (parent_stands (row last n) p k h).0

      split : (b : Bool) → eqb (1 + k) n ≡ b → (p ≡ last) ⊎ ((p ≡ suc k) × (p < n))
      split true e = inl (sym (rw e at here))
      split false e =
          let other = eqb-false (1 + k) n e in
          let up : 1 + k ≡ p = rw e at here in
          inr (omega arith, omega (arith, other, below))

  module _ (few : n ≤ 16) where
    next_parent : (k : ℕ) → suc k < n → is_parent (row last n) (suc k) k ≡ true
    next_parent k below =
        let up : pick (eqb (1 + k) n) last (1 + k) ≡ suc k = rw (ne_eqb (1 + k) n (omega arith)) (omega arith) in
        rw (row_at k (omega arith), up, eq-eqb (suc k) (suc k) refl, ne_eqb (suc k) no_parent (omega arith))

    -- every context of greater number is an ancestor
    row_above : (a k : ℕ) → k < a → a < n → Ancestor (row last n) a k
    row_above zero k low below = absurd (omega arith)
    row_above (suc b) k low below = split (eqb b k) refl (λ (h : k < b). row_above b k h (omega arith))
      where
        split : (s : Bool) → eqb b k ≡ s → (k < b → Ancestor (row last n) b k) → Ancestor (row last n) (suc b) k
        split true e rest = rw (eqb-true b k e) (parent (next_parent k (omega (arith, eqb-true b k e))))
        split false e rest =
            let other = eqb-false b k e in
            above (rest (omega (arith, other))) (next_parent b below)

-- RULES 11.5: a ring of n contexts: the next one is the parent, and the last one has none
abbrev pub ring : ℕ → List ℕ
ring n = row no_parent n

ring_parent : (n p k : ℕ) → is_parent (ring n) p k ≡ true → (p ≡ suc k) × (p < n)
ring_parent n p k h = ⊎_elim (λ none. absurd ((parent_stands (ring n) p k h).1 none)) (λ up. up) (row_parent no_parent n p k h)

-- so no other context is an ancestor
ring_above : (n : ℕ) {a k : ℕ} → Ancestor (ring n) a k → (k < a) × (a < n)
ring_above n (parent {p} {k} h) = let up = ring_parent n p k h in (omega (arith, up.0), up.1)
ring_above n (above {p} {a} low h) =
    let up = ring_parent n p a h in
    let rest = ring_above n low in
    (omega (arith, up.0, rest.0), up.1)

module _ (n : ℕ) (few : n ≤ 16) where
  -- so this test tells the ancestors of the ring
  ring_told : Tells (ring n) (λ a k. ltb k a && ltb a n)
  ring_told a k = (there, back)
    where
      there : ltb k a && ltb a n ≡ true → Ancestor (ring n) a k
      there h = let both = and_both (ltb k a) (ltb a n) h in row_above no_parent n few a k (ltb-true k a both.0) (ltb-true a n both.1)

      back : Ancestor (ring n) a k → ltb k a && ltb a n ≡ true
      back way = let both = ring_above n way in rw (lt-ltb k a both.0, lt-ltb a n both.1)

-- the set of the domains below m, computed for each
first_domains : (m : ℕ) → m < 17 → set_of (λ j. ltb j m) ≡ 2 ^ m - 1
unfolding every set_below domain_bit
first_domains m h = eqb-true _ _ (every_holds 17 (λ k. eqb (set_of (λ j. ltb j k)) (2 ^ k - 1)) refl m h)

-- RULES 11.5: a ring of any count from 1 to 16 is accepted, and context i gets the bits 0 to i
pub ring_planned : (n : ℕ) → 1 ≤ n → n ≤ 16
    → plan_of (ring n) ≡ record { number = 0; contexts = pad 16 0 (each n (λ i. 2 ^ (1 + i) - 1)) }
ring_planned n some few =
    planned_free (ring n) listed (λ k way. let both = ring_above n way in omega (arith, both.0))
    ∙ rw size (ap (λ (l : List ℕ). record { number = 0; contexts = pad 16 0 l }) (each_same n (global_context (is_ancestor (ring n))) (λ i. 2 ^ (1 + i) - 1) bits))
  where
    size : length (ring n) ≡ n
    size = row_length no_parent n

    listed : Listed (ring n)
    listed = record { some = rw size some; few = rw size few; there = λ p k h. rw size (ring_parent n p k h).1 }

    bits : (i : ℕ) → i < n → global_context (is_ancestor (ring n)) i ≡ 2 ^ (1 + i) - 1
    bits i below =
        let e : 1 + i ≡ suc i = omega arith in
        rw e
        (set_same 16 (λ j. eqb j i || is_ancestor (ring n) i j) (λ j. ltb j (suc i)) (λ j _.
        rw (told_alike (ring n) (is_ancestor (ring n)) (λ a k. ltb k a && ltb a n) (ancestry_told (ring n)) (ring_told n few) i j, lt-ltb i n below, and-true (ltb j i), below_next j i)
        (or_comm (eqb j i) (ltb j i)))
        ∙ first_domains (suc i) (omega arith))

-- RULES 11.5: a cycle of any count from 1 to 16 is refused: a ring whose last context has the first one as its parent
pub round_refused : (n : ℕ) → 1 ≤ n → n ≤ 16 → (plan_of (row 0 n)).number ≡ 32
round_refused zero some few = absurd (omega arith)
round_refused (suc m) some few =
    (plan_number_exactly (row 0 (suc m)) 32).1 (own_ancestor listed (own (eqb m 0) refl))
  where
    leads_round : is_parent (row 0 (suc m)) 0 m ≡ true
    leads_round = rw (row_at 0 (suc m) m (omega arith), eq-eqb (1 + m) (suc m) (omega arith))

    own : (b : Bool) → eqb m 0 ≡ b → Ancestor (row 0 (suc m)) 0 0
    own true e = parent (subst (λ (x : ℕ). is_parent (row 0 (suc m)) 0 x ≡ true) (eqb-true m 0 e) leads_round)
    own false e =
        let more = eqb-false m 0 e in
        above (row_above 0 (suc m) few m 0 (omega (arith, more)) (omega arith)) leads_round

    listed : Listed (row 0 (suc m))
    listed =
        record {
          some = rw (row_length 0 (suc m)) some;
          few = rw (row_length 0 (suc m)) few;
          there = λ p k h. rw (row_length 0 (suc m)) (⊎_elim (λ zero. omega arith) (λ up. up.1) (row_parent 0 (suc m) p k h));
        }
