-- Some number of a list meets a condition exactly where one at a place does, by induction on the list; so some parent is missing, and some context is its own ancestor, exactly where the
-- tests of a plan find one.
use Prim.Native.Nat.{ℕ, zero, suc, ◌<◌, ◌≤◌}
use mathlib.Core.Path.{◌≡◌, refl, sym}
use mathlib.Core.Bool.{Bool, true, false, not, ◌||◌, or-true, true≢false}
use mathlib.Core.List.{List, [], ◌∷◌}
use mathlib.Core.Logic.{◌↔◌}
use borrow.Author.Tests.{eq-eqb, ne_eqb, leb-true, le-leb, ltb-true, ltb-false}
use lib.Dec.{eqb, leb, ltb}
use lib.ListN.{length, get_or}
use native.Mathlib.Omega.{arith}
use Rattle.std.proofs.lemmas.Bool.{both_ways}
use Rattle.rules.proofs.Decided.{and_both}
use Rattle.machine.specs.Calls.{any}
use Rattle.planner.specs.Ancestors.{no_parent, is_parent, Ancestor, parent, above, is_ancestor}
use Rattle.planner.specs.Plan.{each, is_count, is_missing}
use Rattle.planner.proofs.Ancestry.{ancestry_told, parent_stands, has_place}
use Rattle.planner.proofs.Each.{each_at, each_length}
use Rattle.planner.proofs.Numbers.{count_exactly}

module _ (p : ℕ → Bool) (d : ℕ) where
  any_met : (l : List ℕ) (i : ℕ) → i < length l → p (get_or l i d) ≡ true → any p l ≡ true
  any_met [] i h met = absurd (omega arith)
  any_met (x ∷ l) zero h met = rw met
  any_met (x ∷ l) (suc i) h met = rw (any_met l i (omega arith) met) (or-true (p x))

  any_found : (l : List ℕ) → any p l ≡ true → (i : ℕ) × (i < length l) × (p (get_or l i d) ≡ true)
  any_found [] found = absurd (true≢false (sym found))
  any_found (x ∷ l) found = go (p x) refl found (any_found l)
    where
      go : (b : Bool) → p x ≡ b → b || any p l ≡ true → (any p l ≡ true → (i : ℕ) × (i < length l) × (p (get_or l i d) ≡ true))
          → (i : ℕ) × (i < suc (length l)) × (p (get_or (x ∷ l) i d) ≡ true)
      go true e h rest = (0, omega arith, e)
      go false e h rest = let found = rest h in (suc found.0, omega (arith, found.1), found.2)

-- RULES 11.4: a parent that is none of the contexts
pub missing_exactly : (list : List ℕ)
    → (any (is_missing (length list)) list ≡ true) ↔ ((p : ℕ) × (k : ℕ) × (is_parent list p k ≡ true) × (length list ≤ p))
missing_exactly list = (there, back)
  where
    there : any (is_missing (length list)) list ≡ true → (p : ℕ) × (k : ℕ) × (is_parent list p k ≡ true) × (length list ≤ p)
    there found =
        let at = any_found (is_missing (length list)) no_parent list found in
        let p = get_or list at.0 no_parent in
        let both = and_both (not (eqb p no_parent)) (leb (length list) p) at.2 in
        (p, at.0, rw (eq-eqb p p refl) both.0, leb-true (length list) p both.1)

    back : (p : ℕ) × (k : ℕ) × (is_parent list p k ≡ true) × (length list ≤ p) → any (is_missing (length list)) list ≡ true
    back (p, k, h, past) =
        let stands = parent_stands list p k h in
        any_met (is_missing (length list)) no_parent list k (has_place list p k h)
        (rw (stands.0, ne_eqb p no_parent stands.1, le-leb (length list) p past))

-- RULES 11.4: as many contexts as have a plan, and every parent among them
pub record Listed (list : List ℕ) : Type 0 where
  pub some : 1 ≤ length list
  pub few : length list ≤ 16
  pub there : (p k : ℕ) → is_parent list p k ≡ true → p < length list

pub listed_by : (list : List ℕ) → is_count (length list) ≡ true → any (is_missing (length list)) list ≡ false → Listed list
listed_by list count none =
    let range = (count_exactly (length list)).0 count in
    record { some = range.0; few = range.1; there = λ p k h. split p k h (ltb p (length list)) refl }
  where
    split : (p k : ℕ) → is_parent list p k ≡ true → (b : Bool) → ltb p (length list) ≡ b → p < length list
    split p k h true e = ltb-true p (length list) e
    split p k h false e = absurd (both_ways _ none ((missing_exactly list).1 (p, k, h, ltb-false p (length list) e)))

-- whatever has an ancestor is a context of the list
pub own_place : (list : List ℕ) {a k : ℕ} → Ancestor list a k → k < length list
own_place list (parent {p} {k} h) = has_place list p k h
own_place list (above low h) = own_place list low

-- RULES 11.4: a context that is its own ancestor
pub cycle_found : (list : List ℕ) → (any (λ k. is_ancestor list k k) (each (length list) (λ k. k)) ≡ true) ↔ ((k : ℕ) × Ancestor list k k)
cycle_found list = (there, back)
  where
    there : any (λ k. is_ancestor list k k) (each (length list) (λ k. k)) ≡ true → (k : ℕ) × Ancestor list k k
    there found =
        let at = any_found (λ k. is_ancestor list k k) 0 (each (length list) (λ k. k)) found in
        let k = get_or (each (length list) (λ k. k)) at.0 0 in
        (k, (ancestry_told list k k).0 at.2)

    back : (k : ℕ) × Ancestor list k k → any (λ k. is_ancestor list k k) (each (length list) (λ k. k)) ≡ true
    back (k, way) =
        let below = own_place list way in
        any_met (λ k. is_ancestor list k k) 0 (each (length list) (λ k. k)) k (rw (each_length (length list) (λ k. k)) below)
        (rw (each_at 0 (length list) (λ k. k) k below) ((ancestry_told list k k).1 way))
