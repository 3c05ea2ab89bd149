-- Every list has a test that tells its ancestors. By allowing one context after the other between the two: a is reached from k through contexts below m + 1 either without m, or m is reached from k and a
-- from m, both through contexts below m.
use Prim.Native.Nat.{ℕ, zero, suc, ◌<◌}
use mathlib.Core.Path.{◌≡◌, refl, sym, ◌∙◌}
use mathlib.Core.Bool.{Bool, true, false, not, ◌&&◌, or-true}
use mathlib.Core.List.{List}
use mathlib.Core.Logic.{◌⊎◌, inl, inr, ⊎_elim}
use borrow.Author.Tests.{eqb-true, eqb-false, ltb-true, ltb-false, not-true}
use lib.Dec.{eqb, ltb}
use lib.ListN.{length, get_or, get_or-eq_default}
use native.Mathlib.Omega.{arith}
use Rattle.std.proofs.lemmas.Bool.{or_cases}
use Rattle.rules.proofs.Decided.{and_both}
use Rattle.planner.specs.Ancestors.{no_parent, is_parent, Ancestor, parent, above, Tells, reaches, is_ancestor}

-- what stands at a context's place, where it has a parent
pub parent_stands : (list : List ℕ) (p k : ℕ) → is_parent list p k ≡ true → (get_or list k no_parent ≡ p) × (p ≡ no_parent → ⊥)
parent_stands list p k h =
    let both = and_both (eqb (get_or list k no_parent) p) (not (eqb p no_parent)) h in
    (eqb-true _ _ both.0, eqb-false p no_parent (not-true (eqb p no_parent) both.1))

-- only a context of the list has a parent
pub has_place : (list : List ℕ) (p k : ℕ) → is_parent list p k ≡ true → k < length list
has_place list p k h = split (ltb k (length list)) refl
  where
    stands : (get_or list k no_parent ≡ p) × (p ≡ no_parent → ⊥)
    stands = parent_stands list p k h

    split : (b : Bool) → ltb k (length list) ≡ b → k < length list
    split true e = ltb-true k (length list) e
    split false e =
        absurd (stands.1 (sym stands.0 ∙ get_or-eq_default list no_parent (ltb-false k (length list) e)))

-- two tests of which each says yes where the other does are the same
pub alike : (a b : Bool) → (a ≡ true → b ≡ true) → (b ≡ true → a ≡ true) → a ≡ b
alike true b there back = sym (there refl)
alike false true there back = back refl
alike false false there back = refl

module _ (list : List ℕ) where
  -- a is an ancestor of k, and every context between the two is below m
  data Through (m : ℕ) : (a k : ℕ) → Type 0 where
    next : {p k : ℕ} → is_parent list p k ≡ true → Through m p k
    over : {p a k : ℕ} → Through m a k → a < m → is_parent list p a ≡ true → Through m p k

  widen : (m : ℕ) {a k : ℕ} → Through m a k → Through (suc m) a k
  widen m (next h) = next h
  widen m (over way below h) = over (widen m way) (omega arith) h

  -- by induction on the upper way, which begins at m
  join_at : (m n : ℕ) {a k : ℕ} → Through m m k → Through m a n → n ≡ m → Through (suc m) a k
  join_at m n low (next h) e = over (widen m low) (omega arith) (rw e at h)
  join_at m n low (over way below h) e = over (join_at m n low way e) (omega arith) h

  join : (m : ℕ) {a k : ℕ} → Through m m k → Through m a m → Through (suc m) a k
  join m low high = join_at m m low high refl

  split : (m : ℕ) {a k : ℕ} → Through (suc m) a k → Through m a k ⊎ (Through m m k × Through m a m)
  split m (next h) = inl (next h)
  split m (over {p} {a} {k} way below h) = go (eqb a m) refl (split m way)
    where
      go : (b : Bool) → eqb a m ≡ b → Through m a k ⊎ (Through m m k × Through m a m) → Through m p k ⊎ (Through m m k × Through m p m)
      go true e (inl short) = inr (rw (eqb-true a m e) at short, next (rw (eqb-true a m e) at h))
      go true e (inr (low, high)) = inr (low, next (rw (eqb-true a m e) at h))
      go false e (inl short) = inl (over short (omega (arith, eqb-false a m e)) h)
      go false e (inr (low, high)) = inr (low, over high (omega (arith, eqb-false a m e)) h)

  reaches_way : (m a k : ℕ) → reaches list m a k ≡ true → Through m a k
  unfolding reaches
  reaches_way zero a k h = next h
  reaches_way (suc m) a k h =
      ⊎_elim (λ short. widen m (reaches_way m a k short))
      (λ both.
      let each = and_both (reaches list m m k) (reaches list m a m) both in
      join m (reaches_way m m k each.0) (reaches_way m a m each.1))
      (or_cases (reaches list m a k) (reaches list m m k && reaches list m a m) h)

  way_reaches : (m a k : ℕ) → Through m a k → reaches list m a k ≡ true
  unfolding reaches
  way_reaches zero a k (next h) = h
  way_reaches zero a k (over way below h) = absurd (omega arith)
  way_reaches (suc m) a k way =
      ⊎_elim (λ short. rw (way_reaches m a k short))
      (λ both. rw (way_reaches m m k both.0, way_reaches m a m both.1) (or-true (reaches list m a k)))
      (split m way)

  -- between two contexts there are only contexts of the list, since each has a parent
  ancestor_way : {a k : ℕ} → Ancestor list a k → Through (length list) a k
  ancestor_way (parent h) = next h
  ancestor_way (above {p} {a} {k} low h) = over (ancestor_way low) (has_place list p a h) h

  way_ancestor : (m : ℕ) {a k : ℕ} → Through m a k → Ancestor list a k
  way_ancestor m (next h) = parent h
  way_ancestor m (over way below h) = above (way_ancestor m way) h

  -- RULES 11.2: so the test tells the ancestors of the list, whatever the list is
  pub ancestry_told : Tells list (is_ancestor list)
  ancestry_told a k =
      (λ h. way_ancestor (length list) (reaches_way (length list) a k h), λ h. way_reaches (length list) a k (ancestor_way h))

  -- and all such tests say the same
  pub told_alike : (one two : ℕ → ℕ → Bool) → Tells list one → Tells list two → (a k : ℕ) → one a k ≡ two a k
  told_alike one two first second a k =
      alike (one a k) (two a k) (λ h. (second a k).1 ((first a k).0 h)) (λ h. (first a k).1 ((second a k).0 h))
