-- Ancestors of ancestors are ancestors, and there are none but those that the definition makes. Since a context has one parent at most, of two ancestors of one context one is the other's, or they
-- are the same. By induction on the way up.
use Prim.Native.Nat.{ℕ}
use mathlib.Core.Path.{◌≡◌, sym, ◌∙◌}
use mathlib.Core.Bool.{true}
use mathlib.Core.List.{List}
use mathlib.Core.Logic.{◌⊎◌, inl, inr, ⊎_map}
use Rattle.planner.specs.Ancestors.{is_parent, Ancestor, parent, above}
use Rattle.planner.proofs.Ancestry.{parent_stands}

module _ (list : List ℕ) where
  one_parent : (p q k : ℕ) → is_parent list p k ≡ true → is_parent list q k ≡ true → p ≡ q
  one_parent p q k h h' = sym (parent_stands list p k h).0 ∙ (parent_stands list q k h').0

  -- RULES 11.2: there are no other ancestors: whatever holds of parents, and with an ancestor of its parent too, holds of them all
  pub ancestors_least : (R : (a k : ℕ) → Type 0) → ((p k : ℕ) → is_parent list p k ≡ true → R p k)
      → ((p a k : ℕ) → R a k → is_parent list p a ≡ true → R p k) → {a k : ℕ} → Ancestor list a k → R a k
  ancestors_least R first more (parent {p} {k} h) = first p k h
  ancestors_least R first more (above {p} {a} {k} low h) = more p a k (ancestors_least R first more low) h

  -- an ancestor of an ancestor is an ancestor
  pub ancestor_over : {a b k : ℕ} → Ancestor list a b → Ancestor list b k → Ancestor list a k
  ancestor_over (parent h) low = above low h
  ancestor_over (above mid h) low = above (ancestor_over mid low) h

  -- an ancestor is somebody's parent
  pub someones_parent : {a k : ℕ} → Ancestor list a k → (b : ℕ) × (is_parent list a b ≡ true)
  someones_parent (parent {p} {k} h) = (k, h)
  someones_parent (above {p} {a} low h) = (a, h)

  -- what has an ancestor has a parent
  pub first_parent : {a k : ℕ} → Ancestor list a k → (p : ℕ) × (is_parent list p k ≡ true)
  first_parent (parent {p} h) = (p, h)
  first_parent (above low h) = first_parent low

  -- a way up goes through the parent
  pub from_parent : {a k : ℕ} (p : ℕ) → is_parent list p k ≡ true → Ancestor list a k → (p ≡ a) ⊎ Ancestor list a p
  from_parent {a} {k} p h (parent h') = inl (one_parent p a k h h')
  from_parent p h (above {p = q} {a = b} low h') = go (from_parent p h low)
    where
      go : (p ≡ b) ⊎ Ancestor list b p → (p ≡ q) ⊎ Ancestor list q p
      go (inl same) = inr (rw same (parent h'))
      go (inr way) = inr (above way h')

  -- two ancestors of one context stand on one way up
  pub on_one_way : {a b k : ℕ} → Ancestor list a k → Ancestor list b k → (a ≡ b) ⊎ (Ancestor list a b ⊎ Ancestor list b a)
  on_one_way (parent {p} h) way = ⊎_map (λ e. e) inr (from_parent p h way)
  on_one_way (above {p} {a} low h) way = go (on_one_way low way)
    where
      go : {b : ℕ} → (a ≡ b) ⊎ (Ancestor list a b ⊎ Ancestor list b a) → (p ≡ b) ⊎ (Ancestor list p b ⊎ Ancestor list b p)
      go (inl same) = inr (inl (rw (← same) (parent h)))
      go (inr (inl under)) = inr (inl (above under h))
      go (inr (inr over)) = ⊎_map (λ e. e) inr (from_parent p h over)
