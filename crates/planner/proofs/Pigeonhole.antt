-- Of n + 1 numbers below n two are the same. By induction on n: where the last one is among the others, these two are found; else it takes the place of the greatest number
-- among the others, which are then below n - 1.
use Prim.Native.Nat.{ℕ, zero, suc, ◌<◌, ◌≤◌}
use mathlib.Core.Path.{◌≡◌, refl, sym, ◌∙◌}
use mathlib.Core.Bool.{Bool, true, false}
use mathlib.Core.Logic.{◌⊎◌, inl, inr}
use borrow.Author.Tests.{eqb-true, eqb-false}
use lib.Dec.{eqb}
use native.Mathlib.Omega.{arith}
use Rattle.rules.specs.Refusals.{pick}

-- two places, the second not past n, with the same number
abbrev pub Twice : (n : ℕ) (f : ℕ → ℕ) → Type 0
Twice n f = (i : ℕ) × (j : ℕ) × (i < j) × (j ≤ n) × (f i ≡ f j)

-- a number is at one of the first n places, or at none of them
looked_for : (n v : ℕ) (f : ℕ → ℕ) → ((i : ℕ) × (i < n) × (f i ≡ v)) ⊎ ((i : ℕ) → i < n → f i ≡ v → ⊥)
looked_for zero v f = inr (λ i h e. absurd (omega arith))
looked_for (suc n) v f = here (eqb (f n) v) refl (looked_for n v f)
  where
    here : (b : Bool) → eqb (f n) v ≡ b → ((i : ℕ) × (i < n) × (f i ≡ v)) ⊎ ((i : ℕ) → i < n → f i ≡ v → ⊥)
        → ((i : ℕ) × (i < suc n) × (f i ≡ v)) ⊎ ((i : ℕ) → i < suc n → f i ≡ v → ⊥)
    here true e rest = inl (n, omega arith, eqb-true (f n) v e)
    here false e (inl (i, h, same)) = inl (i, omega arith, same)
    here false e (inr none) = inr (λ i h same. last (eqb i n) i refl h same)
      where
        last : (b : Bool) (i : ℕ) → eqb i n ≡ b → i < suc n → f i ≡ v → ⊥
        last true i at h same = eqb-false (f n) v e (rw (eqb-true i n at) at same)
        last false i at h same = let other = eqb-false i n at in none i (omega (arith, other)) same

pub pigeonhole : (n : ℕ) (f : ℕ → ℕ) → ((i : ℕ) → i ≤ n → f i < n) → Twice n f
pigeonhole zero f small = absurd (omega (arith, small 0 (omega arith)))
pigeonhole (suc n) f small = go (looked_for (suc n) (f (suc n)) f) (pigeonhole n moved)
  where
    -- the numbers before the last one, with that in the place of n
    moved : ℕ → ℕ
    moved i = pick (eqb (f i) n) (f (suc n)) (f i)

    go : ((i : ℕ) × (i < suc n) × (f i ≡ f (suc n))) ⊎ ((i : ℕ) → i < suc n → f i ≡ f (suc n) → ⊥) → (((i : ℕ) → i ≤ n → moved i < n) → Twice n moved)
        → Twice (suc n) f
    go (inl (i, h, same)) rest = (i, suc n, h, omega arith, same)
    go (inr none) rest =
        let found = rest (λ i h. below i (omega arith) (eqb (f i) n) refl) in (
          found.0,
          found.1,
          found.2,
          omega (arith, found.3),
          back found.0 found.1 (omega (arith, found.2, found.3)) (omega (arith, found.3)) (eqb (f found.0) n) refl (eqb (f found.1) n) refl found.4,
        )
      where
        below : (i : ℕ) → i < suc n → (b : Bool) → eqb (f i) n ≡ b → pick b (f (suc n)) (f i) < n
        below i h true e =
            let other : f (suc n) ≡ n → ⊥ = λ same. none i h (eqb-true (f i) n e ∙ sym same) in
            omega (arith, small (suc n) (omega arith), other)
        below i h false e = let other = eqb-false (f i) n e in omega (arith, small i (omega arith), other)

        back : (i j : ℕ) → i < suc n → j < suc n → (a : Bool) → eqb (f i) n ≡ a → (b : Bool) → eqb (f j) n ≡ b
            → pick a (f (suc n)) (f i) ≡ pick b (f (suc n)) (f j) → f i ≡ f j
        back i j h k true e true g same = eqb-true (f i) n e ∙ sym (eqb-true (f j) n g)
        back i j h k true e false g same = absurd (none j k (sym same))
        back i j h k false e true g same = absurd (none i h same)
        back i j h k false e false g same = same
