-- Lists of what belongs to each number below a count: what stands at a place, and how a loop fills and alters them. By the list's elements.
use Prim.Native.Nat.{ℕ, zero, suc, ◌<◌}
use mathlib.Core.Path.{◌≡◌, refl, sym, ap, ◌∙◌}
use mathlib.Core.Bool.{Bool, true, false}
use mathlib.Core.List.{List, [], ◌∷◌}
use borrow.Author.Tests.{ltb-true, ltb-false}
use lib.Dec.{eqb, ltb, eqb-zero-suc, eqb-suc-zero, eqb-suc-suc}
use lib.ListN.{length, get_or, set, get_or-eq_default}
use lib.Seq.{ext_get_or}
use native.Mathlib.Omega.{arith}
use Rattle.std.specs.List.{list_any}
use Rattle.rules.specs.Refusals.{pick}
use Rattle.machine.specs.Calls.{any}
use Rattle.image.specs.Description.{pad}
use Rattle.image.proofs.Entries.{length_pad, pad_at}
use Rattle.planner.specs.Plan.{each}

module _ {A : Type 0} where
  pub each_length : (n : ℕ) (of : ℕ → A) → length (each n of) ≡ n
  unfolding each
  each_length zero of = refl
  each_length (suc n) of = ap suc (each_length n (λ k. of (suc k)))

  pub each_at : (z : A) (n : ℕ) (of : ℕ → A) (k : ℕ) → k < n → get_or (each n of) k z ≡ of k
  unfolding each
  each_at z zero of k h = absurd (omega arith)
  each_at z (suc n) of zero h = refl
  each_at z (suc n) of (suc k) h = each_at z n (λ k. of (suc k)) k (omega arith)

  pub each_same : (n : ℕ) (f g : ℕ → A) → ((k : ℕ) → k < n → f k ≡ g k) → each n f ≡ each n g
  unfolding each
  each_same zero f g same = refl
  each_same (suc n) f g same = rw (same 0 (omega arith), each_same n (λ k. f (suc k)) (λ k. g (suc k)) (λ k h. same (suc k) (omega arith)))

  -- what is stored at a place is what belongs to its number from then on
  pub each_set : (n : ℕ) (of : ℕ → A) (p : ℕ) (v : A) → set (each n of) p v ≡ each n (λ k. pick (eqb k p) v (of k))
  unfolding each
  each_set zero of p v = refl
  each_set (suc n) of zero v = simp eqb-suc-zero
  each_set (suc n) of (suc p) v = simp (eqb-zero-suc, eqb-suc-suc, each_set n (λ k. of (suc k)) p v)

  -- the same in n places, with z past the last
  pub pad_each : (z : A) (n m : ℕ) (of : ℕ → A) → pad n z (each m of) ≡ each n (λ k. pick (ltb k m) (of k) z)
  pad_each z n m of = ext_get_or z _ _ size (λ k below. at k (rw (length_pad z n (each m of)) at below) (ltb k m) refl)
    where
      size : length (pad n z (each m of)) ≡ length (each n (λ k. pick (ltb k m) (of k) z))
      size = length_pad z n (each m of) ∙ sym (each_length n (λ k. pick (ltb k m) (of k) z))

      at : (k : ℕ) → k < n → (b : Bool) → ltb k m ≡ b → get_or (pad n z (each m of)) k z ≡ get_or (each n (λ k. pick (ltb k m) (of k) z)) k z
      at k below true e = rw (pad_at z n (each m of) k below, each_at z n (λ k. pick (ltb k m) (of k) z) k below, e) (each_at z m of k (ltb-true k m e))
      at k below false e =
          rw (pad_at z n (each m of) k below, each_at z n (λ k. pick (ltb k m) (of k) z) k below, e)
          (get_or-eq_default (each m of) z (rw (each_length m of) (ltb-false k m e)))

-- std's word for a test of some element says what this repository's does
pub any_listed : (p : ℕ → Bool) (l : List ℕ) → list_any p l ≡ any p l
any_listed p [] = refl
any_listed p (x ∷ l) = rw (any_listed p l)
