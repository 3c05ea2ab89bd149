-- The pairs of a string of bytes, as a loop stores them: one more stands behind the others. By induction on how many there are.
use Prim.Native.Nat.{ℕ, zero, suc, ◌+◌, ◌*◌, ◌<◌, ◌≤◌}
use mathlib.Core.Path.{◌≡◌, ap, ◌∙◌}
use mathlib.Core.List.{List, [], ◌∷◌, ◌++◌}
use native.Mathlib.Nat.{mul-suc, zero-add}
use native.Mathlib.Numerals.{add-one}
use native.Mathlib.Omega.{arith}
use lib.ListN.{length, set, drop, length-append, length-drop}
use Rattle.image.specs.Bytes.{entries}
use Rattle.image.proofs.Entries.{length_entries}
use Rattle.masks.proofs.Lists.{stored_next}

entries_next : (size : ℕ) (read : ℕ → ℕ) (at n : ℕ) → entries size read at n ++ (read (at + size * n) ∷ []) ≡ entries size read at (suc n)
entries_next size read at zero = let e : at + size * 0 ≡ at = omega arith in rw e
entries_next size read at (suc n) =
    let e : at + size * suc n ≡ size + at + size * n = omega (arith, mul-suc size n) in
    rw e (ap (λ (rest : List ℕ). read at ∷ rest) (entries_next size read (size + at) n))

module _ (size : ℕ) (read : ℕ → ℕ) (list : List ℕ) (i : ℕ) where
  pub entries_stored : i < length list → set (entries size read 0 i ++ drop i list) i (read (size * i)) ≡ entries size read 0 (i + 1) ++ drop (i + 1) list
  entries_stored below =
      stored_next (entries size read 0 i) list (read (size * i)) i (length_entries size read 0 i) below
      ∙ ap (λ (done : List ℕ). done ++ drop (i + 1) list) next
    where
      next : entries size read 0 i ++ (read (size * i) ∷ []) ≡ entries size read 0 (i + 1)
      next = rw (add-one i) (rw zero-add at (entries_next size read 0 i))
