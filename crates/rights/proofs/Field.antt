-- One field added to a column of seventeen places, domain by domain and then to the total: what holds after so many domains.
use Prim.Native.Nat.{ℕ, ◌+◌, ◌≤◌, ◌<◌}
use mathlib.Core.Path.{◌≡◌, refl, sym, ◌∙◌}
use mathlib.Core.Bool.{Bool, true, false}
use mathlib.Core.List.{List, [], ◌∷◌}
use native.Mathlib.Omega.{arith}
use borrow.Author.Tests.{eqb-true, eqb-false}
use lib.Dec.{eqb}
use lib.ListN.{length, get_or, set, length-set}
use lib.Seq.{ext_get_or, get_or-set_same, get_or-set_other}
use Rattle.rules.specs.Domains.{holds, domain_count}
use Rattle.rules.specs.Refusals.{pick}
use Rattle.rights.specs.Site.{fields_holding, ones_over}
use Rattle.rights.specs.Adding.{added}
use Rattle.rights.proofs.Added.{length_added, added_at}

module _ (start : List ℕ) (field : ℕ) where
  -- what holds after the domains below s
  pub record AddedBelow (s : ℕ) (column : List ℕ) : Type 0 where
    pub size : length column ≡ length start
    pub done : (i : ℕ) → i < s → get_or column i 0 ≡ get_or start i 0 + pick (holds field i) 1 0
    pub left : (i : ℕ) → s ≤ i → get_or column i 0 ≡ get_or start i 0

  pub adding_ends : (s : ℕ) (column : List ℕ) → length start ≡ 17 → s ≤ 16 → 16 ≤ s → AddedBelow s column
      → set column 16 (get_or column 16 0 + domain_count field) ≡ added start (field ∷ [])
  unfolding fields_holding ones_over
  adding_ends s column long within h so =
      ext_get_or 0 (set column 16 _) (added start (field ∷ [])) (length-set column 16 _ ∙ so.size ∙ sym (length_added 0 start (field ∷ [])))
      (λ i below.
      let known : i < length start = omega (arith, length-set column 16 (get_or column 16 0 + domain_count field), so.size) in
      sym (added_at 0 start (field ∷ []) i known ∙ each i (eqb (0 + i) 16) refl known))
    where
      each : (i : ℕ) (t : Bool) → eqb (0 + i) 16 ≡ t → i < length start
          → get_or start i 0 + pick t (ones_over (field ∷ [])) (fields_holding (0 + i) (field ∷ []))
          ≡ get_or (set column 16 (get_or column 16 0 + domain_count field)) i 0
      each i true e below =
          let last : i ≡ 16 = omega (arith, eqb-true (0 + i) 16 e) in
          rw last (omega (arith, get_or-set_same column 16 (get_or column 16 0 + domain_count field) 0 (omega (arith, so.size)), so.left 16 within))
      each i false e below =
          let same : 0 + i ≡ i = omega arith in
          let apart : i ≡ 16 → ⊥ = λ last. eqb-false (0 + i) 16 e (same ∙ last) in
          rw (same, get_or-set_other column 16 i (get_or column 16 0 + domain_count field) 0 apart)
          (omega (arith, so.done i (omega (arith, apart))))
