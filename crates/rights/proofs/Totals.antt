-- The total of a right is the number of set bits in all fields: counted domain by domain it is the same as counted field by field. By induction on the fields.
use Prim.Native.Nat.{ℕ}
use mathlib.Core.Path.{◌≡◌, refl}
use mathlib.Core.List.{List, [], ◌∷◌}
use native.Mathlib.Nat.{zero-add}
use native.Mathlib.Omega.{arith}
use lib.ListN.{replicate}
use Rattle.rules.proofs.Counted.{count_each}
use Rattle.rights.specs.Site.{Image, fields_holding, sum_below, fields_over, total_of, column_of, ones_over}
use Rattle.rights.specs.Adding.{added_from, added}

-- counted domain by domain
fields_ones : (fields : List ℕ) → sum_below 16 (λ s. fields_holding s fields) ≡ ones_over fields
unfolding sum_below fields_holding ones_over
fields_ones [] = refl
fields_ones (field ∷ rest) = omega (arith, count_each field, fields_ones rest)

-- RULES 13.5: each total is the number of set bits in the fields for its right of all pages of the images that load
pub total_ones : (right : ℕ) (images : List Image) → total_of right images ≡ ones_over (fields_over right images)
total_ones right images = fields_ones (fields_over right images)

-- what all fields add to a column of zeros is the column of counts and total
pub column_counted : (right : ℕ) (images : List Image) → added (replicate 17 0) (fields_over right images) ≡ column_of right images
unfolding added_from
column_counted right images = rw (total_ones right images) (simp zero-add)
