-- A column with what fields add: place by place, for no fields, for some and then others, and how large its numbers get at the most.
use Prim.Native.Nat.{ℕ, zero, suc, ◌+◌, ◌*◌, ◌-◌, ◌≤◌, ◌<◌}
use mathlib.Core.Path.{◌≡◌, refl, ap, ◌∙◌}
use mathlib.Core.Bool.{Bool, true, false}
use mathlib.Core.List.{List, [], ◌∷◌, ◌++◌}
use native.Mathlib.Nat.{add-zero, add-suc, suc-add}
use native.Mathlib.Omega.{arith}
use borrow.Author.Tests.{ltb-true, ltb-false}
use lib.Dec.{eqb, ltb}
use lib.ListN.{length, get_or, get_or-eq_default}
use Rattle.rules.specs.Domains.{holds}
use Rattle.rules.specs.Refusals.{pick}
use Rattle.rules.proofs.Counted.{counted_most}
use Rattle.image.specs.Bytes.{entries}
use Rattle.image.proofs.Entries.{left_some}
use Rattle.rights.specs.Site.{fields_holding, ones_over}
use Rattle.rights.specs.Adding.{gain_at, added_from, added, Column}

-- ---- what fields add to a place

pub holding_append : (s : ℕ) (a b : List ℕ) → fields_holding s (a ++ b) ≡ fields_holding s a + fields_holding s b
unfolding fields_holding
holding_append s [] b = omega arith
holding_append s (field ∷ a) b = omega (arith, holding_append s a b)

pub ones_append : (a b : List ℕ) → ones_over (a ++ b) ≡ ones_over a + ones_over b
unfolding ones_over
ones_append [] b = omega arith
ones_append (field ∷ a) b = omega (arith, ones_append a b)

gain_none : (place : ℕ) → gain_at place [] ≡ 0
unfolding fields_holding ones_over
gain_none place = split (eqb place 16)
  where
    split : (b : Bool) → pick {A = ℕ} b 0 0 ≡ 0
    split true = refl
    split false = refl

gain_append : (place : ℕ) (a b : List ℕ) → gain_at place (a ++ b) ≡ gain_at place a + gain_at place b
gain_append place a b = split (eqb place 16)
  where
    split : (t : Bool) → pick t (ones_over (a ++ b)) (fields_holding place (a ++ b)) ≡ pick t (ones_over a) (fields_holding place a) + pick t (ones_over b) (fields_holding place b)
    split true = ones_append a b
    split false = holding_append place a b

-- a field holds at most sixteen domains, and one domain at most once
pub holding_most : (s : ℕ) (fields : List ℕ) → fields_holding s fields ≤ length fields
unfolding fields_holding
holding_most s [] = omega arith
holding_most s (field ∷ rest) = split (holds field s) (holding_most s rest)
  where
    split : (b : Bool) → fields_holding s rest ≤ length rest → pick b 1 0 + fields_holding s rest ≤ suc (length rest)
    split true h = omega arith
    split false h = omega arith

pub ones_most : (fields : List ℕ) → ones_over fields ≤ 16 * length fields
unfolding ones_over
ones_most [] = omega arith
ones_most (field ∷ rest) = omega (arith, counted_most 16 field, ones_most rest)

gain_most : (place : ℕ) (fields : List ℕ) → gain_at place fields ≤ 16 * length fields
gain_most place fields = split (eqb place 16)
  where
    split : (t : Bool) → pick t (ones_over fields) (fields_holding place fields) ≤ 16 * length fields
    split true = ones_most fields
    split false = omega (arith, holding_most place fields)

-- ---- a column

pub length_added : (place : ℕ) (column fields : List ℕ) → length (added_from place column fields) ≡ length column
unfolding added_from
length_added place [] fields = refl
length_added place (sum ∷ rest) fields = ap suc (length_added (suc place) rest fields)

pub added_at : (place : ℕ) (column fields : List ℕ) (i : ℕ) → i < length column
    → get_or (added_from place column fields) i 0 ≡ get_or column i 0 + gain_at (place + i) fields
unfolding added_from
added_at place [] fields i h = absurd (omega arith)
added_at place (sum ∷ rest) fields zero h = rw add-zero
added_at place (sum ∷ rest) fields (suc i) h = rw (add-suc, ← suc-add) (added_at (suc place) rest fields i (omega arith))

pub added_none : (place : ℕ) (column : List ℕ) → added_from place column [] ≡ column
unfolding added_from
added_none place [] = refl
added_none place (sum ∷ rest) = rw (gain_none place, add-zero, added_none (suc place) rest)

pub added_append : (place : ℕ) (column a b : List ℕ) → added_from place (added_from place column a) b ≡ added_from place column (a ++ b)
unfolding added_from
added_append place [] a b = refl
added_append place (sum ∷ rest) a b = rw (gain_append place a b, added_append (suc place) rest a b) (ap (λ (n : ℕ). n ∷ added_from (suc place) rest (a ++ b)) (omega arith))

-- no number grows by more than sixteen for each field
pub added_most : (bound : ℕ) (column fields : List ℕ) → Column bound column → Column (bound + 16 * length fields) (added column fields)
added_most bound column fields so =
    record { places = length_added 0 column fields ∙ so.places; most = λ place. split place (ltb place (length column)) refl }
  where
    split : (place : ℕ) (t : Bool) → ltb place (length column) ≡ t → get_or (added column fields) place 0 ≤ bound + 16 * length fields
    split place true e = rw (added_at 0 column fields place (ltb-true _ _ e)) (omega (arith, so.most place, gain_most (0 + place) fields))
    split place false e =
        rw (get_or-eq_default (added column fields) 0 {n = place} (rw (length_added 0 column fields) (ltb-false _ _ e))) (omega arith)

-- a bound may be taken larger
pub column_within : {bound : ℕ} {column : List ℕ} (larger : ℕ) → Column bound column → bound ≤ larger → Column larger column
column_within larger so h = record { places = so.places; most = λ place. omega (arith, so.most place) }

-- ---- a loop over pages

-- the fields from a page on are the field of that page and those from the next on
pub fields_next : (read : ℕ → ℕ) (page pages : ℕ) → page < pages
    → entries 1 read page (pages - page) ≡ read page ∷ entries 1 read (page + 1) (pages - (page + 1))
fields_next read page pages h =
    let here : 0 + 1 * page ≡ page = omega arith in
    let next : 0 + 1 * (page + 1) ≡ page + 1 = omega arith in
    rw (here, next) at (left_some 1 read pages page 0 h)
