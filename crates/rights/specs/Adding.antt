-- What the private functions of the count do. The definition of the rights rests on nothing of this.
use Rattle.std.specs.Prelude.{ℕ, suc, ◌+◌, ◌≤◌, ◌≡◌, List, [], ◌∷◌, eqb, length, get_or}
use Rattle.rules.specs.Refusals.{pick}
use Rattle.rights.specs.declared.Sums.{Sums}
use Rattle.rights.specs.Site.{Image, Whole, Cut, images_of, fields_over, fields_holding, ones_over, refused_of}

-- what some fields add to a place of a column: the first sixteen are the domains', the next is the total's
abbrev pub gain_at : (place : ℕ) → List ℕ → ℕ
gain_at place fields = pick (eqb place 16) (ones_over fields) (fields_holding place fields)

-- the places of a column from one on, with what some fields add
unfoldable pub added_from : (place : ℕ) (column fields : List ℕ) → List ℕ
added_from place [] fields = []
added_from place (sum ∷ rest) fields = (sum + gain_at place fields) ∷ added_from (suc place) rest fields

-- a column with what some fields add
abbrev pub added : (column fields : List ℕ) → List ℕ
added column fields = added_from 0 column fields

-- a column has seventeen places, and no number in it is above a bound
pub record Column (bound : ℕ) (column : List ℕ) : Type 0 where
  pub places : length column ≡ 17
  pub most : (place : ℕ) → get_or column place 0 ≤ bound

-- no number of what is counted is above a bound
pub record Within (bound : ℕ) (sums : Sums) : Type 0 where
  pub reads : Column bound sums.reads
  pub writes : Column bound sums.writes
  pub refused : sums.refused ≤ bound

-- what is counted, with what some images add
abbrev pub with_images : Sums → List Image → Sums
with_images sums images =
    record {
      reads = added sums.reads (fields_over 0 images);
      writes = added sums.writes (fields_over 1 images);
      refused = sums.refused + refused_of images;
    }

-- what is left of an input, as the bytes of its first image and what is left behind it
pub record IsSplit (left image rest : List ℕ) : Type 0 where
  pub images : images_of left ≡ Whole image ∷ images_of rest
  pub sizes : length left ≡ 2 + length image + length rest

-- nothing is left of an input, or an image that is cut
abbrev pub IsCut : List ℕ → Type 0
IsCut left = images_of left ≡ pick (eqb (length left) 0) [] (Cut ∷ [])
