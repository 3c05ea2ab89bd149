-- The rights over a site (RULES, section 13): the images of an input, and how many rights they give.
use Rattle.std.specs.Prelude.{ℕ, zero, suc, ◌+◌, Bool, true, false, List, [], ◌∷◌, ◌++◌, eqb, leb, ltb, length, replicate, take}
use Rattle.rules.specs.Domains.{holds, domain_count}
use Rattle.rules.specs.Refusals.{pick}
use Rattle.machine.specs.Machine.{field_of}
use Rattle.machine.specs.declared.record.Machine.{Machine}
use Rattle.image.specs.Bytes.{word_of, entries}
use Rattle.image.specs.Load.{load_of}
use Rattle.rights.specs.Counted.{Counted}

-- RULES 13.2: an image of an input, which is whole or cut
pub data Image : Type 0 where
  Whole : (bytes : List ℕ) → Image
  Cut : Image

-- RULES 13.2: the image behind a length: as many of the bytes that are left as that declares, or cut where there are fewer
abbrev pub image_of : (declared : ℕ) (left : List ℕ) → Image
image_of declared left = pick (leb declared (length left)) (Whole (take declared left)) Cut

-- RULES 13.2: the images of what is left of an input, of which the first n bytes are those of the image before. Where a single byte is left in place of a length,
-- it is an image that is cut.
unfoldable pub images_past : (n : ℕ) (left : List ℕ) → List Image
images_past n [] = []
images_past (suc n) (byte ∷ left) = images_past n left
images_past zero (byte ∷ []) = Cut ∷ []
images_past zero (high ∷ low ∷ left) = image_of (word_of high low) left ∷ images_past (word_of high low) left

-- RULES 13.2: all images of an input
abbrev pub images_of : List ℕ → List Image
images_of input = images_past 0 input

-- RULES 13.3: an image that is cut does not load, whatever its bytes are
abbrev pub loads : Image → Bool
loads (Whole bytes) = eqb (load_of bytes).number 0
loads Cut = false

-- RULES 13.3: the fields of a right to the pages of a machine, page 0 first, none past the page count
abbrev pub page_fields : (right : ℕ) → Machine → List ℕ
page_fields right m = entries 1 (field_of m right) 0 m.pages

-- RULES 13.3: those of an image that loads; any other has none
unfoldable pub fields_in : (right : ℕ) → Image → List ℕ
fields_in right (Whole bytes) = pick (loads (Whole bytes)) (page_fields right (load_of bytes).machine) []
fields_in right Cut = []

-- RULES 13.3: those of all images
unfoldable pub fields_over : (right : ℕ) → List Image → List ℕ
fields_over right [] = []
fields_over right (image ∷ rest) = fields_in right image ++ fields_over right rest

-- RULES 13.4: how many of some fields hold a domain
unfoldable pub fields_holding : (s : ℕ) → List ℕ → ℕ
fields_holding s [] = 0
fields_holding s (field ∷ rest) = pick (holds field s) 1 0 + fields_holding s rest

-- RULES 13.4: how many rights a domain has over all images
abbrev pub rights_held : (right s : ℕ) → List Image → ℕ
rights_held right s images = fields_holding s (fields_over right images)

-- RULES 13.5: the sum of a number for each domain below n
unfoldable pub sum_below : (n : ℕ) → (ℕ → ℕ) → ℕ
sum_below zero number = 0
sum_below (suc s) number = sum_below s number + number s

-- RULES 13.5: the rights of all sixteen domains together
abbrev pub total_of : (right : ℕ) → List Image → ℕ
total_of right images = sum_below 16 (λ s. rights_held right s images)

-- RULES 13.5: how many bits are set in some fields, all together, which each total comes to (`total_ones`)
unfoldable pub ones_over : List ℕ → ℕ
ones_over [] = 0
ones_over (field ∷ rest) = domain_count field + ones_over rest

-- RULES 13.5: how many images do not load
unfoldable pub refused_of : List Image → ℕ
refused_of [] = 0
refused_of (image ∷ rest) = pick (loads image) 0 1 + refused_of rest

-- RULES 13.6: an input that is not counted
abbrev pub is_long : List ℕ → Bool
is_long input = ltb 32768 (length input)

-- RULES 13.8: the rights of each domain, from 0 on, and the total in the last place
abbrev pub column_of : (right : ℕ) → List Image → List ℕ
column_of right images = entries 1 (λ s. rights_held right s images) 0 16 ++ total_of right images ∷ []

-- RULES 13.8: what is counted over the images of an input; nothing where it is too long, which is then said
unfoldable pub counted_of : List ℕ → Counted
counted_of input =
    let images = images_of input in
    pick (is_long input)
    (record { long = true; reads = replicate 17 0; writes = replicate 17 0; refused = 0 })
    (record { long = false; reads = column_of 0 images; writes = column_of 1 images; refused = refused_of images })
