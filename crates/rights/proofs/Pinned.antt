-- What the definitions of this crate come to, written out: inputs byte by byte, the sample and images about it, and each step of the count for every argument.
use Prim.Native.Nat.{ℕ, suc, ◌+◌, ◌*◌, ◌<◌}
use mathlib.Core.Path.{◌≡◌, refl}
use mathlib.Core.Bool.{true, false, not}
use mathlib.Core.List.{List, [], ◌∷◌, ◌++◌, map}
use native.Mathlib.Omega.{arith}
use lib.Bits.{bit_and}
use lib.Dec.{eqb, leb, ltb}
use lib.ListN.{length, get_or, replicate, set, take}
use Rattle.std.specs.Prelude.{None, Some}
use Rattle.rules.specs.Domains.{domain_bit, domain_count}
use Rattle.rules.specs.Refusals.{pick}
use Rattle.machine.specs.Machine.{field_of}
use Rattle.machine.specs.declared.record.Machine.{Machine}
use Rattle.image.specs.Description.{machine_of}
use Rattle.image.specs.Load.{load_of, load_checks, length_tests, kind_tests, shape_entry_tests, shape_tests, body_tests, describe}
use Rattle.image.specs.Sample.{sample_bytes}
use Rattle.image.proofs.Entries.{length_entries, entry_at}
use Rattle.rights.specs.declared.Sums.{Sums}
use Rattle.rights.specs.Counted.{counted_as}
use Rattle.rights.specs.Site.{Image, Whole, Cut, images_past, images_of, loads, page_fields, fields_in, fields_over, fields_holding, sum_below, ones_over, refused_of, is_long, counted_of}

-- RULES 13.2: inputs without an image, with empty ones, whole ones and one that is cut, by both bytes of a length
pub images_read :
    map images_of
    ([]
    ∷ (7 ∷ [])
    ∷ (0 ∷ 0 ∷ [])
    ∷ (0 ∷ 1 ∷ [])
    ∷ (0 ∷ 1 ∷ 5 ∷ [])
    ∷ (0 ∷ 2 ∷ 5 ∷ [])
    ∷ (0 ∷ 1 ∷ 5 ∷ 0 ∷ [])
    ∷ (0 ∷ 0 ∷ 0 ∷ 2 ∷ 5 ∷ 6 ∷ 0 ∷ 1 ∷ [])
    ∷ (0 ∷ 2 ∷ 0 ∷ 1 ∷ 0 ∷ 0 ∷ 0 ∷ 1 ∷ 9 ∷ [])
    ∷ (1 ∷ 0 ∷ replicate 255 3)
    ∷ (1 ∷ 0 ∷ (replicate 256 3 ++ 0 ∷ 0 ∷ 4 ∷ []))
    ∷ (1 ∷ 1 ∷ (replicate 257 3 ++ 0 ∷ 3 ∷ 1 ∷ 2 ∷ []))
    ∷ [])
    ≡ []
    ∷ (Cut ∷ [])
    ∷ (Whole [] ∷ [])
    ∷ (Cut ∷ [])
    ∷ (Whole (5 ∷ []) ∷ [])
    ∷ (Cut ∷ [])
    ∷ (Whole (5 ∷ []) ∷ Cut ∷ [])
    ∷ (Whole [] ∷ Whole (5 ∷ 6 ∷ []) ∷ Cut ∷ [])
    ∷ (Whole (0 ∷ 1 ∷ []) ∷ Whole [] ∷ Whole (9 ∷ []) ∷ [])
    ∷ (Cut ∷ [])
    ∷ (Whole (replicate 256 3) ∷ Whole [] ∷ Cut ∷ [])
    ∷ (Whole (replicate 257 3) ∷ Cut ∷ [])
    ∷ []
unfolding images_past
images_read = refl

-- RULES 13.2: an image at the start of any input: the length's high byte first, then as many bytes as it says, or one that is cut where there are fewer; behind it the
-- next, past its bytes
pub images_spelled : (high low byte n : ℕ) (left : List ℕ)
    → (images_of (high ∷ low ∷ left)
    ≡ pick (leb (256 * high + low) (length left)) (Whole (take (256 * high + low) left)) Cut ∷ images_past (256 * high + low) left)
    × (images_past (suc n) (byte ∷ left) ≡ images_past n left) × (images_past n [] ≡ []) × (images_of (byte ∷ []) ≡ Cut ∷ [])
unfolding images_past
images_spelled high low byte n left = (refl, refl, refl, refl)

-- RULES 13.3: which images load: the sample, but not where a byte of it is wrong, where it is cut, or where one more byte stands behind it
pub images_load :
    map loads (Whole sample_bytes ∷ Whole (set sample_bytes 38 2) ∷ Whole (set sample_bytes 38 1) ∷ Whole (take 43 sample_bytes) ∷ Whole (sample_bytes ++ 0 ∷ []) ∷ Whole [] ∷ Cut ∷ [])
    ≡ true ∷ false ∷ true ∷ false ∷ false ∷ false ∷ false ∷ []
unfolding load_of load_checks length_tests kind_tests shape_entry_tests shape_tests body_tests sample_bytes
images_load = refl

-- RULES 13.3: the fields of a right to the pages of any machine: as many as there are pages, each where it stands in the machine
pub fields_placed : (right : ℕ) (m : Machine)
    → (length (page_fields right m) ≡ m.pages)
    × ((page : ℕ) → page < m.pages → get_or (page_fields right m) page 0 ≡ get_or m.fields (2 * page + right) 0)
fields_placed right m = (
  length_entries 1 (field_of m right) 0 m.pages,
  λ page below. let here : 0 + 1 * page ≡ page = omega arith in rw here at (entry_at 1 (field_of m right) 0 0 m.pages page below),
)

-- RULES 13.3: the fields of any image and of any images
pub fields_spelled : (right : ℕ) (bytes : List ℕ) (image : Image) (rest : List Image)
    → (fields_in right (Whole bytes) ≡ pick (eqb (load_of bytes).number 0) (page_fields right (load_of bytes).machine) []) × (fields_in right Cut ≡ [])
    × (fields_over right [] ≡ []) × (fields_over right (image ∷ rest) ≡ fields_in right image ++ fields_over right rest)
unfolding fields_in fields_over
fields_spelled right bytes image rest = (refl, refl, refl, refl)

-- RULES 13.3: those of the sample, twice, with others about it that do not load
pub site_fields :
    let images = Whole sample_bytes ∷ Whole (set sample_bytes 38 2) ∷ Cut ∷ Whole sample_bytes ∷ [] in
    (fields_over 0 images ≡ 9 ∷ 10 ∷ 12 ∷ 9 ∷ 10 ∷ 12 ∷ []) × (fields_over 1 images ≡ 0 ∷ 2 ∷ 4 ∷ 0 ∷ 2 ∷ 4 ∷ [])
unfolding fields_in fields_over load_of load_checks length_tests kind_tests shape_entry_tests shape_tests body_tests describe machine_of sample_bytes
site_fields = (refl, refl)

-- RULES 13.4: a field is counted for each domain whose bit it has, for every domain and every field
pub holding_spelled : (s field : ℕ) (rest : List ℕ)
    → (fields_holding s [] ≡ 0) × (fields_holding s (field ∷ rest) ≡ pick (not (eqb (bit_and field (domain_bit s)) 0)) 1 0 + fields_holding s rest)
unfolding fields_holding
holding_spelled s field rest = (refl, refl)

-- RULES 13.5: the sum over the sixteen domains, of any numbers; the set bits of any fields; the images that do not load
pub sums_spelled : (n : ℕ → ℕ) (bytes : List ℕ) (field : ℕ) (fields : List ℕ) (rest : List Image)
    → (sum_below 16 n ≡ 0 + n 0 + n 1 + n 2 + n 3 + n 4 + n 5 + n 6 + n 7 + n 8 + n 9 + n 10 + n 11 + n 12 + n 13 + n 14 + n 15)
    × (ones_over [] ≡ 0) × (ones_over (field ∷ fields) ≡ domain_count field + ones_over fields)
    × (refused_of [] ≡ 0) × (refused_of (Whole bytes ∷ rest) ≡ pick (eqb (load_of bytes).number 0) 0 1 + refused_of rest) × (refused_of (Cut ∷ rest) ≡ 1 + refused_of rest)
unfolding sum_below ones_over refused_of
sums_spelled n bytes field fields rest = (refl, refl, refl, refl, refl, refl)

-- RULES 13.6: what is too long, and what is not
pub longest_counted : map (λ (n : ℕ). is_long (replicate n 0)) (0 ∷ 1 ∷ 32767 ∷ 32768 ∷ 32769 ∷ 32770 ∷ []) ≡ false ∷ false ∷ false ∷ false ∷ true ∷ true ∷ []
longest_counted = refl

-- RULES 13.8: all that is counted over any input
pub counted_spelled : (input : List ℕ)
    → let images = images_of input in
    let R : ℕ → ℕ = λ s. fields_holding s (fields_over 0 images) in
    let W : ℕ → ℕ = λ s. fields_holding s (fields_over 1 images) in
    counted_of input
    ≡ pick (ltb 32768 (length input)) (record { long = true; reads = replicate 17 0; writes = replicate 17 0; refused = 0 })
    (record {
      long = false;
      reads = R 0 ∷ R 1 ∷ R 2 ∷ R 3 ∷ R 4 ∷ R 5 ∷ R 6 ∷ R 7 ∷ R 8 ∷ R 9 ∷ R 10 ∷ R 11 ∷ R 12 ∷ R 13 ∷ R 14 ∷ R 15 ∷ sum_below 16 R ∷ [];
      writes = W 0 ∷ W 1 ∷ W 2 ∷ W 3 ∷ W 4 ∷ W 5 ∷ W 6 ∷ W 7 ∷ W 8 ∷ W 9 ∷ W 10 ∷ W 11 ∷ W 12 ∷ W 13 ∷ W 14 ∷ W 15 ∷ sum_below 16 W ∷ [];
      refused = refused_of images;
    })
unfolding counted_of
counted_spelled input = refl

-- RULES 13.7: the sample alone, and a site: the sample, one that is refused, an empty one, the sample again, and the sample with a length of one byte too many
pub sites_counted :
    let zeros : List ℕ = replicate 12 0 in
    (counted_of (0 ∷ 44 ∷ sample_bytes)
    ≡ record { long = false; reads = 1 ∷ 1 ∷ 1 ∷ 3 ∷ (zeros ++ 6 ∷ []); writes = 0 ∷ 1 ∷ 1 ∷ 0 ∷ (zeros ++ 2 ∷ []); refused = 0 })
    × (counted_of (0 ∷ 44 ∷ (sample_bytes ++ 0 ∷ 44 ∷ (set sample_bytes 38 2 ++ 0 ∷ 0 ∷ 0 ∷ 44 ∷ (sample_bytes ++ 0 ∷ 45 ∷ sample_bytes))))
    ≡ record { long = false; reads = 2 ∷ 2 ∷ 2 ∷ 6 ∷ (zeros ++ 12 ∷ []); writes = 0 ∷ 2 ∷ 2 ∷ 0 ∷ (zeros ++ 4 ∷ []); refused = 3 })
    × (counted_of [] ≡ record { long = false; reads = replicate 17 0; writes = replicate 17 0; refused = 0 })
    × (counted_of (5 ∷ []) ≡ record { long = false; reads = replicate 17 0; writes = replicate 17 0; refused = 1 })
unfolding counted_of images_past fields_holding fields_in fields_over sum_below refused_of domain_bit load_of load_checks length_tests kind_tests shape_entry_tests shape_tests body_tests describe machine_of sample_bytes
sites_counted = (refl, refl, refl, refl)

-- RULES 13.8: what each answer says of an input
pub answer_counted : (sums : Sums)
    → (counted_as None ≡ record { long = true; reads = replicate 17 0; writes = replicate 17 0; refused = 0 })
    × (counted_as (Some sums) ≡ record { long = false; reads = sums.reads; writes = sums.writes; refused = sums.refused })
answer_counted sums = (refl, refl)
