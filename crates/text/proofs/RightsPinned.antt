-- The text of rights written out: the sample's, those of inputs without an image, with images that are refused or cut, and too long; the numbers of six digits; and the text of
-- any input, any number in it and any room for it.
use Prim.Native.Nat.{ℕ, suc, ◌+◌, ◌/◌, ◌%◌}
use Prim.Native.String.{String}
use mathlib.Core.Path.{◌≡◌, refl}
use mathlib.Core.List.{List, [], ◌∷◌, ◌++◌, map}
use lib.Dec.{leb, ltb}
use lib.ListN.{length, replicate, set}
use Rattle.rules.specs.Domains.{domain_bit}
use Rattle.rules.specs.Refusals.{pick}
use Rattle.image.specs.Description.{machine_of}
use Rattle.image.specs.Load.{load_of, load_checks, length_tests, kind_tests, shape_entry_tests, shape_tests, body_tests, describe}
use Rattle.image.specs.Sample.{sample_bytes}
use Rattle.rights.specs.Site.{images_past, images_of, fields_in, fields_over, fields_holding, rights_held, sum_below, refused_of}
use Rattle.text.specs.Text.{letters, decimal_of}
use Rattle.text.specs.Rights.{sum_of}
use Rattle.text.specs.Rights.{sums_of, domain_lines, numbers_text, rights_text, printed_rights}

-- RULES 13.7: the text of the sample alone, as the program prints it
pub sample_rights :
    rights_text (0x00 ∷ 0x2C ∷ sample_bytes)
    ≡ letters "0 1 0\n1 1 1\n2 1 1\n3 3 0\n4 0 0\n5 0 0\n6 0 0\n7 0 0\n8 0 0\n9 0 0\n10 0 0\n11 0 0\n12 0 0\n13 0 0\n14 0 0\n15 0 0\ntotal 6 2\nrefused 0\n"
unfolding rights_text numbers_text domain_lines sums_of decimal_of images_past fields_in fields_over fields_holding sum_below refused_of domain_bit load_of load_checks length_tests kind_tests shape_entry_tests shape_tests body_tests describe machine_of sample_bytes
sample_rights = refl

-- RULES 13.2, 13.6: no image; a byte that is left over; three images of which one loads, and a byte; one byte too many
pub rights_texts :
    let none : String = "0 0 0\n1 0 0\n2 0 0\n3 0 0\n4 0 0\n5 0 0\n6 0 0\n7 0 0\n8 0 0\n9 0 0\n10 0 0\n11 0 0\n12 0 0\n13 0 0\n14 0 0\n15 0 0\ntotal 0 0\nrefused " in
    (map rights_text ([] ∷ (7 ∷ []) ∷ replicate 32769 0 ∷ []) ≡ (letters none ++ letters "0\n") ∷ (letters none ++ letters "1\n") ∷ letters "long\n" ∷ [])
    × (rights_text (0 ∷ 0 ∷ 0x00 ∷ 0x2C ∷ (set sample_bytes 33 0xFF ++ 0x00 ∷ 0x2C ∷ (set sample_bytes 38 2 ++ 0x2C ∷ [])))
    ≡ letters "0 1 1\n1 1 2\n2 1 1\n3 3 1\n4 0 1\n5 0 1\n6 0 1\n7 0 1\n8 0 0\n9 0 0\n10 0 0\n11 0 0\n12 0 0\n13 0 0\n14 0 0\n15 0 0\ntotal 6 9\nrefused 3\n")
unfolding rights_text numbers_text domain_lines sums_of decimal_of images_past fields_in fields_over fields_holding sum_below refused_of domain_bit load_of load_checks length_tests kind_tests shape_entry_tests shape_tests body_tests describe machine_of sample_bytes
rights_texts = (refl, refl)

-- RULES 13.4: numbers of up to six digits
pub sums_printed :
    map sum_of (0 ∷ 9 ∷ 10 ∷ 99999 ∷ 100000 ∷ 100001 ∷ 123984 ∷ 131072 ∷ 200030 ∷ 999999 ∷ [])
    ≡ map letters ("0" ∷ "9" ∷ "10" ∷ "99999" ∷ "100000" ∷ "100001" ∷ "123984" ∷ "131072" ∷ "200030" ∷ "999999" ∷ [])
unfolding decimal_of
sums_printed = refl

-- RULES 13.8: the text in a buffer of 512 bytes and more, and nothing in a shorter one
pub rights_buffers : map (printed_rights (replicate 32769 0)) (0 ∷ 5 ∷ 511 ∷ 512 ∷ 513 ∷ []) ≡ [] ∷ [] ∷ [] ∷ letters "long\n" ∷ letters "long\n" ∷ []
unfolding printed_rights rights_text
rights_buffers = refl

-- the text of any input; a domain's line for any domain, whatever it has; the sixth digit of any number
pub rights_text_spelled : (input : List ℕ) (reads writes : ℕ → ℕ) (n s left room : ℕ)
    → let images = images_of input in
    let R : ℕ → ℕ = λ d. rights_held 0 d images in
    let W : ℕ → ℕ = λ d. rights_held 1 d images in
    let long = ltb 32768 (length input) in
    (sum_of n ≡ pick (leb 100000 n) ((48 + n / 100000 % 10) ∷ []) [] ++ decimal_of n)
    × (domain_lines reads writes s 0 ≡ [])
    × (domain_lines reads writes s (suc left)
    ≡ (decimal_of s ++ ((32 ∷ sum_of (reads s)) ++ (32 ∷ sum_of (writes s)) ++ (10 ∷ []))) ++ domain_lines reads writes (suc s) left)
    × (rights_text input
    ≡ pick long (108 ∷ 111 ∷ 110 ∷ 103 ∷ 10 ∷ [])
    (domain_lines R W 0 16
    ++ ((116 ∷ 111 ∷ 116 ∷ 97 ∷ 108 ∷ []) ++ ((32 ∷ sum_of (sum_below 16 R)) ++ (32 ∷ sum_of (sum_below 16 W)) ++ (10 ∷ [])))
    ++ ((114 ∷ 101 ∷ 102 ∷ 117 ∷ 115 ∷ 101 ∷ 100 ∷ []) ++ (32 ∷ decimal_of (refused_of images)) ++ (10 ∷ []))))
    × (printed_rights input room ≡ pick (leb 512 room) (rights_text input) [])
unfolding sums_of domain_lines numbers_text rights_text printed_rights
rights_text_spelled input reads writes n s left room = (refl, refl, refl, refl, refl)
