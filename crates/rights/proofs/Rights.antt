-- What is counted over images: what an image adds that loads, and one that is refused; all images are the one or the other; and how large the numbers get. From what
-- fields add, and by induction on the input.
use Prim.Native.Nat.{ℕ, zero, suc, ◌+◌, ◌*◌, ◌-◌, ◌≤◌, ◌<◌}
use mathlib.Core.Path.{◌≡◌, refl, ap, ◌∙◌}
use mathlib.Core.Bool.{Bool, true, false}
use mathlib.Core.List.{List, [], ◌∷◌, ◌++◌}
use native.Mathlib.Omega.{arith}
use borrow.Author.Tests.{eq-eqb, ne_eqb, leb-true}
use lib.Dec.{leb}
use lib.ListN.{length, get_or, take, length-append}
use lib.Seq.{length-take-le}
use Rattle.rules.specs.Domains.{holds, domain_count}
use Rattle.rules.specs.Refusals.{pick}
use Rattle.machine.specs.Machine.{field_of}
use Rattle.machine.specs.declared.record.Machine.{Machine}
use Rattle.machine.specs.declared.record.Answered.{Answered}
use Rattle.image.specs.Bytes.{entries, word_of, word_at}
use Rattle.image.specs.Description.{Description, Legal, bytes_of, machine_of}
use Rattle.image.specs.Load.{load_of}
use Rattle.image.proofs.Entries.{pad_at}
use Rattle.image.proofs.RoundTrip.{legal_loads}
use Rattle.rights.specs.Site.{Image, Whole, Cut, image_of, images_past, images_of, loads, fields_in, fields_over, fields_holding, rights_held, sum_below, total_of, refused_of, ones_over}
use Rattle.rights.proofs.Added.{holding_append, holding_most, ones_append, ones_most}
use Rattle.rights.proofs.Images.{fields_few, first_cut}
use Rattle.rights.proofs.Totals.{total_ones}

-- ---- pages

-- pages are read one by one, the last one last
last_entry : (read : ℕ → ℕ) (at n : ℕ) → entries 1 read at (suc n) ≡ entries 1 read at n ++ read (at + n) ∷ []
last_entry read at zero = let here : at + 0 ≡ at = omega arith in rw here
last_entry read at (suc n) =
    let next : at + suc n ≡ 1 + at + n = omega arith in
    rw next (ap (λ (rest : List ℕ). read at ∷ rest) (last_entry read (1 + at) n))

-- how many of the fields of n pages hold a domain
pages_holding : (s : ℕ) (read : ℕ → ℕ) (n : ℕ) → fields_holding s (entries 1 read 0 n) ≡ sum_below n (λ page. pick (holds (read page) s) 1 0)
unfolding fields_holding sum_below
pages_holding s read zero = refl
pages_holding s read (suc n) =
    let here : 0 + n ≡ n = omega arith in
    ap (fields_holding s) (rw here at (last_entry read 0 n)) ∙ omega (arith, holding_append s (entries 1 read 0 n) (read n ∷ []), pages_holding s read n)

-- and how many bits are set in them
pages_ones : (read : ℕ → ℕ) (n : ℕ) → ones_over (entries 1 read 0 n) ≡ sum_below n (λ page. domain_count (read page))
unfolding ones_over sum_below
pages_ones read zero = refl
pages_ones read (suc n) =
    let here : 0 + n ≡ n = omega arith in
    ap ones_over (rw here at (last_entry read 0 n)) ∙ omega (arith, ones_append (entries 1 read 0 n) (read n ∷ []), pages_ones read n)

sums_alike : (n : ℕ) (f g : ℕ → ℕ) → ((i : ℕ) → i < n → f i ≡ g i) → sum_below n f ≡ sum_below n g
unfolding sum_below
sums_alike zero f g same = refl
sums_alike (suc n) f g same = omega (arith, sums_alike n f g (λ i h. same i (omega arith)), same n (omega arith))

-- ---- images

-- RULES 13.4: to the rights of a domain an image that loads adds its pages whose field for the right holds the domain
pub rights_loaded : (right s : ℕ) (bytes : List ℕ) (rest : List Image) → (load_of bytes).number ≡ 0
    → let m = (load_of bytes).machine in
    rights_held right s (Whole bytes ∷ rest) ≡ sum_below m.pages (λ page. pick (holds (field_of m right page) s) 1 0) + rights_held right s rest
unfolding fields_over fields_in
rights_loaded right s bytes rest loaded =
    let m : Machine = (load_of bytes).machine in
    rw (eq-eqb _ 0 loaded)
    (holding_append s (entries 1 (field_of m right) 0 m.pages) (fields_over right rest)
    ∙ ap (λ (n : ℕ). n + rights_held right s rest) (pages_holding s (field_of m right) m.pages))

-- RULES 5.11, 13.4: so the image of a legal description adds its pages whose field is said to hold the domain
pub rights_described : (d : Description) → Legal d → (right s : ℕ) (rest : List Image) → right ≤ 1
    → rights_held right s (Whole (bytes_of d) ∷ rest)
    ≡ sum_below d.pages (λ page. pick (holds (get_or d.fields (2 * page + right) 0) s) 1 0) + rights_held right s rest
unfolding machine_of
rights_described d legal right s rest known =
    let loaded = legal_loads d legal in
    let m : Machine = machine_of d in
    rights_loaded right s (bytes_of d) rest (ap (λ (a : Answered). a.number) loaded)
    ∙ rw (ap (λ (a : Answered). a.machine) loaded)
    (ap (λ (n : ℕ). n + rights_held right s rest)
    (sums_alike d.pages _ _
    (λ page below. ap (λ (field : ℕ). pick (holds field s) 1 0) (pad_at 0 256 d.fields (2 * page + right) (omega (arith, legal.counts.pages_most))))))

-- RULES 13.5: to the total an image that loads adds the domains that the fields of its pages for the right hold
pub total_loaded : (right : ℕ) (bytes : List ℕ) (rest : List Image) → (load_of bytes).number ≡ 0
    → let m = (load_of bytes).machine in
    total_of right (Whole bytes ∷ rest) ≡ sum_below m.pages (λ page. domain_count (field_of m right page)) + total_of right rest
unfolding fields_over fields_in
total_loaded right bytes rest loaded =
    let m : Machine = (load_of bytes).machine in
    let here = entries 1 (field_of m right) 0 m.pages in
    omega (
      arith,
      total_ones right (Whole bytes ∷ rest),
      total_ones right rest,
      ap (λ (t : Bool). ones_over (pick t here [] ++ fields_over right rest)) (eq-eqb _ 0 loaded),
      ones_append here (fields_over right rest),
      pages_ones (field_of m right) m.pages,
    )

-- RULES 13.3, 13.5: an image whose load is refused adds to no domain's rights and to no total, and is counted among the refused
pub refused_adds_nothing : (right s : ℕ) (bytes : List ℕ) (rest : List Image) → ((load_of bytes).number ≡ 0 → ⊥)
    → (rights_held right s (Whole bytes ∷ rest) ≡ rights_held right s rest) × (total_of right (Whole bytes ∷ rest) ≡ total_of right rest)
    × (refused_of (Whole bytes ∷ rest) ≡ 1 + refused_of rest)
unfolding fields_over fields_in refused_of
refused_adds_nothing right s bytes rest refused = rw (ne_eqb _ 0 refused) (refl, refl, refl)

-- RULES 13.3, 13.5: and so does one that is cut
pub cut_adds_nothing : (right s : ℕ) (rest : List Image)
    → (rights_held right s (Cut ∷ rest) ≡ rights_held right s rest) × (total_of right (Cut ∷ rest) ≡ total_of right rest) × (refused_of (Cut ∷ rest) ≡ 1 + refused_of rest)
unfolding fields_over fields_in refused_of
cut_adds_nothing right s rest = (refl, refl, refl)

-- RULES 13.5: an image that loads is not counted among the refused
pub loaded_not_refused : (bytes : List ℕ) (rest : List Image) → (load_of bytes).number ≡ 0 → refused_of (Whole bytes ∷ rest) ≡ refused_of rest
unfolding refused_of
loaded_not_refused bytes rest loaded = rw (eq-eqb _ 0 loaded) (omega arith)

-- RULES 13.2, 13.3: whatever its bytes are, an image of which some are missing is refused, and so is a single byte in place of a length
pub cut_refused : (right s : ℕ) (left : List ℕ) → 0 < length left → length left < 2 + word_at left 0
    → let images = images_of left in (rights_held right s images ≡ 0) × (total_of right images ≡ 0) × (refused_of images ≡ 1)
unfolding fields_over fields_in fields_holding sum_below refused_of
cut_refused right s left some few = rw (first_cut left some few) (refl, refl, refl)

-- how many images pass a test
pub count_of : (Image → Bool) → List Image → ℕ
count_of test [] = 0
count_of test (image ∷ rest) = pick (test image) 1 0 + count_of test rest

-- RULES 13.5: the images that load and those refused are all images
pub images_all : (images : List Image) → count_of loads images + refused_of images ≡ length images
unfolding count_of refused_of
images_all [] = refl
images_all (image ∷ rest) = split (loads image) (images_all rest)
  where
    split : (t : Bool) → count_of loads rest + refused_of rest ≡ length rest → pick t 1 0 + count_of loads rest + (pick t 0 1 + refused_of rest) ≡ suc (length rest)
    split true h = omega (arith, h)
    split false h = omega (arith, h)

-- ---- how large the numbers get

-- each field takes four bytes of the input, and each image two at least, but for a byte that is left over
fields_within : (right n : ℕ) (left : List ℕ) → 4 * length (fields_over right (images_past n left)) ≤ length left - n
unfolding images_past fields_over fields_in
fields_within right n [] = omega arith
fields_within right (suc n) (byte ∷ left) = omega (arith, fields_within right n left)
fields_within right zero (byte ∷ []) = omega arith
fields_within right zero (high ∷ low ∷ left) =
    let n = word_of high low in
    omega (arith, length-append (fields_in right (image_of n left)) (fields_over right (images_past n left)), here (leb n (length left)) refl, fields_within right n left)
  where
    here : (t : Bool) → leb (word_of high low) (length left) ≡ t
        → 4 * length (fields_in right (pick t (Whole (take (word_of high low) left)) Cut)) + (length left - word_of high low) ≤ length left
    here true e =
        let enough = leb-true (word_of high low) (length left) e in
        omega (arith, fields_few right (take (word_of high low) left), length-take-le (word_of high low) left enough)
    here false e = omega arith

images_within : (n : ℕ) (left : List ℕ) → 2 * length (images_past n left) ≤ length left + 1 - n
unfolding images_past
images_within n [] = omega arith
images_within (suc n) (byte ∷ left) = omega (arith, images_within n left)
images_within zero (byte ∷ []) = omega arith
images_within zero (high ∷ low ∷ left) = omega (arith, images_within (word_of high low) left)

-- RULES 13.4, 13.5: so of an input that is counted no domain has more than 8,192 rights, no total is above 131,072, and no more than 16,384 images are refused
pub counts_fit : (input : List ℕ) → length input ≤ 32768 → (right s : ℕ)
    → (rights_held right s (images_of input) ≤ 8192) × (total_of right (images_of input) ≤ 131072) × (refused_of (images_of input) ≤ 16384)
counts_fit input within right s =
    let fields = fields_over right (images_of input) in
    let few = fields_within right 0 input in (
      omega (arith, holding_most s fields),
      omega (arith, total_ones right (images_of input), ones_most fields),
      omega (arith, images_all (images_of input), images_within 0 input),
    )
