-- The images of an input, one after another: what stands first in what is left of it, whole or cut, and what is left behind it; and what they add to the sums.
use Prim.Native.Nat.{ℕ, zero, suc, ◌+◌, ◌*◌, ◌≤◌, ◌<◌}
use mathlib.Core.Path.{◌≡◌, refl, ap, ◌∙◌}
use mathlib.Core.Bool.{Bool, true, false, not}
use mathlib.Core.List.{List, [], ◌∷◌}
use native.Mathlib.Nat.{add-zero}
use native.Mathlib.Omega.{arith}
use borrow.Author.Tests.{le-leb, lt-leb, eqb-true, ne_eqb}
use lib.Dec.{eqb}
use lib.ListN.{length, get_or, take, drop, length-drop, length-take, drop_of_length-le}
use lib.Seq.{drop-nil}
use Rattle.std.proofs.Common.{append-nil, add_assoc}
use Rattle.std.specs.Int.{from_bool}
use Rattle.rules.specs.Refusals.{pick}
use Rattle.machine.specs.Machine.{field_of, place_of}
use Rattle.machine.specs.declared.record.Machine.{Machine}
use Rattle.image.specs.Bytes.{word_at, entries}
use Rattle.image.specs.Description.{machine_of, pad}
use Rattle.image.specs.Load.{load_of, describe, page_count, field_at, fields_of}
use Rattle.image.proofs.Entries.{length_entries, entry_at, pad_at}
use Rattle.image.proofs.Passed.{passed}
use Rattle.rights.specs.declared.Sums.{Sums}
use Rattle.rights.specs.Site.{Image, Whole, Cut, images_past, images_of, loads, page_fields, fields_in, fields_over, refused_of}
use Rattle.rights.specs.Adding.{with_images, Within, IsSplit, IsCut}
use Rattle.rights.proofs.Added.{added_none, added_append, added_most, column_within}

-- ---- what stands first

-- past the bytes of the image before the next image stands
past_drop : (n : ℕ) (left : List ℕ) → images_past n left ≡ images_of (drop n left)
unfolding images_past
past_drop n [] = rw (drop-nil {A = ℕ} n)
past_drop zero (byte ∷ left) = refl
past_drop (suc n) (byte ∷ left) = past_drop n left

-- fewer bytes are left than a length and what it declares
pub first_cut : (left : List ℕ) → 0 < length left → length left < 2 + word_at left 0 → images_of left ≡ Cut ∷ []
unfolding images_past
first_cut [] some few = absurd (omega arith)
first_cut (byte ∷ []) some few = refl
first_cut (high ∷ low ∷ left) some few =
    let n = word_at (high ∷ low ∷ left) 0 in
    rw (lt-leb n (length left) (omega arith), past_drop n left, drop_of_length-le left {i = n} (omega arith))

-- as many are left, or more
pub first_whole : (left : List ℕ) → 2 + word_at left 0 ≤ length left
    → images_of left ≡ Whole (take (word_at left 0) (drop 2 left)) ∷ images_of (drop (word_at left 0) (drop 2 left))
unfolding images_past
first_whole [] enough = absurd (omega arith)
first_whole (byte ∷ []) enough = absurd (omega arith)
first_whole (high ∷ low ∷ left) enough =
    let n = word_at (high ∷ low ∷ left) 0 in
    rw (le-leb n (length left) (omega arith), past_drop n left)

-- both, for the image that stands first
pub cut_first : (left : List ℕ) → length left < 2 + word_at left 0 → IsCut left
unfolding images_past
cut_first [] few = refl
cut_first (byte ∷ []) few = refl
cut_first (high ∷ low ∷ left) few =
    rw (ne_eqb (length (high ∷ low ∷ left)) 0 (λ none. omega (arith, none))) (first_cut (high ∷ low ∷ left) (omega arith) few)

pub split_first : (left : List ℕ) {image rest : List ℕ} → 2 + word_at left 0 ≤ length left → image ≡ take (word_at left 0) (drop 2 left)
    → rest ≡ drop (word_at left 0) (drop 2 left) → IsSplit left image rest
split_first left enough front back =
    let n = word_at left 0 in
    rw (front, back)
    record {
      images = first_whole left enough;
      sizes = omega (arith, length-take n (drop 2 left), length-drop n (drop 2 left), length-drop 2 left);
    }

-- ---- how many fields an image has

-- each page takes four bytes of an image that loads
pub fields_few : (right : ℕ) (bytes : List ℕ) → 4 * length (fields_in right (Whole bytes)) ≤ length bytes
unfolding fields_in load_of machine_of describe
fields_few right bytes = split (eqb (load_of bytes).number 0) refl
  where
    split : (t : Bool) → eqb (load_of bytes).number 0 ≡ t → 4 * length (pick t (page_fields right (load_of bytes).machine) []) ≤ length bytes
    split true e =
        let loads = passed bytes (eqb-true _ _ e) in
        let machine : Machine = (load_of bytes).machine in
        let pages : machine.pages ≡ page_count bytes = rw e in
        omega (arith, length_entries 1 (field_of machine right) 0 machine.pages, pages, loads.ends)
    split false e = omega arith

-- what is read at as many places is the same list, where it is the same at each
entries_alike : (f g : ℕ → ℕ) (at n : ℕ) → ((i : ℕ) → i < n → f (at + i) ≡ g (at + i)) → entries 1 f at n ≡ entries 1 g at n
entries_alike f g at zero same = refl
entries_alike f g at (suc n) same =
    let here : at + 0 ≡ at = omega arith in
    rw (rw here at (same 0 (omega arith)))
    (ap (λ (rest : List ℕ). g at ∷ rest)
    (entries_alike f g (1 + at) n (λ i h. let next : at + suc i ≡ 1 + at + i = omega arith in rw next at (same (suc i) (omega arith)))))

-- the fields of the machine that an image loads to are those of its bytes
pub loaded_fields : (right : ℕ) (bytes : List ℕ) → right ≤ 1 → (load_of bytes).number ≡ 0
    → page_fields right (load_of bytes).machine ≡ entries 1 (λ page. field_at bytes (22 + 2 * place_of right page)) 0 (page_count bytes)
unfolding load_of machine_of describe
loaded_fields right bytes known loads =
    let facts = passed bytes loads in
    rw loads
    (entries_alike (λ page. get_or (pad 256 0 (fields_of bytes)) (place_of right page) 0) (λ page. field_at bytes (22 + 2 * place_of right page)) 0 (page_count bytes)
    (λ page below.
    pad_at 0 256 (fields_of bytes) (place_of right (0 + page)) (omega (arith, facts.pages_most))
    ∙ entry_at 2 (field_at bytes) 0 22 (2 * page_count bytes) (place_of right (0 + page)) (omega arith)))

-- ---- images added one after another

-- sums are the same where all their parts are
pub same_sums : {reads reads' writes writes' : List ℕ} {refused refused' : ℕ} → reads ≡ reads' → writes ≡ writes' → refused ≡ refused'
    → let sums : Sums = record { reads = reads; writes = writes; refused = refused } in
    let sums' : Sums = record { reads = reads'; writes = writes'; refused = refused' } in sums ≡ sums'
same_sums a b c = rw (a, b, c)

pub images_then : (sums : Sums) (image : Image) (rest : List Image) → with_images (with_images sums (image ∷ [])) rest ≡ with_images sums (image ∷ rest)
unfolding fields_over refused_of
images_then sums image rest =
    rw (append-nil (fields_in 0 image), append-nil (fields_in 1 image), added_append 0 sums.reads, added_append 0 sums.writes, add-zero, add_assoc)

-- no number grows by more than four for each byte of an image, and one
pub images_most : (bound : ℕ) (sums : Sums) (bytes : List ℕ) → Within bound sums → Within (bound + 4 * length bytes + 1) (with_images sums (Whole bytes ∷ []))
unfolding fields_over refused_of
images_most bound sums bytes so =
    rw (append-nil (fields_in 0 (Whole bytes)), append-nil (fields_in 1 (Whole bytes)))
    record {
      reads = column_within _ (added_most bound sums.reads (fields_in 0 (Whole bytes)) so.reads) (omega (arith, fields_few 0 bytes));
      writes = column_within _ (added_most bound sums.writes (fields_in 1 (Whole bytes)) so.writes) (omega (arith, fields_few 1 bytes));
      refused = omega (arith, so.refused, refused_one (loads (Whole bytes)));
    }
  where
    refused_one : (b : Bool) → pick b 0 1 ≤ 1
    refused_one true = omega arith
    refused_one false = omega arith

pub larger_within : {bound : ℕ} {sums : Sums} (larger : ℕ) → Within bound sums → bound ≤ larger → Within larger sums
larger_within larger so h =
    record { reads = column_within larger so.reads h; writes = column_within larger so.writes h; refused = omega (arith, so.refused) }

-- what is left at the end adds no field, and one to those refused where it is not empty
pub cut_last : (sums : Sums) (left : List ℕ) → IsCut left
    → with_images sums (images_of left) ≡ record sums { refused = sums.refused + from_bool (not (eqb (length left) 0)) }
unfolding fields_over fields_in refused_of
cut_last sums left cut = rw cut (split (eqb (length left) 0))
  where
    split : (b : Bool) → with_images sums (pick b [] (Cut ∷ [])) ≡ record sums { refused = sums.refused + from_bool (not b) }
    split true = rw (added_none 0 sums.reads, added_none 0 sums.writes)
    split false = rw (added_none 0 sums.reads, added_none 0 sums.writes)
