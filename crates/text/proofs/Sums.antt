-- The pieces of the text of rights: how long each is at the most, and the lines of the domains one after another.
use Prim.Native.Nat.{ℕ, zero, suc, ◌+◌, ◌*◌, ◌-◌, ◌≤◌, ◌<◌}
use mathlib.Core.Path.{◌≡◌, refl}
use mathlib.Core.Bool.{Bool, true, false}
use mathlib.Core.List.{List, [], ◌++◌}
use native.Mathlib.Numerals.{add-one}
use native.Mathlib.Omega.{arith}
use borrow.Author.Tests.{lt-ltb, le-ltb}
use lib.Dec.{leb}
use lib.ListN.{length, get_or, length-append}
use Rattle.rules.specs.Refusals.{pick}
use Rattle.rights.specs.Site.{Image, images_of, rights_held, total_of, refused_of, is_long, counted_of}
use Rattle.text.specs.Text.{letters, decimal_of, column}
use Rattle.text.specs.Rights.{sum_of}
use Rattle.text.specs.Rights.{sums_of, domain_lines, total_line, refused_line, numbers_text, images_text, rights_text, printed_rights}
use Rattle.text.specs.Put.{Put}
use Rattle.text.proofs.Puts.{decimal_most, leading_most}

pub sum_most : (n : ℕ) → length (column (sum_of n)) ≤ 7
sum_most n = simp length-append (omega (arith, leading_most n 100000, decimal_most n))

sums_most : (reads writes : ℕ) → length (sums_of reads writes) ≤ 15
unfolding sums_of
sums_most reads writes =
    simp length-append
    (omega (arith, leading_most reads 100000, decimal_most reads, leading_most writes 100000, decimal_most writes))

pub domain_most : (s reads writes : ℕ) → length (decimal_of s ++ sums_of reads writes) ≤ 20
domain_most s reads writes = simp length-append (omega (arith, decimal_most s, sums_most reads writes))

pub total_most : (reads writes : ℕ) → length (total_line reads writes) ≤ 20
total_most reads writes = simp length-append (omega (arith, sums_most reads writes))

refused_most : (refused : ℕ) → length (refused_line refused) ≤ 14
refused_most refused = simp length-append (omega (arith, decimal_most refused))

module _ (reads writes : ℕ → ℕ) where
  pub domains_most : (s n : ℕ) → length (domain_lines reads writes s n) ≤ 20 * n
  unfolding domain_lines
  domains_most s zero = omega arith
  domains_most s (suc n) =
      omega (arith, length-append (decimal_of s ++ sums_of (reads s) (writes s)) (domain_lines reads writes (suc s) n), domain_most s (reads s) (writes s), domains_most (suc s) n)

  -- the lines of the domains from s on are the line of domain s and those past it
  pub domains_next : (s : ℕ) → s < 16
      → domain_lines reads writes s (16 - s) ≡ (decimal_of s ++ sums_of (reads s) (writes s)) ++ domain_lines reads writes (s + 1) (16 - (s + 1))
  unfolding domain_lines
  domains_next s h = let some : 16 - s ≡ suc (16 - (s + 1)) = omega arith in rw (some, add-one)

-- the text from what is counted
pub counted_text : (input : List ℕ) → is_long input ≡ false
    → let counted = counted_of input in
    numbers_text (λ s. get_or counted.reads s 0) (λ s. get_or counted.writes s 0) (get_or counted.reads 16 0) (get_or counted.writes 16 0) counted.refused
    ≡ images_text (images_of input)
unfolding counted_of numbers_text domain_lines
counted_text input short = rw short

pub counted_long : (input : List ℕ) → (counted_of input).long ≡ is_long input
unfolding counted_of
counted_long input = split (is_long input) refl
  where
    split : (t : Bool) → is_long input ≡ t → (counted_of input).long ≡ t
    split true e = rw e
    split false e = rw e

-- every text is shorter than the buffer that `rights_text` asks for
pub rights_fit : (input : List ℕ) → length (rights_text input) ≤ 354
unfolding rights_text numbers_text
rights_fit input = split (is_long input)
  where
    images : List Image
    images = images_of input

    lines : List ℕ
    lines = domain_lines (λ s. rights_held 0 s images) (λ s. rights_held 1 s images) 0 16

    total : List ℕ
    total = total_line (total_of 0 images) (total_of 1 images)

    split : (t : Bool) → length (pick t (letters "long\n") (images_text images)) ≤ 354
    split true = omega arith
    split false =
        omega (
          arith,
          length-append (lines ++ total) (refused_line (refused_of images)),
          length-append lines total,
          domains_most (λ s. rights_held 0 s images) (λ s. rights_held 1 s images) 0 16,
          total_most (total_of 0 images) (total_of 1 images),
          refused_most (refused_of images),
        )

-- and so is what `rights_text` answers
pub rights_answer_fits : {entry exit : List ℕ} {past : ℕ} (input : List ℕ) (room : ℕ) → Put entry 0 (printed_rights input room) exit past → past ≤ 512
unfolding printed_rights
rights_answer_fits {past = past} input room put = omega (arith, put.next, split (leb 512 room))
  where
    split : (b : Bool) → length (pick b (rights_text input) []) ≤ 354
    split true = rights_fit input
    split false = omega arith

-- RULES 13.6: of an input above 32,768 bytes the text is the one word, and of every other it is that of its images
pub long_alone : (input : List ℕ)
    → (32768 < length input → rights_text input ≡ letters "long\n") × (length input ≤ 32768 → rights_text input ≡ images_text (images_of input))
unfolding rights_text
long_alone input = ((λ long. rw (lt-ltb 32768 (length input) long)), λ within. rw (le-ltb 32768 (length input) within))
