-- What `rightsum` prints (RULES, section 13).
use Rattle.std.specs.Prelude.{ℕ, zero, suc, List, [], ◌++◌, leb}
use Rattle.rules.specs.Refusals.{pick}
use Rattle.rights.specs.Site.{Image, images_of, rights_held, total_of, refused_of, is_long}
use Rattle.text.specs.Text.{letters, leading_digit, decimal_of, column}

-- RULES 13.4: a number below 1,000,000 in decimal: of one that has six digits, `decimal_of` has the last five
abbrev pub sum_of : ℕ → List ℕ
sum_of n = leading_digit n 100000 ++ decimal_of n

-- RULES 13.4: the two numbers of a line, READ before WRITE, and its end
unfoldable pub sums_of : (reads writes : ℕ) → List ℕ
sums_of reads writes = column (sum_of reads) ++ column (sum_of writes) ++ letters "\n"

-- RULES 13.4: the lines of n domains, from s on, by what each of them has
unfoldable pub domain_lines : (reads writes : ℕ → ℕ) (s n : ℕ) → List ℕ
domain_lines reads writes s zero = []
domain_lines reads writes s (suc n) = (decimal_of s ++ sums_of (reads s) (writes s)) ++ domain_lines reads writes (suc s) n

-- RULES 13.5: the line of the totals
abbrev pub total_line : (reads writes : ℕ) → List ℕ
total_line reads writes = letters "total" ++ sums_of reads writes

-- RULES 13.5: the line of the images that did not load
abbrev pub refused_line : ℕ → List ℕ
refused_line refused = letters "refused" ++ column (decimal_of refused) ++ letters "\n"

-- RULES 13.4, 13.5: the text of numbers: those of all sixteen domains, the totals, those refused
unfoldable pub numbers_text : (reads writes : ℕ → ℕ) (read_total write_total refused : ℕ) → List ℕ
numbers_text reads writes read_total write_total refused =
    domain_lines reads writes 0 16
    ++ total_line read_total write_total
    ++ refused_line refused

-- RULES 13.4, 13.5: the text of images
abbrev pub images_text : List Image → List ℕ
images_text images =
    numbers_text (λ s. rights_held 0 s images) (λ s. rights_held 1 s images) (total_of 0 images) (total_of 1 images) (refused_of images)

-- RULES 13.6: the whole text, which for an input that is not counted is one line of its own
unfoldable pub rights_text : List ℕ → List ℕ
rights_text input = pick (is_long input) (letters "long\n") (images_text (images_of input))

-- RULES 13.8: the text in a lent buffer: all of it from 512 bytes of room on, where every text fits, and nothing below
unfoldable pub printed_rights : List ℕ → ℕ → List ℕ
printed_rights input room = pick (leb 512 room) (rights_text input) []
