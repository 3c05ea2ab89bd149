-- What a load answers, computed: strings that meet two conditions, neighbours in the order of RULES 5.8, where the first decides; strings at
-- the ends of each range; and for each place of the sample's contents and shape a wrong byte there.
use Prim.Native.Nat.{ℕ}
use mathlib.Core.Path.{◌≡◌, refl}
use mathlib.Core.List.{List, [], ◌∷◌, ◌++◌, map}
use lib.ListN.{replicate, set, take}
use Rattle.image.specs.Load.{load_checks, load_of, length_tests, kind_tests, shape_entry_tests, shape_tests, body_tests}
use Rattle.image.specs.Sample.{sample_bytes}

-- the sample's bytes with others at some places
abbrev changed : List (ℕ × ℕ) → List ℕ
changed [] = sample_bytes
changed ((at, byte) ∷ rest) = set (changed rest) at byte

-- what strings of bytes are answered
abbrev Answers : List (List ℕ × ℕ) → Type 0
Answers rows = map (λ row. (load_of row.0).number) rows ≡ map (λ row. row.1) rows

-- 20 before 21, at both ends of the length
pub length_order :
    Answers
    (([], 20)
    ∷ (replicate 30 0, 20)
    ∷ (replicate 31 0, 21)
    ∷ (replicate 574 0, 21)
    ∷ (replicate 575 0, 20)
    ∷ [])
unfolding load_of load_checks length_tests kind_tests
length_order = refl

-- 21 before 22, and each kind and zero byte
pub kind_order :
    Answers
    ((changed ((0, 2) ∷ (3, 0x13) ∷ []), 21)
    ∷ (changed ((0, 2) ∷ []), 21)
    ∷ (changed ((1, 1) ∷ []), 21)
    ∷ (changed ((6, 1) ∷ []), 21)
    ∷ (changed ((7, 1) ∷ []), 21)
    ∷ (changed ((12, 2) ∷ []), 21)
    ∷ (changed ((13, 1) ∷ []), 21)
    ∷ [])
unfolding load_of load_checks length_tests kind_tests sample_bytes
kind_order = refl

-- 22 before 23, and each byte of the shape's offset and length
pub shape_entry_order :
    Answers
    ((changed ((3, 0x13) ∷ (21, 1) ∷ []), 22)
    ∷ (changed ((2, 1) ∷ []), 22)
    ∷ (changed ((3, 0x13) ∷ []), 22)
    ∷ (changed ((4, 1) ∷ []), 22)
    ∷ (changed ((5, 5) ∷ []), 22)
    ∷ [])
unfolding load_of load_checks length_tests kind_tests shape_entry_tests sample_bytes
shape_entry_order = refl

-- 23 before 24, the ends of each range of the shape, its fourth byte, and the most memory: 16 pages of 4,096 bytes and not 17. A shape within
-- the ranges, but with other counts than the bodies, is refused by 24.
pub shape_order :
    Answers
    ((changed ((21, 1) ∷ (9, 0x17) ∷ []), 23)
    ∷ (changed ((18, 0) ∷ []), 23)
    ∷ (changed ((18, 1) ∷ []), 24)
    ∷ (changed ((18, 128) ∷ []), 24)
    ∷ (changed ((18, 129) ∷ []), 23)
    ∷ (changed ((19, 4) ∷ []), 23)
    ∷ (changed ((19, 5) ∷ []), 0)
    ∷ (changed ((19, 12) ∷ []), 0)
    ∷ (changed ((19, 13) ∷ []), 23)
    ∷ (changed ((20, 0) ∷ []), 23)
    ∷ (changed ((20, 1) ∷ []), 24)
    ∷ (changed ((20, 8) ∷ []), 24)
    ∷ (changed ((20, 9) ∷ []), 23)
    ∷ (changed ((21, 1) ∷ []), 23)
    ∷ (changed ((18, 16) ∷ (19, 12) ∷ []), 24)
    ∷ (changed ((18, 17) ∷ (19, 12) ∷ []), 23)
    ∷ [])
unfolding load_of load_checks length_tests kind_tests shape_entry_tests shape_tests body_tests sample_bytes
shape_order = refl

-- 24 before 25, each byte of the other offsets and lengths, an image that goes on and one that ends before its end
pub body_order :
    Answers
    ((changed ((9, 0x17) ∷ (38, 2) ∷ []), 24)
    ∷ (changed ((8, 1) ∷ []), 24)
    ∷ (changed ((9, 0x17) ∷ []), 24)
    ∷ (changed ((10, 1) ∷ []), 24)
    ∷ (changed ((11, 0x0D) ∷ []), 24)
    ∷ (changed ((14, 1) ∷ []), 24)
    ∷ (changed ((15, 0x23) ∷ []), 24)
    ∷ (changed ((16, 1) ∷ []), 24)
    ∷ (changed ((17, 0x0B) ∷ []), 24)
    ∷ (changed [] ++ 0 ∷ [], 24)
    ∷ (take 43 (changed []), 24)
    ∷ [])
unfolding load_of load_checks length_tests kind_tests shape_entry_tests shape_tests body_tests sample_bytes
body_order = refl

-- 25, and the mode bytes that are taken
pub mode_order :
    Answers
    ((changed ((38, 2) ∷ []), 25)
    ∷ (changed ((43, 255) ∷ []), 25)
    ∷ (changed ((38, 1) ∷ (43, 1) ∷ []), 0)
    ∷ [])
unfolding load_of load_checks length_tests kind_tests shape_entry_tests shape_tests body_tests sample_bytes
mode_order = refl
