-- Bytes and numbers of 16 bits (RULES, section 5).
use Rattle.std.specs.Prelude.{ℕ, zero, suc, ◌+◌, ◌*◌, ◌/◌, ◌%◌, ◌<◌, List, [], ◌∷◌, ◌++◌, get_or}

-- the byte at a place of a string of bytes; 0 past its end
abbrev pub byte_at : List ℕ → ℕ → ℕ
byte_at s at = get_or s at 0

-- RULES 5.1: the number of a high byte and a low byte
abbrev pub word_of : ℕ → ℕ → ℕ
word_of high low = 256 * high + low

-- RULES 5.1: the number at a place, where its high byte stands first
abbrev pub word_at : List ℕ → ℕ → ℕ
word_at s at = word_of (byte_at s at) (byte_at s (1 + at))

-- RULES 5.1: a number as it is written
abbrev pub word : ℕ → List ℕ
word w = w / 256 ∷ w % 256 ∷ []

-- RULES 5.1: a string of bytes, each of them a number below 256
abbrev pub Bytes : List ℕ → Type 0
Bytes s = (at : ℕ) → byte_at s at < 256

module _ {A : Type 0} where
  -- RULES 5.2: bodies of one size that stand one after another, with nothing between them: n of them read, the first at a place
  abbrev pub entries : (size : ℕ) → (ℕ → A) → (at n : ℕ) → List A
  entries size read at zero = []
  entries size read at (suc n) = read at ∷ entries size read (size + at) n

  -- RULES 5.2: a list of bodies written so
  abbrev pub bodies : (A → List ℕ) → List A → List ℕ
  bodies write [] = []
  bodies write (x ∷ rest) = write x ++ bodies write rest
