-- The stored cases one after another, each a kind of 1 byte, a length of 3 bytes and that many bytes (src/main.rt). They are for tests: no rule.
use Rattle.std.specs.Prelude.{ℕ, ◌+◌, ◌*◌, Bool, List, eqb, leb, length}
use Rattle.image.specs.Bytes.{byte_at, word_at}
use Rattle.rules.specs.Refusals.{pick}

-- whether the case at a place is one of writing: its kind is 1
abbrev pub is_writing : List ℕ → ℕ → Bool
is_writing bytes at = eqb (byte_at bytes at) 1

-- where the case at a place ends
unfoldable pub end_of : List ℕ → ℕ → ℕ
end_of bytes at = at + 4 + (65536 * byte_at bytes (1 + at) + word_at bytes (2 + at))

-- where the next case stands: at the end of this one, or at the end of the bytes where they cut it
unfoldable pub next_of : List ℕ → ℕ → ℕ
next_of bytes at = pick (leb (end_of bytes at) (length bytes)) (end_of bytes at) (length bytes)
