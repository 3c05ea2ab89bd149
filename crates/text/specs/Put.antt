-- What a writer into a lent buffer does: a text at a place, the other bytes as they were (RULES 8.7).
use Rattle.std.specs.Prelude.{ℕ, ◌+◌, ◌≡◌, List, length}
use Rattle.std.proofs.lemmas.List.Edits.{sets}

-- RULES 8.7: the buffer at exit is the one at entry with the text stored from the place on, and the answer is the place past the text
pub record Put (entry : List ℕ) (at : ℕ) (text exit : List ℕ) (past : ℕ) : Type 0 where
  pub stored : exit ≡ sets entry at text
  pub next : past ≡ at + length text
