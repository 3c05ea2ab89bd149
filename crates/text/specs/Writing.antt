-- What the private writers do to a text in a lent buffer. The definitions of the texts rest on nothing of this.
use Rattle.std.specs.Prelude.{ℕ, ◌+◌, ◌≤◌, ◌≡◌, List, length}
use Rattle.text.specs.declared.Text.{Text}
use Rattle.text.specs.Put.{Put}

-- there is room for so many bytes behind a text
abbrev pub HasRoom : (n : ℕ) → Text → Type 0
HasRoom n text = text.size + n ≤ length text.out.now

-- bytes are put behind a text, in the same buffer
pub record Wrote (before after : Text) (bytes : List ℕ) : Type 0 where
  pub buffer : after.out.ghost_name ≡ before.out.ghost_name
  pub put : Put before.out.now before.size bytes after.out.now after.size
