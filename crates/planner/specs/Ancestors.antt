-- The contexts of a list, their parents and their ancestors (RULES 11.1, 11.2).
use Rattle.std.specs.Prelude.{ℕ, zero, suc, ◌≡◌, Bool, true, not, ◌&&◌, ◌||◌, List, ◌↔◌, eqb, get_or, length}

-- RULES 11.1: what stands in the list for a context that has no parent
abbrev pub no_parent : ℕ
no_parent = 255

-- RULES 11.1: p is the parent of context k: it stands at k's place in the list, and is not what stands for none. Past the end of the list there is no context, and so no parent.
abbrev pub is_parent : List ℕ → (p k : ℕ) → Bool
is_parent list p k = eqb (get_or list k no_parent) p && not (eqb p no_parent)

-- RULES 11.2: a is an ancestor of context k: its parent, or the parent of an ancestor of k. Then k is a descendant of a.
pub data Ancestor (list : List ℕ) : (a k : ℕ) → Type 0 where
  parent : {p k : ℕ} → is_parent list p k ≡ true → Ancestor list p k
  above : {p a k : ℕ} → Ancestor list a k → is_parent list p a ≡ true → Ancestor list p k

-- RULES 11.2: a test tells the ancestors of a list where it says yes to a and k exactly if a is an ancestor of k
abbrev pub Tells : List ℕ → (test : ℕ → ℕ → Bool) → Type 0
Tells list test = (a k : ℕ) → (test a k ≡ true) ↔ Ancestor list a k

-- RULES 11.2: a is reached from k going up, with none but contexts below m between the two. With context m allowed as well: as before, or from k to m
-- and from m to a.
unfoldable pub reaches : List ℕ → ℕ → (a k : ℕ) → Bool
reaches list zero a k = is_parent list a k
reaches list (suc m) a k = reaches list m a k || reaches list m m k && reaches list m a m

-- RULES 11.2: a is an ancestor of k, as a test: any context of the list may stand between them. It tells the ancestors of every list (`ancestry_told`), and any test
-- that does makes the same plan (`plan_one`).
abbrev pub is_ancestor : List ℕ → (a k : ℕ) → Bool
is_ancestor list a k = reaches list (length list) a k
