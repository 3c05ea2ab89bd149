-- What the private `mark_way` does at each step on the way up from a context. The definition of a plan rests on nothing of this.
use Rattle.std.specs.Prelude.{ℕ, zero, suc, Bool, true, List, leb, ltb, length, get_or, set}
use Rattle.rules.specs.Domains.{with_bit}
use Rattle.rules.specs.Refusals.{pick}
use Rattle.planner.specs.Ancestors.{no_parent}

-- whether the way up from a place leads out of the list within so many contexts
unfoldable pub ends : List ℕ → (left at : ℕ) → Bool
ends list zero at = leb (length list) at
ends list (suc left) at = pick (ltb at (length list)) (ends list left (get_or list at no_parent)) true

-- sets in which a domain is put at the place of each of the first so many contexts on the way up
unfoldable pub marked : List ℕ → (left at domain : ℕ) → List ℕ → List ℕ
marked list zero at domain sets = sets
marked list (suc left) at domain sets =
    pick (ltb at (length list)) (marked list left (get_or list at no_parent) domain (set sets at (with_bit (get_or sets at 0) domain))) sets
