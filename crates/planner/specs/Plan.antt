-- What the planner gives for a list of contexts (RULES 11.3, 11.4).
use Rattle.std.specs.Prelude.{ℕ, zero, suc, Bool, not, ◌&&◌, ◌||◌, List, [], ◌∷◌, eqb, leb, length, replicate}
use Rattle.rules.specs.Domains.{with_bit}
use Rattle.rules.specs.Refusals.{Check, ◌⇒◌, first, pick}
use Rattle.machine.specs.Calls.{any}
use Rattle.image.specs.Description.{pad}
use Rattle.planner.specs.Ancestors.{no_parent, is_ancestor}

-- RULES 11.3, 11.4: a plan: its number, and the global context of each context, in sixteen places
pub record Planned : Type 0 where
  pub number : ℕ
  pub contexts : List ℕ

module _ {A : Type 0} where
  -- what belongs to 0, to 1 and so on, to each number below n
  unfoldable pub each : (n : ℕ) → (ℕ → A) → List A
  each zero of = []
  each (suc n) of = of 0 ∷ each n (λ k. of (suc k))

-- the set of the domains below n to which a test says yes
unfoldable pub set_below : (n : ℕ) → (ℕ → Bool) → ℕ
set_below zero test = 0
set_below (suc s) test = pick (test s) (with_bit (set_below s test) s) (set_below s test)

-- RULES 1.6: the set of all domains to which a test says yes
abbrev pub set_of : (ℕ → Bool) → ℕ
set_of test = set_below 16 test

-- RULES 11.3: the global context of context k: its own domain, and those of all its descendants. `above k j` says that k is an ancestor of j.
abbrev pub global_context : (above : ℕ → ℕ → Bool) → ℕ → ℕ
global_context above k = set_of (λ j. eqb j k || above k j)

-- RULES 11.3: the global contexts of so many contexts in sixteen places, with zero in those past the last
abbrev pub contexts_of : (above : ℕ → ℕ → Bool) → (count : ℕ) → List ℕ
contexts_of above count = pad 16 0 (each count (global_context above))

-- RULES 11.4: as many contexts as there are domains for, and one at least; 30 where that is not so
abbrev pub is_count : ℕ → Bool
is_count count = leb 1 count && leb count 16

-- RULES 11.4, for 31: an entry of the list that names a parent which is none of so many contexts
abbrev pub is_missing : (count : ℕ) → ℕ → Bool
is_missing count p = not (eqb p no_parent) && leb count p

-- RULES 11.4: the conditions of a plan, in order; for 32 some context is its own ancestor
unfoldable pub plan_checks : List ℕ → (above : ℕ → ℕ → Bool) → List Check
plan_checks list above =
    (not (is_count (length list)) ⇒ 30)
    ∷ (any (is_missing (length list)) list ⇒ 31)
    ∷ (any (λ k. above k k) (each (length list) (λ k. k)) ⇒ 32)
    ∷ []

-- RULES 11.3, 11.4: a plan by a test of who is whose ancestor: the number of the first condition that is met, and the sixteen places, all zero where it is refused
unfoldable pub planned_of : List ℕ → (above : ℕ → ℕ → Bool) → Planned
planned_of list above =
    let number = first (plan_checks list above) in
    record { number = number; contexts = pick (eqb number 0) (contexts_of above (length list)) (replicate 16 0) }

-- RULES 11.2 to 11.4: the plan of a list, by its own ancestors
abbrev pub plan_of : List ℕ → Planned
plan_of list = planned_of list (is_ancestor list)
