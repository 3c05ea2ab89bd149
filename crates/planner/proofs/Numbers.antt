-- The plan of a list by its three conditions: each number comes where the conditions before its own are not met. By computing the conditions.
use Prim.Native.Nat.{ℕ, ◌≤◌}
use mathlib.Core.Path.{◌≡◌}
use mathlib.Core.Bool.{Bool, true, false}
use mathlib.Core.List.{List}
use mathlib.Core.Logic.{◌↔◌}
use borrow.Author.Tests.{leb-true, le-leb}
use lib.Dec.{leb}
use lib.ListN.{length, replicate}
use Rattle.rules.proofs.Decided.{and_both}
use Rattle.machine.specs.Calls.{any}
use Rattle.planner.specs.Plan.{Planned, each, contexts_of, is_count, is_missing, plan_checks, planned_of}

-- a plan that is refused has zero in all sixteen places
abbrev pub refused_by : ℕ → Planned
refused_by number = record { number = number; contexts = replicate 16 0 }

pub count_exactly : (count : ℕ) → (is_count count ≡ true) ↔ ((1 ≤ count) × (count ≤ 16))
count_exactly count = (
  (λ h.
      let both = and_both (leb 1 count) (leb count 16) h in
      (leb-true 1 count both.0, leb-true count 16 both.1)),
  λ range. rw (le-leb 1 count range.0, le-leb count 16 range.1),
)

module _ (list : List ℕ) (is_ancestor : ℕ → ℕ → Bool) where
  pub planned_count : is_count (length list) ≡ false → planned_of list is_ancestor ≡ refused_by 30
  unfolding planned_of plan_checks
  planned_count count = rw count

  module _ (count : is_count (length list) ≡ true) where
    pub planned_missing : any (is_missing (length list)) list ≡ true → planned_of list is_ancestor ≡ refused_by 31
    unfolding planned_of plan_checks
    planned_missing missing = rw (count, missing)

    module _ (there : any (is_missing (length list)) list ≡ false) where
      pub planned_cycle : any (λ k. is_ancestor k k) (each (length list) (λ k. k)) ≡ true → planned_of list is_ancestor ≡ refused_by 32
      unfolding planned_of plan_checks
      planned_cycle own = rw (count, there, own)

      pub planned_all : any (λ k. is_ancestor k k) (each (length list) (λ k. k)) ≡ false
          → planned_of list is_ancestor ≡ record { number = 0; contexts = contexts_of is_ancestor (length list) }
      unfolding planned_of plan_checks
      planned_all none = rw (count, there, none)
