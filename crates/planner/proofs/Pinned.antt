-- What the definitions of this crate come to, written out: parents, the first ancestors, sets, each number and each order of two, whole plans beside figure 4
-- of Lopriore's paper, and a plan spelled out for every list. All is computed but the ancestors, which are named by their ways up, so that a definition that was misread differs.
use Prim.Native.Nat.{ℕ, suc}
use mathlib.Core.Path.{◌≡◌, refl}
use mathlib.Core.Bool.{Bool, true, false, not, ◌&&◌, ◌||◌}
use mathlib.Core.List.{List, [], ◌∷◌, map}
use lib.Dec.{eqb, leb}
use lib.ListN.{length, get_or, replicate}
use Rattle.std.proofs.lemmas.Bool.{both_ways}
use Rattle.rules.specs.Domains.{domain_bit}
use Rattle.rules.specs.Refusals.{pick}
use Rattle.machine.specs.Calls.{any}
use Rattle.image.specs.Description.{pad}
use Rattle.planner.specs.Ancestors.{is_parent, Ancestor, parent, above, reaches}
use Rattle.planner.specs.Plan.{Planned, each, set_below, set_of, plan_checks, planned_of, plan_of}
use Rattle.planner.proofs.Ancestry.{ancestry_told}
use Rattle.planner.proofs.Rings.{row, ring}

-- RULES 11.1: the parent of a context is what stands at its place, unless that is 255, for every list and all numbers
pub parent_spelled : (list : List ℕ) (p k : ℕ) → is_parent list p k ≡ (eqb (get_or list k 255) p && not (eqb p 255))
parent_spelled list p k = refl

-- who is the parent of whom in a list of four: the next context, a context itself, none, and one that is no context; past the list nobody has one
pub parents_read :
    let list : List ℕ = 1 ∷ 1 ∷ 255 ∷ 9 ∷ [] in
    (map (λ p. is_parent list p 0) (0 ∷ 1 ∷ 2 ∷ 255 ∷ []) ≡ false ∷ true ∷ false ∷ false ∷ [])
    × (map (λ p. is_parent list p 1) (0 ∷ 1 ∷ 2 ∷ 255 ∷ []) ≡ false ∷ true ∷ false ∷ false ∷ [])
    × (map (λ p. is_parent list p 2) (0 ∷ 1 ∷ 254 ∷ 255 ∷ []) ≡ false ∷ false ∷ false ∷ false ∷ [])
    × (map (λ p. is_parent list p 3) (0 ∷ 3 ∷ 9 ∷ 255 ∷ []) ≡ false ∷ false ∷ true ∷ false ∷ [])
    × (map (λ p. is_parent list p 4) (0 ∷ 1 ∷ 4 ∷ 255 ∷ []) ≡ false ∷ false ∷ false ∷ false ∷ [])
    × (is_parent [] 0 0 ∷ is_parent (0 ∷ []) 0 0 ∷ is_parent (254 ∷ []) 254 0 ∷ [] ≡ false ∷ true ∷ true ∷ [])
parents_read = (refl, refl, refl, refl, refl, refl)

-- RULES 11.2: of any context of any list the parent, its parent and that one's parent are ancestors, whichever numbers they have
pub ancestors_found : (list : List ℕ) (k a b c : ℕ) → is_parent list a k ≡ true → is_parent list b a ≡ true → is_parent list c b ≡ true
    → Ancestor list a k × Ancestor list b k × Ancestor list c k
ancestors_found list k a b c first second third = (parent first, above (parent first) second, above (above (parent first) second) third)

-- RULES 11.2: the test of ancestors, one step: with one context more between the two, for every list and all numbers
pub reaches_spelled : (list : List ℕ) (m a k : ℕ)
    → (reaches list 0 a k ≡ is_parent list a k) × (reaches list (suc m) a k ≡ (reaches list m a k || reaches list m m k && reaches list m a m))
unfolding reaches
reaches_spelled list m a k = (refl, refl)

-- the domains of a test: all, each end, none past the last, two; and what belongs to each number
pub sets_made :
    (set_of (λ j. true) ∷ set_of (λ j. false) ∷ set_of (eqb 0) ∷ set_of (eqb 15) ∷ set_of (eqb 16) ∷ set_of (λ j. eqb 3 j || eqb 9 j) ∷ []
    ≡ 65535 ∷ 0 ∷ 1 ∷ 32768 ∷ 0 ∷ 520 ∷ [])
    × (each 4 (λ k. k) ≡ 0 ∷ 1 ∷ 2 ∷ 3 ∷ [])
unfolding set_below each domain_bit
sets_made = (refl, refl)

abbrev done : List ℕ → Planned
done contexts = record { number = 0; contexts = contexts }

abbrev refused : ℕ → Planned
refused number = record { number = number; contexts = 0 ∷ 0 ∷ 0 ∷ 0 ∷ 0 ∷ 0 ∷ 0 ∷ 0 ∷ 0 ∷ 0 ∷ 0 ∷ 0 ∷ 0 ∷ 0 ∷ 0 ∷ 0 ∷ [] }

-- whole plans: contexts 0 and 1 under 2 (figure 4a), the ring of three (figure 4b), the ring the other way round, one context, two trees of which one is deep; and those that are refused, for a
-- cycle of one, of two, of three, one into which context 0 leads, for a missing parent, also beside a cycle, for no context and for seventeen
pub plans_made :
    map plan_of
    ((2 ∷ 2 ∷ 255 ∷ []) ∷ (1 ∷ 2 ∷ 255 ∷ []) ∷ (255 ∷ 0 ∷ 1 ∷ []) ∷ (255 ∷ []) ∷ (255 ∷ 0 ∷ 4 ∷ 2 ∷ 255 ∷ []) ∷ (0 ∷ []) ∷ (1 ∷ 0 ∷ []) ∷ (1 ∷ 2 ∷ 0 ∷ []) ∷ (1 ∷ 2 ∷ 1 ∷ [])
    ∷ (255 ∷ 2 ∷ []) ∷ (0 ∷ 2 ∷ []) ∷ [] ∷ replicate 17 255 ∷ [])
    ≡ done (1 ∷ 2 ∷ 7 ∷ 0 ∷ 0 ∷ 0 ∷ 0 ∷ 0 ∷ 0 ∷ 0 ∷ 0 ∷ 0 ∷ 0 ∷ 0 ∷ 0 ∷ 0 ∷ [])
    ∷ done (1 ∷ 3 ∷ 7 ∷ 0 ∷ 0 ∷ 0 ∷ 0 ∷ 0 ∷ 0 ∷ 0 ∷ 0 ∷ 0 ∷ 0 ∷ 0 ∷ 0 ∷ 0 ∷ [])
    ∷ done (7 ∷ 6 ∷ 4 ∷ 0 ∷ 0 ∷ 0 ∷ 0 ∷ 0 ∷ 0 ∷ 0 ∷ 0 ∷ 0 ∷ 0 ∷ 0 ∷ 0 ∷ 0 ∷ [])
    ∷ done (1 ∷ 0 ∷ 0 ∷ 0 ∷ 0 ∷ 0 ∷ 0 ∷ 0 ∷ 0 ∷ 0 ∷ 0 ∷ 0 ∷ 0 ∷ 0 ∷ 0 ∷ 0 ∷ [])
    ∷ done (3 ∷ 2 ∷ 12 ∷ 8 ∷ 28 ∷ 0 ∷ 0 ∷ 0 ∷ 0 ∷ 0 ∷ 0 ∷ 0 ∷ 0 ∷ 0 ∷ 0 ∷ 0 ∷ [])
    ∷ refused 32 ∷ refused 32 ∷ refused 32 ∷ refused 32 ∷ refused 31 ∷ refused 31 ∷ refused 30 ∷ refused 30 ∷ []
unfolding planned_of plan_checks set_below each domain_bit reaches
plans_made = refl

-- RULES 11.7: the plans of figure 4
pub figures_planned :
    (plan_of (2 ∷ 2 ∷ 255 ∷ []) ≡ done (1 ∷ 2 ∷ 7 ∷ 0 ∷ 0 ∷ 0 ∷ 0 ∷ 0 ∷ 0 ∷ 0 ∷ 0 ∷ 0 ∷ 0 ∷ 0 ∷ 0 ∷ 0 ∷ []))
    × (plan_of (1 ∷ 2 ∷ 255 ∷ []) ≡ done (1 ∷ 3 ∷ 7 ∷ 0 ∷ 0 ∷ 0 ∷ 0 ∷ 0 ∷ 0 ∷ 0 ∷ 0 ∷ 0 ∷ 0 ∷ 0 ∷ 0 ∷ 0 ∷ []))
unfolding planned_of plan_checks set_below each domain_bit reaches
figures_planned = (refl, refl)

-- RULES 11.2: of a cycle of two and a context that leads into it, those on the cycle are their own ancestors, and it is not
pub led_into_cycle :
    let list : List ℕ = 1 ∷ 2 ∷ 1 ∷ [] in
    (Ancestor list 0 0 → ⊥) × Ancestor list 1 1 × Ancestor list 2 2
unfolding reaches
led_into_cycle =
    let list : List ℕ = 1 ∷ 2 ∷ 1 ∷ [] in
    ((λ way. both_ways _ refl ((ancestry_told list 0 0).1 way)), (ancestry_told list 1 1).0 refl, (ancestry_told list 2 2).0 refl)

-- RULES 11.5: rings, and lists that lead round
pub rings_written :
    (ring 1 ∷ ring 2 ∷ ring 3 ∷ ring 16 ∷ []
    ≡ (255 ∷ []) ∷ (1 ∷ 255 ∷ []) ∷ (1 ∷ 2 ∷ 255 ∷ []) ∷ (1 ∷ 2 ∷ 3 ∷ 4 ∷ 5 ∷ 6 ∷ 7 ∷ 8 ∷ 9 ∷ 10 ∷ 11 ∷ 12 ∷ 13 ∷ 14 ∷ 15 ∷ 255 ∷ []) ∷ [])
    × (row 0 1 ∷ row 0 2 ∷ row 0 3 ∷ [] ≡ (0 ∷ []) ∷ (1 ∷ 0 ∷ []) ∷ (1 ∷ 2 ∷ 0 ∷ []) ∷ [])
unfolding each
rings_written = (refl, refl)

-- The numbers and the places for tests that are handed in, whether or not they tell the ancestors of the list: what a plan makes of its test, at the ends of each range. Where one
-- condition alone is met, and where several are.
abbrev free : ℕ → ℕ → Bool
free a k = false

abbrev cyclic : ℕ → ℕ → Bool
cyclic a k = true

pub plan_numbers :
    (map (λ (list : List ℕ). (planned_of list free).number)
    ([] ∷ (255 ∷ []) ∷ replicate 16 255 ∷ replicate 17 255 ∷ replicate 256 255 ∷ replicate 257 255 ∷ [])
    ≡ 30 ∷ 0 ∷ 0 ∷ 30 ∷ 30 ∷ 30 ∷ [])
    × (map (λ (list : List ℕ). (planned_of list free).number)
    ((0 ∷ []) ∷ (1 ∷ []) ∷ (2 ∷ []) ∷ (16 ∷ []) ∷ (254 ∷ []) ∷ (2 ∷ 255 ∷ []) ∷ (255 ∷ 2 ∷ []) ∷ (1 ∷ 255 ∷ []) ∷ (15 ∷ replicate 15 255) ∷ (16 ∷ replicate 15 255)
    ∷ (15 ∷ replicate 14 255) ∷ [])
    ≡ 0 ∷ 31 ∷ 31 ∷ 31 ∷ 31 ∷ 31 ∷ 31 ∷ 0 ∷ 0 ∷ 31 ∷ 31 ∷ [])
    × (map (λ (list : List ℕ). (planned_of list cyclic).number)
    ([] ∷ (0 ∷ []) ∷ (1 ∷ []) ∷ (0 ∷ 2 ∷ []) ∷ replicate 16 255 ∷ replicate 17 255 ∷ replicate 17 200 ∷ []) ≡ 30 ∷ 32 ∷ 31 ∷ 31 ∷ 32 ∷ 30 ∷ 30 ∷ [])
    × (map (λ (own : ℕ). (planned_of (replicate 16 255) (λ a k. eqb a own && eqb k own)).number) (0 ∷ 1 ∷ 8 ∷ 15 ∷ 16 ∷ []) ≡ 32 ∷ 32 ∷ 32 ∷ 32 ∷ 0 ∷ [])
    × ((planned_of (255 ∷ 255 ∷ []) (λ a k. eqb a 0 && eqb k 1)).number ∷ (planned_of (255 ∷ []) (λ a k. eqb a 1 && eqb k 1)).number ∷ [] ≡ 0 ∷ 0 ∷ [])
unfolding planned_of plan_checks each
plan_numbers = (refl, refl, refl, refl, refl)

-- sixteen contexts: fifteen of them below the last
pub sixteen_placed :
    planned_of (replicate 16 255) (λ a k. eqb a 15 && not (eqb k 15))
    ≡ done (1 ∷ 2 ∷ 4 ∷ 8 ∷ 16 ∷ 32 ∷ 64 ∷ 128 ∷ 256 ∷ 512 ∷ 1024 ∷ 2048 ∷ 4096 ∷ 8192 ∷ 16384 ∷ 65535 ∷ [])
unfolding planned_of plan_checks set_below each domain_bit
sixteen_placed = refl

-- RULES 11.3, 11.4: a plan, spelled out for every list and test
pub plan_spelled : (list : List ℕ) (is_ancestor : ℕ → ℕ → Bool)
    → let n = length list in
    let number : ℕ =
    pick (not (leb 1 n && leb n 16)) 30
    (pick (any (λ p. not (eqb p 255) && leb n p) list) 31 (pick (any (λ k. is_ancestor k k) (each n (λ k. k))) 32 0)) in
    planned_of list is_ancestor
    ≡ record {
      number = number;
      contexts = pick (eqb number 0) (pad 16 0 (each n (λ k. set_below 16 (λ j. eqb j k || is_ancestor k j)))) (replicate 16 0);
    }
unfolding planned_of plan_checks
plan_spelled list is_ancestor = refl
