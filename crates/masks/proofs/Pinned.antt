-- The definitions of the least mask held to values that are written by hand, and written a second time for every argument: a misreading that the code follows is refused here.
use Prim.Native.Nat.{ℕ, suc, ◌+◌, ◌*◌, ◌/◌, ◌%◌, ◌^◌, ◌<◌}
use mathlib.Core.Path.{◌≡◌, refl}
use mathlib.Core.Bool.{true, false, not, ◌&&◌, ◌||◌}
use mathlib.Core.List.{List, [], ◌∷◌, ◌++◌, map}
use native.Mathlib.Omega.{arith}
use lib.Count.{ones_in}
use lib.Dec.{eqb, leb, ltb}
use lib.ListN.{length, replicate}
use Rattle.rules.specs.Domains.{domain_bit, holds, with_bit}
use Rattle.rules.specs.Refusals.{◌⇒◌, first, pick}
use Rattle.rules.specs.declared.registers.Mode.TheVariants.{User, Privileged}
use Rattle.rules.specs.declared.registers.Registers.{Registers}
use Rattle.machine.specs.Machine.{is_sound}
use Rattle.machine.specs.Calls.{access_checks, any, call_of, checks_of}
use Rattle.machine.specs.declared.record.Machine.{Machine}
use Rattle.machine.specs.declared.record.Width.TheVariants.{One}
use Rattle.machine.specs.declared.record.Call.TheVariants.{Access}
use Rattle.machine.proofs.Written.{holding, live, stored, whole}
use Rattle.masks.specs.Least.{LeastMask, right_of, page_in, under_mask, denies, will_do, masks_from, masks_within, passing, candidates, domain_count, is_less, least_of, pair_checks, least_checks, least_mask_of}

-- RULES 12.1: each pair of a right and a page has one number, which says both
pub pair_read : (right page : ℕ) → page < 65536 → (right_of (right * 65536 + page) ≡ right) × (page_in (right * 65536 + page) ≡ page)
pair_read right page small = (omega arith, omega arith)

pub pairs_read :
    (map right_of (0 ∷ 1 ∷ 127 ∷ 65535 ∷ 65536 ∷ 65537 ∷ 65663 ∷ 131071 ∷ 131072 ∷ 4294967295 ∷ []) ≡ 0 ∷ 0 ∷ 0 ∷ 0 ∷ 1 ∷ 1 ∷ 1 ∷ 1 ∷ 2 ∷ 65535 ∷ [])
    × (map page_in (0 ∷ 1 ∷ 127 ∷ 65535 ∷ 65536 ∷ 65537 ∷ 65663 ∷ 131071 ∷ 131072 ∷ 4294967295 ∷ []) ≡ 0 ∷ 1 ∷ 127 ∷ 65535 ∷ 0 ∷ 1 ∷ 127 ∷ 65535 ∷ 0 ∷ 65535 ∷ [])
pairs_read = (refl, refl)

-- RULES 12.2: under a mask a machine has its global context and all else, that mask, user mode and a clear flag
pub under_spelled : (m : Machine) (mask : ℕ)
    → under_mask m mask
    ≡ holding m.violations.last m.pages m.exponent m.fields (live m.registers.context mask User false) m.depth m.saved m.programs
    m.current m.table
under_spelled m mask = refl

-- RULES 12.2: which access is asked
pub denies_spelled : (m : Machine) (mask pair : ℕ)
    → denies m mask pair ≡ not (eqb (call_of (under_mask m mask) (Access One (pair / 65536) (pair % 65536 * 2 ^ m.exponent))).number 0)
denies_spelled m mask pair = refl

-- RULES 12.2: when a mask will do, for every machine and list
pub will_do_spelled : (m : Machine) (pairs : List ℕ) (mask : ℕ) → will_do m pairs mask ≡ not (any (denies m mask) pairs)
will_do_spelled m pairs mask = refl

-- RULES 12.3: the masks within a context, for every context and mask, and some lists of them
pub masks_spelled : (context mask s : ℕ)
    → (masks_from context mask 0 ≡ mask ∷ [])
    × (masks_from context mask (suc s) ≡ masks_from context mask s ++ pick (holds context s) (masks_from context (with_bit mask s) s) [])
    × (masks_within context ≡ masks_from context 0 16)
unfolding masks_from
masks_spelled context mask s = (refl, refl, refl)

pub masks_listed :
    (masks_within 0 ≡ 0 ∷ []) × (masks_within 1 ≡ 0 ∷ 1 ∷ []) × (masks_within 6 ≡ 0 ∷ 2 ∷ 4 ∷ 6 ∷ [])
    × (masks_within 11 ≡ 0 ∷ 1 ∷ 2 ∷ 3 ∷ 8 ∷ 9 ∷ 10 ∷ 11 ∷ []) × (masks_within 32769 ≡ 0 ∷ 1 ∷ 32768 ∷ 32769 ∷ [])
unfolding masks_from domain_bit
masks_listed = (refl, refl, refl, refl, refl)

-- RULES 12.3: how many domains, of sixteen
pub domains_counted : map domain_count (0 ∷ 1 ∷ 2 ∷ 3 ∷ 7 ∷ 8 ∷ 170 ∷ 32768 ∷ 32769 ∷ 65535 ∷ 65536 ∷ []) ≡ 0 ∷ 1 ∷ 1 ∷ 2 ∷ 3 ∷ 1 ∷ 4 ∷ 1 ∷ 2 ∷ 16 ∷ 0 ∷ []
unfolding ones_in
domains_counted = refl

-- RULES 12.3: which of two masks is less, for every two, and at the ends of both comparisons
pub less_spelled : (one other : ℕ)
    → is_less one other ≡ ltb (ones_in 16 one) (ones_in 16 other) || eqb (ones_in 16 one) (ones_in 16 other) && ltb one other
less_spelled one other = refl

pub less_computed :
    is_less 4 3 ∷ is_less 3 4 ∷ is_less 3 5 ∷ is_less 5 3 ∷ is_less 5 5 ∷ is_less 0 1 ∷ is_less 1 0 ∷ is_less 8 7 ∷ is_less 6 9 ∷ is_less 9 6 ∷ is_less 0 0 ∷ []
    ≡ true ∷ false ∷ true ∷ false ∷ false ∷ true ∷ false ∷ true ∷ true ∷ false ∷ false ∷ []
unfolding ones_in
less_computed = refl

-- RULES 12.3, 12.5: the least of some lists, with the first, a middle and the last one as the least
pub leasts_computed :
    least_of [] ∷ least_of (9 ∷ []) ∷ least_of (3 ∷ 4 ∷ []) ∷ least_of (4 ∷ 3 ∷ []) ∷ least_of (6 ∷ 5 ∷ 3 ∷ 7 ∷ []) ∷ least_of (7 ∷ 12 ∷ 3 ∷ 6 ∷ []) ∷ least_of (3 ∷ 5 ∷ 0 ∷ []) ∷ []
    ≡ 0 ∷ 9 ∷ 4 ∷ 4 ∷ 3 ∷ 3 ∷ 0 ∷ []
unfolding ones_in
leasts_computed = refl

-- those of a list that pass
pub passing_computed : (passing (λ n. ltb 2 n) (1 ∷ 3 ∷ 2 ∷ 5 ∷ []) ≡ 3 ∷ 5 ∷ []) × (passing (λ n. false) (1 ∷ 2 ∷ []) ≡ []) × (passing (λ n. true) (1 ∷ 2 ∷ []) ≡ 1 ∷ 2 ∷ [])
unfolding passing
passing_computed = (refl, refl, refl)

-- RULES 12.4: the conditions of a list of pairs, for every list
pub pairs_spelled : (pages pair : ℕ) (rest : List ℕ)
    → (pair_checks pages [] ≡ [])
    × (pair_checks pages (pair ∷ rest) ≡ (not (leb (pair / 65536) 1) ⇒ 2) ∷ (not (ltb (pair % 65536) pages) ⇒ 4) ∷ pair_checks pages rest)
unfolding pair_checks
pairs_spelled pages pair rest = (refl, refl)

-- RULES 12.4: all conditions, for every machine and list
pub checks_spelled : (m : Machine) (pairs : List ℕ)
    → least_checks m pairs
    ≡ (not (is_sound m) ⇒ 1) ∷ (ltb 64 (length pairs) ⇒ 33) ∷ pair_checks m.pages pairs ++ (eqb (length (candidates m pairs)) 0 ⇒ 34) ∷ []
unfolding least_checks
checks_spelled m pairs = refl

-- RULES 12.3, 12.5: the number and the mask, for every machine and list
pub mask_spelled : (m : Machine) (pairs : List ℕ)
    → least_mask_of m pairs
    ≡ record { number = first (least_checks m pairs); mask = pick (eqb (first (least_checks m pairs)) 0) (least_of (candidates m pairs)) 0 }
unfolding least_mask_of
mask_spelled m pairs = refl

-- a node of two pages of 32 bytes with these live registers, of which these are READ and WRITE of page 0 and of page 1
abbrev node : List ℕ → Registers → Machine
node fields registers = whole 2 5 fields registers 0 [] 1 0 (stored 0 0 User ∷ [])

abbrev gives : ℕ → ℕ → LeastMask
gives number mask = record { number = number; mask = mask }

-- RULES 12.2, 12.3: which masks are candidates: those within the global context that deny no pair of the whole list
pub candidates_listed :
    (candidates (node (1 ∷ 2 ∷ []) (live 3 0 User false)) (0 ∷ 65536 ∷ []) ≡ 3 ∷ [])
    × (candidates (node (1 ∷ 2 ∷ 3 ∷ []) (live 2 1 User false)) (1 ∷ 65536 ∷ 1 ∷ []) ≡ 2 ∷ [])
    × (candidates (node (1 ∷ 2 ∷ []) (live 3 0 User false)) (0 ∷ 0 ∷ 65536 ∷ []) ≡ 3 ∷ [])
unfolding passing masks_from call_of checks_of access_checks is_sound domain_bit
candidates_listed = (refl, refl, refl)

-- RULES 12.3: what is given for READ and WRITE of two pages: READ of page 0 has domain 0, WRITE of it domain 1, READ of page 1 both, WRITE of it none
pub masks_given :
    map (least_mask_of (node (1 ∷ 2 ∷ []) (live 3 0 User false))) ([] ∷ (0 ∷ []) ∷ (65536 ∷ []) ∷ []) ≡ gives 0 0 ∷ gives 0 1 ∷ gives 0 2 ∷ []
unfolding least_mask_of least_checks pair_checks passing masks_from ones_in call_of checks_of access_checks is_sound domain_bit
masks_given = refl

pub needs_joined :
    map (least_mask_of (node (1 ∷ 2 ∷ 3 ∷ 0 ∷ []) (live 3 0 User false))) ((1 ∷ []) ∷ (65537 ∷ []) ∷ (1 ∷ 65536 ∷ 0 ∷ []) ∷ [])
    ≡ gives 0 1 ∷ gives 34 0 ∷ gives 0 3 ∷ []
unfolding least_mask_of least_checks pair_checks passing masks_from ones_in call_of checks_of access_checks is_sound domain_bit
needs_joined = refl

-- RULES 12.3: one domain before two of smaller number, where the context has it
pub fewest_given :
    map (λ (context : ℕ). least_mask_of (node (5 ∷ 6 ∷ []) (live context 0 User false)) (0 ∷ 65536 ∷ [])) (7 ∷ 3 ∷ []) ≡ gives 0 4 ∷ gives 0 3 ∷ []
unfolding least_mask_of least_checks pair_checks passing masks_from ones_in call_of checks_of access_checks is_sound domain_bit
fewest_given = refl

-- RULES 12.3: of two masks of two domains each the smaller number
pub ties_given : least_mask_of (node (3 ∷ 4 ∷ []) (live 7 0 User false)) (0 ∷ 65536 ∷ []) ≡ gives 0 5
unfolding least_mask_of least_checks pair_checks passing masks_from ones_in call_of checks_of access_checks is_sound domain_bit
ties_given = refl

-- RULES 12.4: the order of the refusals of pairs
pub refusals_ordered :
    map (λ (pairs : List ℕ). (least_mask_of (node (1 ∷ 0 ∷ []) (live 1 0 User false)) pairs).number)
    ((131072 ∷ []) ∷ (2 ∷ []) ∷ (131074 ∷ []) ∷ (2 ∷ 131072 ∷ []) ∷ (131072 ∷ 2 ∷ []) ∷ (0 ∷ 65536 ∷ 2 ∷ 131072 ∷ []) ∷ (65536 ∷ []) ∷ [])
    ≡ 2 ∷ 4 ∷ 2 ∷ 4 ∷ 2 ∷ 4 ∷ 34 ∷ []
unfolding least_mask_of least_checks pair_checks passing masks_from call_of checks_of access_checks is_sound domain_bit
refusals_ordered = refl

-- RULES 12.4: how many pairs there may be
pub long_lists :
    map (λ (pairs : List ℕ). (least_mask_of (node (1 ∷ 0 ∷ []) (live 1 0 User false)) pairs).number)
    (replicate 64 0 ∷ replicate 65 0 ∷ replicate 65 2 ∷ replicate 65 65536 ∷ (replicate 63 0 ++ 2 ∷ []) ∷ (replicate 63 0 ++ 65536 ∷ []) ∷ replicate 256 0 ∷ [])
    ≡ 0 ∷ 33 ∷ 33 ∷ 33 ∷ 4 ∷ 34 ∷ 33 ∷ []
unfolding least_mask_of least_checks pair_checks passing masks_from call_of checks_of access_checks is_sound domain_bit
long_lists = refl

-- RULES 12.2: the live mask, mode and flag play no part
pub registers_asked :
    map (λ (registers : Registers). least_mask_of (node (2 ∷ 0 ∷ []) registers) (0 ∷ []))
    (live 3 0 User false ∷ live 3 1 User false ∷ live 3 65535 Privileged false ∷ live 3 1 User true ∷ [])
    ≡ gives 0 2 ∷ gives 0 2 ∷ gives 0 2 ∷ gives 0 2 ∷ []
unfolding least_mask_of least_checks pair_checks passing masks_from ones_in call_of checks_of access_checks is_sound domain_bit
registers_asked = refl

-- RULES 12.4: but that a machine which is not sound is refused before all else
pub unsound_refused :
    map (least_mask_of (node (2 ∷ 0 ∷ []) (live 3 3 Privileged true))) ([] ∷ (0 ∷ []) ∷ (2 ∷ []) ∷ replicate 65 131074 ∷ [])
    ≡ gives 1 0 ∷ gives 1 0 ∷ gives 1 0 ∷ gives 1 0 ∷ []
unfolding least_mask_of least_checks is_sound
unsound_refused = refl
