-- What a loop over a list finds at its next place: of a test, of the numbers of pairs, of what pairs need. From the list's head.
use Prim.Native.Nat.{ℕ, suc, ◌+◌, ◌<◌, ◌≤◌}
use mathlib.Core.Path.{◌≡◌, refl, sym, ap, ◌∙◌}
use mathlib.Core.Bool.{Bool, true, false, not}
use mathlib.Core.List.{List, [], ◌∷◌, ◌++◌, map, map-append, append_assoc}
use native.Mathlib.Numerals.{add-one}
use native.Mathlib.Omega.{arith}
use lib.Dec.{eqb, ltb}
use lib.ListN.{length, get_or, set, take, drop, length-map, length-take}
use lib.Seq.{drop-cons, set_at, take-suc}
use Rattle.rules.specs.Refusals.{Check, ◌⇒◌, first, pick}
use Rattle.machine.specs.Machine.{is_right}
use Rattle.masks.specs.Least.{right_of, page_in, pair_checks}

-- the number of the first bad pair, or else of what is asked after them
pub pairs_then : (pages : ℕ) (pairs : List ℕ) (more : List Check)
    → first (pair_checks pages pairs ++ more) ≡ pick (eqb (first (pair_checks pages pairs)) 0) (first more) (first (pair_checks pages pairs))
unfolding pair_checks
pairs_then pages [] more = refl
pairs_then pages (pair ∷ pairs) more = split (not (is_right (right_of pair))) (not (ltb (page_in pair) pages)) (pairs_then pages pairs more)
  where
    split : (a b : Bool)
        → first (pair_checks pages pairs ++ more) ≡ pick (eqb (first (pair_checks pages pairs)) 0) (first more) (first (pair_checks pages pairs))
        → let checks : List Check = (a ⇒ 2) ∷ (b ⇒ 4) ∷ pair_checks pages pairs in
        first (checks ++ more) ≡ pick (eqb (first checks) 0) (first more) (first checks)
    split true b rest = refl
    split false true rest = refl
    split false false rest = rest

pub pairs_next : (pages : ℕ) (pairs : List ℕ) (i : ℕ) → i < length pairs
    → let here = first (pair_checks pages (get_or pairs i 0 ∷ [])) in
    first (pair_checks pages (drop i pairs)) ≡ pick (eqb here 0) (first (pair_checks pages (drop (i + 1) pairs))) here
unfolding pair_checks
pairs_next pages pairs i below =
    rw (add-one, drop-cons pairs i 0) (pairs_then pages (get_or pairs i 0 ∷ []) (pair_checks pages (drop (suc i) pairs)))

-- one number more is stored behind those that stand at the start of a list
pub stored_next : (done list : List ℕ) (v i : ℕ) → length done ≡ i → i < length list
    → set (done ++ drop i list) i v ≡ done ++ (v ∷ []) ++ drop (i + 1) list
stored_next done list v i long below =
    ap (λ (rest : List ℕ). set (done ++ rest) i v) (drop-cons list i 0 below)
    ∙ set_at done (get_or list i 0) (drop (suc i) list) v i long
    ∙ rw (add-one i) (sym (append_assoc done (v ∷ []) (drop (suc i) list)))

-- what the pairs so far need stands before the rest of a list, and the next goes after it
module _ (need : ℕ → ℕ) (pairs list : List ℕ) (i : ℕ) where
  pub needs_next : i < length pairs → length pairs ≤ length list
      → set (map need (take i pairs) ++ drop i list) i (need (get_or pairs i 0)) ≡ map need (take (i + 1) pairs) ++ drop (i + 1) list
  needs_next below room =
      let next : map need (take i pairs) ++ (need (get_or pairs i 0) ∷ []) ≡ map need (take (i + 1) pairs) =
      sym (rw (add-one i, take-suc pairs i 0 below) (map-append need (take i pairs) (get_or pairs i 0 ∷ []))) in
      stored_next (map need (take i pairs)) list (need (get_or pairs i 0)) i (simp (length-map, length-take) (omega arith)) (omega arith)
      ∙ ap (λ (done : List ℕ). done ++ drop (i + 1) list) next
