-- The set of the domains to which a test says yes holds these and no others, by induction on the domains.
use Prim.Native.Nat.{ℕ, zero, suc, ◌+◌, ◌<◌, ◌≤◌}
use mathlib.Core.Path.{◌≡◌, refl, sym, ◌∙◌}
use mathlib.Core.Bool.{Bool, true, false, ◌&&◌, ◌||◌, or-false}
use borrow.Author.Tests.{eqb-true, eqb-false, ltb-true, ltb-false, lt-ltb, le-ltb}
use lib.Bits.{or_lt}
use lib.Dec.{eqb, ltb}
use lib.Pow.{pow-lt}
use native.Mathlib.Omega.{arith}
use Rattle.rules.specs.Domains.{domain_bit, holds, with_bit}
use Rattle.rules.specs.Refusals.{pick}
use Rattle.rules.proofs.Laws.{domain_bit_lem}
use Rattle.rules.proofs.Lowest.{held_either, bit_held}
use Rattle.planner.specs.Plan.{set_below, set_of}

-- tests that agree below n have the same set
pub set_same : (n : ℕ) (f g : ℕ → Bool) → ((s : ℕ) → s < n → f s ≡ g s) → set_below n f ≡ set_below n g
unfolding set_below
set_same zero f g same = refl
set_same (suc n) f g same =
    let rest = set_same n f g (λ s h. same s (omega arith)) in
    rw (same n (omega arith), rest)

-- domains to which the test says no do not alter it
pub set_more : (n m : ℕ) (f : ℕ → Bool) → ((s : ℕ) → n ≤ s → f s ≡ false) → set_below (n + m) f ≡ set_below n f
unfolding set_below
set_more n zero f none = let e : n + 0 ≡ n = omega arith in rw e
set_more n (suc m) f none =
    let e : n + suc m ≡ suc (n + m) = omega arith in
    rw (e, none (n + m) (omega arith)) (set_more n m f none)

-- a number is below the next one as well, or is it
pub below_next : (s n : ℕ) → ltb s (suc n) ≡ ltb s n || eqb s n
below_next s n = split (ltb s n) refl (eqb s n) refl
  where
    split : (less : Bool) → ltb s n ≡ less → (same : Bool) → eqb s n ≡ same → ltb s (suc n) ≡ less || same
    split true e same f = let h = ltb-true s n e in lt-ltb s (suc n) (omega arith)
    split false e true f = let h = eqb-true s n f in lt-ltb s (suc n) (omega arith)
    split false e false f =
        let h = ltb-false s n e in
        let other = eqb-false s n f in
        le-ltb s (suc n) (omega (arith, other))

-- of one more domain, where the test says yes to it, and where not
one_more : (less here says : Bool) → (here ≡ true → says ≡ true) → less && says || here ≡ (less || here) && says
one_more true true says h = rw (h refl)
one_more true false says h = or-false says
one_more false true says h = sym (h refl)
one_more false false says h = refl

none_more : (less here says : Bool) → (here ≡ true → says ≡ false) → less && says ≡ (less || here) && says
none_more true here says h = refl
none_more false true says h = sym (h refl)
none_more false false says h = refl

set_held : (n : ℕ) (f : ℕ → Bool) → n ≤ 16 → (s : ℕ) → holds (set_below n f) s ≡ ltb s n && f s
unfolding set_below
set_held zero f few s = rw (le-ltb s 0 (omega arith))
set_held (suc n) f few s = go (eqb s n) refl (f n) refl (set_held n f (omega arith) s)
  where
    go : (here : Bool) → eqb s n ≡ here → (says : Bool) → f n ≡ says → holds (set_below n f) s ≡ ltb s n && f s
        → holds (pick says (with_bit (set_below n f) n) (set_below n f)) s ≡ ltb s (suc n) && f s
    go here e true h below =
        rw (held_either (set_below n f) (domain_bit n) s, bit_held n s (omega arith), below, below_next s n, e)
        (one_more (ltb s n) here (f s) (λ same. rw (eqb-true s n (e ∙ same)) h))
    go here e false h below =
        rw (below, below_next s n, e) (none_more (ltb s n) here (f s) (λ same. rw (eqb-true s n (e ∙ same)) h))

-- the set holds a domain exactly where the test says yes to it
pub set_holds : (f : ℕ → Bool) (s : ℕ) → s < 16 → holds (set_of f) s ≡ f s
set_holds f s known = rw (set_held 16 f (omega arith) s, lt-ltb s 16 known)

-- a bit is one of sixteen, and so is each of a set
bit_fits : (d : ℕ) → d < 16 → domain_bit d < 65536
bit_fits d known = rw (domain_bit_lem d known) (pow-lt known)

set_small : (n : ℕ) (f : ℕ → Bool) → n ≤ 16 → set_below n f < 65536
unfolding set_below
set_small zero f few = omega arith
set_small (suc n) f few = go (f n) (set_small n f (omega arith))
  where
    go : (says : Bool) → set_below n f < 65536 → pick says (with_bit (set_below n f) n) (set_below n f) < 65536
    go true small = or_lt 16 (set_below n f) (domain_bit n) small (bit_fits n (omega arith))
    go false small = small

pub set_fits : (f : ℕ → Bool) → set_of f < 65536
set_fits f = set_small 16 f (omega arith)
