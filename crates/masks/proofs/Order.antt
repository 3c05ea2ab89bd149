-- The order of masks, by count of domains and then by number, is a total one; the least of a list is one of the list, and no other of the list comes before it. By
-- cases over the two comparisons, and by induction on the list.
use Prim.Native.Nat.{ℕ, ◌<◌, ◌≤◌}
use mathlib.Core.Path.{◌≡◌, refl, sym, subst, ◌∙◌}
use mathlib.Core.Bool.{Bool, true, false, ◌&&◌, ◌||◌, and-false, true≢false}
use mathlib.Core.List.Memᴰ
use mathlib.Core.List.{List, [], ◌∷◌, ◌++◌, Memᴰ}
use mathlib.Core.Logic.{◌⊎◌, inl, inr, ⊎_elim}
use borrow.Author.Tests.{ltb-true, ltb-false, le-ltb, eqb-true, eqb-false, ne_eqb}
use native.Mathlib.Omega.{arith}
use lib.Dec.{eqb, ltb}
use Rattle.rules.specs.Refusals.{pick}
use Rattle.masks.specs.Least.{domain_count, is_less, lesser, least_of, passing}

-- one mask comes before another, or is the same
abbrev pub Before : (one other : ℕ) → Type 0
Before one other = (domain_count one < domain_count other) ⊎ ((domain_count one ≡ domain_count other) × (one ≤ other))

before_itself : (mask : ℕ) → Before mask mask
before_itself mask = inr (refl, omega arith)

pub before_further : {a b c : ℕ} → Before a b → Before b c → Before a c
before_further {a} {b} {c} =
    ⊎_elim (λ few. ⊎_elim (λ fewer. inl (omega arith)) (λ same. inl (omega arith)))
    (λ same. ⊎_elim (λ few. inl (omega arith)) (λ alike. inr (omega arith, omega arith)))

pub before_each_other : {a b : ℕ} → Before a b → Before b a → a ≡ b
before_each_other {a} {b} =
    ⊎_elim (λ few. ⊎_elim (λ fewer. omega arith) (λ same. omega arith)) (λ same. ⊎_elim (λ few. omega arith) (λ alike. omega arith))

module _ (one other : ℕ) where
  -- a mask that is not less comes after the other, and one that comes after it is not less
  pub not_less : is_less one other ≡ false → Before other one
  not_less = split (ltb (domain_count one) (domain_count other)) refl (eqb (domain_count one) (domain_count other)) refl (ltb one other) refl
    where
      split : (few : Bool) → ltb (domain_count one) (domain_count other) ≡ few → (same : Bool) → eqb (domain_count one) (domain_count other) ≡ same
          → (small : Bool) → ltb one other ≡ small → few || same && small ≡ false → Before other one
      split true f same e small l h = absurd (true≢false h)
      split false f true e true l h = absurd (true≢false h)
      split false f true e false l h = inr (sym (eqb-true _ _ e), ltb-false one other l)
      split false f false e small l h =
          let least = ltb-false (domain_count one) (domain_count other) f in
          let apart = eqb-false (domain_count one) (domain_count other) e in
          inl (omega (arith, least, apart))

  pub less_not : Before other one → is_less one other ≡ false
  less_not =
      ⊎_elim (λ few. rw (le-ltb (domain_count one) (domain_count other) (omega arith), ne_eqb (domain_count one) (domain_count other) (omega arith)))
      (λ same. rw (le-ltb (domain_count one) (domain_count other) (omega arith), le-ltb one other same.1)
      (and-false (eqb (domain_count one) (domain_count other))))

  -- a mask that is less comes before the other
  less_before : is_less one other ≡ true → Before one other
  less_before = split (ltb (domain_count one) (domain_count other)) refl (eqb (domain_count one) (domain_count other)) refl (ltb one other) refl
    where
      split : (few : Bool) → ltb (domain_count one) (domain_count other) ≡ few → (same : Bool) → eqb (domain_count one) (domain_count other) ≡ same
          → (small : Bool) → ltb one other ≡ small → few || same && small ≡ true → Before one other
      split true f same e small l h = inl (ltb-true _ _ f)
      split false f true e true l h = let less = ltb-true one other l in inr (eqb-true _ _ e, omega arith)
      split false f true e false l h = absurd (true≢false (sym h))
      split false f false e small l h = absurd (true≢false (sym h))

-- the lesser of two is one of them and comes before both
lesser_before : (one other : ℕ)
    → Before (lesser one other) one × Before (lesser one other) other × ((lesser one other ≡ one) ⊎ (lesser one other ≡ other))
lesser_before one other = split (is_less other one) refl
  where
    split : (b : Bool) → is_less other one ≡ b
        → Before (pick b other one) one × Before (pick b other one) other × ((pick b other one ≡ one) ⊎ (pick b other one ≡ other))
    split true e = (less_before other one e, before_itself other, inr refl)
    split false e = (before_itself one, not_less other one e, inl refl)

-- the least of a list comes before every one of the list, and is one of it
pub least_before : (first : ℕ) (list : List ℕ) (mask : ℕ) → Memᴰ mask (first ∷ list) → Before (least_of (first ∷ list)) mask
least_before first [] mask in_List =
    ⊎_elim (λ e. subst (Before first) (sym e) (before_itself first)) (λ m. absurd (Memᴰ.not-nil m)) (Memᴰ.cases_cons in_List)
least_before first (next ∷ list) mask in_List =
    let least = least_of (lesser first next ∷ list) in
    let both = lesser_before first next in
    let head = least_before (lesser first next) list (lesser first next) (Memᴰ.head refl) in
    ⊎_elim (λ e. subst (Before least) (sym e) (before_further head both.0))
    (λ m.
    ⊎_elim (λ e. subst (Before least) (sym e) (before_further head both.1)) (λ n. least_before (lesser first next) list mask (Memᴰ.tail n))
    (Memᴰ.cases_cons m))
    (Memᴰ.cases_cons in_List)

pub least_in : (first : ℕ) (list : List ℕ) → Memᴰ (least_of (first ∷ list)) (first ∷ list)
least_in first [] = Memᴰ.head refl
least_in first (next ∷ list) =
    ⊎_elim (λ e. ⊎_elim (λ f. Memᴰ.head (e ∙ f)) (λ f. Memᴰ.tail (Memᴰ.head (e ∙ f))) (lesser_before first next).2)
    (λ m. Memᴰ.tail (Memᴰ.tail m)) (Memᴰ.cases_cons (least_in (lesser first next) list))

-- so two lists that have the same masks have the same least one
pub least_alike : (first : ℕ) (list : List ℕ) (first' : ℕ) (list' : List ℕ)
    → ((mask : ℕ) → Memᴰ mask (first ∷ list) → Memᴰ mask (first' ∷ list'))
    → ((mask : ℕ) → Memᴰ mask (first' ∷ list') → Memᴰ mask (first ∷ list)) → least_of (first ∷ list) ≡ least_of (first' ∷ list')
least_alike first list first' list' there back =
    before_each_other (least_before first list _ (back _ (least_in first' list'))) (least_before first' list' _ (there _ (least_in first list)))

-- one that every mask of a list comes after is the least of it and them
pub least_kept : (best : ℕ) (list : List ℕ) → ((mask : ℕ) → Memᴰ mask list → is_less mask best ≡ false) → least_of (best ∷ list) ≡ best
least_kept best list after =
    ⊎_elim (λ e. e) (λ m. before_each_other (least_before best list best (Memᴰ.head refl)) (not_less _ best (after _ m)))
    (Memᴰ.cases_cons (least_in best list))

-- the least of two lists, one after the other
pub least_further : (best : ℕ) (list list' : List ℕ) → least_of (best ∷ list ++ list') ≡ least_of (least_of (best ∷ list) ∷ list')
least_further best [] list' = refl
least_further best (mask ∷ list) list' = least_further (lesser best mask) list list'

-- ---- those of a list that pass a test

module _ (test : ℕ → Bool) where
  pub passing_further : (list list' : List ℕ) → passing test (list ++ list') ≡ passing test list ++ passing test list'
  unfolding passing
  passing_further [] list' = refl
  passing_further (mask ∷ list) list' = split (test mask) (passing_further list list')
    where
      split : (b : Bool) → passing test (list ++ list') ≡ passing test list ++ passing test list'
          → pick b (mask ∷ passing test (list ++ list')) (passing test (list ++ list')) ≡ pick b (mask ∷ passing test list) (passing test list) ++ passing test list'
      split true e = rw e
      split false e = e

  -- they are those of the list to which the test says yes
  pub passing_in : (list : List ℕ) (mask : ℕ) → Memᴰ mask (passing test list) → Memᴰ mask list × (test mask ≡ true)
  unfolding passing
  passing_in [] mask in_List = absurd (Memᴰ.not-nil in_List)
  passing_in (first ∷ list) mask in_List = split (test first) refl (passing_in list mask) in_List
    where
      split : (b : Bool) → test first ≡ b → (Memᴰ mask (passing test list) → Memᴰ mask list × (test mask ≡ true))
          → Memᴰ mask (pick b (first ∷ passing test list) (passing test list)) → Memᴰ mask (first ∷ list) × (test mask ≡ true)
      split true e rest in_List =
          ⊎_elim (λ same. (Memᴰ.head same, rw same e)) (λ m. let r = rest m in (Memᴰ.tail r.0, r.1)) (Memᴰ.cases_cons in_List)
      split false e rest in_List = let r = rest in_List in (Memᴰ.tail r.0, r.1)

  pub in_passing : (list : List ℕ) (mask : ℕ) → Memᴰ mask list → test mask ≡ true → Memᴰ mask (passing test list)
  unfolding passing
  in_passing [] mask in_List passes = absurd (Memᴰ.not-nil in_List)
  in_passing (first ∷ list) mask in_List passes =
      split (test first) refl (λ m. in_passing list mask m passes) (Memᴰ.cases_cons in_List)
    where
      split : (b : Bool) → test first ≡ b → (Memᴰ mask list → Memᴰ mask (passing test list)) → (mask ≡ first) ⊎ Memᴰ mask list
          → Memᴰ mask (pick b (first ∷ passing test list) (passing test list))
      split true e rest = ⊎_elim (λ same. Memᴰ.head same) (λ m. Memᴰ.tail (rest m))
      split false e rest = ⊎_elim (λ same. absurd (true≢false (sym passes ∙ rw same e))) rest

  -- where the test says no to each, there is none
  pub passing_none : (list : List ℕ) → ((mask : ℕ) → Memᴰ mask list → test mask ≡ false) → passing test list ≡ []
  unfolding passing
  passing_none [] fails = refl
  passing_none (mask ∷ list) fails = rw (fails mask (Memᴰ.head refl)) (passing_none list (λ other m. fails other (Memᴰ.tail m)))

-- tests that agree on each of a list
pub passing_alike : (test other : ℕ → Bool) (list : List ℕ) → ((mask : ℕ) → Memᴰ mask list → test mask ≡ other mask) → passing test list ≡ passing other list
unfolding passing
passing_alike test other [] same = refl
passing_alike test other (mask ∷ list) same =
    rw (same mask (Memᴰ.head refl), passing_alike test other list (λ next m. same next (Memᴰ.tail m)))
