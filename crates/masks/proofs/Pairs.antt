-- When a mask allows a pair. Every access to a page, of either width, is judged alike under a mask in user mode with the flag clear: by whether the field and the local
-- context share a domain. So what a pair needs is a domain that its field and the global context share. From the access's own conditions, over the bytes touched.
use Prim.Native.Nat.{ℕ, suc, ◌*◌, ◌/◌, ◌^◌, ◌<◌, ◌≤◌}
use mathlib.Core.Path.{◌≡◌, refl, sym, ap, ◌∙◌}
use mathlib.Core.Bool.{Bool, true, false, not, true≢false}
use mathlib.Core.List.{List, [], ◌∷◌, map}
use mathlib.Core.Logic.{◌↔◌}
use borrow.Author.Tests.{eqb-true, eq-eqb, le-leb, lt-leb, leb-true, ltb-true, not-false}
use native.Mathlib.Nat.{div-lt_iff_lt-mul, mul-div_cancel, suc-mul}
use native.Mathlib.Omega.{arith}
use lib.Bits.{bit_and, and_zero_r}
use lib.Dec.{eqb, ltb}
use lib.Pow.{pow_pos}
use Rattle.rules.specs.Refusals.{◌⇒◌, first, pick}
use Rattle.rules.proofs.Bits.{and_assoc}
use Rattle.machine.specs.Machine.{is_right, is_sound, field_of, memory_size}
use Rattle.machine.specs.Calls.{any, touched, access_checks, call_of, checks_of, is_denied, is_outside_memory}
use Rattle.machine.specs.declared.record.Machine.{Machine}
use Rattle.machine.specs.declared.record.Width.{Width}
use Rattle.machine.specs.declared.record.Width.TheVariants.{One}
use Rattle.machine.specs.declared.record.Call.TheVariants.{Access}
use Rattle.machine.proofs.Allowed.{allowed}
use Rattle.machine.proofs.Answers.{accepted}
use Rattle.machine.proofs.Sound.{sound_facts, moved_sound}
use Rattle.machine.proofs.Touched.{Touches, first_touched, none_met, some_meets}
use Rattle.masks.specs.Least.{right_of, page_in, under_mask, denies, will_do, pair_checks}
use Rattle.masks.specs.Search.{need_of, is_unmet, meets_all}

-- an access that touches no byte but of one page
abbrev pub OnPage : Machine → Width → (address page : ℕ) → Type 0
OnPage m width address page = (byte : ℕ) → Touches width address byte → byte / 2 ^ m.exponent ≡ page

-- RULES 12.2: the mask allows a pair: with it live, in user mode and with the flag clear, every access for the pair's right is answered 0 that touches no byte but of
-- the pair's page
abbrev pub Allows : Machine → (mask pair : ℕ) → Type 0
Allows m mask pair =
    (width : Width) (address : ℕ) → OnPage m width address (page_in pair) → (call_of (under_mask m mask) (Access width (right_of pair) address)).number ≡ 0

-- every byte is on its own page, and the first byte of a page is on it
pub byte_on : (m : Machine) (address : ℕ) → OnPage m One address (address / 2 ^ m.exponent)
byte_on m address byte touches =
    let here : byte ≡ address = omega (arith, touches.0, touches.1) in
    rw here

first_on : (m : Machine) (page : ℕ) → OnPage m One (page * 2 ^ m.exponent) page
first_on m page = rw (mul-div_cancel page (pow_pos m.exponent)) at (byte_on m (page * 2 ^ m.exponent))

-- a machine that is sound is so under every mask
pub under_sound : (m : Machine) → is_sound m ≡ true → (mask : ℕ) → is_sound (under_mask m mask) ≡ true
under_sound m sound mask =
    let s = sound_facts m sound in
    moved_sound m (under_mask m mask) (refl, refl, refl) sound s.depth_most s.current_below refl s.violation_fits_lem

module _ (m : Machine) (mask : ℕ) where
  -- the domains of a right to a page that the local context under the mask holds are none
  abbrev shares_none : (right page : ℕ) → Bool
  shares_none right page = eqb (bit_and (field_of m right page) (bit_and m.registers.context mask)) 0

  -- every access to a page is answered 0 or 9, by whether field and local context share a domain
  page_judged : is_sound (under_mask m mask) ≡ true → (width : Width) (right page address : ℕ) → right ≤ 1 → page < m.pages
      → OnPage m width address page → (call_of (under_mask m mask) (Access width right address)).number ≡ pick (shares_none right page) 9 0
  unfolding call_of checks_of access_checks
  page_judged sound width right page address known counted on =
      rw (sound, le-leb right 1 known, inside) (split (shares_none right page) refl)
    where
      inside : any (is_outside_memory (under_mask m mask)) (touched width address) ≡ false
      inside =
          none_met (is_outside_memory (under_mask m mask)) width address (λ byte touches.
          lt-leb (memory_size m) byte ((div-lt_iff_lt-mul (pow_pos m.exponent)).0 (rw (on byte touches) counted)))

      judged : (byte : ℕ) → Touches width address byte → is_denied (under_mask m mask) right byte ≡ shares_none right page
      judged byte touches = rw (on byte touches)

      split : (b : Bool) → shares_none right page ≡ b
          → first ((any (is_denied (under_mask m mask) right) (touched width address) ⇒ 9) ∷ []) ≡ pick b 9 0
      split true e =
          rw (some_meets (is_denied (under_mask m mask) right) width address address (first_touched width address)
          (judged address (first_touched width address) ∙ e))
      split false e = rw (none_met (is_denied (under_mask m mask) right) width address (λ byte touches. judged byte touches ∙ e))

  module _ (pair : ℕ) where
    -- so the mask denies the pair where they share none
    denied_need : is_sound (under_mask m mask) ≡ true → right_of pair ≤ 1 → page_in pair < m.pages
        → denies m mask pair ≡ shares_none (right_of pair) (page_in pair)
    denied_need sound known counted =
        rw (page_judged sound One (right_of pair) (page_in pair) (page_in pair * 2 ^ m.exponent) known counted (first_on m (page_in pair)))
        (split (shares_none (right_of pair) (page_in pair)))
      where
        split : (b : Bool) → not (eqb (pick b 9 0) 0) ≡ b
        split true = refl
        split false = refl

    -- what is known of a pair that it does not deny: the first byte of the page is on a page that is there
    not_denied : denies m mask pair ≡ false → (is_sound (under_mask m mask) ≡ true) × (right_of pair ≤ 1) × (page_in pair < m.pages)
    unfolding call_of
    not_denied given =
        let first = page_in pair * 2 ^ m.exponent in
        let done = eqb-true _ 0 (not-false _ given) in
        let why = allowed (under_mask m mask) One (right_of pair) first done in
        let on = why.paged first (first_touched One first) in
        let ends : first < suc on.page * 2 ^ m.exponent = rw (suc-mul on.page (2 ^ m.exponent)) on.page_ends in
        let below : first / 2 ^ m.exponent < suc on.page = (div-lt_iff_lt-mul (pow_pos m.exponent)).1 ends in
        let here : first / 2 ^ m.exponent ≡ page_in pair = mul-div_cancel (page_in pair) (pow_pos m.exponent) in
        ((accepted (under_mask m mask) (Access One (right_of pair) first) done).0, why.right_known, omega (arith, below, here, on.page_counted))

    -- RULES 12.2: a mask does not deny a pair exactly where it allows it, on any machine
    pub pair_allowed : (denies m mask pair ≡ false) ↔ Allows m mask pair
    pair_allowed = (
      λ given width address on.
          let known = not_denied given in
          page_judged known.0 width (right_of pair) (page_in pair) address known.1 known.2 on
          ∙ rw (sym (denied_need known.0 known.1 known.2) ∙ given),
      λ all. ap not (eq-eqb _ 0 (all One (page_in pair * 2 ^ m.exponent) (first_on m (page_in pair)))),
    )

-- mask 0 denies every pair
pub zero_denies : (m : Machine) (pair : ℕ) → denies m 0 pair ≡ false → ⊥
zero_denies m pair given =
    let known = not_denied m 0 pair given in
    let field = field_of m (right_of pair) (page_in pair) in
    let none : eqb (bit_and field (bit_and m.registers.context 0)) 0 ≡ true = rw (and_zero_r m.registers.context, and_zero_r field) in
    true≢false (sym none ∙ sym (denied_need m 0 pair known.0 known.1 known.2) ∙ given)

-- the pairs of a list of which none is bad
good_pair : (pages pair : ℕ) (pairs : List ℕ) → first (pair_checks pages (pair ∷ pairs)) ≡ 0
    → (right_of pair ≤ 1) × (page_in pair < pages) × (first (pair_checks pages pairs) ≡ 0)
unfolding pair_checks
good_pair pages pair pairs none = split (is_right (right_of pair)) refl (ltb (page_in pair) pages) refl none
  where
    split : (known : Bool) → is_right (right_of pair) ≡ known → (counted : Bool) → ltb (page_in pair) pages ≡ counted
        → first ((not known ⇒ 2) ∷ (not counted ⇒ 4) ∷ pair_checks pages pairs) ≡ 0
        → (right_of pair ≤ 1) × (page_in pair < pages) × (first (pair_checks pages pairs) ≡ 0)
    split true k true l rest = (leb-true _ _ k, ltb-true _ _ l, rest)
    split true k false l rest = absurd (omega arith)
    split false k counted l rest = absurd (omega arith)

-- so a mask will do for such a list exactly where it meets what each pair needs
pub needs_judged : (m : Machine) → is_sound m ≡ true → (pairs : List ℕ) → first (pair_checks m.pages pairs) ≡ 0 → (mask : ℕ)
    → will_do m pairs mask ≡ meets_all (map (need_of m.fields m.registers.context) pairs) mask
needs_judged m sound pairs none mask = ap not (each pairs none)
  where
    each : (pairs : List ℕ) → first (pair_checks m.pages pairs) ≡ 0
        → any (denies m mask) pairs ≡ any (is_unmet mask) (map (need_of m.fields m.registers.context) pairs)
    each [] none = refl
    each (pair ∷ pairs) none =
        let good = good_pair m.pages pair pairs none in
        rw (denied_need m mask pair (under_sound m sound mask) good.0 good.1, and_assoc (field_of m (right_of pair) (page_in pair)) m.registers.context mask, each pairs good.2)
