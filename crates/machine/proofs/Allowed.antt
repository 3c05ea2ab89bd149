-- When an access of either width is allowed: exactly where none of its conditions is met, the page of each byte that it touches said by its bounds and not by
-- a division. And when it gives each of its numbers, by cases over its tests.
use Prim.Native.Nat.{ℕ, suc, ◌+◌, ◌-◌, ◌*◌, ◌/◌, ◌^◌, ◌≤◌, ◌<◌}
use mathlib.Core.Path.{◌≡◌, refl, sym, subst, ◌∙◌}
use mathlib.Core.Bool.{Bool, true, false, not}
use mathlib.Core.List.{List, [], ◌∷◌}
use mathlib.Core.Logic.{◌⊎◌, ◌↔◌, inl, inr, ⊎_elim}
use borrow.Author.Tests.{leb-true, leb-false, le-leb, lt-leb, not-false}
use lib.Bits.{bit_and}
use lib.Dec.{leb, eqb}
use lib.Pow.{pow_pos}
use native.Mathlib.Nat.{div-lt_iff_lt-mul, le-div_iff_mul-le, div-mul-le_self, lt-div-mul-add, suc-mul}
use native.Mathlib.Omega.{arith}
use Rattle.rules.specs.Registers.{local_context}
use Rattle.rules.specs.Refusals.{Check, ◌⇒◌, first, pick}
use Rattle.machine.specs.Machine.{is_right, is_sound, memory_size, field_of}
use Rattle.machine.specs.Calls.{call_of, access_checks, checks_of, in_privileged_mode, is_denied, is_outside_memory, number_of, touched, any}
use Rattle.machine.specs.declared.record.Machine.{Machine}
use Rattle.machine.specs.declared.record.Width.{Width}
use Rattle.machine.specs.declared.record.Call.TheVariants.{Access}
use Rattle.machine.proofs.Answers.{accepted, met_at, unmet}
use Rattle.machine.proofs.Touched.{Touches, bytes, last_touched, none_meets, none_met, one_meets, some_meets}

-- a byte on a page that is there
pub record Paged (m : Machine) (byte : ℕ) : Type 0 where
  pub page : ℕ
  pub page_counted : page < m.pages
  pub page_starts : page * 2 ^ m.exponent ≤ byte
  pub page_ends : byte < page * 2 ^ m.exponent + 2 ^ m.exponent

-- every byte on a page that is there: in privileged mode, or with the flag clear where the field of that right to each such page shares a domain with
-- the local context
pub record Allowed (m : Machine) (width : Width) (right address : ℕ) : Type 0 where
  pub right_known : right ≤ 1
  pub paged : (byte : ℕ) → Touches width address byte → Paged m byte
  pub by_virtue :
      (in_privileged_mode m ≡ true)
      ⊎ ((in_privileged_mode m ≡ false) × (m.registers.pending ≡ false)
      × ((byte : ℕ) (touches : Touches width address byte)
      → eqb (bit_and (field_of m right (paged byte touches).page) (local_context m.registers)) 0 ≡ false))

-- RULES 3.2: where an access gives each number. A byte's page is the one that holds its address.
pub data AccessGives (m : Machine) (width : Width) (right address : ℕ) : ℕ → Type 0 where
  unsound : is_sound m ≡ false → AccessGives m width right address 1
  no_right : is_sound m ≡ true → 1 < right → AccessGives m width right address 2
  outside : is_sound m ≡ true → right ≤ 1 → m.pages * 2 ^ m.exponent < address + bytes width → AccessGives m width right address 3
  pending : is_sound m ≡ true → right ≤ 1 → address + bytes width ≤ m.pages * 2 ^ m.exponent → in_privileged_mode m ≡ false
      → m.registers.pending ≡ true → AccessGives m width right address 8
  denied : is_sound m ≡ true → right ≤ 1 → address + bytes width ≤ m.pages * 2 ^ m.exponent → in_privileged_mode m ≡ false
      → m.registers.pending ≡ false → (byte : ℕ) → Touches width address byte
      → eqb (bit_and (field_of m right (byte / 2 ^ m.exponent)) (local_context m.registers)) 0 ≡ true → AccessGives m width right address 9
  done : is_sound m ≡ true → Allowed m width right address → AccessGives m width right address 0

module _ (m : Machine) (width : Width) (right address : ℕ) where
  abbrev size : ℕ
  size = 2 ^ m.exponent

  -- the conditions, by the mode
  abbrev checks : Bool → List Check
  checks privileged =
      (not (is_right right) ⇒ 2)
      ∷ (any (is_outside_memory m) (touched width address) ⇒ 3)
      ∷ pick privileged [] ((m.registers.pending ⇒ 8) ∷ (any (is_denied m right) (touched width address) ⇒ 9) ∷ [])

  -- none of them is met where they give 0
  met : (b : Bool) (k : ℕ) → first (checks b) ≡ 0 → met_at k (checks b) ≡ false
  met true k none = unmet k (checks true) refl none
  met false k none = unmet k (checks false) refl none

  -- in user mode the flag is then clear, and the page of each byte that is touched gives the right
  pub user_allowed : number_of m (Access width right address) ≡ 0 → in_privileged_mode m ≡ false
      → (m.registers.pending ≡ false) × ((byte : ℕ) → Touches width address byte → is_denied m right byte ≡ false)
  unfolding checks_of access_checks
  user_allowed h user =
      let none = rw user at (accepted m (Access width right address) h).1 in
      (met false 2 none, none_meets (is_denied m right) width address (met false 3 none))

  pub allowed : number_of m (Access width right address) ≡ 0 → Allowed m width right address
  unfolding checks_of access_checks
  allowed h =
      let none = (accepted m (Access width right address) h).1 in
      let inside = none_meets (is_outside_memory m) width address (met (in_privileged_mode m) 1 none) in
      record {
        right_known = leb-true right 1 (not-false _ (met (in_privileged_mode m) 0 none));
        paged =
            λ byte touches. record {
              page = byte / size;
              page_counted = (div-lt_iff_lt-mul (pow_pos m.exponent)).1 (leb-false (memory_size m) byte (inside byte touches));
              page_starts = div-mul-le_self byte size;
              page_ends = lt-div-mul-add (pow_pos m.exponent);
            };
        by_virtue = virtue (in_privileged_mode m) refl;
      }
    where
      virtue : (b : Bool) → in_privileged_mode m ≡ b
          → (in_privileged_mode m ≡ true)
          ⊎ ((in_privileged_mode m ≡ false) × (m.registers.pending ≡ false)
          × ((byte : ℕ) → Touches width address byte → is_denied m right byte ≡ false))
      virtue true e = inl e
      virtue false e = let u = user_allowed h e in inr (e, u.0, u.1)

  pub allows : is_sound m ≡ true → Allowed m width right address → number_of m (Access width right address) ≡ 0
  unfolding checks_of access_checks
  allows sound a =
      let outside = none_met (is_outside_memory m) width address (λ byte touches. within (a.paged byte touches)) in
      rw (sound, le-leb right 1 a.right_known, outside)
      (⊎_elim (λ privileged. rw privileged)
      (λ user.
      let denied = none_met (is_denied m right) width address (λ byte touches. rw (place (a.paged byte touches)) (user.2 byte touches)) in
      rw (user.0, user.1, denied)) a.by_virtue)
    where
      place : {byte : ℕ} (on : Paged m byte) → byte / size ≡ on.page
      place {byte} on =
          let above = (le-div_iff_mul-le (pow_pos m.exponent)).1 on.page_starts in
          let ends : byte < suc on.page * size = rw (suc-mul on.page size) on.page_ends in
          let below = (div-lt_iff_lt-mul (pow_pos m.exponent)).1 ends in
          omega (arith, above, below)

      within : {byte : ℕ} → Paged m byte → leb (memory_size m) byte ≡ false
      within {byte} on =
          let counted : byte / size < m.pages = rw (place on) on.page_counted in
          lt-leb (memory_size m) byte ((div-lt_iff_lt-mul (pow_pos m.exponent)).0 counted)

  -- memory ends before the access does where a byte that it touches is outside memory, and nowhere else
  ends_outside : any (is_outside_memory m) (touched width address) ≡ true → m.pages * size < address + bytes width
  ends_outside some =
      let past = one_meets (is_outside_memory m) width address some in
      let out = leb-true (memory_size m) past.byte past.meets in
      omega (arith, out, past.touches.1)

  ends_inside : any (is_outside_memory m) (touched width address) ≡ false → address + bytes width ≤ m.pages * size
  ends_inside none =
      let touches = last_touched width address in
      let last = leb-false (memory_size m) _ (none_meets (is_outside_memory m) width address none _ touches) in
      omega (arith, last, touches.1)

  all_inside : address + bytes width ≤ m.pages * size → any (is_outside_memory m) (touched width address) ≡ false
  all_inside within = none_met (is_outside_memory m) width address (λ byte t. lt-leb (memory_size m) byte (omega (arith, within, t.1)))

  number_given : {n : ℕ} → AccessGives m width right address n → number_of m (Access width right address) ≡ n
  unfolding checks_of access_checks
  number_given (unsound e) = rw e
  number_given (no_right sound unknown) = rw (sound, lt-leb right 1 unknown)
  number_given (outside sound known past) =
      let touches = last_touched width address in
      let last = le-leb (memory_size m) (address + bytes width - 1) (omega (arith, past, touches.1)) in
      rw (sound, le-leb right 1 known, some_meets (is_outside_memory m) width address _ touches last)
  number_given (pending sound known within user flag) = rw (sound, le-leb right 1 known, all_inside within, user, flag)
  number_given (denied sound known within user clear byte touches apart) =
      rw (sound, le-leb right 1 known, all_inside within, user, clear, some_meets (is_denied m right) width address byte touches apart)
  number_given (done sound a) = allows sound a

  some_number_given : (n : ℕ) × AccessGives m width right address n
  unfolding checks_of access_checks
  some_number_given =
      split (is_sound m) refl (leb right 1) refl (any (is_outside_memory m) (touched width address)) refl (in_privileged_mode m) refl m.registers.pending refl
      (any (is_denied m right) (touched width address)) refl
    where
      split : (sound : Bool) → is_sound m ≡ sound → (known : Bool) → leb right 1 ≡ known
          → (out : Bool) → any (is_outside_memory m) (touched width address) ≡ out → (privileged : Bool) → in_privileged_mode m ≡ privileged
          → (flag : Bool) → m.registers.pending ≡ flag → (none : Bool) → any (is_denied m right) (touched width address) ≡ none
          → (n : ℕ) × AccessGives m width right address n
      split false s known k out o privileged p flag f none d = (1, unsound s)
      split true s false k out o privileged p flag f none d = (2, no_right s (leb-false right 1 k))
      split true s true k true o privileged p flag f none d = (3, outside s (leb-true right 1 k) (ends_outside o))
      split true s true k false o true p flag f none d = (0, done s (allowed (rw (s, k, o, p))))
      split true s true k false o false p true f none d = (8, pending s (leb-true right 1 k) (ends_inside o) p f)
      split true s true k false o false p false f true d =
          let page = one_meets (is_denied m right) width address d in
          (9, denied s (leb-true right 1 k) (ends_inside o) p f page.byte page.touches page.meets)
      split true s true k false o false p false f false d = (0, done s (allowed (rw (s, k, o, p, f, d))))

  -- RULES 3.2: each number of an access of either width exactly where it is due
  pub access_number_exactly : (n : ℕ) → ((call_of m (Access width right address)).number ≡ n) ↔ AccessGives m width right address n
  unfolding call_of
  access_number_exactly n =
      let one = some_number_given in
      ((λ e. subst (AccessGives m width right address) (sym (number_given one.1) ∙ e) one.1), number_given)
