-- What there is to say of each call, said once: its numbers, what its conditions and its effect leave alone, and that its effect is sound.
-- `told` has a clause for each call; the laws over all calls (Laws.antt) rest on it.
use Prim.Native.Nat.{ℕ, ◌-◌, ◌*◌, ◌≤◌, ◌<◌}
use mathlib.Core.Path.{◌≡◌, refl, sym, ◌∙◌}
use mathlib.Core.Bool.{Bool, true, false, not, ◌&&◌, true≢false}
use mathlib.Core.List.{List, [], ◌∷◌}
use borrow.Author.Tests.{eqb-false, leb-true, ltb-true, not-false}
use native.Mathlib.Omega.{arith}
use lib.ListN.{get_or, set}
use lib.Seq.{get_or-set_other}
use Rattle.rules.specs.Registers.{mode_where, is_privileged}
use Rattle.rules.specs.Refusals.{Check, ◌⇒◌, first, pick}
use Rattle.rules.specs.declared.registers.Mode.{Mode}
use Rattle.rules.specs.declared.registers.Registers.{Registers}
use Rattle.machine.specs.Machine.{is_right, is_sound, place_of, no_program, with_fields, with_registers}
use Rattle.machine.specs.Calls.{checks_of, access_checks, change_checks, effect_of, entered, returned, switched, in_privileged_mode, in_user_mode, is_denied, is_outside_memory, mode_of, number_of, touched, any}
use Rattle.machine.specs.Listed.{is_in, own_numbers, sound_numbers}
use Rattle.machine.specs.declared.record.Machine.{Machine}
use Rattle.machine.specs.declared.record.Page.{Page}
use Rattle.machine.specs.declared.record.Domain.{Domain}
use Rattle.machine.specs.declared.record.Width.{Width}
use Rattle.machine.specs.declared.record.Call.{Call}
use Rattle.machine.specs.declared.record.Call.TheVariants.{Access, Grant, Revoke, SetMask, Enter, Return, Switch, StoreField, StoreContext, StoreMask, StoreMode, AskViolation}
use Rattle.rules.proofs.Decided.{and_both}
use Rattle.machine.proofs.Sound.{sound_facts, moved_sound}
use Rattle.machine.proofs.Entitled.{entitled}
use Rattle.machine.proofs.Answers.{avoids, refuses, met_at, accepted, accepted_unmet, entry_below, switch_named, switch_depth}

-- every number of a list of conditions is in a list of numbers, and so is 0
abbrev pub within : List ℕ → List Check → Bool
within l [] = is_in 0 l
within l ((met ⇒ number) ∷ rest) = is_in number l && within l rest

pub first_within : (l : List ℕ) (checks : List Check) → within l checks ≡ true → is_in (first checks) l ≡ true
first_within l [] h = h
first_within l ((true ⇒ number) ∷ rest) h = (and_both (is_in number l) (within l rest) h).0
first_within l ((false ⇒ number) ∷ rest) h = first_within l rest (and_both (is_in number l) (within l rest) h).1

-- what holds of the conditions of an access in privileged and in user mode holds of them
either_mode : (P : List Check → Type 0) (privileged : Bool) (b₂ b₃ b₈ b₉ : Bool)
    → P ((b₂ ⇒ 2) ∷ (b₃ ⇒ 3) ∷ []) → P ((b₂ ⇒ 2) ∷ (b₃ ⇒ 3) ∷ (b₈ ⇒ 8) ∷ (b₉ ⇒ 9) ∷ [])
    → P ((b₂ ⇒ 2) ∷ (b₃ ⇒ 3) ∷ pick privileged [] ((b₈ ⇒ 8) ∷ (b₉ ⇒ 9) ∷ []))
either_mode P true b₂ b₃ b₈ b₉ p u = p
either_mode P false b₂ b₃ b₈ b₉ p u = u

access_either : (P : List Check → Type 0) (m : Machine) (width : Width) (right address : ℕ)
    → ((b₂ b₃ b₈ b₉ : Bool) → P ((b₂ ⇒ 2) ∷ (b₃ ⇒ 3) ∷ []) × P ((b₂ ⇒ 2) ∷ (b₃ ⇒ 3) ∷ (b₈ ⇒ 8) ∷ (b₉ ⇒ 9) ∷ []))
    → P (checks_of m (Access width right address))
unfolding checks_of access_checks
access_either P m width right address h =
    let b₂ = not (is_right right) in
    let bytes = touched width address in
    let b₃ = any (is_outside_memory m) bytes in
    let b₈ = m.registers.pending in
    let b₉ = any (is_denied m right) bytes in
    either_mode P (in_privileged_mode m) b₂ b₃ b₈ b₉ (h b₂ b₃ b₈ b₉).0 (h b₂ b₃ b₈ b₉).1

-- the page count, the exponent and the program count
abbrev pub shape : Machine → List ℕ
shape m = m.pages ∷ m.exponent ∷ m.programs ∷ []

-- what the effect of an accepted call leaves alone: the shape, the last violation, the fields past the page count, the entries past the program
-- count, and the places of the stack past the depth but the one that an entry fills
pub record Left (m : Machine) (call : Call) (end : Machine) : Type 0 where
  pub shaped : shape end ≡ shape m
  pub last_stays : end.violations.last ≡ m.violations.last
  pub fields_past : (i : ℕ) → 2 * m.pages ≤ i → get_or end.fields i 0 ≡ get_or m.fields i 0
  pub programs_past : (i : ℕ) → m.programs ≤ i → get_or end.table i no_program ≡ get_or m.table i no_program
  pub stack_past : (i : ℕ) → m.depth ≤ i → (call ≡ Enter → i ≡ m.depth → ⊥) → get_or end.saved i false ≡ get_or m.saved i false

-- its conditions answer its own numbers or 0, none of which is 1, and which are those of a sound machine; in privileged mode 9 is none of them
pub record Numbered (m : Machine) (call : Call) : Type 0 where
  pub own : within (0 ∷ own_numbers call) (checks_of m call) ≡ true
  pub no_one : is_in 1 (0 ∷ own_numbers call) ≡ false
  pub given : within sound_numbers (checks_of m call) ≡ true
  pub no_nine : in_privileged_mode m ≡ true → avoids 9 (checks_of m call) ≡ true

-- all of it: where a call lists 7 it is accepted in privileged mode alone; what its effect leaves alone; and that this is sound
pub record Told (m : Machine) (call : Call) : Type 0 where
  pub numbers : Numbered m call
  pub kernel : is_in 7 (own_numbers call) ≡ true → number_of m call ≡ 0 → in_privileged_mode m ≡ true
  pub left : number_of m call ≡ 0 → Left m call (effect_of m call)
  pub sound : is_sound m ≡ true → number_of m call ≡ 0 → is_sound (effect_of m call) ≡ true

tell : {m : Machine} {call : Call} → Numbered m call → (is_in 7 (own_numbers call) ≡ true → number_of m call ≡ 0 → in_privileged_mode m ≡ true)
    → (number_of m call ≡ 0 → Left m call (effect_of m call)) → (is_sound m ≡ true → number_of m call ≡ 0 → is_sound (effect_of m call) ≡ true)
    → Told m call
tell numbers kernel left sound = record { numbers = numbers; kernel = kernel; left = left; sound = sound }

-- the numbers of a call whose conditions are a list as they stand
plain : (m : Machine) (call : Call) → within (0 ∷ own_numbers call) (checks_of m call) ≡ true → is_in 1 (0 ∷ own_numbers call) ≡ false
    → within sound_numbers (checks_of m call) ≡ true → avoids 9 (checks_of m call) ≡ true → Numbered m call
plain m call own one given nine =
    record { own = own; no_one = one; given = given; no_nine = λ e. nine }

-- an effect that changes the registers at most
untouched : (m : Machine) (call : Call) (r : Registers) → Left m call (with_registers r m)
untouched m call r =
    record {
      shaped = refl;
      last_stays = refl;
      fields_past = λ i past. refl;
      programs_past = λ i past. refl;
      stack_past = λ i past filled. refl;
    }

-- one that changes a field of a counted page alone
one_field : (m : Machine) (call : Call) (at bits : ℕ) → at < 2 * m.pages → Left m call (with_fields (set m.fields at bits) m)
one_field m call at bits counted =
    record {
      shaped = refl;
      last_stays = refl;
      fields_past = λ i past. get_or-set_other m.fields at i bits 0 (omega arith);
      programs_past = λ i past. refl;
      stack_past = λ i past filled. refl;
    }

-- a call that is no kernel's, and one whose condition at a place is that the mode is user
program's : (m : Machine) (call : Call) → is_in 7 (own_numbers call) ≡ false → is_in 7 (own_numbers call) ≡ true → number_of m call ≡ 0
    → in_privileged_mode m ≡ true
program's m call none lists n = absurd (true≢false (sym lists ∙ none))

kernel's : (m : Machine) (call : Call) (k : ℕ) → refuses (checks_of m call) ≡ true → met_at k (checks_of m call) ≡ in_user_mode m
    → number_of m call ≡ 0 → in_privileged_mode m ≡ true
kernel's m call k refusing user n = not-false (in_privileged_mode m) (sym user ∙ accepted_unmet m call k refusing n)

-- ---- the calls that need more

-- the field of an accepted grant or revocation, and of an accepted store, is among the counted ones
change_place : (m : Machine) (granting : Bool) (right : ℕ) (page : Page) (s : Domain)
    → number_of m (pick granting (Grant right page s) (Revoke right page s)) ≡ 0 → place_of right page.0 < 2 * m.pages
change_place m granting right page s n =
    let e = entitled m granting right page s n in
    omega (arith, e.right_known, e.page_counted)

store_place : (m : Machine) (right : ℕ) (page : Page) (bits : ℕ) → number_of m (StoreField right page bits) ≡ 0
    → place_of right page.0 < 2 * m.pages
unfolding checks_of
store_place m right page bits n =
    let call = StoreField right page bits in
    let known = leb-true right 1 (not-false _ (accepted_unmet m call 0 refl n)) in
    let counted = ltb-true page.0 m.pages (not-false _ (accepted_unmet m call 1 refl n)) in
    omega arith

-- in privileged mode a sound machine's flag is clear
flag_clear : (pending privileged : Bool) → pending && privileged ≡ false → not privileged ≡ false → pending ≡ false
flag_clear pending true calm user = and_one pending ∙ calm
  where
    and_one : (b : Bool) → b ≡ b && true
    and_one true = refl
    and_one false = refl
flag_clear pending false calm user = absurd (true≢false user)

in_privileged_mode_lem : (m : Machine) → is_sound m ≡ true → in_user_mode m ≡ false → m.registers.pending ≡ false
in_privileged_mode_lem m h user = flag_clear m.registers.pending (in_privileged_mode m) (sound_facts m h).calm user

clear_calm : {pending : Bool} (mode : Mode) → pending ≡ false → pending && is_privileged mode ≡ false
clear_calm mode e = rw e

return_left : (m : Machine) → number_of m Return ≡ 0 → Left m Return (returned m)
unfolding checks_of returned
return_left m n =
    let some = eqb-false m.depth 0 (accepted_unmet m Return 1 refl n) in
    record {
      shaped = refl;
      last_stays = refl;
      fields_past = λ i past. refl;
      programs_past = λ i past. refl;
      stack_past = λ i past filled. get_or-set_other m.saved (m.depth - 1) i _ false (omega arith);
    }

switch_left : (m : Machine) (program : ℕ) → number_of m (Switch program) ≡ 0 → Left m (Switch program) (switched m program)
unfolding switched
switch_left m program n =
    let s = sound_facts m (accepted m (Switch program) n).0 in
    let one = switch_depth m program n in
    record {
      shaped = refl;
      last_stays = refl;
      fields_past = λ i past. refl;
      programs_past = λ i past. get_or-set_other m.table m.current i _ no_program (omega arith);
      stack_past = λ i past filled. get_or-set_other m.saved 0 i _ false (omega arith);
    }

-- ---- a clause for each call

enter_left : (m : Machine) → Left m Enter (entered m)
unfolding entered
enter_left m =
    record {
      shaped = refl;
      last_stays = refl;
      fields_past = λ i past. refl;
      programs_past = λ i past. refl;
      stack_past = λ i past filled. get_or-set_other m.saved m.depth i _ false (filled refl);
    }

access_numbered : (m : Machine) (width : Width) (right address : ℕ) → Numbered m (Access width right address)
unfolding checks_of access_checks
access_numbered m width right address =
    let call = Access width right address in
    record {
      own = access_either (λ checks. within (0 ∷ own_numbers call) checks ≡ true) m width right address (λ b₂ b₃ b₈ b₉. (refl, refl));
      no_one = refl;
      given = access_either (λ checks. within sound_numbers checks ≡ true) m width right address (λ b₂ b₃ b₈ b₉. (refl, refl));
      no_nine = λ e. rw e;
    }

pub told : (m : Machine) (call : Call) → Told m call
unfolding is_sound checks_of change_checks effect_of entered returned switched
told m (Access width right address) =
    let call = Access width right address in
    tell (access_numbered m width right address) (program's m call refl) (λ n. untouched m call _) (λ s n. s)
told m (Grant right page d) =
    let call = Grant right page d in
    tell (plain m call refl refl refl refl) (program's m call refl) (λ n. one_field m call (place_of right page.0) _ (change_place m true right page d n)) (λ s n. s)
told m (Revoke right page d) =
    let call = Revoke right page d in
    tell (plain m call refl refl refl refl) (program's m call refl) (λ n. one_field m call (place_of right page.0) _ (change_place m false right page d n)) (λ s n. s)
told m (SetMask bits) =
    let call = SetMask bits in
    tell (plain m call refl refl refl refl) (program's m call refl) (λ n. untouched m call _) (λ s n. s)
told m Enter =
    let call = Enter in
    tell (plain m call refl refl refl refl) (program's m call refl) (λ n. enter_left m) (λ s n. let below = entry_below m n in moved_sound m (entered m) (refl, refl, refl) s (omega arith) (sound_facts m s).current_below refl (sound_facts m s).violation_fits_lem)
told m Return =
    let call = Return in
    tell (plain m call refl refl refl refl) (λ lists. kernel's m call 0 refl refl) (return_left m) (λ s n.
    let facts = sound_facts m s in
    let clear = in_privileged_mode_lem m s (accepted_unmet m Return 0 refl n) in
    moved_sound m (returned m) (refl, refl, refl) s (omega arith) facts.current_below
    (clear_calm (mode_where (get_or m.saved (m.depth - 1) false)) clear) facts.violation_fits_lem)
told m (Switch program) =
    let call = Switch program in
    tell (plain m call refl refl refl refl) (λ lists. kernel's m call 0 refl refl) (switch_left m program) (λ s n.
    let facts = sound_facts m s in
    moved_sound m (switched m program) (refl, refl, refl) s facts.depth_most (switch_named m program n) facts.calm facts.violation_fits_lem)
told m (StoreField right page bits) =
    let call = StoreField right page bits in
    tell (plain m call refl refl refl refl) (λ lists. kernel's m call 2 refl refl) (λ n. one_field m call (place_of right page.0) bits (store_place m right page bits n)) (λ s n. s)
told m (StoreContext bits) =
    let call = StoreContext bits in
    tell (plain m call refl refl refl refl) (λ lists. kernel's m call 0 refl refl) (λ n. untouched m call _) (λ s n. s)
told m (StoreMask bits) =
    let call = StoreMask bits in
    tell (plain m call refl refl refl refl) (λ lists. kernel's m call 0 refl refl) (λ n. untouched m call _) (λ s n. s)
told m (StoreMode mode) =
    let call = StoreMode mode in
    tell (plain m call refl refl refl refl) (λ lists. kernel's m call 1 refl refl) (λ n. untouched m call _) (λ s n.
    let facts = sound_facts m s in
    let clear = in_privileged_mode_lem m s (accepted_unmet m call 1 refl n) in
    moved_sound m (effect_of m call) (refl, refl, refl) s facts.depth_most facts.current_below (clear_calm (mode_of mode) clear) facts.violation_fits_lem)
told m AskViolation =
    let call = AskViolation in
    tell (plain m call refl refl refl refl) (λ lists. kernel's m call 0 refl refl) (λ n. untouched m call _) (λ s n. s)
