-- The laws of all calls, each stated once over `Call`: listed numbers, refusals, violations, soundness, what a call leaves alone and what is
-- reported; and what a violation leaves and the question for it answers. They rest on what is told of each call (Told.antt).
use Prim.Native.Nat.{ℕ, ◌*◌, ◌^◌, ◌/◌, ◌≤◌, ◌<◌}
use mathlib.Core.Path.{◌≡◌, refl, sym, ◌∙◌}
use mathlib.Core.Bool.{Bool, true, false, not, ◌||◌, true≢false}
use mathlib.Core.List.{List, [], ◌∷◌}
use native.Mathlib.Omega.{arith}
use borrow.Author.Tests.{eqb-false, ne_eqb, leb-true, leb-false, not-false, le-leb, lt-ltb}
use lib.Bits.{bit_and}
use lib.Dec.{eqb}
use lib.ListN.{get_or}
use Rattle.rules.specs.Registers.{local_context, with_pending}
use Rattle.rules.specs.Refusals.{Check, ◌⇒◌, first, pick}
use Rattle.machine.specs.Machine.{is_right, is_sound, memory_size, field_of, violation_fits, no_program, with_registers, with_last}
use Rattle.machine.specs.Calls.{call_of, answer_by, silent, unchecked_of, checks_of, access_checks, change_checks, effect_of, entered, returned, switched, last_after_violation, handed_out, report_of, in_privileged_mode, in_user_mode, is_denied, is_outside_memory, number_of, touched, any, after, violated}
use Rattle.machine.specs.Listed.{is_in, listed, own_numbers, sound_numbers}
use Rattle.machine.specs.declared.record.Machine.{Machine}
use Rattle.machine.specs.declared.record.Report.TheVariants.{Nothing}
use Rattle.machine.specs.declared.record.Width.{Width}
use Rattle.machine.specs.declared.record.Call.{Call}
use Rattle.machine.specs.declared.record.Call.TheVariants.{Access, Grant, Revoke, SetMask, Enter, Return, Switch, StoreField, StoreContext, StoreMask, StoreMode, AskViolation}
use Rattle.machine.proofs.Sound.{Sound, sound_facts, moved_sound}
use Rattle.machine.proofs.Answers.{first_avoids, not_nine, after_cases, after_both}
use Rattle.machine.proofs.Told.{told, shape, first_within}
use Rattle.machine.proofs.Touched.{Touches, first_touched, none_meets, one_meets}
use Rattle.std.specs.Prelude.{Option, Some}
use Rattle.machine.specs.declared.record.Violation.{Violation}

own_number : (m : Machine) (call : Call) → is_in (first (checks_of m call)) (0 ∷ own_numbers call) ≡ true
own_number m call = first_within (0 ∷ own_numbers call) (checks_of m call) (told m call).numbers.own

-- a number that is in a list is none that is not
other_number : (n k : ℕ) (l : List ℕ) → is_in n l ≡ true → is_in k l ≡ false → eqb n k ≡ false
other_number n k l there none =
    ne_eqb n k (λ same. let z : true ≡ false = rw same at (sym there) ∙ none in true≢false z)

-- RULES 9.1, 10.1: a call on any machine answers a number that is listed for it
pub number_listed : (m : Machine) (call : Call) → is_in (call_of m call).number (listed call) ≡ true
unfolding call_of
number_listed m call = split (is_sound m)
  where
    more : (a b c : Bool) → a || c ≡ true → a || (b || c) ≡ true
    more true b c h = refl
    more false true c h = refl
    more false false c h = h

    split : (b : Bool) → is_in (pick (not b) 1 (first (checks_of m call))) (listed call) ≡ true
    split true =
        more (eqb (first (checks_of m call)) 0) (eqb (first (checks_of m call)) 1) (is_in (first (checks_of m call)) (own_numbers call))
        (own_number m call)
    split false = refl

-- the numbers of a list of conditions
abbrev numbers : List Check → List ℕ
numbers [] = []
numbers ((met ⇒ number) ∷ rest) = number ∷ numbers rest

-- RULES 9.1: in user mode a call has exactly the conditions whose numbers are listed for it, in their order (in privileged mode an access has two less)
pub row_listed : (m : Machine) (call : Call) → in_privileged_mode m ≡ false → numbers (checks_of m call) ≡ own_numbers call
unfolding checks_of access_checks change_checks
row_listed m (Access width right address) user = rw user
row_listed m (Grant right page s) user = refl
row_listed m (Revoke right page s) user = refl
row_listed m (SetMask bits) user = refl
row_listed m Enter user = refl
row_listed m Return user = refl
row_listed m (Switch program) user = refl
row_listed m (StoreField right page bits) user = refl
row_listed m (StoreContext bits) user = refl
row_listed m (StoreMask bits) user = refl
row_listed m (StoreMode mode) user = refl
row_listed m AskViolation user = refl

-- RULES 2.4: 1 is answered where the machine is not sound, and nowhere else
pub one_exactly : (m : Machine) (call : Call) → eqb (call_of m call).number 1 ≡ not (is_sound m)
unfolding call_of
one_exactly m call = split (is_sound m)
  where
    split : (b : Bool) → eqb (pick (not b) 1 (first (checks_of m call))) 1 ≡ not b
    split true = other_number (first (checks_of m call)) 1 (0 ∷ own_numbers call) (own_number m call) (told m call).numbers.no_one
    split false = refl

-- RULES 2.8: the numbers of a call without the check for 1, on any machine
pub unchecked_number : (m : Machine) (call : Call) → is_in (unchecked_of m call).number sound_numbers ≡ true
unfolding unchecked_of
unchecked_number m call = first_within sound_numbers (checks_of m call) (told m call).numbers.given

-- RULES 2.4: no call on a sound machine is answered by 1
pub sound_number : (m : Machine) (call : Call) → is_sound m ≡ true → is_in (call_of m call).number sound_numbers ≡ true
unfolding call_of unchecked_of
sound_number m call s = rw s (unchecked_number m call)

-- RULES 9.2: no call on any machine, sound or not, is answered by 10
pub ten_never : (m : Machine) (call : Call) → (call_of m call).number ≡ 10 → ⊥
ten_never m call ten = split (is_sound m) refl
  where
    split : (sound : Bool) → is_sound m ≡ sound → ⊥
    split true s = true≢false (sym (sound_number m call s) ∙ rw ten)
    split false s = true≢false (sym (one_exactly m call ∙ rw s) ∙ rw ten)

-- RULES 2.5: a refusal changes nothing, but that 9 sets the flag and the last violation
pub refusal_unchanged : (m : Machine) (call : Call) → ((call_of m call).number ≡ 0 → ⊥)
    → (call_of m call).machine
    ≡ pick (eqb (call_of m call).number 9) (with_last (last_after_violation m call) (with_registers (with_pending true m.registers) m)) m
unfolding call_of after
refusal_unchanged m call refused = rw (ne_eqb (number_of m call) 0 refused)

-- RULES 3.2: a violation is answered in user mode alone
pub violation_in_user_mode : (m : Machine) (call : Call) → (call_of m call).number ≡ 9 → in_privileged_mode m ≡ false
unfolding call_of
violation_in_user_mode m call nine = split (in_privileged_mode m) refl
  where
    split : (b : Bool) → in_privileged_mode m ≡ b → b ≡ false
    split true e =
        absurd
        (eqb-false (number_of m call) 9
        (first_avoids 9 ((not (is_sound m) ⇒ 1) ∷ checks_of m call) ((told m call).numbers.no_nine e)) nine)
    split false e = refl

-- RULES 3.2, 9.1: a violation is answered to an access alone, of a right that is one, to bytes in memory, with the flag clear, where the page of one of
-- these bytes does not give the right
pub record DeniedAccess (m : Machine) (call : Call) : Type 0 where
  pub width : Width
  pub right : ℕ
  pub address : ℕ
  pub accessed : call ≡ Access width right address
  pub right_known : right ≤ 1
  pub inside : (byte : ℕ) → Touches width address byte → byte < m.pages * 2 ^ m.exponent
  pub not_pending : m.registers.pending ≡ false
  pub denied : ℕ
  pub denied_touched : Touches width address denied
  pub apart : eqb (bit_and (field_of m right (denied / 2 ^ m.exponent)) (local_context m.registers)) 0 ≡ true

reaches_nine : (b₁ b₂ b₃ privileged b₈ b₉ : Bool)
    → first ((b₁ ⇒ 1) ∷ (b₂ ⇒ 2) ∷ (b₃ ⇒ 3) ∷ pick privileged [] ((b₈ ⇒ 8) ∷ (b₉ ⇒ 9) ∷ [])) ≡ 9
    → (b₂ ≡ false) × (b₃ ≡ false) × (b₈ ≡ false) × (b₉ ≡ true)
reaches_nine true b₂ b₃ privileged b₈ b₉ nine = absurd (omega arith)
reaches_nine false true b₃ privileged b₈ b₉ nine = absurd (omega arith)
reaches_nine false false true privileged b₈ b₉ nine = absurd (omega arith)
reaches_nine false false false true b₈ b₉ nine = absurd (omega arith)
reaches_nine false false false false true b₉ nine = absurd (omega arith)
reaches_nine false false false false false true nine = (refl, refl, refl, refl)
reaches_nine false false false false false false nine = absurd (omega arith)

pub violation_denies : (m : Machine) (call : Call) → (call_of m call).number ≡ 9 → DeniedAccess m call
unfolding call_of checks_of access_checks change_checks
violation_denies m (Access width right address) nine =
    let bytes = touched width address in
    let passed =
    reaches_nine (not (is_sound m)) (not (is_right right)) (any (is_outside_memory m) bytes) (in_privileged_mode m) m.registers.pending (any (is_denied m right) bytes) nine in
    let page = one_meets (is_denied m right) width address passed.3 in
    record {
      width = width;
      right = right;
      address = address;
      accessed = refl;
      right_known = leb-true right 1 (not-false _ passed.0);
      inside = λ byte t. leb-false (memory_size m) byte (none_meets (is_outside_memory m) width address passed.1 byte t);
      not_pending = passed.2;
      denied = page.byte;
      denied_touched = page.touches;
      apart = page.meets;
    }
violation_denies m (Grant right page s) nine = absurd (not_nine m (Grant right page s) refl nine)
violation_denies m (Revoke right page s) nine = absurd (not_nine m (Revoke right page s) refl nine)
violation_denies m (SetMask bits) nine = absurd (not_nine m (SetMask bits) refl nine)
violation_denies m Enter nine = absurd (not_nine m Enter refl nine)
violation_denies m Return nine = absurd (not_nine m Return refl nine)
violation_denies m (Switch program) nine = absurd (not_nine m (Switch program) refl nine)
violation_denies m (StoreField right page bits) nine = absurd (not_nine m (StoreField right page bits) refl nine)
violation_denies m (StoreContext bits) nine = absurd (not_nine m (StoreContext bits) refl nine)
violation_denies m (StoreMask bits) nine = absurd (not_nine m (StoreMask bits) refl nine)
violation_denies m (StoreMode mode) nine = absurd (not_nine m (StoreMode mode) refl nine)
violation_denies m AskViolation nine = absurd (not_nine m AskViolation refl nine)

-- RULES 3.3: it sets the flag and the last violation: the current program was denied that right to that address. Nothing else changes.
pub access_violated : (m : Machine) (width : Width) (right address : ℕ) → (call_of m (Access width right address)).number ≡ 9
    → (call_of m (Access width right address)).machine
    ≡ with_last (Some (record { program = m.current; right = right; address = address })) (with_registers (with_pending true m.registers) m)
unfolding call_of after
access_violated m width right address nine = rw nine

-- RULES 2.12: a call that lists 7, which are return, switch, the kernel's stores and the question for the last violation, is accepted in privileged mode alone
pub kernel_alone : (m : Machine) (call : Call) → is_in 7 (own_numbers call) ≡ true → number_of m call ≡ 0 → in_privileged_mode m ≡ true
kernel_alone m call = (told m call).kernel

-- RULES 2.7: a call hands back a sound machine exactly where it was handed one
pub soundness_kept : (m : Machine) (call : Call) → is_sound (call_of m call).machine ≡ is_sound m
unfolding call_of after
soundness_kept m call = split (is_sound m) refl
  where
    denied_fits : number_of m call ≡ 9 → Sound m → violation_fits m.programs (memory_size m) (last_after_violation m call) ≡ true
    denied_fits nine s =
        let v = violation_denies m call nine in
        rw (v.accessed, lt-ltb _ _ s.current_below, le-leb _ _ v.right_known, lt-ltb _ _ (v.inside v.address (first_touched v.width v.address)))

    violated_sound : is_sound m ≡ true → number_of m call ≡ 9 → is_sound (violated m call) ≡ true
    violated_sound h nine =
        let s = sound_facts m h in
        moved_sound m (violated m call) (refl, refl, refl) h s.depth_most s.current_below (violation_in_user_mode m call nine)
        (denied_fits nine s)

    split : (b : Bool) → is_sound m ≡ b → is_sound (after (number_of m call) m call) ≡ b
    split true h = after_cases (λ end. is_sound end ≡ true) (number_of m call) m call ((told m call).sound h) (violated_sound h) h
    split false h = rw h h

-- what neither the effect of an accepted call nor a violation changes, no call changes
kept_by_call : {A : Type 0} (part : Machine → A) (m : Machine) (call : Call) → (number_of m call ≡ 0 → part (effect_of m call) ≡ part m)
    → part (violated m call) ≡ part m → part (call_of m call).machine ≡ part m
unfolding call_of
kept_by_call part m call effect violation =
    after_cases (λ end. part end ≡ part m) (number_of m call) m call effect (λ nine. violation) refl

-- RULES 2.5, 3.3: no answer but 9 changes the last violation, of whatever call
pub last_kept : (m : Machine) (call : Call) → ((call_of m call).number ≡ 9 → ⊥) → (call_of m call).machine.violations.last ≡ m.violations.last
unfolding call_of
last_kept m call other =
    after_cases (λ end. end.violations.last ≡ m.violations.last) (number_of m call) m call (λ n. ((told m call).left n).last_stays)
    (λ nine. absurd (other nine)) refl

-- neither a call's own conditions nor the rest of its effect know of the last violation, and only the question reports it
aside_last : (m : Machine) (last other : Option Violation) (call : Call)
    → (checks_of (with_last last m) call ≡ checks_of m call)
    × (with_last other (effect_of (with_last last m) call) ≡ with_last other (effect_of m call))
    × ((call ≡ AskViolation → ⊥) → report_of (with_last last m) call ≡ report_of m call)
unfolding checks_of access_checks change_checks effect_of entered returned switched
aside_last m last other (Access width right address) = (refl, refl, λ _. refl)
aside_last m last other (Grant right page s) = (refl, refl, λ _. refl)
aside_last m last other (Revoke right page s) = (refl, refl, λ _. refl)
aside_last m last other (SetMask bits) = (refl, refl, λ _. refl)
aside_last m last other Enter = (refl, refl, λ _. refl)
aside_last m last other Return = (refl, refl, λ _. refl)
aside_last m last other (Switch program) = (refl, refl, λ _. refl)
aside_last m last other (StoreField right page bits) = (refl, refl, λ _. refl)
aside_last m last other (StoreContext bits) = (refl, refl, λ _. refl)
aside_last m last other (StoreMask bits) = (refl, refl, λ _. refl)
aside_last m last other (StoreMode mode) = (refl, refl, λ _. refl)
aside_last m last other AskViolation = (refl, refl, λ question. absurd (question refl))

-- RULES 1.16: whichever violation is the last, on a sound machine a call answers the same number, what is left but the last violation is the same, and
-- every call but the question for it reports the same
pub last_unseen : (m : Machine) (last other : Option Violation) (call : Call) → is_sound m ≡ true → is_sound (with_last last m) ≡ true
    → ((call_of (with_last last m) call).number ≡ (call_of m call).number)
    × (with_last other (call_of (with_last last m) call).machine ≡ with_last other (call_of m call).machine)
    × ((call ≡ AskViolation → ⊥) → (call_of (with_last last m) call).report ≡ (call_of m call).report)
unfolding call_of
last_unseen m last other call sound sound' =
    let aside = aside_last m last other call in
    rw (sound, sound', aside.0) (
      refl,
      after_both (λ a b. with_last other a ≡ with_last other b) (first (checks_of m call)) call aside.1 refl refl,
      λ others. rw (aside.2 others),
    )

-- RULES 2.13: a refused call reports nothing
pub refused_silent : (m : Machine) (call : Call) → ((call_of m call).number ≡ 0 → ⊥) → (call_of m call).report ≡ Nothing
unfolding call_of
refused_silent m call refused = rw (ne_eqb (number_of m call) 0 refused)

-- RULES 3.24, 3.25: the question for the last violation in full: 1, then 7 in user mode, else 0 with what is kept; the machine is as it was
pub question_answered : (m : Machine)
    → call_of m AskViolation
    ≡ pick (not (is_sound m)) (silent 1 m)
    (pick (in_user_mode m) (silent 7 m) (record { number = 0; machine = m; report = handed_out m.violations.last }))
unfolding call_of checks_of effect_of after
question_answered m = split (is_sound m) (in_privileged_mode m)
  where
    split : (sound privileged : Bool)
        → answer_by (pick (not sound) 1 (first ((not privileged ⇒ 7) ∷ []))) m AskViolation
        ≡ pick (not sound) (silent 1 m) (pick (not privileged) (silent 7 m) (answer_by 0 m AskViolation))
    split false privileged = refl
    split true false = refl
    split true true = refl

-- no call changes the page count, the exponent or the program count
pub shape_kept : (m : Machine) (call : Call)
    → (call_of m call).machine.pages ∷ (call_of m call).machine.exponent ∷ (call_of m call).machine.programs ∷ []
    ≡ m.pages ∷ m.exponent ∷ m.programs ∷ []
shape_kept m call = kept_by_call shape m call (λ n. ((told m call).left n).shaped) refl

-- RULES 1.13: no call changes a field past the page count
pub fields_left : (m : Machine) (call : Call) (i : ℕ) → 2 * m.pages ≤ i
    → get_or (call_of m call).machine.fields i 0 ≡ get_or m.fields i 0
fields_left m call i past = kept_by_call (λ end. get_or end.fields i 0) m call (λ n. ((told m call).left n).fields_past i past) refl

-- RULES 1.13: nor a program's entry past the program count
pub programs_left : (m : Machine) (call : Call) (i : ℕ) → m.programs ≤ i
    → get_or (call_of m call).machine.table i no_program ≡ get_or m.table i no_program
programs_left m call i past =
    kept_by_call (λ end. get_or end.table i no_program) m call (λ n. ((told m call).left n).programs_past i past) refl

-- RULES 1.13: nor a stack place past the depth, but for the one that an entry fills
pub stack_left : (m : Machine) (call : Call) (i : ℕ) → m.depth ≤ i → (call ≡ Enter → i ≡ m.depth → ⊥)
    → get_or (call_of m call).machine.saved i false ≡ get_or m.saved i false
stack_left m call i past filled =
    kept_by_call (λ end. get_or end.saved i false) m call (λ n. ((told m call).left n).stack_past i past filled) refl
