-- Calls on lent parts: a call that does not look at a part of the machine answers the same whatever stands there, and leaves it there.
-- Grant, revoke and the store of a field change nothing but the fields.
use Prim.Native.Nat.{ℕ}
use mathlib.Core.Path.{◌≡◌, refl, ap, sym, ◌∙◌}
use mathlib.Core.Bool.{Bool, true}
use mathlib.Core.List.{List}
use lib.Dec.{eqb}
use Rattle.rules.specs.Refusals.{pick}
use Rattle.machine.specs.Machine.{with_fields, with_stack, with_lent}
use Rattle.machine.specs.Calls.{unchecked_of, answer_by, silent, own_number_of, change_call, checks_of, effect_of, report_of, keeping, violated}
use Rattle.machine.specs.declared.record.Machine.{Machine}
use Rattle.machine.specs.declared.record.Page.{Page}
use Rattle.machine.specs.declared.record.Domain.{Domain}
use Rattle.machine.specs.declared.record.Report.TheVariants.{Nothing}
use Rattle.machine.specs.declared.record.Report.{Report}
use Rattle.machine.specs.declared.record.Answered.{Answered}
use Rattle.machine.specs.declared.record.Width.{Width}
use Rattle.machine.specs.declared.record.Call.{Call}
use Rattle.machine.specs.declared.record.Call.TheVariants.{Access, StoreField}
use Rattle.machine.proofs.Answers.{avoids, after_cases, after_both, own_not_nine, unreported, change_avoids, change_effect, change_reports}

-- what a call may leave of a machine, with a part put in, and what it reports
abbrev ends : (Machine → Machine) → Machine → Call → Machine × Machine × Report
ends put m call = (put (effect_of m call), put (violated m call), report_of m call)

-- the same machine with another part, of which neither the conditions of a call nor its ends know
abbrev Aside : (Machine → Machine) → Machine → Call → Type 0
Aside put m call = (checks_of (put m) call ≡ checks_of m call) × (ends (λ same. same) (put m) call ≡ ends put m call)

aside : (put : Machine → Machine) (m : Machine) (call : Call) → Aside put m call
    → unchecked_of (put m) call
    ≡ record { number = (unchecked_of m call).number; machine = put (unchecked_of m call).machine; report = (unchecked_of m call).report }
unfolding unchecked_of
aside put m call unseen =
    let n = own_number_of m call in
    let done = ap (λ (end : Machine × Machine × Report). end.0) unseen.1 in
    let denied = ap (λ (end : Machine × Machine × Report). end.1) unseen.1 in
    let reports = ap (λ (end : Machine × Machine × Report). end.2) unseen.1 in
    rw (unseen.0, reports)
    (ap (λ (end : Machine). record { number = n; machine = end; report = pick (eqb n 0) (report_of m call) Nothing })
    (after_both (λ own other. other ≡ put own) n call done denied refl))

-- a call that changes the fields alone: it is put together from its number and the fields after it
abbrev FieldsAlone : Machine → Call → Type 0
FieldsAlone m call = silent (unchecked_of m call).number (with_fields (unchecked_of m call).machine.fields m) ≡ unchecked_of m call

fields_alone : (m : Machine) (call : Call) {new : List ℕ} → avoids 9 (checks_of m call) ≡ true → effect_of m call ≡ with_fields new m
    → report_of m call ≡ Nothing → FieldsAlone m call
unfolding unchecked_of
fields_alone m call never effect reports =
    let n = own_number_of m call in
    rw (← unreported m call n reports)
    (ap (λ (end : Machine). silent n end)
    (after_cases (λ end. with_fields end.fields m ≡ end) n m call (λ _. rw effect) (λ nine. absurd (own_not_nine m call never nine)) refl))

pub change_alone : (m : Machine) (granting : Bool) (right : ℕ) (page : Page) (s : Domain)
    → FieldsAlone m (change_call granting right page s)
change_alone m granting right page s =
    fields_alone m (change_call granting right page s) (change_avoids m right page s granting) (change_effect m right page s granting)
    (change_reports m right page s granting)

pub store_alone : (m : Machine) (right : ℕ) (page : Page) (bits : ℕ) → FieldsAlone m (StoreField right page bits)
unfolding checks_of effect_of
store_alone m right page bits = fields_alone m (StoreField right page bits) refl refl refl

-- an access leaves the fields as they were, and the whole machine but its flag and its last violation
pub access_keeps : (m : Machine) (width : Width) (right address : ℕ) → (unchecked_of m (Access width right address)).machine.fields ≡ m.fields
unfolding unchecked_of effect_of
access_keeps m width right address =
    after_cases (λ end. end.fields ≡ m.fields) (own_number_of m (Access width right address)) m (Access width right address) (λ _. refl) (λ _. refl) refl

pub access_own : (m : Machine) (width : Width) (right address : ℕ) → keeping m (unchecked_of m (Access width right address)) ≡ unchecked_of m (Access width right address)
unfolding unchecked_of effect_of
access_own m width right address =
    let call = Access width right address in
    let answer = unchecked_of m call in
    ap (λ (end : Machine). record { number = answer.number; machine = end; report = answer.report })
    (after_cases (λ end. with_lent m.fields m.saved end ≡ end) answer.number m call (λ _. refl) (λ _. refl) refl)

-- a call that leaves the fields alone is put together from its answer by a number on a lent stack, the machine's own, and what it left there
pub stack_own : (m : Machine) (call : Call) (n : ℕ) → (effect_of m call).fields ≡ m.fields
    → ◌≡◌ {A = Answered} (record {
      number = n;
      machine = with_stack (answer_by n m call).machine.depth (answer_by n m call).machine.saved (keeping m (answer_by n m call)).machine;
      report = (answer_by n m call).report;
    }) (answer_by n m call)
stack_own m call n left =
    ap (λ (end : Machine). record { number = n; machine = end; report = (answer_by n m call).report })
    (after_cases (λ end. with_fields m.fields end ≡ end) n m call
    (λ _. ap (λ (fields : List ℕ). with_fields fields (effect_of m call)) (sym left)) (λ _. refl) refl)

-- the answer of code that left the stack after a call in the lent one, and its own in the machine
pub lent_stack : (own : Machine) {n : ℕ} {end : Machine} {saved : List Bool} {answer : Answered}
    → silent n (with_stack end.depth saved end) ≡ answer → with_lent own.fields own.saved end ≡ end
    → (silent n end ≡ keeping own answer) × (saved ≡ answer.machine.saved)
lent_stack own {n} same kept =
    (ap (λ (end : Machine). silent n end) (sym kept) ∙ ap (keeping own) same, ap (λ (r : Answered). r.machine.saved) same)

module _ (fields : List ℕ) (saved : List Bool) (m : Machine) (call : Call) where
  -- what a call on a machine with both parts lent gives back, and what it leaves in them
  abbrev pub Lent : Answered → List ℕ → List Bool → Type 0
  Lent r fields' saved' =
      (r ≡ keeping m (unchecked_of (with_lent fields saved m) call))
      × ((fields' ≡ (unchecked_of (with_lent fields saved m) call).machine.fields)
      × (saved' ≡ (unchecked_of (with_lent fields saved m) call).machine.saved))

  -- a call that looks at neither of them, made on the machine with its own
  pub on_neither : {r : Answered} → Aside (with_lent fields saved) m call
      → with_lent m.fields m.saved (effect_of m call) ≡ effect_of m call → r ≡ unchecked_of m call → Lent r fields saved
  unfolding unchecked_of
  on_neither unseen own answer =
      let both = aside (with_lent fields saved) m call unseen in
      let kept : with_lent m.fields m.saved (unchecked_of m call).machine ≡ (unchecked_of m call).machine =
      after_cases (λ end. with_lent m.fields m.saved end ≡ end) (own_number_of m call) m call (λ _. own) (λ _. refl) refl in (
        answer ∙ ap (λ (end : Machine). record { number = own_number_of m call; machine = end; report = (unchecked_of m call).report }) (sym kept) ∙ sym (ap (keeping m) both),
        (sym (ap (λ (r : Answered). r.machine.fields) both), sym (ap (λ (r : Answered). r.machine.saved) both)),
      )

  -- one on the lent fields that does not look at the stack
  pub on_fields : {r : Answered} {fields' : List ℕ} → Aside (λ x. with_stack x.depth saved x) (with_fields fields m) call
      → r ≡ keeping m (unchecked_of (with_fields fields m) call) → fields' ≡ (unchecked_of (with_fields fields m) call).machine.fields
      → Lent r fields' saved
  on_fields unseen answer left =
      let both = aside (λ x. with_stack x.depth saved x) (with_fields fields m) call unseen in (
        answer ∙ sym (ap (keeping m) both),
        (left ∙ sym (ap (λ (r : Answered). r.machine.fields) both), sym (ap (λ (r : Answered). r.machine.saved) both)),
      )

  -- one on the lent fields that changes them alone, from its number
  pub on_fields_alone : {n : ℕ} {fields' : List ℕ} → Aside (λ x. with_stack x.depth saved x) (with_fields fields m) call
      → FieldsAlone (with_fields fields m) call → n ≡ (unchecked_of (with_fields fields m) call).number
      → fields' ≡ (unchecked_of (with_fields fields m) call).machine.fields → Lent (silent n m) fields' saved
  on_fields_alone unseen alone number left = on_fields unseen (rw number (ap (keeping m) alone)) left

  -- and one on the lent stack that does not look at the fields
  pub on_stack : {r : Answered} {saved' : List Bool} → Aside (with_fields fields) (with_stack m.depth saved m) call
      → r ≡ keeping m (unchecked_of (with_stack m.depth saved m) call)
      → saved' ≡ (unchecked_of (with_stack m.depth saved m) call).machine.saved → Lent r fields saved'
  on_stack unseen answer left =
      let both = aside (with_fields fields) (with_stack m.depth saved m) call unseen in (
        answer ∙ sym (ap (keeping m) both),
        (sym (ap (λ (r : Answered). r.machine.fields) both), left ∙ sym (ap (λ (r : Answered). r.machine.saved) both)),
      )
