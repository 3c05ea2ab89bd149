-- The shape of an answer: from a call's number and what the code changed to `call_of`, for each kind of change.
use Prim.Native.Nat.{ℕ, zero, suc, ◌-◌, ◌<◌}
use mathlib.Core.Path.{◌≡◌, refl, ap, sym, ◌∙◌}
use mathlib.Core.Bool.{Bool, true, false, not, ◌&&◌}
use mathlib.Core.List.{List, [], ◌∷◌}
use borrow.Author.Tests.{eqb-true, eqb-false, ne_eqb, ltb-true, not-true, not-false}
use native.Mathlib.Omega.{arith}
use lib.Dec.{eqb}
use lib.ListN.{get_or, set}
use lib.Seq.{set-get_or}
use Rattle.rules.specs.Registers.{with_pending}
use Rattle.rules.specs.Domains.{prevailing, with_bit, without_bit}
use Rattle.rules.specs.Refusals.{Check, ◌⇒◌, first, pick}
use Rattle.rules.specs.declared.registers.Registers.{Registers}
use Rattle.machine.specs.Machine.{is_sound, field_of, place_of, with_fields, with_registers, with_stack, with_programs, with_last}
use Rattle.machine.specs.Calls.{call_of, unchecked_of, answer_by, silent, own_number_of, change_call, checks_of, change_checks, effect_of, last_after_violation, domain_through, in_privileged_mode, named, report_of, number_of, after, violated}
use Rattle.machine.specs.declared.record.Machine.{Machine}
use Rattle.machine.specs.declared.record.Program.{Program}
use Rattle.machine.specs.declared.record.Page.{Page}
use Rattle.machine.specs.declared.record.Domain.{Domain}
use Rattle.std.specs.Prelude.{Option}
use Rattle.machine.specs.declared.record.Violation.{Violation}
use Rattle.machine.specs.declared.record.Report.{Report}
use Rattle.machine.specs.declared.record.Report.TheVariants.{Nothing, Through}
use Rattle.machine.specs.declared.record.Answered.{Answered}
use Rattle.machine.specs.declared.record.Width.{Width}
use Rattle.machine.specs.declared.record.Call.{Call}
use Rattle.machine.specs.declared.record.Call.TheVariants.{Access, Enter, Return, Switch}
use Rattle.rules.proofs.Decided.{and_both}
use Rattle.machine.proofs.Sound.{sound_facts}

-- no condition of the list answers k
abbrev pub avoids : ℕ → List Check → Bool
avoids k [] = not (eqb 0 k)
avoids k ((met ⇒ number) ∷ rest) = not (eqb number k) && avoids k rest

pub first_avoids : (k : ℕ) (checks : List Check) → avoids k checks ≡ true → eqb (first checks) k ≡ false
first_avoids k [] h = not-true (eqb 0 k) h
first_avoids k ((true ⇒ number) ∷ rest) h =
    not-true (eqb number k) (and_both (not (eqb number k)) (avoids k rest) h).0
first_avoids k ((false ⇒ number) ∷ rest) h =
    first_avoids k rest (and_both (not (eqb number k)) (avoids k rest) h).1

-- every number of a list of conditions refuses
abbrev pub refuses : List Check → Bool
refuses [] = true
refuses ((met ⇒ number) ∷ rest) = not (eqb number 0) && refuses rest

-- whether the condition at a place of a list is met
abbrev pub met_at : ℕ → List Check → Bool
met_at k [] = false
met_at zero ((met ⇒ number) ∷ rest) = met
met_at (suc k) ((met ⇒ number) ∷ rest) = met_at k rest

-- a list of conditions that gives 0: none of them is met
pub unmet : (k : ℕ) (checks : List Check) → refuses checks ≡ true → first checks ≡ 0 → met_at k checks ≡ false
unmet k [] h none = refl
unmet k ((true ⇒ number) ∷ rest) h none =
    absurd (eqb-false number 0 (not-true (eqb number 0) (and_both (not (eqb number 0)) (refuses rest) h).0) none)
unmet zero ((false ⇒ number) ∷ rest) h none = refl
unmet (suc k) ((false ⇒ number) ∷ rest) h none = unmet k rest (and_both (not (eqb number 0)) (refuses rest) h).1 none

-- a choice between two that are the same, by two tests, and what is made of a choice
pick_same : {A : Type 0} (b : Bool) (x : A) → x ≡ pick b x x
pick_same true x = refl
pick_same false x = refl

pick_both : {A : Type 0} (a b : Bool) (x y : A) → pick (a && not b) x y ≡ pick a (pick b y x) y
pick_both true true x y = refl
pick_both true false x y = refl
pick_both false b x y = refl

pick_under : {A B : Type 0} (f : A → B) (b : Bool) (x y : A) → f (pick b x y) ≡ pick b (f x) (f y)
pick_under f true x y = refl
pick_under f false x y = refl

-- the machine after a call, by its three cases
pub after_cases : (P : Machine → Type 0) (n : ℕ) (m : Machine) (call : Call) → (n ≡ 0 → P (effect_of m call))
    → (n ≡ 9 → P (violated m call)) → P m → P (after n m call)
unfolding after
after_cases P n m call done violation same = split (eqb n 0) refl (eqb n 9) refl
  where
    split : (b : Bool) → eqb n 0 ≡ b → (d : Bool) → eqb n 9 ≡ d → P (pick b (effect_of m call) (pick d (violated m call) m))
    split true e d f = done (eqb-true n 0 e)
    split false e true f = violation (eqb-true n 9 f)
    split false e false f = same

-- two machines after calls of one number
pub after_both : (R : Machine → Machine → Type 0) (n : ℕ) (call : Call) {m m' : Machine}
    → R (effect_of m call) (effect_of m' call) → R (violated m call) (violated m' call) → R m m' → R (after n m call) (after n m' call)
unfolding after
after_both R n call {m} {m'} done violation same = split (eqb n 0) (eqb n 9)
  where
    split : (b d : Bool) → R (pick b (effect_of m call) (pick d (violated m call) m)) (pick b (effect_of m' call) (pick d (violated m' call) m'))
    split true d = done
    split false true = violation
    split false false = same

pub not_nine : (m : Machine) (call : Call) → avoids 9 (checks_of m call) ≡ true → number_of m call ≡ 9 → ⊥
not_nine m call never = eqb-false (number_of m call) 9 (first_avoids 9 ((not (is_sound m) ⇒ 1) ∷ checks_of m call) never)

pub own_not_nine : (m : Machine) (call : Call) → avoids 9 (checks_of m call) ≡ true → own_number_of m call ≡ 9 → ⊥
own_not_nine m call never = eqb-false (own_number_of m call) 9 (first_avoids 9 (checks_of m call) never)

module _ (m : Machine) (call : Call) where
  -- an accepted call: the machine is sound, and no condition of the call is met
  pub accepted : number_of m call ≡ 0 → (is_sound m ≡ true) × (first (checks_of m call) ≡ 0)
  accepted = split (is_sound m)
    where
      split : (b : Bool) → pick (not b) 1 (own_number_of m call) ≡ 0 → (b ≡ true) × (own_number_of m call ≡ 0)
      split true h = (refl, h)
      split false h = absurd (omega arith)

  -- a call is the one without the check for 1 behind one test for soundness: 1, and the machine as it was, where it is not sound
  pub call_checked : call_of m call ≡ pick (is_sound m) (unchecked_of m call) (silent 1 m)
  unfolding call_of unchecked_of after
  call_checked = split (is_sound m)
    where
      split : (b : Bool)
          → answer_by (pick (not b) 1 (own_number_of m call)) m call ≡ pick b (unchecked_of m call) (silent 1 m)
      split true = refl
      split false = refl

  -- on a sound machine the two are one
  pub sound_unchecked : is_sound m ≡ true → call_of m call ≡ unchecked_of m call
  sound_unchecked sound = rw (call_checked, sound)

  -- the two ends of a public method, from the test for soundness
  pub unsound_answers : {sound : Bool} → sound ≡ is_sound m → not sound ≡ true → silent 1 m ≡ call_of m call
  unsound_answers {sound} tested not_sound = rw (call_checked, ← tested, not-true sound not_sound)

  pub sound_answers : {sound : Bool} {r : Answered} → sound ≡ is_sound m → not sound ≡ false → r ≡ unchecked_of m call → r ≡ call_of m call
  sound_answers {sound} tested is-sound answer = answer ∙ sym (sound_unchecked (sym tested ∙ not-false sound is-sound))

  -- a call that never answers 9 and leaves its effect where it is done and the machine as it was where it is refused
  pub answered : {n : ℕ} {end : Machine} {report : Report} → n ≡ own_number_of m call → avoids 9 (checks_of m call) ≡ true
      → end ≡ pick (eqb n 0) (effect_of m call) m → report ≡ pick (eqb n 0) (report_of m call) Nothing
      → ◌≡◌ {A = Answered} (record { number = n; machine = end; report = report }) (unchecked_of m call)
  unfolding unchecked_of after
  answered {n} {end} {report} number never changed reports =
      let nine = first_avoids 9 (checks_of m call) never in
      rw (changed, reports, number, nine)

  -- one that changes nothing
  pub same_answered : {n : ℕ} {report : Report} → n ≡ own_number_of m call → avoids 9 (checks_of m call) ≡ true → effect_of m call ≡ m
      → report ≡ pick (eqb n 0) (report_of m call) Nothing
      → ◌≡◌ {A = Answered} (record { number = n; machine = m; report = report }) (unchecked_of m call)
  same_answered {n} number never effect reports = answered number never (rw effect (pick_same (eqb n 0) m)) reports

  -- a call that has nothing to report reports nothing, by whatever number
  pub unreported : (n : ℕ) → report_of m call ≡ Nothing → Nothing ≡ pick (eqb n 0) (report_of m call) Nothing
  unreported n none = rw none (pick_same (eqb n 0) Nothing)

  -- an answer by any number but 9, in its two cases: the call is done, or it is refused
  pub done : {n k : ℕ} {end : Machine} → n ≡ k → n ≡ 0 → end ≡ effect_of m call → report_of m call ≡ Nothing → silent n end ≡ answer_by k m call
  unfolding after
  done {n} {k} {end} number none changed reports = rw (changed, ← number, none, reports)

  pub kept : (checks : List Check) {n : ℕ} {end : Machine} → n ≡ first checks → avoids 9 checks ≡ true → (n ≡ 0 → ⊥) → end ≡ m
      → silent n end ≡ answer_by (first checks) m call
  unfolding after
  kept checks {n} {end} number never refused same =
      let nine = first_avoids 9 checks never in
      rw (same, ← number, ne_eqb n 0 refused) (rw (number, nine))

  -- one that changes the registers alone
  pub registers_answered : {n : ℕ} {r new : Registers} → n ≡ own_number_of m call → avoids 9 (checks_of m call) ≡ true
      → effect_of m call ≡ with_registers new m → report_of m call ≡ Nothing → r ≡ pick (eqb n 0) new m.registers
      → silent n (with_registers r m) ≡ unchecked_of m call
  registers_answered {n} {r} {new} number never effect reports changed =
      answered number never (rw (changed, effect) (pick_under (λ (live : Registers). with_registers live m) (eqb n 0) new m.registers))
      (unreported n reports)

  -- one that changes the field at a place alone
  pub field_answered : {n : ℕ} {fields : List ℕ} (at new : ℕ) → n ≡ own_number_of m call → avoids 9 (checks_of m call) ≡ true
      → effect_of m call ≡ with_fields (set m.fields at new) m → report_of m call ≡ Nothing
      → fields ≡ pick (eqb n 0) (set m.fields at new) m.fields → silent n (with_fields fields m) ≡ unchecked_of m call
  field_answered {n} {fields} at new number never effect reports changed =
      answered number never
      (rw (changed, effect) (pick_under (λ (all : List ℕ). with_fields all m) (eqb n 0) (set m.fields at new) m.fields))
      (unreported n reports)

-- the field at a place, stored where the call was accepted and stored back as it was where not
stored : (l : List ℕ) (at : ℕ) (b : Bool) (new : ℕ) → set l at (pick b new (get_or l at 0)) ≡ pick b (set l at new) l
stored l at true new = refl
stored l at false new = set-get_or l at 0

-- a call that stores a field where it is accepted, from the field that it read
pub store_answered : (m : Machine) (call : Call) {n : ℕ} {fields : List ℕ} {field bits : ℕ} (at new : ℕ)
    → field ≡ get_or m.fields at 0 → n ≡ own_number_of m call → avoids 9 (checks_of m call) ≡ true
    → effect_of m call ≡ with_fields (set m.fields at new) m → report_of m call ≡ Nothing → bits ≡ pick (eqb n 0) new field
    → fields ≡ set m.fields at bits → silent n (with_fields fields m) ≡ unchecked_of m call
store_answered m call {n} {fields} {field} {bits} at new read number never effect reports chosen written =
    field_answered m call at new number never effect reports
    (written ∙ rw (chosen, read) (stored m.fields at (eqb n 0) new))

-- grant and revoke have one list of conditions, and effects that differ in the bit operation alone
module _ (m : Machine) (right : ℕ) (page : Page) (s : Domain) where
  pub change_checks_lem : (granting : Bool)
      → checks_of m (change_call granting right page s) ≡ change_checks m right page s (prevailing (field_of m right page.0))
  unfolding checks_of
  change_checks_lem true = refl
  change_checks_lem false = refl

  pub change_effect : (granting : Bool)
      → effect_of m (change_call granting right page s)
      ≡ with_fields (set m.fields (place_of right page.0) (pick granting (with_bit (field_of m right page.0) s.0) (without_bit (field_of m right page.0) s.0))) m
  unfolding effect_of
  change_effect true = refl
  change_effect false = refl

  pub change_reports : (granting : Bool) → report_of m (change_call granting right page s) ≡ Nothing
  change_reports true = refl
  change_reports false = refl

  pub change_avoids : (granting : Bool) → avoids 9 (checks_of m (change_call granting right page s)) ≡ true
  unfolding change_checks
  change_avoids granting = rw (change_checks_lem granting)

  -- a grant or a revocation, from what its code read, worked out and stored
  pub change_answered : (granting : Bool) {n : ℕ} {fields : List ℕ} {field at bits : ℕ}
      → field ≡ get_or m.fields at 0 → at ≡ place_of right page.0
      → n ≡ first (change_checks m right page s (prevailing field))
      → bits ≡ pick (eqb n 0) (pick granting (with_bit field s.0) (without_bit field s.0)) field → fields ≡ set m.fields at bits
      → silent n (with_fields fields m) ≡ unchecked_of m (change_call granting right page s)
  unfolding change_checks
  change_answered granting {n} {fields} {field} {at} {bits} read place number chosen written =
      let call = change_call granting right page s in
      store_answered m call at _ read (rw (change_checks_lem granting) (number ∙ rw (read, place))) (change_avoids granting)
      (change_effect granting ∙ rw (← place, ← read)) (change_reports granting) chosen written

-- an access changes nothing but the flag and the last violation, and these where it answers 9; it names a domain where it answers 0 in user mode
pub access_answered : (m : Machine) (width : Width) (right address : ℕ) {n : ℕ} {r : Registers} {last : Option Violation} {report : Report}
    → n ≡ own_number_of m (Access width right address)
    → r ≡ pick (eqb n 9) (with_pending true m.registers) m.registers
    → last ≡ pick (eqb n 9) (last_after_violation m (Access width right address)) m.violations.last
    → report ≡ pick (eqb n 0 && not (in_privileged_mode m)) (Through (domain_through m right address)) Nothing
    → ◌≡◌ {A = Answered} (record { number = n; machine = with_last last (with_registers r m); report = report }) (unchecked_of m (Access width right address))
unfolding unchecked_of after effect_of
access_answered m width right address {n} {r} {last} {report} number changed denied names =
    rw (changed, denied, names, ← number, pick_both (eqb n 0) (in_privileged_mode m) (Through (domain_through m right address)) Nothing)
    (ap (λ (end : Machine). record { number = n; machine = end; report = pick (eqb n 0) (named m right address) Nothing })
    (kept (eqb n 9) ∙ done (eqb n 0) refl))
  where
    end : Bool → Machine
    end b = pick b (violated m (Access width right address)) m

    kept : (b : Bool)
        → with_last (pick b (last_after_violation m (Access width right address)) m.violations.last)
        (with_registers (pick b (with_pending true m.registers) m.registers) m)
        ≡ pick b (violated m (Access width right address)) m
    kept true = refl
    kept false = refl

    done : (b : Bool) → eqb n 0 ≡ b → end (eqb n 9) ≡ pick b m (end (eqb n 9))
    done true e = rw (eqb-true n 0 e)
    done false e = refl

-- the stack and the registers put in
pub with_stack_lem : (m : Machine) {d d' : ℕ} {s s' : List Bool} {r r' : Registers} → d ≡ d' → s ≡ s' → r ≡ r'
    → with_stack d s (with_registers r m) ≡ with_stack d' s' (with_registers r' m)
with_stack_lem m p q e = rw (p, q, e)

-- the same with the current program and the table
pub with_programs_lem : (m : Machine) {p p' : ℕ} {t t' : List Program} {s s' : List Bool} {r r' : Registers}
    → p ≡ p' → t ≡ t' → s ≡ s' → r ≡ r'
    → with_programs p t (with_stack m.depth s (with_registers r m)) ≡ with_programs p' t' (with_stack m.depth s' (with_registers r' m))
with_programs_lem m e f g h = rw (e, f, g, h)

-- a condition of an accepted call is not met
pub accepted_unmet : (m : Machine) (call : Call) (k : ℕ) → refuses (checks_of m call) ≡ true → number_of m call ≡ 0 → met_at k (checks_of m call) ≡ false
accepted_unmet m call k refusing h = unmet k (checks_of m call) refusing (accepted m call h).1

-- what the numbers of the kernel's calls say where they are accepted
pub entry_below : (m : Machine) → number_of m Enter ≡ 0 → m.depth < 8
unfolding checks_of
entry_below m h = ltb-true m.depth 8 (not-false _ (accepted_unmet m Enter 0 refl h))

module _ (m : Machine) (program : ℕ) (h : number_of m (Switch program) ≡ 0) where
  pub switch_named : program < m.programs
  unfolding checks_of
  switch_named = ltb-true program m.programs (not-false _ (accepted_unmet m (Switch program) 2 refl h))

  pub switch_depth : m.depth ≡ 1
  unfolding checks_of
  switch_depth = eqb-true m.depth 1 (not-false _ (accepted_unmet m (Switch program) 1 refl h))

-- the places that accepted calls of a sound machine reach
pub return_within : (m : Machine) → number_of m Return ≡ 0 → m.depth - 1 < 8
return_within m h =
    let s = sound_facts m (accepted m Return h).0 in
    omega arith

pub switch_within : (m : Machine) (program : ℕ) → number_of m (Switch program) ≡ 0 → (m.current < 8) × (program < 8)
switch_within m program h =
    let s = sound_facts m (accepted m (Switch program) h).0 in
    let named = switch_named m program h in
    (omega arith, omega arith)
