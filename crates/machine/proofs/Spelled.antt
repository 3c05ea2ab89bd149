-- The twelve calls spelled out for any machine, sound or not: the number from its tests, one behind the other, and the machine after an accepted
-- call by all its parts, what 9 keeps and what is reported. The tables of Cases and Pinned try machines that are written out; here none is left out.
use Prim.Native.Nat.{ℕ, ◌+◌, ◌-◌, ◌*◌, ◌^◌, ◌/◌}
use mathlib.Core.Path.{◌≡◌, refl}
use mathlib.Core.Bool.{Bool, true, false, not, ◌&&◌, ◌||◌, or-false}
use mathlib.Core.List.{List, [], ◌∷◌, map}
use lib.Bits.{bit_and}
use lib.Count.{count_trailing_zeros}
use lib.Dec.{leb, ltb, eqb}
use lib.ListN.{get_or, set, replicate}
use Rattle.rules.specs.Domains.{prevailing, giving_domain, is_outside, is_not_lower, with_bit, without_bit}
use Rattle.rules.specs.Refusals.{◌⇒◌, first, pick}
use Rattle.rules.specs.declared.registers.Mode.TheVariants.{User, Privileged}
use Rattle.rules.specs.declared.registers.Registers.{Registers}
use Rattle.rules.specs.Registers.{is_privileged}
use Rattle.machine.specs.Calls.{call_of, unchecked_of, keeping, last_after_violation, report_of, checks_of, access_checks, change_checks, effect_of, entered, returned, switched, after}
use Rattle.machine.specs.Machine.{is_sound, violation_fits}
use Rattle.machine.specs.declared.record.Machine.{Machine}
use Rattle.machine.specs.declared.record.Page.{Page}
use Rattle.machine.specs.declared.record.Domain.{Domain}
use Rattle.machine.specs.declared.record.Report.TheVariants.{Nothing, Denied, Through}
use Rattle.machine.specs.declared.record.Answered.{Answered}
use Rattle.machine.specs.declared.record.Width.{Width}
use Rattle.machine.specs.declared.record.Width.TheVariants.{One, Two}
use Rattle.machine.specs.declared.record.Call.{Call}
use Rattle.machine.specs.declared.record.Call.TheVariants.{Access, Grant, Revoke, SetMask, Enter, Return, Switch, StoreField, StoreContext, StoreMask, StoreMode, AskViolation}
use Rattle.machine.proofs.Written.{stored, live, denied, holding}
use Rattle.std.specs.Prelude.{None}

module _ (m : Machine) where
  abbrev number : Call → ℕ
  number call = (unchecked_of m call).number

  abbrev privileged : Bool
  privileged = is_privileged m.registers.mode

  abbrev pending : Bool
  pending = m.registers.pending

  abbrev local : ℕ
  local = bit_and m.registers.context m.registers.mask

  abbrev field : ℕ → ℕ → ℕ
  field right page = get_or m.fields (2 * page + right) 0

  pub sound_spelled :
      is_sound m
      ≡ (leb 1 m.pages && leb m.pages 128 && leb 5 m.exponent && leb m.exponent 12 && leb m.depth 8 && leb 1 m.programs && leb m.programs 8)
      && leb (m.pages * 2 ^ m.exponent) 65536 && ltb m.current m.programs && not (pending && privileged)
      && violation_fits m.programs (m.pages * 2 ^ m.exponent) m.violations.last
  unfolding is_sound
  sound_spelled = refl

  -- a byte that is outside memory, and one whose page does not give the right
  abbrev outside : ℕ → Bool
  outside byte = leb (m.pages * 2 ^ m.exponent) byte

  abbrev apart : ℕ → ℕ → Bool
  apart right byte = eqb (bit_and (field right (byte / 2 ^ m.exponent)) local) 0

  pub access_number_spelled : (right address : ℕ)
      → let spelled : Bool → Bool → ℕ =
      λ out denied. pick (not (leb right 1)) 2 (pick out 3 (pick privileged 0 (pick pending 8 (pick denied 9 0)))) in
      (number (Access One right address) ≡ spelled (outside address) (apart right address))
      × (number (Access Two right address)
      ≡ spelled (outside address || outside (address + 1)) (apart right address || apart right (address + 1)))
  unfolding unchecked_of checks_of access_checks
  access_number_spelled right address =
      let last = address + 1 in (
        rw (or-false (outside address), or-false (apart right address)) (split privileged (outside address) (apart right address)),
        rw (or-false (outside last), or-false (apart right last))
            (split privileged (outside address || outside last) (apart right address || apart right last)),
      )
    where
      split : (b out denied : Bool)
          → first ((not (leb right 1) ⇒ 2) ∷ (out ⇒ 3) ∷ pick b [] ((pending ⇒ 8) ∷ (denied ⇒ 9) ∷ []))
          ≡ pick (not (leb right 1)) 2 (pick out 3 (pick b 0 (pick pending 8 (pick denied 9 0))))
      split true out denied = refl
      split false out denied = refl

  -- grant and revoke alike
  abbrev change_number : ℕ → ℕ → ℕ → ℕ
  change_number right page s =
      pick (not (leb right 1)) 2
      (pick (not (ltb page m.pages)) 4
      (pick (not (ltb s 16)) 5
      (pick privileged 6
      (pick pending 8
      (pick (is_outside (prevailing (field right page)) local) 11 (pick (is_not_lower (prevailing (field right page)) s) 12 0))))))

  pub command_numbers_spelled : (right bits : ℕ) (page : Page) (s : Domain)
      → (number (Grant right page s) ≡ change_number right page.0 s.0)
      × (number (Revoke right page s) ≡ change_number right page.0 s.0)
      × (number (SetMask bits) ≡ pick privileged 6 (pick pending 8 (pick (eqb (bit_and bits m.registers.context) 0) 19 0)))
  unfolding unchecked_of checks_of change_checks
  command_numbers_spelled right bits page s = (refl, refl, refl)

  pub kernel_numbers_spelled : (right program bits mode : ℕ) (page : Page)
      → (number Enter ≡ pick (not (ltb m.depth 8)) 13 0)
      × (number Return ≡ pick (not privileged) 7 (pick (eqb m.depth 0) 14 0))
      × (number (Switch program)
      ≡ pick (not privileged) 7
      (pick (not (eqb m.depth 1)) 15 (pick (not (ltb program m.programs)) 16 0)))
      × (number (StoreField right page bits)
      ≡ pick (not (leb right 1)) 2 (pick (not (ltb page.0 m.pages)) 4 (pick (not privileged) 7 0)))
      × (number (StoreContext bits) ≡ pick (not privileged) 7 0)
      × (number (StoreMask bits) ≡ pick (not privileged) 7 0)
      × (number (StoreMode mode) ≡ pick (not (leb mode 1)) 17 (pick (not privileged) 7 0))
      × (number AskViolation ≡ pick (not privileged) 7 0)
  unfolding unchecked_of checks_of
  kernel_numbers_spelled right program bits mode page = (refl, refl, refl, refl, refl, refl, refl, refl)

  -- other fields or other registers alone
  abbrev with_fields_lem : List ℕ → Machine
  with_fields_lem fields = holding m.violations.last m.pages m.exponent fields m.registers m.depth m.saved m.programs m.current m.table

  abbrev with_registers_lem : Registers → Machine
  with_registers_lem r = holding m.violations.last m.pages m.exponent m.fields r m.depth m.saved m.programs m.current m.table

  pub command_effects_spelled : (width : Width) (right address bits : ℕ) (page : Page) (s : Domain)
      → let at = 2 * page.0 + right in
      (effect_of m (Access width right address) ≡ m)
      × (effect_of m (Grant right page s) ≡ with_fields_lem (set m.fields at (with_bit (get_or m.fields at 0) s.0)))
      × (effect_of m (Revoke right page s) ≡ with_fields_lem (set m.fields at (without_bit (get_or m.fields at 0) s.0)))
      × (effect_of m (SetMask bits) ≡ with_registers_lem (live m.registers.context bits m.registers.mode pending))
  unfolding effect_of
  command_effects_spelled width right address bits page s = (refl, refl, refl, refl)

  pub store_effects_spelled : (right bits mode : ℕ) (page : Page)
      → let r = m.registers in
      (effect_of m (StoreField right page bits) ≡ with_fields_lem (set m.fields (2 * page.0 + right) bits))
      × (effect_of m (StoreContext bits) ≡ with_registers_lem (live bits r.mask r.mode pending))
      × (effect_of m (StoreMask bits) ≡ with_registers_lem (live r.context bits r.mode pending))
      × (effect_of m (StoreMode mode) ≡ with_registers_lem (live r.context r.mask (pick (eqb mode 0) User Privileged) pending))
      × (effect_of m AskViolation ≡ m)
  unfolding effect_of
  store_effects_spelled right bits mode page = (refl, refl, refl, refl, refl)

  pub turn_effects_spelled : (program : ℕ)
      → let r = m.registers in
      let top = m.depth - 1 in
      let table = set m.table m.current (stored r.context r.mask (pick (get_or m.saved 0 false) Privileged User)) in
      let named = get_or table program (stored 0 0 User) in
      (effect_of m Enter
      ≡ holding m.violations.last m.pages m.exponent m.fields (live r.context r.mask Privileged false) (m.depth + 1)
      (set m.saved m.depth privileged) m.programs m.current m.table)
      × (effect_of m Return
      ≡ holding m.violations.last m.pages m.exponent m.fields (live r.context r.mask (pick (get_or m.saved top false) Privileged User) pending) top
      (set m.saved top false) m.programs m.current m.table)
      × (effect_of m (Switch program)
      ≡ holding m.violations.last m.pages m.exponent m.fields (live named.context named.mask r.mode pending) m.depth
      (set m.saved 0 (is_privileged named.mode)) m.programs program table)
  unfolding effect_of entered returned switched
  turn_effects_spelled program = (refl, refl, refl)

  -- every call but the access and the question
  abbrev others : (right bits : ℕ) → Page → Domain → List Call
  others right bits page s =
      Grant right page s ∷ Revoke right page s ∷ SetMask bits ∷ Enter ∷ Return ∷ Switch bits ∷ StoreField right page bits ∷ StoreContext bits
      ∷ StoreMask bits ∷ StoreMode bits ∷ []

  -- what 9 would leave as the last violation: the access that was denied; no other call brings one
  pub denials_spelled : (width : Width) (right address bits : ℕ) (page : Page) (s : Domain)
      → (last_after_violation m (Access width right address) ≡ denied m.current right address)
      × (map (last_after_violation m) (AskViolation ∷ others right bits page s) ≡ replicate 11 m.violations.last)
  denials_spelled width right address bits page s = (refl, refl)

  -- what an accepted call reports: an access in user mode the lowest bit that the first byte's field, the global context and the mask share, the question
  -- what is kept, every other one nothing
  pub reports_spelled : (width : Width) (right address bits : ℕ) (page : Page) (s : Domain) (program right' address' : ℕ)
      → (report_of m (Access width right address)
      ≡ pick privileged Nothing (Through (record { 0 = count_trailing_zeros 16 (bit_and (get_or m.fields (2 * (address / 2 ^ m.exponent) + right) 0) local) })))
      × (map (report_of m) (others right bits page s) ≡ replicate 10 Nothing)
      × (m.violations.last ≡ None → report_of m AskViolation ≡ Nothing)
      × (m.violations.last ≡ denied program right' address'
      → report_of m AskViolation ≡ Denied (record { program = program; right = right'; address = address' }))
  unfolding giving_domain
  reports_spelled width right address bits page s program right' address' = (refl, refl, λ none. rw none, λ was. rw was)

  -- a number, an effect and a report put together: 9 sets the flag and the last violation, any other refusal leaves the machine, and no refusal
  -- reports anything; and the call by value asks for soundness first
  pub answers_spelled : (call : Call)
      → let n = number call in
      let spelled : ℕ → Answered =
      λ k. record {
        number = k;
        machine = pick (eqb k 0) (effect_of m call)
            (pick (eqb k 9)
            (holding (last_after_violation m call) m.pages m.exponent m.fields
            (live m.registers.context m.registers.mask m.registers.mode true) m.depth m.saved m.programs m.current m.table) m);
        report = pick (eqb k 0) (report_of m call) Nothing;
      } in
      (unchecked_of m call ≡ spelled n) × (call_of m call ≡ spelled (pick (not (is_sound m)) 1 n))
  unfolding call_of unchecked_of after
  answers_spelled call = (refl, refl)

-- the three clauses that soundness has for a stored violation
pub fits_spelled : (programs memory program right address : ℕ)
    → (violation_fits programs memory (denied program right address) ≡ ltb program programs && leb right 1 && ltb address memory)
    × (violation_fits programs memory None ≡ true)
fits_spelled programs memory program right address = (refl, refl)

-- what comes back of a call on lent parts, of any machine and any answer: all of the answer but that the machine keeps its own fields and stack
pub keeping_spelled : (own : Machine) (answer : Answered)
    → let m = answer.machine in
    ◌≡◌ {A = Answered} (keeping own answer) (record {
      number = answer.number;
      machine = holding m.violations.last m.pages m.exponent own.fields m.registers m.depth own.saved m.programs m.current m.table;
      report = answer.report;
    })
keeping_spelled own answer = refl
