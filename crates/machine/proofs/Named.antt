-- Through which domain an access goes (RULES 1.17, 2.13, 3.3): where a domain is named and where none, which one it is, and that it is the first byte's. By the
-- conditions of an accepted access, which are not met, and the law of the giving domain.
use Prim.Native.Nat.{ℕ, ◌^◌, ◌/◌, ◌<◌}
use mathlib.Core.Path.{◌≡◌, refl, ap, sym, ◌∙◌}
use mathlib.Core.Bool.{Bool, true, false, not, ◌&&◌}
use mathlib.Core.Logic.{inl, inr, ⊎_elim}
use borrow.Author.Tests.{eqb-true, not-true}
use native.Mathlib.Omega.{arith}
use lib.Bits.{and_le_l}
use lib.Dec.{eqb}
use Rattle.rules.specs.Registers.{local_context}
use Rattle.rules.specs.Domains.{holds, giving_domain}
use Rattle.rules.specs.Refusals.{pick}
use Rattle.rules.proofs.Decided.{and_both}
use Rattle.rules.proofs.Lowest.{giving_lowest}
use Rattle.machine.specs.Machine.{field_of}
use Rattle.machine.specs.Calls.{call_of, in_privileged_mode, in_user_mode, handed_out, number_of, report_of}
use Rattle.machine.specs.declared.record.Machine.{Machine}
use Rattle.machine.specs.declared.record.Domain.{Domain}
use Rattle.machine.specs.declared.record.Report.{Report}
use Rattle.machine.specs.declared.record.Report.TheVariants.{Nothing, Denied, Through}
use Rattle.machine.specs.declared.record.Width.{Width}
use Rattle.machine.specs.declared.record.Width.TheVariants.{One}
use Rattle.machine.specs.declared.record.Call.{Call}
use Rattle.machine.specs.declared.record.Call.TheVariants.{Access, Grant, Revoke, SetMask, Enter, Return, Switch, StoreField, StoreContext, StoreMask, StoreMode, AskViolation}
use Rattle.machine.proofs.Answers.{accepted}
use Rattle.machine.proofs.Allowed.{Allowed, allowed, allows, user_allowed}
use Rattle.machine.proofs.Touched.{Touches, first_touched}
use Rattle.std.specs.Prelude.{Option, None, Some}
use Rattle.machine.specs.declared.record.Violation.{Violation}

-- a report names a domain
abbrev pub names_domain : Report → Bool
names_domain Nothing = false
names_domain (Denied violation) = false
names_domain (Through s) = true

-- a call is an access, of either width
abbrev pub is_access : Call → Bool
is_access (Access width right address) = true
is_access (Grant right page s) = false
is_access (Revoke right page s) = false
is_access (SetMask bits) = false
is_access Enter = false
is_access Return = false
is_access (Switch program) = false
is_access (StoreField right page bits) = false
is_access (StoreContext bits) = false
is_access (StoreMask bits) = false
is_access (StoreMode mode) = false
is_access AskViolation = false

-- RULES 2.13: a domain is named exactly where an access is allowed in user mode
pub named_exactly : (m : Machine) (call : Call) → names_domain (call_of m call).report ≡ is_access call && (eqb (call_of m call).number 0 && in_user_mode m)
unfolding call_of
named_exactly m call = each call (eqb (number_of m call) 0)
  where
    none : (done : Bool) → names_domain (pick done Nothing Nothing) ≡ false
    none true = refl
    none false = refl

    question : (done : Bool) (last : Option Violation) → names_domain (pick done (handed_out last) Nothing) ≡ false
    question true None = refl
    question true (Some violation) = refl
    question false last = refl

    mode : (done privileged : Bool) (s : Domain) → names_domain (pick done (pick privileged Nothing (Through s)) Nothing) ≡ done && not privileged
    mode true true s = refl
    mode true false s = refl
    mode false privileged s = refl

    each : (call : Call) (done : Bool) → names_domain (pick done (report_of m call) Nothing) ≡ is_access call && (done && in_user_mode m)
    each (Access width right address) done = mode done (in_privileged_mode m) _
    each (Grant right page s) done = none done
    each (Revoke right page s) done = none done
    each (SetMask bits) done = none done
    each Enter done = none done
    each Return done = none done
    each (Switch program) done = none done
    each (StoreField right page bits) done = none done
    each (StoreContext bits) done = none done
    each (StoreMask bits) done = none done
    each (StoreMode mode) done = none done
    each AskViolation done = question done m.violations.last

module _ (m : Machine) (width : Width) (right address : ℕ) where
  -- the field of that right to the page of the first byte
  abbrev field : ℕ
  field = field_of m right (address / 2 ^ m.exponent)

  abbrev local : ℕ
  local = local_context m.registers

  -- where a domain is named, the access is allowed in user mode, and it is the giving domain
  through : {s : Domain} → (call_of m (Access width right address)).report ≡ Through s
      → (number_of m (Access width right address) ≡ 0) × (in_privileged_mode m ≡ false) × (giving_domain field local ≡ s.0)
  unfolding call_of
  through {s} h =
      let call = Access width right address in
      let tests = and_both (eqb (number_of m call) 0) (in_user_mode m) (sym (named_exactly m call) ∙ ap names_domain h) in
      let user = not-true (in_privileged_mode m) tests.1 in
      let done = eqb-true (number_of m call) 0 tests.0 in
      (done, user, ap numbered (rw (done, user) at h))
    where
      numbered : Report → ℕ
      numbered Nothing = 0
      numbered (Denied violation) = 0
      numbered (Through t) = t.0

  -- RULES 1.17, 3.3: the named domain is in the local context and in the field of the first byte's page, and no domain of higher level is in both
  pub named_lowest : (s : Domain) → m.registers.context < 65536 → (call_of m (Access width right address)).report ≡ Through s
      → (s.0 < 16) × (holds local s.0 ≡ true) × (holds field s.0 ≡ true) × ((t : ℕ) → t < s.0 → holds field t && holds local t ≡ false)
  named_lowest s small h =
      let t = through h in
      let share = (user_allowed m width right address t.0 t.1).1 address (first_touched width address) in
      let lowest = giving_lowest field local (omega (arith, and_le_l m.registers.context m.registers.mask)) share in
      rw (← t.2) (lowest.0, lowest.2, lowest.1, lowest.3)

-- RULES 3.3: of whichever width, and so of two bytes, an access that is allowed names what one of its first byte names
pub named_first : (m : Machine) (width : Width) (right address : ℕ) → number_of m (Access width right address) ≡ 0
    → (call_of m (Access width right address)).report ≡ (call_of m (Access One right address)).report
unfolding call_of
named_first m width right address h = rw (h, allows m One right address (accepted m (Access width right address) h).0 one)
  where
    a : Allowed m width right address
    a = allowed m width right address h

    within : {byte : ℕ} → Touches One address byte → Touches width address byte
    within {byte} t =
        let here : byte ≡ address = omega (arith, t.0, t.1) in
        rw here (first_touched width address)

    one : Allowed m One right address
    one =
        record {
          right_known = a.right_known;
          paged = λ byte t. a.paged byte (within t);
          by_virtue = ⊎_elim (λ privileged. inl privileged) (λ user. inr (user.0, user.1, λ byte t. user.2 byte (within t))) a.by_virtue;
        }
