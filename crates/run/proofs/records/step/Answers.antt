-- `run::records::step` meets its contract: each arm is the call that the record was decoded to, on the part that is lent to it.
use mathlib.Core.Path.{refl, sym}
use mathlib.Core.Bool.{true, false}
use Rattle.machine.specs.Calls.{checks_of, access_checks, change_checks, effect_of, entered, returned, switched}
use Rattle.machine.specs.declared.record.Call.TheVariants.{Access, Grant, Revoke, SetMask, Enter, Return, Switch, StoreField, StoreContext, StoreMask, StoreMode, AskViolation}
use Rattle.machine.proofs.LentParts.{on_neither, on_fields, on_fields_alone, on_stack, access_keeps, change_alone, store_alone}
use Rattle.run.specs.Records.{step_by}
use Rattle.run.proofs.Steps.{made}
use Rattle.run.proofs.records.step.Goals as goal

pub returns-in_default : goal.returns-in_default
unfolding step_by
returns-in_default c = rw (c.in_default.is, c.silent.ensures) (record { value = refl; fields_after = refl; saved_after = refl })

pub returns-in-Access : goal.returns-in-Access
unfolding checks_of access_checks effect_of
returns-in-Access c =
    made _ _ _ (Access _ _ _) (on_fields _ _ _ (Access _ _ _) (refl, refl) c.access_lent.ensures (sym (access_keeps _ _ _ _))) c.in-Some.is c.in-Access.is

pub returns-in-Grant : goal.returns-in-Grant
unfolding checks_of change_checks effect_of
returns-in-Grant c =
    let change = c.change_lent-number.ensures in
    rw c.silent-in-Grant.ensures
    (made _ _ _ (Grant _ _ _) (on_fields_alone _ _ _ (Grant _ _ _) (refl, refl) (change_alone _ true _ _ _) change.value change.fields_after) c.in-Some.is c.in-Grant.is)

pub returns-in-Revoke : goal.returns-in-Revoke
unfolding checks_of change_checks effect_of
returns-in-Revoke c =
    let change = c.change_lent-number-in-Revoke.ensures in
    rw c.silent-in-Revoke.ensures
    (made _ _ _ (Revoke _ _ _) (on_fields_alone _ _ _ (Revoke _ _ _) (refl, refl) (change_alone _ false _ _ _) change.value change.fields_after) c.in-Some.is c.in-Revoke.is)

pub returns-in-SetMask : goal.returns-in-SetMask
unfolding checks_of effect_of
returns-in-SetMask c =
    made _ _ _ (SetMask _) (on_neither _ _ _ (SetMask _) (refl, refl) refl c.set_mask_unchecked.ensures) c.in-Some.is c.in-SetMask.is

pub returns-in-Enter : goal.returns-in-Enter
unfolding checks_of effect_of entered
returns-in-Enter c =
    let entry = c.enter_lent.ensures in
    made _ _ _ Enter (on_stack _ _ _ Enter (refl, refl) entry.value entry.saved_after) c.in-Some.is c.in-Enter.is

pub returns-in-Return : goal.returns-in-Return
unfolding checks_of effect_of returned
returns-in-Return c =
    let leave = c.leave_lent.ensures in
    made _ _ _ Return (on_stack _ _ _ Return (refl, refl) leave.value leave.saved_after) c.in-Some.is c.in-Return.is

pub returns-in-Switch : goal.returns-in-Switch
unfolding checks_of effect_of switched
returns-in-Switch c =
    let switch = c.switch_lent.ensures in
    made _ _ _ (Switch _) (on_stack _ _ _ (Switch _) (refl, refl) switch.value switch.saved_after) c.in-Some.is c.in-Switch.is

pub returns-in-StoreField : goal.returns-in-StoreField
unfolding checks_of effect_of
returns-in-StoreField c =
    let store = c.store_lent-number.ensures in
    rw c.silent-in-StoreField.ensures
    (made _ _ _ (StoreField _ _ _) (on_fields_alone _ _ _ (StoreField _ _ _) (refl, refl) (store_alone _ _ _ _) store.value store.fields_after) c.in-Some.is c.in-StoreField.is)

pub returns-in-StoreContext : goal.returns-in-StoreContext
unfolding checks_of effect_of
returns-in-StoreContext c =
    made _ _ _ (StoreContext _) (on_neither _ _ _ (StoreContext _) (refl, refl) refl c.store_context_unchecked.ensures) c.in-Some.is c.in-StoreContext.is

pub returns-in-StoreMask : goal.returns-in-StoreMask
unfolding checks_of effect_of
returns-in-StoreMask c =
    made _ _ _ (StoreMask _) (on_neither _ _ _ (StoreMask _) (refl, refl) refl c.store_mask_unchecked.ensures) c.in-Some.is c.in-StoreMask.is

pub returns-in-StoreMode : goal.returns-in-StoreMode
unfolding checks_of effect_of
returns-in-StoreMode c =
    made _ _ _ (StoreMode _) (on_neither _ _ _ (StoreMode _) (refl, refl) refl c.store_mode_unchecked.ensures) c.in-Some.is c.in-StoreMode.is

pub returns-in-AskViolation : goal.returns-in-AskViolation
unfolding checks_of effect_of
returns-in-AskViolation c =
    made _ _ _ AskViolation (on_neither _ _ _ AskViolation (refl, refl) refl c.ask_violation_unchecked.ensures) c.in-Some.is c.in-AskViolation.is
