-- What a kernel in small does, over the calls of the machine (RULES, sections 2 and 4).
use Rattle.std.specs.Prelude.{ℕ, ◌+◌, List, [], ◌∷◌, eqb}
use Rattle.rules.specs.Refusals.{pick}
use Rattle.machine.specs.Calls.{call_of}
use Rattle.machine.specs.declared.record.Machine.{Machine}
use Rattle.machine.specs.declared.record.Call.{Call}
use Rattle.machine.specs.declared.record.Call.TheVariants.{Access, Grant, Revoke, SetMask, Enter, Return, Switch}
use Rattle.kernel.specs.declared.Request.{Request}
use Rattle.kernel.specs.declared.Request.TheVariants.{Read, Write, GrantRight, RevokeRight, ReplaceMask}
use Rattle.kernel.specs.declared.Begun.{Begun}
use Rattle.kernel.specs.declared.Served.{Served}

-- the call that belongs to a request, an access to as many bytes as it asks for; READ is 0, WRITE is 1 (RULES 1.5)
abbrev pub call_for : Request → Call
call_for (Read width address) = Access width 0 address
call_for (Write width address) = Access width 1 address
call_for (GrantRight right page domain) = Grant right page domain
call_for (RevokeRight right page domain) = Revoke right page domain
call_for (ReplaceMask mask) = SetMask mask

-- the three calls with which a turn begins (RULES 4.2)
unfoldable pub begun_of : Machine → ℕ → Begun
begun_of m program =
    let entry = call_of m Enter in
    let switch = call_of entry.machine (Switch program) in
    let leave = call_of switch.machine Return in
    record { entry = entry.number; switch = switch.number; leave = leave.number; machine = leave.machine }

-- requests one after another: how many are refused, and the machine after the last
unfoldable pub served_of : Machine → List Request → Served
served_of m [] = record { refused = 0; machine = m }
served_of m (request ∷ rest) =
    let answer = call_of m (call_for request) in
    let after = served_of answer.machine rest in
    record { refused = pick (eqb answer.number 0) 0 1 + after.refused; machine = after.machine }
