-- What the definitions of this crate come to on a written node of one page and two programs: all is computed and written out.
use mathlib.Core.Path.{◌≡◌, refl}
use mathlib.Core.Bool.{Bool, true, false}
use mathlib.Core.List.{List, [], ◌∷◌, map}
use Prim.Native.Nat.{ℕ, ◌+◌}
use lib.Dec.{eqb}
use lib.ListN.{replicate}
use Rattle.rules.specs.Refusals.{pick}
use Rattle.rules.specs.declared.registers.Mode.TheVariants.{User}
use Rattle.machine.specs.Machine.{is_sound, with_last}
use Rattle.machine.specs.Calls.{call_of, checks_of, access_checks, effect_of, entered, returned, switched, after}
use Rattle.machine.specs.declared.record.Machine.{Machine}
use Rattle.machine.specs.declared.record.Page.{Page}
use Rattle.machine.specs.declared.record.Domain.{Domain}
use Rattle.machine.specs.declared.record.Width.TheVariants.{One, Two}
use Rattle.machine.specs.declared.record.Call.TheVariants.{Access, Grant, Revoke, SetMask, Enter, Return, Switch}
use Rattle.machine.proofs.Written.{stored, live, denied, whole}
use Rattle.kernel.specs.Kernel.{call_for, begun_of, served_of}
use Rattle.kernel.specs.declared.Request.{Request}
use Rattle.kernel.specs.declared.Request.TheVariants.{Read, Write, GrantRight, RevokeRight, ReplaceMask}

-- the call of each request, whatever its arguments
pub calls_for : (right address mask : ℕ) (page : Page) (domain : Domain)
    → map call_for
    (Read One address
    ∷ Read Two address
    ∷ Write One address
    ∷ Write Two address
    ∷ GrantRight right page domain
    ∷ RevokeRight right page domain
    ∷ ReplaceMask mask
    ∷ [])
    ≡ Access One 0 address
    ∷ Access Two 0 address
    ∷ Access One 1 address
    ∷ Access Two 1 address
    ∷ Grant right page domain
    ∷ Revoke right page domain
    ∷ SetMask mask
    ∷ []
calls_for right address mask page domain = refl

-- READ of the page is held by domain 0, WRITE by none; program 0 is current, and what is stored for it is older than what is live
abbrev node : ℕ → Bool → Machine
node depth pending = whole 1 5 (1 ∷ 0 ∷ []) (live 1 3 User pending) depth (replicate 8 false) 2 0 (stored 5 6 User ∷ stored 2 7 User ∷ [])

-- a turn that begins, one for a program that is not there, and one on a full stack
pub turns_begun :
    (begun_of (node 0 true) 1
    ≡ record {
      entry = 0;
      switch = 0;
      leave = 0;
      machine = whole 1 5 (1 ∷ 0 ∷ []) (live 2 7 User false) 0 (replicate 8 false) 2 1 (stored 1 3 User ∷ stored 2 7 User ∷ []);
    })
    × (begun_of (node 0 true) 2 ≡ record { entry = 0; switch = 16; leave = 0; machine = node 0 false })
    × (begun_of (node 8 true) 1 ≡ record { entry = 13; switch = 7; leave = 7; machine = node 8 true })
unfolding begun_of call_of checks_of effect_of entered returned switched after is_sound
turns_begun = (refl, refl, refl)

-- a turn that begins on any machine: what the three calls make of it is what stands after them
pub turn_spelled : (m : Machine) (program : ℕ)
    → let entry = call_of m Enter in
    let switch = call_of entry.machine (Switch program) in
    let leave = call_of switch.machine Return in
    begun_of m program ≡ record { entry = entry.number; switch = switch.number; leave = leave.number; machine = leave.machine }
unfolding begun_of
turn_spelled m program = refl

-- accesses of two bytes and of one that are allowed, one that is a violation, and one while it is pending
pub requests_served :
    (served_of (node 0 false) (Read Two 30 ∷ Read One 31 ∷ Read Two 0 ∷ Write One 0 ∷ Read One 0 ∷ []) ≡ record { refused = 2; machine = with_last (denied 0 1 0) (node 0 true) })
    × (served_of (node 0 false) [] ≡ record { refused = 0; machine = node 0 false })
unfolding served_of call_of checks_of access_checks effect_of after is_sound
requests_served = (refl, refl)

-- requests on any machine, one step: whatever the answer, the next one is made on the machine that it left, and only an answer that is not 0 is counted
pub served_step : (m : Machine) (request : Request) (rest : List Request)
    → let answer = call_of m (call_for request) in
    (served_of m [] ≡ record { refused = 0; machine = m })
    × (served_of m (request ∷ rest)
    ≡ record {
      refused = pick (eqb answer.number 0) 0 1 + (served_of answer.machine rest).refused;
      machine = (served_of answer.machine rest).machine;
    })
unfolding served_of
served_step m request rest = (refl, refl)
