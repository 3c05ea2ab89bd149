-- The third demand at the sample node (RULES 4.9, 5.12), computed from the definitions: what a history shows, what is compared, and that the
-- premise is met for program 0 and is missed, and needed, for program 1. And that the premise asks for no more than it says.
use Prim.Native.Nat.{ℕ, zero, suc, ◌≤◌, ◌<◌}
use mathlib.Core.Path.{◌≡◌, refl, sym, ap, ◌∙◌}
use mathlib.Core.Bool.{true, false}
use mathlib.Core.List.{List, [], ◌∷◌, ◌++◌, map}
use lib.Count.{count_trailing_zeros}
use lib.ListN.{get_or, replicate}
use native.Mathlib.Omega.{arith}
use Rattle.rules.specs.Domains.{domain_bit, holds, prevailing}
use Rattle.rules.specs.declared.registers.Mode.{Mode}
use Rattle.rules.specs.declared.registers.Mode.TheVariants.{User, Privileged}
use Rattle.rules.proofs.Laws.{no_domain_held}
use Rattle.machine.specs.Machine.{field_of, is_sound, no_program}
use Rattle.machine.specs.Calls.{as_page, as_domain, access_checks, after, call_of, checks_of, change_checks, effect_of, entered, returned, switched}
use Rattle.machine.specs.declared.record.Machine.{Machine}
use Rattle.machine.specs.declared.record.Report.TheVariants.{Nothing}
use Rattle.machine.specs.declared.record.Width.TheVariants.{One}
use Rattle.machine.specs.declared.record.Call.TheVariants.{Access, Enter, Grant, Return, Revoke, SetMask, Switch}
use Rattle.image.specs.Load.{load_of}
use Rattle.image.specs.Sample.{sample_bytes, sample_machine}
use Rattle.image.proofs.Sample.{sample_loads}
use Rattle.machine.specs.declared.record.Answered.{Answered}
use Rattle.isolation.specs.Histories.{Command, access, grant, revoke, set_mask, History}
use Rattle.isolation.specs.Isolation.{Apart, Isolated, Observation, context_of, observed, observed_from, own_turns, rights_of}
use Rattle.machine.proofs.Written.{stored, live, whole}
use Rattle.isolation.proofs.Isolation.{isolation}
use Rattle.isolation.proofs.Settled.{Started}
use Rattle.std.specs.Prelude.{Some}

-- the machine that the sample image loads to, with any count of programs and any mode stored for program 0
abbrev pub node : ℕ → Mode → Machine
node programs mode =
    whole 3 8 ((0x0009 ∷ 0x0000 ∷ 0x000A ∷ 0x0002 ∷ 0x000C ∷ 0x0004 ∷ []) ++ replicate 250 0) (live 0x0007 0x0003 mode false) 0 (replicate 8 false)
    programs 0 (stored 0x0007 0x0003 mode ∷ stored 0x0008 0xFFFF User ∷ replicate 6 no_program)

abbrev pub sample : Machine
sample = node 2 User

-- the examples start on the machine that the sample's 44 bytes load to
pub sample_loaded : (load_of sample_bytes).machine ≡ sample
unfolding sample_machine
sample_loaded = ap (λ (a : Answered). a.machine) sample_loads

node_started : (programs : ℕ) (mode : Mode) → is_sound (node programs mode) ≡ true → Started (node programs mode)
node_started programs mode sound =
    record { sound = sound; depth = refl; table_long = refl; saved_long = refl; live = refl; contexts_small = small }
  where
    past : (n at : ℕ) → (get_or (replicate n no_program) at no_program).context < 65536
    past zero at = omega arith
    past (suc n) zero = omega arith
    past (suc n) (suc at) = past n at

    small : (program : ℕ) → context_of (node programs mode) program < 65536
    small zero = omega arith
    small (suc zero) = omega arith
    small (suc (suc program)) = past 6 program

abbrev shown : ℕ → List ℕ → List ℕ → Observation
shown number before after = record { number = number; report = Nothing; before = before; after = after }

-- READ and WRITE of the three pages to the domains 0, 1 and 2, without domain 1 on READ of page 0 and with it
abbrev plain : List ℕ
plain = 1 ∷ 0 ∷ 2 ∷ 2 ∷ 4 ∷ 4 ∷ []

abbrev granted : List ℕ
granted = 3 ∷ 0 ∷ 2 ∷ 2 ∷ 4 ∷ 4 ∷ []

-- ---- a history of programs 0, 1 and 0 twice more, as program 0 sees it
abbrev mixed : History
mixed =
    record {
      opening = grant 0 (as_page 0) (as_domain 1) ∷ access One 1 0 ∷ set_mask 0x0007 ∷ [];
      turns =
          record { program = 1; commands = access One 0 0 ∷ access One 1 0 ∷ [] }
          ∷ record { program = 0; commands = revoke 0 (as_page 0) (as_domain 1) ∷ [] }
          ∷ record { program = 0; commands = [] }
          ∷ [];
    }

pub mixed_own : own_turns sample 0 mixed
    ≡ (Grant 0 (as_page 0) (as_domain 1) ∷ Access One 1 0 ∷ SetMask 0x0007 ∷ [])
    ∷ (Enter ∷ Switch 0 ∷ Return ∷ Revoke 0 (as_page 0) (as_domain 1) ∷ [])
    ∷ (Enter ∷ Switch 0 ∷ Return ∷ [])
    ∷ []
mixed_own = refl

-- a grant, a violation, and a mask command that is refused since the flag is set; then entry, switch, return and a
-- revocation; then entry, switch to itself and return
pub mixed_observed : observed sample 0 mixed
    ≡ shown 0 plain granted
    ∷ shown 9 granted granted
    ∷ shown 8 granted granted
    ∷ shown 0 granted granted
    ∷ shown 0 granted granted
    ∷ shown 0 granted granted
    ∷ shown 0 granted plain
    ∷ shown 0 plain plain
    ∷ shown 0 plain plain
    ∷ shown 0 plain plain
    ∷ []
unfolding observed observed_from rights_of call_of checks_of access_checks change_checks effect_of entered switched returned after is_sound domain_bit prevailing count_trailing_zeros
mixed_observed = refl

-- ---- RULES 4.9: the premise for program 0, which is met

-- a context without the prevailing domain does not hold it
prevails_not : (context level domain : ℕ) → holds context level ≡ false → Some level ≡ Some domain → holds context domain ≡ true → ⊥
prevails_not context level domain lacks e held =
    let same : level ≡ domain = cc in
    let seen : true ≡ false = sym held ∙ ap (holds context) (sym same) ∙ lacks in
    let never : ◌≡◌ {A = ℕ} 0 1 = cc in
    omega arith

-- program 1 holds domain 3 alone, which prevails nowhere
nowhere : (right page domain : ℕ) → right ≤ 1 → page < 3 → prevailing (field_of sample right page) ≡ Some domain
    → holds 0x0008 domain ≡ true → ⊥
unfolding prevailing count_trailing_zeros domain_bit
nowhere zero zero domain known counted prevails held = prevails_not 0x0008 0 domain refl prevails held
nowhere zero (suc zero) domain known counted prevails held = prevails_not 0x0008 1 domain refl prevails held
nowhere zero (suc (suc zero)) domain known counted prevails held = prevails_not 0x0008 2 domain refl prevails held
nowhere zero (suc (suc (suc page))) domain known counted prevails held = omega arith
nowhere (suc zero) zero domain known counted prevails held =
    let never : ◌≡◌ {A = ℕ} 0 1 = cc in
    omega arith
nowhere (suc zero) (suc zero) domain known counted prevails held = prevails_not 0x0008 1 domain refl prevails held
nowhere (suc zero) (suc (suc zero)) domain known counted prevails held = prevails_not 0x0008 2 domain refl prevails held
nowhere (suc zero) (suc (suc (suc page))) domain known counted prevails held = omega arith
nowhere (suc (suc right)) page domain known counted prevails held = omega arith

pub apart_zero : Apart sample 0
unfolding Apart
apart_zero zero right page domain lower below differs known counted prevails held less = absurd (differs refl)
apart_zero (suc zero) right page domain lower below differs known counted prevails held less =
    absurd (nowhere right page domain known counted prevails held)
apart_zero (suc (suc other)) right page domain lower below differs known counted prevails held less = absurd (omega arith)

pub isolated_zero : Isolated sample 0
unfolding is_sound
isolated_zero = isolation sample 0 (node_started 2 User refl) (omega arith) apart_zero

-- ---- RULES 4.9: the premise for program 1, which fails at READ of page 0: program 0 has the domain that prevails there, and 1 has domain 3
pub not_apart_one : Apart sample 1 → ⊥
unfolding Apart prevailing count_trailing_zeros domain_bit
not_apart_one apart =
    let lacks = apart 0 0 0 0 3 (omega arith) (omega arith) (omega arith) (omega arith) refl refl (omega arith) in
    let never : ◌≡◌ {A = ℕ} 0 1 = cc in
    omega arith

-- and two histories alike in program 1's turns differ for it: its read of page 0 is allowed, or is a violation
abbrev reading : List Command → History
reading opening = record { opening = opening; turns = record { program = 1; commands = access One 0 0 ∷ [] } ∷ [] }

abbrev numbers : List Observation → List ℕ
numbers = map (λ (o : Observation). o.number)

differ : Isolated sample 1 → ◌≡◌ {A = List ℕ} (0 ∷ 0 ∷ 0 ∷ 0 ∷ []) (0 ∷ 0 ∷ 0 ∷ 9 ∷ [])
unfolding Isolated observed observed_from rights_of call_of checks_of access_checks change_checks effect_of entered switched returned after is_sound domain_bit prevailing count_trailing_zeros
differ isolated =
    let revoking = revoke 0 (as_page 0) (as_domain 3) ∷ [] in
    ap numbers (isolated (reading []) (reading revoking) ((omega arith), tt) ((omega arith), tt) refl)

pub not_isolated_one : Isolated sample 1 → ⊥
not_isolated_one isolated =
    let same = differ isolated in
    let never : ◌≡◌ {A = ℕ} 0 9 = cc in
    omega arith

-- ---- a premise that is met although the chosen program shares a prevailing domain with another

-- one page, held by domains 0 and 1 for READ and by 15 for WRITE; program 0 holds domains 1 and 15, and program 1 domains 0 and 15
abbrev sharing : Machine
sharing =
    whole 1 8 ((0x0003 ∷ 0x8000 ∷ []) ++ replicate 254 0) (live 0x8002 0xFFFF User false) 0 (replicate 8 false) 2 0
    (stored 0x8002 0xFFFF User ∷ stored 0x8001 0xFFFF User ∷ replicate 6 no_program)

-- program 0 prevails by domain 15, on WRITE alone, and there is no lower level; its domain 1 prevails nowhere
pub apart_sharing : Apart sharing 1
unfolding Apart prevailing count_trailing_zeros domain_bit
apart_sharing (suc zero) right page domain lower below differs known counted prevails held less = absurd (differs refl)
apart_sharing (suc (suc other)) right page domain lower below differs known counted prevails held less = absurd (omega arith)
apart_sharing zero right (suc page) domain lower below differs known counted prevails held less = absurd (omega arith)
apart_sharing zero (suc (suc right)) zero domain lower below differs known counted prevails held less = absurd (omega arith)
apart_sharing zero zero zero domain lower below differs known counted prevails held less =
    absurd (prevails_not 0x8002 0 domain refl prevails held)
apart_sharing zero (suc zero) zero domain lower below differs known counted prevails held less =
    let last : 15 ≡ domain = cc in
    no_domain_held 0x8001 lower (omega arith)

-- ---- a program alone in the table and stored in privileged mode: its accesses are allowed, its commands answer 6
abbrev lone : Machine
lone = node 1 Privileged

pub isolated_lone : Isolated lone 0
unfolding is_sound Apart
isolated_lone =
    isolation lone 0 (node_started 1 Privileged refl) (omega arith)
    (λ other right page domain lower below differs known counted prevails held less. absurd (omega arith))

abbrev itself : History
itself =
    record {
      opening = access One 1 0 ∷ set_mask 0x0007 ∷ [];
      turns = record { program = 0; commands = grant 0 (as_page 0) (as_domain 1) ∷ [] } ∷ [];
    }

pub lone_observed : observed lone 0 itself
    ≡ shown 0 plain plain
    ∷ shown 6 plain plain
    ∷ shown 0 plain plain
    ∷ shown 0 plain plain
    ∷ shown 0 plain plain
    ∷ shown 6 plain plain
    ∷ []
unfolding observed observed_from rights_of call_of checks_of access_checks change_checks effect_of entered switched returned after is_sound domain_bit prevailing count_trailing_zeros
lone_observed = refl
