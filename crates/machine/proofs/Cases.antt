-- Computed cases. In the tables of order a call meets two conditions, neighbours in the order of RULES, section 3, as far as a machine can
-- meet both, and the first decides; or it meets one, or none. In the table of effects each call is accepted, and the whole machine after it
-- is written out.
use Prim.Native.Nat.{ℕ}
use mathlib.Core.Path.{◌≡◌, refl}
use mathlib.Core.Bool.{Bool, true, false}
use mathlib.Core.List.{List, [], ◌∷◌, map}
use lib.ListN.{replicate}
use Rattle.rules.specs.Registers.{is_privileged}
use Rattle.rules.specs.declared.registers.Mode.{Mode}
use Rattle.rules.specs.declared.registers.Mode.TheVariants.{User, Privileged}
use Rattle.rules.specs.declared.registers.Registers.{Registers}
use lib.Count.{count_trailing_zeros}
use Rattle.rules.specs.Domains.{prevailing, domain_bit}
use Rattle.machine.specs.Machine.{is_sound, no_program, with_registers, with_last}
use Rattle.machine.specs.Calls.{as_page, as_domain, call_of, checks_of, access_checks, change_checks, effect_of, entered, returned, switched, after}
use Rattle.machine.specs.declared.record.Machine.{Machine}
use Rattle.machine.specs.declared.record.Program.{Program}
use Rattle.machine.specs.declared.record.Width.TheVariants.{One, Two}
use Rattle.machine.specs.declared.record.Call.{Call}
use Rattle.machine.specs.declared.record.Call.TheVariants.{Access, Grant, Revoke, SetMask, Enter, Return, Switch, StoreField, StoreContext, StoreMask, StoreMode, AskViolation}
use Rattle.machine.proofs.Written.{stored, live, denied, whole, Answers, both}

-- three pages and two programs
abbrev paged : ℕ → List ℕ → Registers → ℕ → List Bool → ℕ → List Program → Machine
paged exponent fields registers depth saved current table = whole 3 exponent fields registers depth saved 2 current table

-- pages of 256 bytes
abbrev written : List ℕ → Registers → ℕ → List Bool → ℕ → List Program → Machine
written = paged 8

-- the six fields, READ and WRITE of each page in turn, and zero past them
abbrev fields_of : (r₀ w₀ r₁ w₁ r₂ w₂ : ℕ) → List ℕ
fields_of r₀ w₀ r₁ w₁ r₂ w₂ = r₀ ∷ w₀ ∷ r₁ ∷ w₁ ∷ r₂ ∷ w₂ ∷ replicate 250 0

-- those of the sample node (RULES 5.12), which are those of figure 2 of Lopriore's paper
abbrev figure : List ℕ
figure = fields_of 9 0 10 2 12 4

-- the first two places of the stack, and user past them
abbrev stack : Mode → Mode → List Bool
stack one two = is_privileged one ∷ is_privileged two ∷ replicate 6 false

abbrev table : Program → Program → List Program
table one two = one ∷ two ∷ replicate 6 no_program

-- program 0 is current, with its own context and mask live
abbrev saving : Mode → Bool → ℕ → List Bool → Machine
saving mode pending depth saved =
    written figure (live 7 3 mode pending) depth saved 0 (table (stored 7 3 User) (stored 8 65535 User))

abbrev node : ℕ → Mode → Bool → Machine
node depth mode pending = saving mode pending depth (stack User User)

-- a machine that is not sound: 1 before 2, 6, 13, 7 and 17
pub not_sound_first :
    Answers call_of (node 9 User false)
    ((Access One 2 0, 1)
    ∷ both 2 0 0 1
    ((SetMask 0, 1)
    ∷ (Enter, 1)
    ∷ (Return, 1)
    ∷ (Switch 0, 1)
    ∷ (StoreField 2 (as_page 0) 0, 1)
    ∷ (StoreContext 0, 1)
    ∷ (StoreMask 0, 1)
    ∷ (StoreMode 2, 1)
    ∷ (AskViolation, 1)
    ∷ []))
unfolding call_of is_sound
not_sound_first = refl

-- user mode, the flag clear, depth 0. Page 0 is held by domains 0 and 3 for READ and by none for WRITE, page 2 by 2 and 3 for READ; the local
-- context has domains 0 and 1, the global context 2 too.
pub user_order :
    Answers call_of (node 0 User false)
    ((Access One 2 768, 2)
    ∷ (Access One 0 768, 3)
    ∷ (Access One 1 767, 9)
    ∷ (Access One 0 255, 0)
    ∷ (Access One 0 256, 0)
    ∷ (Access One 0 512, 9)
    ∷ both 2 3 3 2
    (both 0 3 16 4
    (both 1 0 16 5
    (both 1 0 0 11
    (both 0 2 2 11
    (both 0 0 0 12
    (both 0 0 15 0
    ((SetMask 0, 19)
    ∷ (SetMask 65528, 19)
    ∷ (SetMask 65532, 0)
    ∷ (Enter, 0)
    ∷ (Return, 7)
    ∷ (Switch 2, 7)
    ∷ (StoreField 2 (as_page 3) 0, 2)
    ∷ (StoreField 0 (as_page 3) 0, 4)
    ∷ (StoreField 0 (as_page 0) 0, 7)
    ∷ (StoreContext 0, 7)
    ∷ (StoreMask 0, 7)
    ∷ (StoreMode 2, 17)
    ∷ (StoreMode 0, 7)
    ∷ (AskViolation, 7)
    ∷ []))))))))
unfolding call_of checks_of access_checks change_checks is_sound prevailing domain_bit count_trailing_zeros
user_order = refl

-- user mode, the flag set: 8 also where the access would be allowed
pub pending_order :
    Answers call_of (node 0 User true)
    ((Access One 2 0, 2)
    ∷ (Access One 1 768, 3)
    ∷ (Access One 1 0, 8)
    ∷ (Access One 0 0, 8)
    ∷ both 0 0 16 5
    (both 1 0 0 8
    (both 0 0 15 8
    ((SetMask 0, 8) ∷ (Enter, 0) ∷ (StoreMask 0, 7) ∷ (AskViolation, 7) ∷ []))))
unfolding call_of checks_of access_checks change_checks is_sound prevailing domain_bit count_trailing_zeros
pending_order = refl

-- privileged mode at depth 0: an access that no field allows is allowed, with 2 and 3 all the same
pub privileged_order :
    Answers call_of (node 0 Privileged false)
    ((Access One 1 0, 0)
    ∷ (Access One 2 0, 2)
    ∷ (Access One 1 768, 3)
    ∷ both 0 0 16 5
    (both 1 0 0 6
    (both 0 0 15 6
    ((SetMask 0, 6)
    ∷ (Enter, 0)
    ∷ (Return, 14)
    ∷ (Switch 2, 15)
    ∷ (StoreField 2 (as_page 0) 0, 2)
    ∷ (StoreField 0 (as_page 3) 0, 4)
    ∷ (StoreField 0 (as_page 0) 0, 0)
    ∷ (StoreContext 0, 0)
    ∷ (StoreMask 0, 0)
    ∷ (StoreMode 2, 17)
    ∷ (StoreMode 1, 0)
    ∷ (AskViolation, 0)
    ∷ []))))
unfolding call_of checks_of access_checks change_checks is_sound prevailing domain_bit count_trailing_zeros
privileged_order = refl

-- the ends of the stack: a switch at depth 1 alone, an entry below depth 8 alone
pub depth_order :
    (Answers call_of (node 1 Privileged false) ((Switch 2, 16) ∷ (Switch 1, 0) ∷ (Switch 0, 0) ∷ []))
    × (Answers call_of (node 7 User false) ((Enter, 0) ∷ []))
    × (Answers call_of (node 8 Privileged false) ((Enter, 13) ∷ (Switch 1, 15) ∷ (Return, 0) ∷ []))
unfolding call_of checks_of is_sound
depth_order = (refl, refl, refl)

-- the prevailing domain is found in the whole field: page 2 is held by domains 2 and 3 for READ, a local context of domain 3 alone
-- does not let it pass the right on, and one of domain 2 does
pub whole_field :
    (Answers call_of (with_registers (live 12 8 User false) (node 0 User false)) ((Access One 0 512, 0) ∷ both 0 2 4 11 []))
    × (Answers call_of (with_registers (live 12 4 User false) (node 0 User false)) (both 0 2 4 0 (both 0 2 2 12 (both 0 2 15 0 []))))
unfolding call_of checks_of access_checks change_checks is_sound prevailing domain_bit count_trailing_zeros
whole_field = (refl, refl)

-- pages of 32 bytes and of 4,096: the page of an address goes by the page size
pub small_pages :
    let sized : ℕ → Machine = λ exponent. paged exponent figure (live 7 3 User false) 0 (stack User User) 0 (table (stored 7 3 User) (stored 8 65535 User)) in
    (Answers call_of (sized 5)
    ((Access One 0 31, 0) ∷ (Access One 0 64, 9) ∷ (Access One 0 95, 9) ∷ (Access One 0 96, 3)
    ∷ (Access Two 0 31, 0) ∷ (Access Two 0 62, 0) ∷ (Access Two 0 63, 9) ∷ (Access Two 0 94, 9) ∷ (Access Two 0 95, 3) ∷ []))
    × (Answers call_of (sized 12)
    ((Access Two 0 4095, 0) ∷ (Access Two 0 8190, 0) ∷ (Access Two 0 8191, 9) ∷ (Access Two 0 12286, 9) ∷ (Access Two 0 12287, 3) ∷ []))
unfolding call_of checks_of access_checks is_sound
small_pages = (refl, refl)

-- accesses of two bytes, from the last byte of each page on and within pages. The page of each byte is asked by itself: READ of pages 0 and 1 is given
-- through two domains, and where one of two pages denies, what the other gives does not help. Neither byte may be outside memory, in privileged mode too. The
-- order is that of one byte. Last, a mask that goes beyond the global context gives nothing.
pub two_bytes_order :
    (Answers call_of (node 0 User false)
    ((Access Two 2 767, 2)
    ∷ (Access Two 1 767, 3)
    ∷ (Access Two 0 767, 3)
    ∷ (Access Two 0 768, 3)
    ∷ (Access Two 0 4294967294, 3)
    ∷ (Access Two 0 4294967295, 3)
    ∷ (Access Two 0 254, 0)
    ∷ (Access Two 0 255, 0)
    ∷ (Access Two 0 256, 0)
    ∷ (Access Two 0 510, 0)
    ∷ (Access Two 0 511, 9)
    ∷ (Access Two 0 512, 9)
    ∷ (Access Two 0 766, 9)
    ∷ (Access Two 1 254, 9)
    ∷ (Access Two 1 255, 9)
    ∷ (Access Two 1 256, 0)
    ∷ (Access Two 1 511, 9)
    ∷ []))
    × (Answers call_of (node 0 User true) ((Access Two 255 767, 2) ∷ (Access Two 1 767, 3) ∷ (Access Two 1 255, 8) ∷ (Access Two 0 0, 8) ∷ []))
    × (Answers call_of (node 0 Privileged false)
    ((Access Two 2 767, 2) ∷ (Access Two 1 767, 3) ∷ (Access Two 1 4294967295, 3) ∷ (Access Two 1 766, 0) ∷ (Access Two 0 511, 0) ∷ (Access Two 1 255, 0) ∷ []))
    × (Answers call_of (node 9 User false) ((Access Two 2 767, 1) ∷ []))
    × (Answers call_of (with_registers (live 1 3 User false) (node 0 User false)) ((Access Two 0 254, 0) ∷ (Access Two 0 255, 9) ∷ (Access One 0 256, 9) ∷ []))
unfolding call_of checks_of access_checks is_sound
two_bytes_order = (refl, refl, refl, refl, refl)

-- a machine, a call that is made on it, and the machine after it
abbrev Effects : List (Machine × Call × Machine) → Type 0
Effects rows = map (λ row. (call_of row.0 row.1).machine) rows ≡ map (λ row. row.2) rows

-- in user mode: an allowed access, a violation, and the commands
abbrev user : List ℕ → Registers → Machine
user fields registers = written fields registers 0 (stack User User) 0 (table (stored 7 3 User) (stored 8 65535 User))

pub user_effects :
    let before = user figure (live 7 3 User false) in
    Effects
    ((before, Access One 0 0, before)
    ∷ (before, Access One 1 0, with_last (denied 0 1 0) (user figure (live 7 3 User true)))
    ∷ (before, Access One 0 600, with_last (denied 0 0 600) (user figure (live 7 3 User true)))
    ∷ (before, Grant 0 (as_page 1) (as_domain 4), user (fields_of 9 0 26 2 12 4) (live 7 3 User false))
    ∷ (before, Grant 1 (as_page 1) (as_domain 3), user (fields_of 9 0 10 10 12 4) (live 7 3 User false))
    ∷ (before, Grant 0 (as_page 1) (as_domain 3), before)
    ∷ (before, Revoke 0 (as_page 1) (as_domain 3), user (fields_of 9 0 2 2 12 4) (live 7 3 User false))
    ∷ (before, Revoke 0 (as_page 1) (as_domain 4), before)
    ∷ (before, SetMask 65532, user figure (live 7 65532 User false))
    ∷ (before, SetMask 65528, before)
    ∷ [])
unfolding call_of checks_of access_checks change_checks effect_of after is_sound prevailing domain_bit count_trailing_zeros
user_effects = refl

-- an access of two bytes: where it is denied, by whichever page, the first byte's address is kept
pub two_bytes_effects :
    let before = user figure (live 7 3 User false) in
    let after = user figure (live 7 3 User true) in
    Effects
    ((before, Access Two 0 255, before)
    ∷ (before, Access Two 0 767, before)
    ∷ (before, Access Two 0 511, with_last (denied 0 0 511) after)
    ∷ (before, Access Two 1 255, with_last (denied 0 1 255) after)
    ∷ (before, Access Two 0 600, with_last (denied 0 0 600) after)
    ∷ [])
unfolding call_of checks_of access_checks effect_of after is_sound
two_bytes_effects = refl

-- entry saves the mode and return restores it, at any depth
pub stack_effects :
    Effects
    ((saving User true 0 (stack User User), Enter, saving Privileged false 1 (stack User User))
    ∷ (saving Privileged false 0 (stack User User), Enter, saving Privileged false 1 (stack Privileged User))
    ∷ (saving Privileged false 1 (stack User User), Enter, saving Privileged false 2 (stack User Privileged))
    ∷ (saving Privileged false 2 (stack User Privileged), Return, saving Privileged false 1 (stack User User))
    ∷ (saving Privileged false 1 (stack User Privileged), Return, saving User false 0 (stack User Privileged))
    ∷ (saving Privileged false 1 (stack Privileged User), Return, saving Privileged false 0 (stack User User))
    ∷ [])
unfolding call_of checks_of effect_of entered returned after is_sound
stack_effects = refl

-- the switch, to another program and to the current one, and the kernel's stores
abbrev kernel : List ℕ → Registers → ℕ → Mode → Program → Machine
kernel fields registers current interrupted entry =
    written fields registers 1 (stack interrupted Privileged) current (table entry (stored 8 65535 Privileged))

pub kernel_effects :
    let entry = stored 1 2 Privileged in
    let before = kernel figure (live 7 3 Privileged false) 0 User entry in
    Effects
    ((before, Switch 1, kernel figure (live 8 65535 Privileged false) 1 Privileged (stored 7 3 User))
    ∷ (before, Switch 0, kernel figure (live 7 3 Privileged false) 0 User (stored 7 3 User))
    ∷ (before, StoreField 1 (as_page 2) 65280, kernel (fields_of 9 0 10 2 12 65280) (live 7 3 Privileged false) 0 User entry)
    ∷ (before, StoreField 0 (as_page 0) 0, kernel (fields_of 0 0 10 2 12 4) (live 7 3 Privileged false) 0 User entry)
    ∷ (before, StoreContext 65280, kernel figure (live 65280 3 Privileged false) 0 User entry)
    ∷ (before, StoreMask 65280, kernel figure (live 7 65280 Privileged false) 0 User entry)
    ∷ (before, StoreMode 0, kernel figure (live 7 3 User false) 0 User entry)
    ∷ (before, StoreMode 1, before)
    ∷ (before, AskViolation, before)
    ∷ [])
unfolding call_of checks_of effect_of switched after is_sound
kernel_effects = refl
