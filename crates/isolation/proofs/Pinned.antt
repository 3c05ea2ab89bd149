-- What the definitions of the third term come to: the term itself spelled out, down to fields, tables and lists, and for written histories the
-- turns, the calls, what is compared and what is observed, also of a program that does not open the history. The term is set equal to its spelling,
-- so that it can ask for neither less nor more; the rest is computed.
use Prim.Native.Nat.{ℕ, zero, suc, ◌*◌, ◌+◌, ◌≤◌, ◌<◌}
use mathlib.Core.Path.{◌≡◌, refl}
use mathlib.Core.Bool.{true, false}
use mathlib.Core.List.{List, [], ◌∷◌, ◌++◌, map}
use lib.Bits.{bit_and}
use lib.Count.{count_trailing_zeros}
use lib.Dec.{eqb}
use lib.ListN.{get_or, replicate}
use Rattle.rules.specs.Refusals.{pick}
use Rattle.rules.specs.Domains.{domain_bit, holds, prevailing, giving_domain}
use Rattle.rules.specs.declared.registers.Mode.TheVariants.{User}
use Rattle.machine.specs.Machine.{is_sound}
use Rattle.machine.specs.Calls.{access_checks, after, call_of, checks_of, change_checks, effect_of, entered, returned, switched}
use Rattle.machine.specs.declared.record.Machine.{Machine}
use Rattle.machine.specs.declared.record.Program.{Program}
use Rattle.machine.specs.declared.record.Page.{Page}
use Rattle.machine.specs.declared.record.Domain.{Domain}
use Rattle.machine.specs.declared.record.Report.TheVariants.{Nothing, Through}
use Rattle.machine.specs.declared.record.Width.TheVariants.{One, Two}
use Rattle.machine.specs.declared.record.Call.{Call}
use Rattle.machine.specs.declared.record.Call.TheVariants.{Access, Enter, Grant, Return, Revoke, SetMask, Switch}
use Rattle.machine.proofs.Written.{stored, live, whole}
use Rattle.image.specs.Load.{load_of}
use Rattle.isolation.specs.Histories.{Command, access, grant, revoke, set_mask, History, Made, Turn, TurnCalls, calls_of, command_call, turn_calls, turns_of}
use Rattle.isolation.specs.Isolation.{Apart, InTable, Isolated, Observation, ThirdDemand, context_of, observed, observed_from, own_turns, rights_below, rights_of, taken_out}
use Rattle.std.specs.Prelude.{Some}

abbrev unused : Program
unused = stored 0 0 User

-- "The premise: ..", and the claim, for a machine
abbrev Premise : Machine → ℕ → Type 0
Premise m chosen =
    (other right page domain lower : ℕ)
    → other < m.programs → (other ≡ chosen → ⊥)
    → right ≤ 1 → page < m.pages
    → prevailing (get_or m.fields (2 * page + right) 0) ≡ Some domain
    → holds (get_or m.table other unused).context domain ≡ true
    → domain < lower → holds (get_or m.table chosen unused).context lower ≡ false

abbrev Claim : Machine → ℕ → Type 0
Claim m chosen =
    (one two : History)
    → InTable m one.turns → InTable m two.turns
    → taken_out chosen (turns_of m one) ≡ taken_out chosen (turns_of m two)
    → observed_from chosen (get_or m.table chosen unused).context m (calls_of (turns_of m one))
    ≡ observed_from chosen (get_or m.table chosen unused).context m (calls_of (turns_of m two))

pub term_spelled :
    ThirdDemand
    ≡ ((image : List ℕ) (chosen : ℕ) → ((at : ℕ) → get_or image at 0 < 256) → (load_of image).number ≡ 0 → chosen < (load_of image).machine.programs
    → Premise (load_of image).machine chosen → Claim (load_of image).machine chosen)
unfolding ThirdDemand Apart Isolated observed
term_spelled = refl

-- ---- a node of three programs and two pages: READ of page 0 is held by domains 0, 8 and 9, WRITE of page 1 by 9 and 10

abbrev small : Machine
small =
    whole 2 8 (0x0301 ∷ 0 ∷ 0 ∷ 0x0600 ∷ replicate 252 0) (live 0x0001 0xFFFF User false) 0 (replicate 8 false) 3 0
    (stored 0x0001 0xFFFF User ∷ stored 0x0200 0x0F00 User ∷ stored 0x0700 0xFFFF User ∷ replicate 5 unused)

abbrev by : ℕ → List Command → Turn
by program commands = record { program = program; commands = commands }

abbrev history : History
history =
    record {
      opening = grant 0 (record { 0 = 0 }) (record { 0 = 10 }) ∷ access Two 0 255 ∷ set_mask 0xFFFF ∷ [];
      turns =
          by 1 (grant 1 (record { 0 = 1 }) (record { 0 = 15 }) ∷ set_mask 0x0200 ∷ [])
          ∷ by 2 (access Two 1 256 ∷ [])
          ∷ by 1 (revoke 1 (record { 0 = 1 }) (record { 0 = 10 }) ∷ access One 1 511 ∷ access One 0 511 ∷ set_mask 0 ∷ [])
          ∷ [];
    }

-- a program's turns are of programs in the table: each below the count, to the last turn
pub table_asked :
    InTable small history.turns ≡ ((1 < 3) × ((2 < 3) × ((1 < 3) × Unit)))
table_asked = refl

abbrev opens : List Call
opens = Grant 0 (record { 0 = 0 }) (record { 0 = 10 }) ∷ Access Two 0 255 ∷ SetMask 0xFFFF ∷ []

abbrev begins : ℕ → List Call → List Call
begins program commands = Enter ∷ Switch program ∷ Return ∷ commands

abbrev second : List Call
second = Grant 1 (record { 0 = 1 }) (record { 0 = 15 }) ∷ SetMask 0x0200 ∷ []

abbrev fourth : List Call
fourth = Revoke 1 (record { 0 = 1 }) (record { 0 = 10 }) ∷ Access One 1 511 ∷ Access One 0 511 ∷ SetMask 0 ∷ []

abbrev turn : ℕ → List Call → TurnCalls
turn program calls = record { program = program; calls = calls }

-- the turns as calls, and what is compared for each program
pub turns_taken :
    (turns_of small history ≡ turn 0 opens ∷ turn 1 (begins 1 second) ∷ turn 2 (begins 2 (Access Two 1 256 ∷ [])) ∷ turn 1 (begins 1 fourth) ∷ [])
    × (own_turns small 0 history ≡ opens ∷ [])
    × (own_turns small 1 history ≡ begins 1 second ∷ begins 1 fourth ∷ [])
    × (own_turns small 2 history ≡ begins 2 (Access Two 1 256 ∷ []) ∷ [])
    × (own_turns small 3 history ≡ [])
turns_taken = (refl, refl, refl, refl, refl)

abbrev made : ℕ → Call → Made
made program call = record { program = program; call = call }

-- the calls of turns, in order, each with the program in whose turn it stands
pub calls_made :
    calls_of (turn 0 opens ∷ turn 2 (begins 2 (Access One 1 256 ∷ [])) ∷ turn 1 [] ∷ turn 1 (SetMask 0 ∷ []) ∷ [])
    ≡ made 0 (Grant 0 (record { 0 = 0 }) (record { 0 = 10 })) ∷ made 0 (Access Two 0 255) ∷ made 0 (SetMask 0xFFFF) ∷ made 2 Enter ∷ made 2 (Switch 2) ∷ made 2 Return
    ∷ made 2 (Access One 1 256) ∷ made 1 (SetMask 0) ∷ []
calls_made = refl

-- the programs' global contexts, none past the table, and the rights of each to every page
pub rights_seen :
    (context_of small 0 ∷ context_of small 1 ∷ context_of small 2 ∷ context_of small 3 ∷ context_of small 8 ∷ [] ≡ 0x0001 ∷ 0x0200 ∷ 0x0700 ∷ 0 ∷ 0 ∷ [])
    × (rights_of 0x0001 small ≡ 1 ∷ 0 ∷ 0 ∷ 0 ∷ [])
    × (rights_of 0x0200 small ≡ 0x0200 ∷ 0 ∷ 0 ∷ 0x0200 ∷ [])
    × (rights_of 0x0700 small ≡ 0x0300 ∷ 0 ∷ 0 ∷ 0x0600 ∷ [])
unfolding rights_of
rights_seen = (refl, refl, refl, refl)

abbrev shown : ℕ → List ℕ → List ℕ → Observation
shown number before after = record { number = number; report = Nothing; before = before; after = after }

-- what an access shows that goes through a domain, which leaves the rights as they are
abbrev goes : ℕ → List ℕ → Observation
goes s rights = record { number = 0; report = Through (record { 0 = s }); before = rights; after = rights }

-- what each program observes: program 0 its three calls, of which the second reads across the edge to a page that it may not read and the third finds the
-- flag set, program 2 what program 1 may do to domain 10, in between; both write to page 1 through domain 9
pub history_observed :
    (observed small 0 history ≡ shown 0 (1 ∷ 0 ∷ 0 ∷ 0 ∷ []) (1 ∷ 0 ∷ 0 ∷ 0 ∷ []) ∷ shown 9 (1 ∷ 0 ∷ 0 ∷ 0 ∷ []) (1 ∷ 0 ∷ 0 ∷ 0 ∷ [])
    ∷ shown 8 (1 ∷ 0 ∷ 0 ∷ 0 ∷ []) (1 ∷ 0 ∷ 0 ∷ 0 ∷ []) ∷ [])
    × (observed small 1 history
    ≡ replicate 5 (shown 0 (0x0200 ∷ 0 ∷ 0 ∷ 0x0200 ∷ []) (0x0200 ∷ 0 ∷ 0 ∷ 0x0200 ∷ []))
    ++ (replicate 4 (shown 0 (0x0200 ∷ 0 ∷ 0 ∷ 0x0200 ∷ []) (0x0200 ∷ 0 ∷ 0 ∷ 0x0200 ∷ []))
    ++ (goes 9 (0x0200 ∷ 0 ∷ 0 ∷ 0x0200 ∷ [])
    ∷ shown 9 (0x0200 ∷ 0 ∷ 0 ∷ 0x0200 ∷ []) (0x0200 ∷ 0 ∷ 0 ∷ 0x0200 ∷ [])
    ∷ shown 8 (0x0200 ∷ 0 ∷ 0 ∷ 0x0200 ∷ []) (0x0200 ∷ 0 ∷ 0 ∷ 0x0200 ∷ [])
    ∷ [])))
    × (observed small 2 history
    ≡ replicate 3 (shown 0 (0x0700 ∷ 0 ∷ 0 ∷ 0x0600 ∷ []) (0x0700 ∷ 0 ∷ 0 ∷ 0x0600 ∷ [])) ++ (goes 9 (0x0700 ∷ 0 ∷ 0 ∷ 0x0600 ∷ []) ∷ []))
    × (observed small 2 (record { opening = []; turns = by 1 (revoke 1 (record { 0 = 1 }) (record { 0 = 10 }) ∷ []) ∷ by 2 (access One 1 0 ∷ []) ∷ [] })
    ≡ replicate 3 (shown 0 (0x0300 ∷ 0 ∷ 0 ∷ 0x0200 ∷ []) (0x0300 ∷ 0 ∷ 0 ∷ 0x0200 ∷ []))
    ++ (shown 9 (0x0300 ∷ 0 ∷ 0 ∷ 0x0200 ∷ []) (0x0300 ∷ 0 ∷ 0 ∷ 0x0200 ∷ []) ∷ []))
    × (observed small 1 (record { opening = revoke 0 (record { 0 = 0 }) (record { 0 = 9 }) ∷ []; turns = by 1 [] ∷ [] })
    ≡ replicate 3 (shown 0 (0 ∷ 0 ∷ 0 ∷ 0x0200 ∷ []) (0 ∷ 0 ∷ 0 ∷ 0x0200 ∷ [])))
    × (observed small 2 (record { opening = []; turns = by 2 (grant 1 (record { 0 = 1 }) (record { 0 = 10 }) ∷ revoke 1 (record { 0 = 1 }) (record { 0 = 10 }) ∷ []) ∷ [] })
    ≡ replicate 4 (shown 0 (0x0300 ∷ 0 ∷ 0 ∷ 0x0600 ∷ []) (0x0300 ∷ 0 ∷ 0 ∷ 0x0600 ∷ []))
    ++ (shown 0 (0x0300 ∷ 0 ∷ 0 ∷ 0x0600 ∷ []) (0x0300 ∷ 0 ∷ 0 ∷ 0x0200 ∷ []) ∷ []))
unfolding observed observed_from rights_of call_of checks_of access_checks change_checks effect_of entered switched returned after is_sound domain_bit prevailing giving_domain count_trailing_zeros
history_observed = (refl, refl, refl, refl, refl, refl)

-- a command's call, a turn's calls and the turns of a history, whatever they are
pub commands_spelled : (right address bits : ℕ) (page : Page) (s : Domain)
    → map command_call (access One right address ∷ access Two right address ∷ grant right page s ∷ revoke right page s ∷ set_mask bits ∷ [])
    ≡ Access One right address ∷ Access Two right address ∷ Grant right page s ∷ Revoke right page s ∷ SetMask bits ∷ []
commands_spelled right address bits page s = refl

pub turns_spelled : (start : Machine) (program : ℕ) (commands : List Command) (h : History)
    → (turn_calls (by program commands) ≡ turn program (Enter ∷ Switch program ∷ Return ∷ map command_call commands))
    × (turns_of start h ≡ turn start.current (map command_call h.opening) ∷ map turn_calls h.turns)
turns_spelled start program commands h = (refl, refl)

-- what a call shows, and the machine that the next one is made on
pub observed_spelled : (chosen context : ℕ) (m : Machine) (program : ℕ) (call : Call) (rest : List Made)
    → let next = observed_from chosen context (call_of m call).machine rest in
    let all : Observation =
    record {
      number = (call_of m call).number;
      report = (call_of m call).report;
      before = rights_of context m;
      after = rights_of context (call_of m call).machine;
    } in
    observed_from chosen context m (made program call ∷ rest) ≡ pick (eqb program chosen) (all ∷ next) next
unfolding observed_from
observed_spelled chosen context m program call rest = refl

-- the rights of any context to every page of any machine, page by page, READ before WRITE
pub rights_spelled : (page context : ℕ) (m : Machine)
    → (rights_of context m ≡ rights_below m.pages context m)
    × (rights_below zero context m ≡ [])
    × (rights_below (suc page) context m
    ≡ rights_below page context m ++ bit_and (get_or m.fields (2 * page + 0) 0) context ∷ bit_and (get_or m.fields (2 * page + 1) 0) context ∷ [])
unfolding rights_of
rights_spelled page context m = (refl, refl, refl)

-- any list of turns, one by one: whether they are of programs in the table, which are the chosen program's, the calls that they make, and that without a call
-- nothing is shown
pub lists_spelled : (start m : Machine) (chosen context : ℕ) (one : Turn) (others : List Turn) (first : TurnCalls) (rest : List TurnCalls)
    → (InTable start [] ≡ Unit)
    × (InTable start (one ∷ others) ≡ ((one.program < start.programs) × InTable start others))
    × (taken_out chosen [] ≡ [])
    × (taken_out chosen (first ∷ rest) ≡ pick (eqb first.program chosen) (first.calls ∷ taken_out chosen rest) (taken_out chosen rest))
    × (calls_of [] ≡ [])
    × (calls_of (first ∷ rest) ≡ map (made first.program) first.calls ++ calls_of rest)
    × (observed_from chosen context m [] ≡ [])
unfolding observed_from
lists_spelled start m chosen context one others first rest = (refl, refl, refl, refl, refl, refl, refl)
