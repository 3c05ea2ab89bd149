-- Turns and histories (RULES, section 4).
use Rattle.std.specs.Prelude.{ℕ, List, [], ◌∷◌, ◌++◌, map}
use Rattle.machine.specs.declared.record.Machine.{Machine}
use Rattle.machine.specs.declared.record.Page.{Page}
use Rattle.machine.specs.declared.record.Domain.{Domain}
use Rattle.machine.specs.declared.record.Width.{Width}
use Rattle.machine.specs.declared.record.Call.{Call}
use Rattle.machine.specs.declared.record.Call.TheVariants.{Access, Grant, Revoke, SetMask, Enter, Return, Switch}

-- RULES 4.1: what a turn's list is made of, with any arguments, the accesses of one byte and of two; the kernel's stores and its question for the last
-- violation are in no turn
pub data Command : Type 0 where
  access : (width : Width) (right address : ℕ) → Command
  grant : (right : ℕ) (page : Page) (s : Domain) → Command
  revoke : (right : ℕ) (page : Page) (s : Domain) → Command
  set_mask : (bits : ℕ) → Command

-- RULES 4.1: a command is a call on the machine, so that the mask command is not the one on a lent record
abbrev pub command_call : Command → Call
command_call (access width right address) = Access width right address
command_call (grant right page s) = Grant right page s
command_call (revoke right page s) = Revoke right page s
command_call (set_mask bits) = SetMask bits

-- RULES 4.2: a turn by its program and its commands; `turn_calls` puts entry, switch and return before them
pub record Turn : Type 0 where
  pub program : ℕ
  pub commands : List Command

-- RULES 4.3: the opening turn has commands only, since its program runs already; any turns follow
pub record History : Type 0 where
  pub opening : List Command
  pub turns : List Turn

-- RULES 4.5: a turn as its calls, with the program that it belongs to
pub record TurnCalls : Type 0 where
  pub program : ℕ
  pub calls : List Call

-- RULES 4.2: entry, switch to the program and return, then the commands
abbrev pub turn_calls : Turn → TurnCalls
turn_calls turn =
    record {
      program = turn.program;
      calls = Enter ∷ Switch turn.program ∷ Return ∷ map command_call turn.commands;
    }

-- RULES 4.3: the turns of a history; the opening one belongs to the program that the loaded machine runs
abbrev pub turns_of : Machine → History → List TurnCalls
turns_of start h =
    record { program = start.current; calls = map command_call h.opening } ∷ map turn_calls h.turns

-- RULES 4.5: a call, with the program in whose turn it stands
pub record Made : Type 0 where
  pub program : ℕ
  pub call : Call

-- RULES 4.4: the calls of turns, in the order in which they are made
abbrev pub calls_of : List TurnCalls → List Made
calls_of [] = []
calls_of (turn ∷ rest) = map (λ call. record { program = turn.program; call = call }) turn.calls ++ calls_of rest
