-- A history shows the chosen program the same as its own turns alone. Two runs go side by side, the whole history's and the
-- one of the chosen program's turns alone; another program's turn moves the first only, and leaves the two alike.
use Prim.Native.Nat.{ℕ, zero, suc, ◌<◌}
use mathlib.Core.Path.{subst, ◌≡◌, refl, sym, ap, ◌∙◌}
use mathlib.Core.Logic.{◌≢◌}
use mathlib.Core.Bool.{Bool, true, false}
use mathlib.Core.List.{List, [], ◌∷◌, ◌++◌, map}
use borrow.Author.Tests.{eqb-true, eqb-false, eq-eqb, ne_eqb}
use lib.Dec.{eqb}
use lib.ListN.{get_or}
use lib.Seq.{get_or-set_other, set-get_or}
use Rattle.rules.specs.Refusals.{pick}
use Rattle.machine.specs.Machine.{no_program, place_of}
use Rattle.machine.specs.Calls.{call_of, entered, number_of, switched}
use Rattle.machine.specs.declared.record.Machine.{Machine}
use Rattle.machine.specs.declared.record.Answered.{Answered}
use Rattle.machine.specs.declared.record.Call.{Call}
use Rattle.machine.specs.declared.record.Call.TheVariants.{Enter, Return, Switch}
use Rattle.machine.proofs.View.{IsCommand, an_access, a_change, a_mask, Alike, view, seen_at, command_stays, alike_number, alike_report, alike_after}
use Rattle.machine.proofs.Turn.{entry_of, home, registers_of, turned}
use Rattle.isolation.specs.Histories.{Command, access, grant, revoke, set_mask, command_call, Turn, History, turn_calls, turns_of, Made, calls_of}
use Rattle.isolation.specs.Isolation.{Apart, InTable, Observation, context_of, observed, observed_from, own_turns, rights_below, rights_of, taken_out}
use Rattle.isolation.proofs.Settled.{Started, Settled, settled_start, settled_command, begins, settled_turned, live_entry, live_context, other_unseen}

is_command : (command : Command) → IsCommand (command_call command)
is_command (access width right address) = an_access width right address
is_command (grant right page s) = a_change true right page s
is_command (revoke right page s) = a_change false right page s
is_command (set_mask bits) = a_mask bits

-- two machines whose fields a context sees alike show it the same rights
rights_same : (context : ℕ) (m n : Machine) → m.pages ≡ n.pages → view context m ≡ view context n
    → rights_of context m ≡ rights_of context n
unfolding rights_of
rights_same context m n pages seen = ap (λ count. rights_below count context m) pages ∙ below n.pages
  where
    below : (count : ℕ) → rights_below count context m ≡ rights_below count context n
    below zero = refl
    below (suc page) = cc (below page, seen_at context m n seen (place_of 0 page), seen_at context m n seen (place_of 1 page))

-- a call in a program's turn
abbrev made_by : ℕ → Call → Made
made_by program call = record { program = program; call = call }

module _ (start : Machine) (chosen : ℕ) where
  abbrev context : ℕ
  context = context_of start chosen

  abbrev shown : Machine → List Made → List Observation
  shown = observed_from chosen context

  -- the chosen program's turns alone, one after the other
  abbrev own_calls : List (List Call) → List Made
  own_calls turns = calls_of (map (λ calls. record { program = chosen; calls = calls }) turns)

  abbrev pub alone : List (List Call) → List Observation
  alone turns = shown start (own_calls turns)

  -- ---- one call

  own_call : (m n : Machine) (call : Call) (rest rest' : List Made) (a b : Answered)
      → call_of m call ≡ a → call_of n call ≡ b → a.number ≡ b.number → a.report ≡ b.report
      → m.pages ≡ n.pages → view context m ≡ view context n
      → a.machine.pages ≡ b.machine.pages → view context a.machine ≡ view context b.machine
      → shown a.machine rest ≡ shown b.machine rest'
      → shown m (made_by chosen call ∷ rest) ≡ shown n (made_by chosen call ∷ rest')
  unfolding observed_from
  own_call m n call rest rest' a b e f number report pages seen pages' seen' others =
      let before = rights_same context m n pages seen in
      let after = rights_same context a.machine b.machine pages' seen' in
      rw (eq-eqb chosen chosen refl, e, f) (cc)

  other_call : (m : Machine) (program : ℕ) (call : Call) (rest : List Made) (a : Answered)
      → call_of m call ≡ a → program ≢ chosen
      → shown m (made_by program call ∷ rest) ≡ shown a.machine rest
  unfolding observed_from
  other_call m program call rest a e other = rw (ne_eqb program chosen other, e)

  -- ---- the two runs between turns: settled, alike in the chosen program's entry and in what it sees
  record Beside (m n : Machine) : Type 0 where
    first : Settled start m
    second : Settled start n
    entry : get_or (home m) chosen no_program ≡ get_or (home n) chosen no_program
    seen : view context m ≡ view context n

  -- within a turn of the chosen program
  record Together (m n : Machine) : Type 0 where
    first : Settled start m
    second : Settled start n
    current : m.current ≡ chosen
    current' : n.current ≡ chosen
    alike : Alike context m n

  own_entry : {m : Machine} → Settled start m → m.current ≡ chosen → get_or (home m) chosen no_program ≡ entry_of m.registers
  own_entry {m} s current = ap (λ at. get_or (home m) at no_program) (sym current) ∙ live_entry s

  entry_kept : (end m : Machine) → m.current ≢ chosen → end.current ≡ m.current → end.table ≡ m.table
      → get_or (home end) chosen no_program ≡ get_or (home m) chosen no_program
  entry_kept end m elsewhere current table =
      other_entry end (rw current elsewhere) ∙ ap (λ l. get_or l chosen no_program) table ∙ sym (other_entry m elsewhere)
    where
      other_entry : (x : Machine) → x.current ≢ chosen → get_or (home x) chosen no_program ≡ get_or x.table chosen no_program
      other_entry x h = get_or-set_other x.table x.current chosen _ no_program (λ e. h (sym e))

  beside : {m n : Machine} → Together m n → Beside m n
  beside {m} {n} t =
      record {
        first = t.first;
        second = t.second;
        entry =
            own_entry t.first t.current ∙ ap entry_of t.alike.registers ∙ sym (own_entry t.second t.current');
        seen = t.alike.seen;
      }

  together : chosen < start.programs → {m n : Machine} → Beside m n → Together (turned m chosen) (turned n chosen)
  together below b =
      record {
        first = settled_turned b.first chosen below;
        second = settled_turned b.second chosen below;
        current = refl;
        current' = refl;
        alike =
            record {
              pages = b.first.pages ∙ sym b.second.pages;
              exponent = b.first.exponent ∙ sym b.second.exponent;
              registers = ap registers_of b.entry;
              prevails = b.first.prevails ∙ sym b.second.prevails;
              seen = b.seen;
            };
      }

  -- what follows two lists of calls shows the chosen program the same wherever the two runs stand beside each other
  abbrev Follows : List Made → List Made → Type 0
  Follows rest rest' = (m n : Machine) → Beside m n → shown m rest ≡ shown n rest'

  -- ---- the chosen program's turn

  -- its global context is live in it
  own_live : {m n : Machine} → Together m n → m.registers.context ≡ context
  own_live t = live_context t.first ∙ ap (context_of start) t.current

  -- its command has one number on both and reports the same, and leaves them together
  own_number : {m n : Machine} → Together m n → {call : Call} → IsCommand call → number_of m call ≡ number_of n call
  own_number t = alike_number t.alike (own_live t) t.first.sound t.second.sound

  own_report : {m n : Machine} → Together m n → {call : Call} → IsCommand call → (call_of m call).report ≡ (call_of n call).report
  own_report t = alike_report t.alike (own_live t) t.first.sound t.second.sound

  together_command : {m n : Machine} → Together m n → {call : Call} → IsCommand call
      → Together (call_of m call).machine (call_of n call).machine
  together_command {m} {n} t command =
      record {
        first = settled_command t.first command;
        second = settled_command t.second command;
        current = (command_stays m command).current ∙ t.current;
        current' = (command_stays n command).current ∙ t.current';
        alike = alike_after t.alike command (own_number t command);
      }

  module _ (rest rest' : List Made) (follows : Follows rest rest') where
    own_commands : (commands : List Command) (m n : Machine) → Together m n
        → shown m (map (made_by chosen) (map command_call commands) ++ rest)
        ≡ shown n (map (made_by chosen) (map command_call commands) ++ rest')
    unfolding call_of
    own_commands [] m n t = follows m n (beside t)
    own_commands (command ∷ commands) m n t =
        let call = command_call command in
        let next = together_command t (is_command command) in
        own_call m n call _ _ (call_of m call) (call_of n call) refl refl (own_number t (is_command command)) (own_report t (is_command command))
        t.alike.pages t.alike.seen next.alike.pages next.alike.seen
        (own_commands commands (call_of m call).machine (call_of n call).machine next)

    own_turn : chosen < start.programs → (commands : List Command) (m n : Machine) → Beside m n
        → shown m (map (made_by chosen) (Enter ∷ Switch chosen ∷ Return ∷ map command_call commands) ++ rest)
        ≡ shown n (map (made_by chosen) (Enter ∷ Switch chosen ∷ Return ∷ map command_call commands) ++ rest')
    unfolding entered switched
    own_turn below commands m n b =
        let t = begins b.first chosen below in
        let t' = begins b.second chosen below in
        let pages : m.pages ≡ n.pages = b.first.pages ∙ sym b.second.pages in
        own_call m n Enter _ _ _ _ t.entry t'.entry refl refl pages b.seen pages b.seen
        (own_call (entered m) (entered n) (Switch chosen) _ _ _ _ t.switch t'.switch refl refl pages b.seen pages b.seen
        (own_call (switched (entered m) chosen) (switched (entered n) chosen) Return _ _ _ _ t.return t'.return refl refl
        pages b.seen pages b.seen
        (own_commands commands (turned m chosen) (turned n chosen) (together below b))))

  -- ---- another program's turn
  module _ (apart : Apart start chosen) (small : context < 65536) where
    beside_command : {m n : Machine} → Beside m n → m.current ≢ chosen → {call : Call} → IsCommand call
        → Beside (call_of m call).machine n
    beside_command {m} {n} b elsewhere {call} command =
        let k = command_stays m command in
        record {
          first = settled_command b.first command;
          second = b.second;
          entry = entry_kept (call_of m call).machine m elsewhere k.current k.table ∙ b.entry;
          seen = other_unseen b.first chosen apart small elsewhere command ∙ b.seen;
        }

    beside_turned : {m n : Machine} → Beside m n → (program : ℕ) → program < start.programs → Beside (turned m program) n
    beside_turned {m} b program below =
        record {
          first = settled_turned b.first program below;
          second = b.second;
          entry = ap (λ table. get_or table chosen no_program) (set-get_or (home m) program no_program) ∙ b.entry;
          seen = b.seen;
        }

    module _ (program : ℕ) (other : program ≢ chosen) (n : Machine) (rest rest' : List Made) (follows : Follows rest rest') where
      other_commands : (commands : List Command) (m : Machine) → Beside m n → m.current ≡ program
          → shown m (map (made_by program) (map command_call commands) ++ rest) ≡ shown n rest'
      other_commands [] m b current = follows m n b
      other_commands (command ∷ commands) m b current =
          let call = command_call command in
          let c = is_command command in
          let elsewhere : m.current ≢ chosen = rw current other in
          other_call m program call _ (call_of m call) refl other
          ∙ other_commands commands (call_of m call).machine (beside_command b elsewhere c) ((command_stays m c).current ∙ current)

      other_turn : program < start.programs → (commands : List Command) (m : Machine) → Beside m n
          → shown m (map (made_by program) (Enter ∷ Switch program ∷ Return ∷ map command_call commands) ++ rest) ≡ shown n rest'
      other_turn below commands m b =
          let t = begins b.first program below in
          other_call m program Enter _ _ t.entry other
          ∙ other_call (entered m) program (Switch program) _ _ t.switch other
          ∙ other_call (switched (entered m) program) program Return _ _ t.return other
          ∙ other_commands commands (turned m program) (beside_turned b program below) refl

  -- ---- whole histories
  module _ (apart : Apart start chosen) (small : context < 65536) (below : chosen < start.programs) where
    -- the turns after the opening one, and those of them that are the chosen program's
    abbrev later_calls : List Turn → List Made
    later_calls turns = calls_of (map turn_calls turns)

    abbrev later_own : List Turn → List (List Call)
    later_own turns = taken_out chosen (map turn_calls turns)

    one_more : (turn : Turn) (turns : List Turn) → turn.program < start.programs → Follows (later_calls turns) (own_calls (later_own turns))
        → (m n : Machine) → Beside m n → (own : Bool) → eqb turn.program chosen ≡ own
        → shown m (later_calls (turn ∷ turns)) ≡ shown n (own_calls (pick own ((turn_calls turn).calls ∷ later_own turns) (later_own turns)))
    one_more turn turns within follows m n b true e =
        let turned : ℕ → List Call = λ program. Enter ∷ Switch program ∷ Return ∷ map command_call turn.commands in
        let P : ℕ → Type 0 = λ program. shown m (map (made_by program) (turned program) ++ later_calls turns) ≡ shown n (own_calls (turned program ∷ later_own turns)) in
        subst P (sym (eqb-true turn.program chosen e)) (own_turn _ _ follows below turn.commands m n b)
    one_more turn turns within follows m n b false e =
        other_turn apart small turn.program (eqb-false turn.program chosen e) n _ _ follows within turn.commands m b

    turns_alone : (turns : List Turn) → InTable start turns → Follows (later_calls turns) (own_calls (later_own turns))
    unfolding observed_from
    turns_alone [] within m n b = refl
    turns_alone (turn ∷ turns) within m n b =
        one_more turn turns within.0 (turns_alone turns within.1) m n b (eqb turn.program chosen) refl

    module _ (s : Started start) (h : History) (within : InTable start h.turns) where
      -- the opening turn is the chosen program's, or another's
      opened : (own : Bool) → eqb start.current chosen ≡ own
          → shown start (calls_of (turns_of start h))
          ≡ alone (pick own (map command_call h.opening ∷ later_own h.turns) (later_own h.turns))
      opened true e =
          let current = eqb-true start.current chosen e in
          ap (λ program. shown start (map (made_by program) (map command_call h.opening) ++ later_calls h.turns)) current
          ∙ own_commands _ _ (turns_alone h.turns within) h.opening start start (
          record {
            first = settled_start s;
            second = settled_start s;
            current = current;
            current' = current;
            alike = record { pages = refl; exponent = refl; registers = refl; prevails = refl; seen = refl };
          })
      opened false e =
          let other = eqb-false start.current chosen e in
          other_commands apart small start.current other start _ _ (turns_alone h.turns within) h.opening start
          (record { first = settled_start s; second = settled_start s; entry = refl; seen = refl }) refl

      pub history_alone : observed start chosen h ≡ alone (own_turns start chosen h)
      unfolding observed
      history_alone = opened (eqb start.current chosen) refl
