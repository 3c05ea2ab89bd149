-- What turns and commands of any program leave as the image has it: counts, stored contexts and prevailing domains; and,
-- from the premise, that another program's command changes nothing that the chosen program's context sees.
use Prim.Native.Nat.{ℕ, ◌<◌}
use mathlib.Core.Path.{◌≡◌, refl, sym, ap, ◌∙◌}
use mathlib.Core.Logic.{◌≢◌}
use mathlib.Core.Bool.{true}
use mathlib.Core.List.{List, map}
use lib.ListN.{length, get_or, set, length-set}
use lib.Seq.{get_or-set_same, set-get_or}
use native.Mathlib.Omega.{arith}
use Rattle.rules.specs.Domains.{prevailing}
use Rattle.machine.specs.Machine.{is_sound, no_program, place_of}
use Rattle.machine.specs.Calls.{call_of}
use Rattle.machine.specs.declared.record.Machine.{Machine}
use Rattle.machine.specs.declared.record.Program.{Program}
use Rattle.machine.specs.declared.record.Call.{Call}
use Rattle.machine.proofs.Laws.{soundness_kept}
use Rattle.machine.proofs.Sound.{sound_facts}
use Rattle.machine.proofs.View.{IsCommand, prevailing_domains, view, map_set, mapped_at, command_stays, command_unseen}
use Rattle.machine.proofs.Turn.{entry_of, home, registers_of, turned, Turned, turn_begins}
use Rattle.isolation.specs.Isolation.{Apart, context_of}

-- what is used of a machine that a load gives
pub record Started (start : Machine) : Type 0 where
  pub sound : is_sound start ≡ true
  pub depth : start.depth ≡ 0
  pub table_long : length start.table ≡ 8
  pub saved_long : length start.saved ≡ 8
  pub live : start.registers ≡ registers_of (get_or start.table start.current no_program)
  pub contexts_small : (program : ℕ) → context_of start program < 65536

-- the stored contexts of a table, and those that a switch would leave
abbrev contexts : List Program → List ℕ
contexts table = map (λ (entry : Program). entry.context) table

home_contexts : (m : Machine) → contexts (home m) ≡ set (contexts m.table) m.current m.registers.context
home_contexts m = map_set (λ (entry : Program). entry.context) m.table m.current _

-- what a machine has of the image's between turns, and before and after every command; the masks, the modes, the flag and
-- the fields below the prevailing domains may have changed
pub record Settled (start m : Machine) : Type 0 where
  pub sound : is_sound m ≡ true
  pub depth : m.depth ≡ 0
  pub pages : m.pages ≡ start.pages
  pub exponent : m.exponent ≡ start.exponent
  pub programs : m.programs ≡ start.programs
  pub table_long : length m.table ≡ 8
  pub saved_long : length m.saved ≡ 8
  pub stored : contexts (home m) ≡ contexts start.table
  pub prevails : prevailing_domains m ≡ prevailing_domains start

module _ {start : Machine} where
  pub settled_start : Started start → Settled start start
  settled_start s =
      record {
        sound = s.sound;
        depth = s.depth;
        pages = refl;
        exponent = refl;
        programs = refl;
        table_long = s.table_long;
        saved_long = s.saved_long;
        stored = rw s.live (ap contexts (set-get_or start.table start.current no_program));
        prevails = refl;
      }

  module _ {m : Machine} (s : Settled start m) where
    current_below : m.current < 8
    current_below =
        let f = sound_facts m s.sound in
        omega arith

    -- the current program's entry is the live registers
    pub live_entry : get_or (home m) m.current no_program ≡ entry_of m.registers
    live_entry = get_or-set_same m.table m.current _ no_program (rw s.table_long current_below)

    pub live_context : m.registers.context ≡ context_of start m.current
    live_context =
        sym (ap (λ entry. entry.context) live_entry)
        ∙ mapped_at (λ (entry : Program). entry.context) (home m) start.table no_program s.stored m.current

    -- a command
    pub settled_command : {call : Call} → IsCommand call → Settled start (call_of m call).machine
    settled_command {call} command =
        let k = command_stays m command in
        record {
          sound = soundness_kept m call ∙ s.sound;
          depth = k.depth ∙ s.depth;
          pages = k.pages ∙ s.pages;
          exponent = k.exponent ∙ s.exponent;
          programs = k.programs ∙ s.programs;
          table_long = rw k.table s.table_long;
          saved_long = rw k.saved s.saved_long;
          stored =
              home_contexts (call_of m call).machine
              ∙ rw (k.table, k.current, k.context) (sym (home_contexts m) ∙ s.stored);
          prevails = k.prevails ∙ s.prevails;
        }

    -- and the beginning of a turn
    pub begins : (program : ℕ) → program < start.programs → Turned m program
    begins program below =
        turn_begins m program s.sound s.depth (rw s.saved_long (omega arith)) (rw s.programs below)

    pub settled_turned : (program : ℕ) → program < start.programs → Settled start (turned m program)
    settled_turned program below =
        record {
          sound = (begins program below).sound;
          depth = refl;
          pages = s.pages;
          exponent = s.exponent;
          programs = s.programs;
          table_long = length-set m.table m.current _ ∙ s.table_long;
          saved_long = length-set m.saved 0 _ ∙ s.saved_long;
          stored = ap contexts (set-get_or (home m) program no_program) ∙ s.stored;
          prevails = s.prevails;
        }

    -- another program's command shows the chosen one nothing
    pub other_unseen : (chosen : ℕ) → Apart start chosen → context_of start chosen < 65536 → m.current ≢ chosen
        → {call : Call} → IsCommand call
        → view (context_of start chosen) (call_of m call).machine ≡ view (context_of start chosen) m
    unfolding Apart
    other_unseen chosen apart small other command =
        command_unseen m command (context_of start chosen) small
        (λ right page domain lower known counted prevails held below.
        let in_table = (sound_facts m s.sound).current_below in
        let kept = mapped_at prevailing m.fields start.fields 0 s.prevails (place_of right page) in
        apart m.current right page domain lower (rw (← s.programs) in_table) other known (rw (← s.pages) counted)
        (sym kept ∙ prevails) (rw live_context at held) below)
