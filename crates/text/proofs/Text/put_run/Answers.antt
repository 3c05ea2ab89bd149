-- `text::Text::put_run` meets its contract: the load's line, the lines of the calls and the word for a remainder are put one after another.
use Prim.Native.Nat.{ℕ}
use mathlib.Core.Path.{◌≡◌, ap, sym, ◌∙◌}
use mathlib.Core.List.{map}
use lib.ListN.{length, get_or, take, drop, replicate, length-drop, length-replicate}
use Rattle.run.specs.Run.{answers_of, call_reports, loaded_of, name_of}
use Rattle.text.proofs.Puts.{wrote_then, room}
use Rattle.text.proofs.Printed.{load_most, lines_most, answers_fit, front, front_names, run_text_loaded, run_text_refused}
use Rattle.text.proofs.Text.put_run.Goals.{After-run_named-count}
use Rattle.text.proofs.Text.put_run.Goals as goal

-- what the run answered
answered : (c : After-run_named-count)
    → let input = c.args.input.now in
    let exit = c.run_named-count.new.answers in
    (c.run_named-count.result ≡ length (answers_of input)) × (take c.run_named-count.result exit ≡ answers_of input) × (get_or exit 0 0 ≡ (loaded_of input).number)
answered c =
    front c.args.input.now (replicate 5462 0) c.requires.0 (length-replicate {A = ℕ} 5462 0) c.run_named-count.ensures.value c.run_named-count.ensures.answers_after

-- and what it named
named : (c : After-run_named-count)
    → let exit = c.run_named-count.new.names in
    (drop 1 (take c.run_named-count.result exit) ≡ map name_of (call_reports c.args.input.now))
    × (length (take c.run_named-count.result exit) ≡ c.run_named-count.result)
named c =
    front_names c.args.input.now (replicate 5462 0) c.requires.0 (length-replicate {A = ℕ} 5462 0) (answered c).0
    (rw (length-replicate {A = ℕ} 5462 0) at c.run_named-count.ensures.names_after)

pub put_lines-requires-clause-room : goal.put_lines-requires-clause-room
put_lines-requires-clause-room c =
    let sending = (goal.at.put_lines-requires-clause-room c).After-run_named-count in
    rw (answered sending).1 (omega (room, load_most, answers_fit c.args.input.now c.requires.0))

pub put_cut-requires : goal.put_cut-requires
put_cut-requires c =
    let sending = (goal.at.put_cut-requires c).After-run_named-count in
    omega (room, load_most, lines_most, length-drop {A = ℕ}, ap length (answered sending).1, answers_fit c.args.input.now c.requires.0)

pub returns-then-number-eq0 : goal.returns-then-number-eq0
returns-then-number-eq0 c =
    let sending = (goal.at.returns-then-number-eq0 c).After-run_named-count in
    let sent = answered sending in
    rw (← run_text_loaded c.args.input.now (sym sent.2 ∙ c.if-number-eq0.true) c.calls_start.ensures, ← sent.2)
    (wrote_then c.put_load.ensures (wrote_then (rw (sent.1, (named sending).0) at c.put_lines.ensures) c.put_cut.ensures))

pub returns-else-number-eq0 : goal.returns-else-number-eq0
returns-else-number-eq0 c =
    let sending = (goal.at.returns-else-number-eq0 c).After-run_named-count in
    let sent = answered sending in
    rw (← run_text_refused c.args.input.now (λ loads. c.if-number-eq0.false (sent.2 ∙ loads)), ← sent.2)
    (wrote_then c.put_load.ensures (rw (sent.1, (named sending).0) at c.put_lines.ensures))
