-- The loop of `text::Text::put_lines`: the lines of the answers that are left with their names, put behind what is there, give the text that is promised, and there is
-- room for them.
use Prim.Native.Nat.{◌*◌, ◌-◌}
use mathlib.Core.List.{map}
use lib.ListN.{length, drop}
use Rattle.run.specs.Run.{report_named}
use Rattle.text.specs.declared.Text.{Text}
use Rattle.text.specs.Text.{lines_from}
use Rattle.text.specs.Writing.{HasRoom, Wrote}
use Rattle.text.proofs.Text.put_lines.Given as goal

abbrev pub invariant-loop-i : goal.invariant-loop-i
invariant-loop-i l =
    let left = lines_from l.i (drop l.i l.answers) (map report_named (drop l.i l.names)) in
    let all = lines_from 1 (drop 1 l.answers) (map report_named (drop 1 l.names)) in
    HasRoom (18 * (length l.answers - l.i)) l.self × ((after : Text) → Wrote l.self after left → Wrote l.initial.self after all)
