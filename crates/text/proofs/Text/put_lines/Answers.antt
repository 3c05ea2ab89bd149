-- `text::Text::put_lines` meets its contract: each turn puts one more line.
use mathlib.Core.Path.{◌≡◌}
use mathlib.Core.List.{[]}
use native.Mathlib.Omega.{arith}
use lib.ListN.{drop, drop_of_length-le}
use Rattle.text.specs.Text.{lines_from}
use Rattle.text.proofs.Puts.{line_most, lines_next, wrote_none, wrote_then, room}
use Rattle.text.proofs.Text.put_lines.Goals as goal

pub loop-i-preserved : goal.loop-i-preserved
loop-i-preserved c =
    let l = c.loop-i in
    let answers = c.args.answers.now in
    let names = c.args.names.now in (
      omega (room, line_most),
      λ after rest. l.invariant.1 after (rw (lines_next answers names l.i (omega arith) (omega arith)) (wrote_then c.put_line.ensures rest)),
    )

pub returns : goal.returns
unfolding lines_from
returns c =
    let l = c.loop-i in
    let left : drop l.i c.args.answers.now ≡ [] = drop_of_length-le c.args.answers.now {i = l.i} (omega arith) in
    l.invariant.1 l.self (rw left (wrote_none l.self))
