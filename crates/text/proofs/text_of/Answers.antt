-- `text::text_of` meets its contract: the test on the buffer says whether there is a text.
use borrow.Author.Tests.{le-leb, lt-leb}
use borrow.Author.Rules.{rules}
use lib.ListN.{length}
use Rattle.text.specs.Text.{printed}
use Rattle.text.proofs.Puts.{put_none}
use Rattle.text.proofs.text_of.Goals as goal

pub returns-then-out-lt100000 : goal.returns-then-out-lt100000
unfolding printed
returns-then-out-lt100000 c =
    let out = c.args.out.now in
    rw (lt-leb 100000 (length out) c.if-out-lt100000.true) (put_none out 0)

pub returns : goal.returns
unfolding printed
returns c = rw (le-leb _ _ c.if-out-lt100000.false) (search rules)
