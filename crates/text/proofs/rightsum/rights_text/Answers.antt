-- `text::rightsum::rights_text` meets its contract: the test on the buffer says whether there is a text.
use borrow.Author.Tests.{le-leb, lt-leb}
use borrow.Author.Rules.{rules}
use lib.ListN.{length}
use Rattle.text.specs.Rights.{printed_rights}
use Rattle.text.proofs.Puts.{put_none}
use Rattle.text.proofs.rightsum.rights_text.Goals as goal

pub returns-then-out-lt512 : goal.returns-then-out-lt512
unfolding printed_rights
returns-then-out-lt512 c =
    let out = c.args.out.now in
    rw (lt-leb 512 (length out) c.if-out-lt512.true) (put_none out 0)

pub returns : goal.returns
unfolding printed_rights
returns c = rw (le-leb _ _ c.if-out-lt512.false) (search rules)
