-- `text::Text::put_text` meets its contract: the test on the input says which text it is.
use borrow.Author.Tests.{lt-ltb, le-ltb}
use Rattle.text.specs.Text.{text_of}
use Rattle.text.proofs.Text.put_text.Goals as goal

pub returns-then-input-gt32768 : goal.returns-then-input-gt32768
unfolding text_of
returns-then-input-gt32768 c = rw (lt-ltb _ _ c.if-input-gt32768.true) c.put_bytes.ensures

pub returns-else-input-gt32768 : goal.returns-else-input-gt32768
unfolding text_of
returns-else-input-gt32768 c = rw (le-ltb _ _ c.if-input-gt32768.false) c.put_run.ensures
