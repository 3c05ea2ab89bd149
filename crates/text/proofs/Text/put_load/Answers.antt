-- `text::Text::put_load` meets its contract: its parts are put one after another.
use Rattle.text.specs.Text.{load_line}
use Rattle.text.proofs.Puts.{wrote_then, room}
use Rattle.text.proofs.Text.put_load.Goals as goal

pub put_bytes-requires-2 : goal.put_bytes-requires-2
put_bytes-requires-2 c = omega room

pub returns : goal.returns
unfolding load_line
returns c = wrote_then (wrote_then c.put_bytes.ensures (rw c.from.ensures at c.put_decimal.ensures)) c.put_bytes-2.ensures
