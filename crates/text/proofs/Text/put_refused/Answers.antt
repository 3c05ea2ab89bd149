-- `text::Text::put_refused` meets its contract: the word, the number and the end of the line are put one after another.
use Rattle.text.proofs.Puts.{wrote_then, room}
use Rattle.text.proofs.Text.put_refused.Goals as goal

pub put_byte-requires : goal.put_byte-requires
put_byte-requires c = omega room

pub returns : goal.returns
returns c = wrote_then (wrote_then c.put_bytes.ensures c.put_column.ensures) c.put_byte.ensures
