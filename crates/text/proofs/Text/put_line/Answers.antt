-- `text::Text::put_line` meets its contract: its parts are put one after another.
use Rattle.text.specs.Text.{line_of}
use Rattle.text.proofs.Puts.{wrote_then, room}
use Rattle.text.proofs.Text.put_line.Goals as goal

pub put_column-requires : goal.put_column-requires
put_column-requires c = omega room

pub put_name-requires : goal.put_name-requires
put_name-requires c = omega room

pub put_byte-requires : goal.put_byte-requires
put_byte-requires c = omega room

pub returns : goal.returns
unfolding line_of
returns c =
    wrote_then
    (wrote_then (wrote_then c.put_decimal.ensures (rw c.from.ensures at c.put_column.ensures)) c.put_name.ensures)
    c.put_byte.ensures
