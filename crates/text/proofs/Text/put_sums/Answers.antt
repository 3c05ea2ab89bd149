-- `text::Text::put_sums` meets its contract: both numbers and the end of the line are put one after another.
use Rattle.text.specs.Rights.{sums_of}
use Rattle.text.proofs.Puts.{wrote_then, room}
use Rattle.text.proofs.Sums.{sum_most}
use Rattle.text.proofs.Text.put_sums.Goals as goal

pub put_sum-requires-2 : goal.put_sum-requires-2
put_sum-requires-2 c = omega (room, sum_most)

pub put_byte-requires : goal.put_byte-requires
put_byte-requires c = omega (room, sum_most)

pub returns : goal.returns
unfolding sums_of
returns c = wrote_then (wrote_then c.put_sum.ensures c.put_sum-2.ensures) c.put_byte.ensures
