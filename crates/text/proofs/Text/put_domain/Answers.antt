-- `text::Text::put_domain` meets its contract: the domain and what stands behind it are put one after the other.
use Rattle.text.proofs.Puts.{wrote_then, room}
use Rattle.text.proofs.Text.put_domain.Goals as goal

pub put_sums-requires : goal.put_sums-requires
put_sums-requires c = omega room

pub returns : goal.returns
returns c = wrote_then c.put_decimal.ensures c.put_sums.ensures
