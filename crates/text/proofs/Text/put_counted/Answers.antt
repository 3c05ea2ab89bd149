-- `text::Text::put_counted` meets its contract: the lines of the domains, of the totals and of those refused are put one after another.
use Rattle.text.specs.Rights.{numbers_text}
use Rattle.text.proofs.Puts.{wrote_then, room}
use Rattle.text.proofs.Sums.{domains_most, total_most}
use Rattle.text.proofs.Text.put_counted.Goals as goal

pub put_total-requires : goal.put_total-requires
put_total-requires c = omega (room, domains_most)

pub put_refused-requires : goal.put_refused-requires
put_refused-requires c = omega (room, domains_most, total_most)

pub returns : goal.returns
unfolding numbers_text
returns c = wrote_then (wrote_then c.put_domains.ensures c.put_total.ensures) c.put_refused.ensures
