-- `machine::calls::outside` meets its contract: a byte is outside memory where its page is none of the counted ones.
use Rattle.machine.proofs.Pages.{outside_page}
use Rattle.machine.proofs.calls.outside.Goals as goal

pub returns : goal.returns
returns c = rw (c.page_of.ensures, outside_page _ _ _)
