-- `machine::record::page_of` meets its contract: the sum has 33 bits, so that a shift by 63 places leaves nothing of it, as any longer one would.
use native.Mathlib.Omega.{arith}
use Rattle.machine.proofs.Pages.{page_shifted}
use Rattle.machine.proofs.record.page_of.Goals as goal

pub returns : goal.returns
returns c = rw c.shift_of.ensures (page_shifted _ _ (omega arith))
