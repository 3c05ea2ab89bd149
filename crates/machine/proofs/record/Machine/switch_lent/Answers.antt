-- `Machine::switch_lent` meets its contract: it is the switch behind a test that found the machine sound.
use Rattle.machine.specs.Calls.{unchecked_of}
use Rattle.machine.proofs.record.Machine.switch_lent.Goals as goal

pub returns : goal.returns
unfolding unchecked_of
returns c = record { value = c.switch_tested.ensures.value; saved_after = c.switch_tested.ensures.saved_after }
