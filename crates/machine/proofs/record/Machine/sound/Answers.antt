-- `Machine::sound` meets its contract: its tests are the clauses of soundness; the memory size that the code works out is the machine's where the
-- exponent is in range.
use Rattle.machine.proofs.Sound.{memory_guarded}
use Rattle.machine.proofs.record.Machine.sound.Goals as goal

pub returns : goal.returns
returns c = rw (c.fit.ensures, c.memory_size-memory.ensures, c.privileged.ensures) (memory_guarded c.args.self)
