-- `cases::writing::make_calls`: the calls that are left, on the machine so far, come to the machine after all of them.
use Rattle.std.proofs.Common.{◌≡◌, drop}
use Rattle.run.specs.Records.{calls_of}
use Rattle.cases.specs.Writing.{machine_after}
use Rattle.cases.proofs.writing.make_calls.Given as goal

abbrev pub invariant-loop-i : goal.invariant-loop-i
invariant-loop-i g l = machine_after l.machine (drop l.i (calls_of l.calls)) ≡ machine_after l.fn.start (calls_of l.calls)
