-- The loop of `run::bench::answer_calls`: the machine with the loop's fields and stack is sound, and what the calls that are left answer and name on it,
-- stored from here on, gives the two buffers that are promised.
use Prim.Native.Nat.{◌+◌}
use mathlib.Core.Path.{◌≡◌}
use mathlib.Core.Bool.{true}
use mathlib.Core.List.{map}
use lib.ListN.{drop}
use lib.Seq.{sets}
use Rattle.machine.specs.Machine.{is_sound, with_lent}
use Rattle.run.specs.Records.{calls_of}
use Rattle.run.specs.Run.{steps_from, numbers_of, reports_of, name_of}
use Rattle.run.proofs.bench.answer_calls.Given as goal

abbrev pub invariant-loop-i : goal.invariant-loop-i
invariant-loop-i l =
    let left = steps_from (with_lent l.fields l.saved l.answered.machine) (drop l.i (calls_of l.calls)) in
    let all = steps_from l.fn.start (calls_of l.calls) in
    record {
      sound : is_sound (with_lent l.fields l.saved l.answered.machine) ≡ true;
      answered : sets l.answers (1 + l.i) (numbers_of left) ≡ sets l.initial.answers 1 (numbers_of all);
      named : sets l.names (1 + l.i) (map name_of (reports_of left)) ≡ sets l.initial.names 1 (map name_of (reports_of all));
    }
