-- `Machine::ask_violation_unchecked` meets its contract: it changes nothing, and reports what is kept where it is answered.
use mathlib.Core.Path.{refl}
use Rattle.machine.specs.Calls.{checks_of, effect_of}
use Rattle.machine.specs.declared.record.Call.TheVariants.{AskViolation}
use Rattle.machine.proofs.Answers.{same_answered}
use Rattle.machine.proofs.record.Machine.ask_violation_unchecked.Goals as goal

pub returns : goal.returns
unfolding checks_of effect_of
returns c =
    same_answered c.args.self AskViolation (rw (c.register_number-number.ensures, c.privileged.ensures)) refl refl c.handed_out-report.ensures
