-- `run::bench::answer_calls` meets its contract: a turn takes the next record, stores its answer and what it names, and leaves a sound machine.
use Prim.Native.Nat.{◌+◌}
use mathlib.Core.Path.{ap, sym, ◌∙◌}
use mathlib.Core.List.{List, map}
use native.Mathlib.Omega.{arith}
use Rattle.machine.specs.Machine.{is_sound, with_lent}
use Rattle.machine.specs.declared.record.Answered.{Answered}
use Rattle.run.specs.Run.{steps_from, numbers_of, reports_of, name_of}
use Rattle.run.proofs.Steps.{next_step, no_call_left, whole, turn, sound_step, step_sound}
use Rattle.run.proofs.bench.answer_calls.Goals as goal

pub loop-i-preserved : goal.loop-i-preserved
loop-i-preserved c =
    let l = c.loop-i in
    let made = c.step-answered.ensures in
    let m = with_lent l.fields l.saved l.answered.machine in
    let stepped = whole l.answered.machine made.value made.fields_after made.saved_after ∙ sym (sound_step m _ l.invariant.sound) in
    let next = next_step c.args.calls.now m l.i (omega (arith, c.as_chunks.ensures.front_len)) (rw c.as_chunks.ensures.front at c.decode.ensures) stepped in
    record {
      sound = ap (λ (r : Answered). is_sound r.machine) stepped ∙ step_sound m _ l.invariant.sound;
      answered = turn l.answers (1 + l.i) (1 + (l.i + 1)) _ (omega arith) (ap numbers_of next) ∙ l.invariant.answered;
      named = rw c.store_name.ensures (turn l.names (1 + l.i) (1 + (l.i + 1)) _ (omega arith) (ap (λ (steps : List Answered). map name_of (reports_of steps)) next) ∙ l.invariant.named);
    }

pub returns : goal.returns
unfolding steps_from
returns c =
    let left = no_call_left c.args.calls.now c.loop-i.i (omega (arith, c.as_chunks.ensures.front_len)) in
    record { answers_after = rw left at c.loop-i.invariant.answered; names_after = rw left at c.loop-i.invariant.named }
