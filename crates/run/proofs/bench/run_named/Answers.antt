-- `run::bench::run_named` meets its contract: in each of its four ends the count and the two buffers are what is sent. The loop starts on a machine
-- that a load accepted, which is sound.
use mathlib.Core.Path.{◌≡◌, refl, sym, ◌∙◌}
use mathlib.Core.List.{[]}
use lib.ListN.{length}
use Rattle.image.proofs.Loaded.{loaded}
use Rattle.run.specs.Run.{answers_of, image_of, loaded_of}
use Rattle.run.proofs.Sent.{answers_count, all_sends, long_sends, short_sends, steps_none, steps_read}
use Rattle.run.proofs.bench.run_named.Goals.{After-answer_count-count}
use Rattle.run.proofs.bench.run_named.Goals as goal

pub returns-then-input-gt32768 : goal.returns-then-input-gt32768
returns-then-input-gt32768 c = long_sends _ _ _ c.if-input-gt32768.true

load : (c : After-answer_count-count) → c.load_image-loaded.result ≡ loaded_of c.args.input.now
load c = rw c.split_input.ensures.image at c.load_image-loaded.ensures

counted : (c : After-answer_count-count) → c.answer_count-count.result ≡ length (answers_of c.args.input.now)
counted c = c.answer_count-count.ensures ∙ rw (load c, c.split_input.ensures.calls) (sym (answers_count c.args.input.now))

pub returns-then-answers-count : goal.returns-then-answers-count
returns-then-answers-count c =
    short_sends _ _ _ c.if-input-gt32768.false (counted (goal.at.returns-then-answers-count c).After-answer_count-count) c.if-answers-count.true

pub answer_calls-requires-clause-start_value : goal.answer_calls-requires-clause-start_value
answer_calls-requires-clause-start_value c =
    let load = load (goal.at.answer_calls-requires-clause-start_value c).After-answer_count-count in
    rw load (loaded (image_of c.args.input.now) (rw (← load) c.if-loaded-eq0.true)).sound

pub returns-then-loaded-eq0 : goal.returns-then-loaded-eq0
returns-then-loaded-eq0 c =
    let before = (goal.at.returns-then-loaded-eq0 c).After-answer_count-count in
    let stored = rw (load before, c.split_input.ensures.calls) at c.answer_calls.ensures in
    all_sends _ _ _ c.if-input-gt32768.false (counted before) _ c.if-answers-count.false
    (steps_read c.args.input.now (rw (load before) at c.if-loaded-eq0.true)) stored.answers_after stored.names_after

pub returns-else-loaded-eq0 : goal.returns-else-loaded-eq0
returns-else-loaded-eq0 c =
    let before = (goal.at.returns-else-loaded-eq0 c).After-answer_count-count in
    all_sends _ _ _ c.if-input-gt32768.false (counted before) [] c.if-answers-count.false
    (steps_none c.args.input.now (rw (load before) at c.if-loaded-eq0.false)) (rw (load before)) refl
