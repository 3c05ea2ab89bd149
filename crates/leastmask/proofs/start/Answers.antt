-- `leastmask::start`: the load, and the three calls in a row.
use Rattle.std.proofs.Common.{◌≡◌, sym, ◌∙◌}
use Rattle.machine.specs.Calls.{call_of}
use Rattle.machine.specs.declared.record.Call.TheVariants.{Enter, Switch}
use Rattle.image.specs.Load.{load_of}
use Rattle.leastmask.proofs.Starts.{not_loaded, not_switched, turned_on}
use Rattle.leastmask.proofs.start.Goals as goal

pub returns-then-loaded-ne0 : goal.returns-then-loaded-ne0
returns-then-loaded-ne0 c =
    let load = c.load-loaded.ensures in
    load ∙ sym (not_loaded c.args.image.now c.args.program (rw load at c.if-loaded-ne0.true))

-- past the first test the image loads, and the switch is that of the loaded machine's first interrupt
pub returns-then-switched-ne0 : goal.returns-then-switched-ne0
returns-then-switched-ne0 c =
    let load = c.load-loaded.ensures in
    let loads : (load_of c.args.image.now).number ≡ 0 = rw load at c.if-loaded-ne0.false in
    let switch : c.switch_to-switched.result ≡ call_of (call_of (load_of c.args.image.now).machine Enter).machine (Switch c.args.program) =
    c.switch_to-switched.ensures ∙ rw (c.enter-entered.ensures, load) in
    rw (c.silent.ensures, c.zero.ensures, switch) (sym (not_switched c.args.image.now c.args.program loads (rw switch at c.if-switched-ne0.true)))

pub returns : goal.returns
returns c =
    let load = c.load-loaded.ensures in
    let loads : (load_of c.args.image.now).number ≡ 0 = rw load at c.if-loaded-ne0.false in
    let switch : c.switch_to-switched.result ≡ call_of (call_of (load_of c.args.image.now).machine Enter).machine (Switch c.args.program) =
    c.switch_to-switched.ensures ∙ rw (c.enter-entered.ensures, load) in
    c.leave.ensures ∙ rw switch (sym (turned_on c.args.image.now c.args.program loads (rw switch at c.if-switched-ne0.false)))
