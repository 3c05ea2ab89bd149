-- `pagerun::main`: the text that it writes stands in the buffer (`answer_fits`).
use Rattle.std.proofs.Common.{sym, arith, length-take-le}
use Rattle.text.proofs.Printed.{answer_fits}
use Rattle.pagerun.proofs.main.Goals as goal

pub slice_bounds-text-end : goal.slice_bounds-text-end
slice_bounds-text-end c = let called = c.text_of-size in omega (arith, answer_fits _ _ called.ensures, called.auto.out)

pub slice_bounds-write_all-end : goal.slice_bounds-write_all-end
slice_bounds-write_all-end c =
    let called = c.text_of-size in
    sym (length-take-le called.result called.new.out (omega (arith, answer_fits _ _ called.ensures, called.auto.out)))
