-- `rightsum::main`: the text that it writes stands in the buffer (`rights_answer_fits`).
use Rattle.std.proofs.Common.{sym, arith, length-take-le}
use Rattle.text.proofs.Sums.{rights_answer_fits}
use Rattle.rightsum.proofs.main.Goals as goal

pub slice_bounds-text-end : goal.slice_bounds-text-end
slice_bounds-text-end c = let called = c.rights_text-size in omega (arith, rights_answer_fits _ _ called.ensures, called.auto.out)

pub slice_bounds-write_all-end : goal.slice_bounds-write_all-end
slice_bounds-write_all-end c =
    let called = c.rights_text-size in
    sym (length-take-le called.result called.new.out (omega (arith, rights_answer_fits _ _ called.ensures, called.auto.out)))
