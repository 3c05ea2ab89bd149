-- `kernel::serve_all`: a request more is `one_more`, and after the last none is left.
use Rattle.std.proofs.Common.{◌≡◌, sym, ◌∙◌, arith, [], drop, add-zero, eqb}
use Rattle.rules.specs.Refusals.{pick}
use lib.ListN.{drop_of_length-le}
use Rattle.kernel.specs.Kernel.{served_of}
use Rattle.kernel.proofs.Requests.{one_more, counted}
use Rattle.kernel.proofs.serve_all.Goals as goal

pub loop-request-preserved : goal.loop-request-preserved
loop-request-preserved c =
    let l = c.loop-request in
    let refusal = counted c.serve-answered.result.number in
    let counts : c.from.result ≡ pick (eqb c.serve-answered.result.number 0) 0 1 = c.from.ensures ∙ refusal.0 in
    record {
      few = omega (arith, counts, refusal.1, l.invariant.few);
      whole =
          rw (counts, c.serve-answered.ensures)
          (sym (one_more l.served.machine c.args.requests.now l.request-index l.served.refused _ c.loop-request-test.true) ∙ l.invariant.whole);
    }

pub returns : goal.returns
unfolding served_of
returns c =
    let l = c.loop-request in
    let requests = c.args.requests.now in
    let none : drop l.request-index requests ≡ [] = drop_of_length-le requests (omega arith) in
    simp add-zero at (rw none at l.invariant.whole)
