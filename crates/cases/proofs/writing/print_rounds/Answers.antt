-- `cases::writing::print_rounds`: what the second round loads is what the first wrote (`first_written`).
use Rattle.std.proofs.Common.{sym, length-take-le}
use Rattle.cases.proofs.Rounds.{first_written}
use Rattle.cases.proofs.writing.print_rounds.Goals as goal

pub slice_bounds-print_round-end : goal.slice_bounds-print_round-end
slice_bounds-print_round-end g c = let round = c.in_ok-count.ensures in (first_written _ _ round.value round.buffer_after).0

pub slice_bounds-print_round-end-2 : goal.slice_bounds-print_round-end-2
slice_bounds-print_round-end-2 g c =
    let round = c.in_ok-count.ensures in
    sym (length-take-le c.in_ok-count.count c.print_round.new.buffer (first_written _ _ round.value round.buffer_after).0)
