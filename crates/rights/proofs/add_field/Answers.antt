-- `rights::add_field` meets its contract: each turn of the loop adds one domain, and the total comes last.
use Rattle.std.proofs.Common.{rules, arith}
use Rattle.rules.proofs.Counted.{counted_most}
use Rattle.rights.proofs.Field.{adding_ends}
use Rattle.rights.proofs.add_field.Goals as goal

pub overflow_add-column-2 : goal.overflow_add-column-2
overflow_add-column-2 c =
    let l = c.loop-s in
    omega (arith, c.requires.most 16, l.invariant.left 16 l.auto.s-end, c.domain_count.ensures, counted_most 16 c.args.field)

pub returns : goal.returns
returns c =
    let l = c.loop-s in
    rw c.domain_count.ensures (adding_ends c.args.column.now c.args.field l.s l.column c.requires.places l.auto.s-end (search rules) l.invariant)
