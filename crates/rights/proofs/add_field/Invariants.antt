-- `rights::add_field`'s loop: the domains below s are added, the rest of the column is as it was.
use Rattle.rights.proofs.Field.{AddedBelow}
use Rattle.rights.proofs.add_field.Given as goal

abbrev pub invariant-loop-s : goal.invariant-loop-s
invariant-loop-s l = AddedBelow l.fn.column l.field l.s l.column
