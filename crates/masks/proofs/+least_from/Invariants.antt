-- For `masks::least_from`: the measure is the set of domains that are left, as a number. Each call takes the last of them out.
use Rattle.masks.proofs.+least_from.Given as goal

abbrev pub decreases-least_from : goal.decreases-least_from
decreases-least_from l = l.rest
