-- For `masks::any_unmet`: what was found and the needs that are left decide.
use Rattle.std.proofs.Common.{◌≡◌, drop}
use mathlib.Core.Bool.{◌||◌}
use Rattle.machine.specs.Calls.{any}
use Rattle.masks.specs.Search.{is_unmet}
use Rattle.masks.proofs.any_unmet.Given as goal

abbrev pub invariant-loop-need : goal.invariant-loop-need
invariant-loop-need l = l.some || any (is_unmet l.set) (drop l.need-index l.needs) ≡ any (is_unmet l.set) l.needs
