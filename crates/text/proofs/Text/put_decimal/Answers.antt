-- `text::Text::put_decimal` meets its contract: past the last power the last digit is left.
use native.Mathlib.Omega.{arith}
use mathlib.Core.Path.{◌≡◌}
use Rattle.text.specs.Text.{decimal_of}
use Rattle.text.proofs.Puts.{wrote_then}
use Rattle.text.proofs.Text.put_decimal.Goals as goal

pub returns : goal.returns
unfolding decimal_of
returns c =
    let l = c.loop-power in
    let last : l.power-index ≡ 4 = omega arith in
    wrote_then (rw last at l.invariant.1) c.put_byte.ensures
