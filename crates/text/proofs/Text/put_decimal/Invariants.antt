-- The loop of `text::Text::put_decimal`: the digits for the powers so far are put, and there is room for one digit a power that is left, and the last.
use Prim.Native.Nat.{◌-◌}
use lib.ListN.{take}
use Rattle.text.specs.Writing.{HasRoom, Wrote}
use Rattle.text.proofs.Puts.{leading_digits}
use Rattle.text.proofs.Text.put_decimal.Given as goal

abbrev pub invariant-loop-power : goal.invariant-loop-power
invariant-loop-power l =
    HasRoom (5 - l.power-index) l.self × Wrote l.initial.self l.self (leading_digits l.n (take l.power-index l.power-items))
