-- `cases::buffer`: so many zeros are as long as they are many. Said for any number, since at this one a check would count them one by one.
use Rattle.std.proofs.Common.{◌≡◌, ℕ, sym, length, replicate}
use Rattle.std.proofs.lemmas.List.{length-replicate}
use Rattle.cases.proofs.buffer.Goals as goal

zeros_long : (n byte : ℕ) → n ≡ length (replicate n byte)
zeros_long n byte = sym (length-replicate n byte)

pub returns : goal.returns
returns c = zeros_long 524288 0
