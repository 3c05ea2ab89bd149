-- What the program asks: which machine, and which pairs (RULES 12.7).
use Rattle.std.specs.Prelude.{ℕ, ◌+◌, ◌*◌, ◌/◌, List, eqb, length}
use Rattle.rules.specs.Refusals.{pick}
use Rattle.machine.specs.Machine.{zero}
use Rattle.machine.specs.Calls.{call_of, silent}
use Rattle.machine.specs.declared.record.Answered.{Answered}
use Rattle.machine.specs.declared.record.Call.TheVariants.{Enter, Switch, Return}
use Rattle.image.specs.Bytes.{word_at, entries}
use Rattle.image.specs.Load.{load_of}

-- RULES 12.7: the node is started on a program: it is loaded, and a turn of the program begins. Where the image or the program is refused, that number stands beside the
-- all-zero machine.
unfoldable pub started_of : (image : List ℕ) (program : ℕ) → Answered
started_of image program =
    let loaded = load_of image in
    let switch = call_of (call_of loaded.machine Enter).machine (Switch program) in
    pick (eqb loaded.number 0) (pick (eqb switch.number 0) (call_of switch.machine Return) (silent switch.number zero)) loaded

-- RULES 12.1, 12.7: the pair at a place: two bytes for the right, then two for the page
abbrev pub pair_at : List ℕ → ℕ → ℕ
pair_at bytes at = 65536 * word_at bytes at + word_at bytes (2 + at)

-- RULES 12.7: the pairs of a string of bytes, four bytes each
abbrev pub pairs_of : List ℕ → List ℕ
pairs_of bytes = entries 4 (pair_at bytes) 0 (length bytes / 4)
