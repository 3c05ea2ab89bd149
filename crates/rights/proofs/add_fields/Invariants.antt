-- `rights::add_fields`'s loop: what the fields that are left add gives the column that is promised, and its numbers have grown by at most sixteen a page.
use Rattle.std.proofs.Common.{ℕ, ◌+◌, ◌*◌, ◌-◌, ◌≡◌}
use Rattle.machine.specs.Machine.{place_of}
use Rattle.image.specs.Bytes.{entries}
use Rattle.image.specs.Load.{field_at}
use Rattle.rights.specs.Adding.{added, Column}
use Rattle.rights.proofs.add_fields.Given as goal

abbrev pub invariant-loop-page : goal.invariant-loop-page
invariant-loop-page l =
    let read : ℕ → ℕ = λ p. field_at l.bytes (22 + 2 * place_of l.right p) in
    Column (1000000 + 16 * l.page) l.column
    × (added l.column (entries 1 read l.page (l.pages - l.page)) ≡ added l.fn.column (entries 1 read 0 l.pages))
