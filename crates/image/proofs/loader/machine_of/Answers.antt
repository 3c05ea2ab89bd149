-- `image::loader::machine_of` meets its contract: the record of what was read; its live registers are the table's first.
use Prim.Native.Nat.{◌+◌, ◌*◌}
use mathlib.Core.Path.{◌≡◌}
use native.Mathlib.Omega.{arith}
use Rattle.machine.specs.Machine.{no_program}
use Rattle.image.specs.Description.{machine_of}
use Rattle.image.specs.Load.{describe, page_count, program_at, program_count, programs_of}
use Rattle.image.proofs.Entries.{length_entries, pad_at}
use Rattle.image.proofs.loader.machine_of.Goals as goal

pub returns : goal.returns
unfolding machine_of describe
returns c =
    let s = c.args.bytes.now in
    let shape = c.shape_at-shape.ensures in
    let first : c.program_place-first.result ≡ 22 + 4 * page_count s = omega (arith, c.program_place-first.ensures) in
    rw (
      c.read_bodies-table.ensures,
      c.read_bodies.ensures,
      c.zero.ensures,
      first,
      shape.pages,
      shape.exponent,
      shape.programs,
      pad_at no_program 8 (programs_of s) 0 (omega arith),
      length_entries 5 (program_at s) (22 + 4 * page_count s) (program_count s),
    )
