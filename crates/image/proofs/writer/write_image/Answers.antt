-- `image::writer::write_image` meets its contract: what each body writer stores in the part that it is lent is stored in the buffer at that
-- offset (`sets_part`), and the parts together are the image (`stored_parts`).
use Prim.Native.Nat.{◌+◌, ◌*◌}
use mathlib.Core.Path.{◌≡◌, ◌∙◌}
use native.Mathlib.Omega.{arith}
use Rattle.machine.specs.Machine.{no_program}
use Rattle.image.specs.Bytes.{word, bodies}
use Rattle.image.specs.Description.{Description, shape as shape_of, program_bytes, pad}
use Rattle.image.proofs.Entries.{length_pad}
use Rattle.image.proofs.Stored.{returned, sets_part}
use Rattle.image.proofs.Writes.{stored_parts}
use Rattle.image.proofs.writer.write_image.Goals as goal

pub returns-clause-buf_after : goal.returns-clause-buf_after
returns-clause-buf_after c =
    let a = c.args in
    let n = a.counts.programs in
    let d : Description =
    record {
      pages = a.counts.pages;
      exponent = a.counts.exponent;
      fields = pad (2 * a.counts.pages) 0 a.fields.now;
      programs = pad n no_program a.table.now;
    } in
    let at : c.program_place-first.result ≡ 22 + 4 * d.pages = omega (arith, c.program_place-first.ensures) in
    let first = c.write_contents.new.out in
    let second = returned first 18 c.write_shape.new.out in
    let third = returned second 22 c.write_bodies.new.out in
    let shaped = sets_part first 18 (shape_of d.pages d.exponent n) _ c.write_shape.ensures in
    let paged = sets_part second 22 (bodies word d.fields) _ c.write_bodies.ensures in
    let whole = sets_part third c.program_place-first.result (bodies program_bytes d.programs) _ c.write_bodies-2.ensures in
    whole
    ∙ rw (paged, shaped, c.write_contents.ensures, at)
    (stored_parts d n a.buf.now (length_pad 0 (2 * d.pages) a.fields.now) (length_pad no_program n a.table.now))
