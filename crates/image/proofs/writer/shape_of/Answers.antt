-- `image::writer::shape_of` meets its contract: a sound machine's counts are bytes.
use native.Mathlib.Omega.{arith}
use Rattle.machine.proofs.Sound.{sound_facts}
use Rattle.image.proofs.writer.shape_of.Goals as goal

pub overflow_cast-result : goal.overflow_cast-result
overflow_cast-result c = record { fits = omega (arith, (sound_facts c.args.machine.now c.requires).pages_most) }

pub overflow_cast-result-2 : goal.overflow_cast-result-2
overflow_cast-result-2 c = record { fits = omega (arith, (sound_facts c.args.machine.now c.requires).programs_most) }
