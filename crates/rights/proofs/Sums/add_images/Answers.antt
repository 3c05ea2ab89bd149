-- `rights::Sums::add_images` meets its contract: each turn adds the image that stands first, and one that is cut is the last one.
use Rattle.std.proofs.Common.{arith, sym, ◌∙◌}
use Rattle.rights.specs.Site.{Whole, images_of}
use Rattle.rights.proofs.Images.{images_then, images_most, larger_within, cut_last}
use Rattle.rights.proofs.Sums.add_images.Goals as goal

pub loop-image-preserved : goal.loop-image-preserved
loop-image-preserved c =
    let l = c.loop-image in
    let image = c.in-Some.image.now in
    let split = c.in-Some.ensures in (
      omega (arith, split.sizes, l.invariant.0),
      rw c.add_image.ensures (larger_within _ (images_most _ l.self image l.invariant.1) (omega (arith, split.sizes, l.invariant.0))),
      rw (c.add_image.ensures, images_then l.self (Whole image) (images_of c.in-Some.rest.now)) (rw split.images at l.invariant.2),
    )

pub returns : goal.returns
returns c =
    let l = c.loop-image in
    rw (c.from.ensures, c.is_empty.ensures) (sym (cut_last l.self l.left.now c.in_default.ensures) ∙ l.invariant.2)
