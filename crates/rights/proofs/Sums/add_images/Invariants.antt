-- The loop of `rights::Sums::add_images`: what the images that are left add gives what is promised, and no number has grown by more than four a byte. The measure is
-- how much is left of the input.
use Rattle.std.proofs.Common.{◌*◌, ◌-◌, ◌≤◌, ◌≡◌, length}
use Rattle.rights.specs.Site.{images_of}
use Rattle.rights.specs.Adding.{Within, with_images}
use Rattle.rights.proofs.Sums.add_images.Given as goal

abbrev pub invariant-loop-image : goal.invariant-loop-image
invariant-loop-image l =
    (length l.left ≤ length l.input) × Within (4 * (length l.input - length l.left)) l.self
    × (with_images l.self (images_of l.left) ≡ with_images l.fn.self (images_of l.input))

abbrev pub decreases-loop-image : goal.decreases-loop-image
decreases-loop-image l = length l.left
