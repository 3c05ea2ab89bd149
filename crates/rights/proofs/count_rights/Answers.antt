-- `rights::count_rights` meets its contract: what the images add to columns of zeros are the counts and totals.
use Rattle.std.proofs.Common.{lt-ltb, le-ltb, zero-add}
use Rattle.rights.specs.Site.{images_of, counted_of}
use Rattle.rights.proofs.Totals.{column_counted}
use Rattle.rights.proofs.count_rights.Goals as goal

pub returns-then-input-gt32768 : goal.returns-then-input-gt32768
unfolding counted_of
returns-then-input-gt32768 c = rw (lt-ltb _ _ c.if-input-gt32768.true)

pub returns : goal.returns
unfolding counted_of
returns c =
    let images = images_of c.args.input.now in
    rw (le-ltb _ _ c.if-input-gt32768.false, c.add_images.ensures, column_counted 0 images, column_counted 1 images, zero-add)
