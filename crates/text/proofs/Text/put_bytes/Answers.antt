-- `text::Text::put_bytes` meets its contract: what is copied into the part behind the text is stored there.
use mathlib.Core.Path.{refl}
use Rattle.text.proofs.Puts.{mid_stored}
use Rattle.text.proofs.Text.put_bytes.Goals as goal

pub returns : goal.returns
returns c =
    let a = c.args.self.now in
    record { buffer = refl; put = record { stored = rw c.copy_from_slice.ensures.after (mid_stored a.out.now c.args.bytes.now a.size c.requires); next = refl } }
