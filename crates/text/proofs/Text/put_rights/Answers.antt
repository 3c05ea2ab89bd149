-- `text::Text::put_rights` meets its contract: whether anything was counted says which text it is.
use mathlib.Core.Path.{◌≡◌, ap, sym, ◌∙◌}
use mathlib.Core.Bool.{true, false}
use Rattle.rights.specs.Counted.{Counted}
use Rattle.rights.specs.Site.{is_long}
use Rattle.text.specs.Rights.{rights_text}
use Rattle.text.proofs.Sums.{counted_text, counted_long}
use Rattle.text.proofs.Text.put_rights.Goals as goal

pub returns-in-None : goal.returns-in-None
unfolding rights_text
returns-in-None c =
    let input = c.args.input.now in
    let long : is_long input ≡ true = sym (ap (λ (all : Counted). all.long) c.in-None.ensures ∙ counted_long input) in
    rw long c.put_bytes.ensures

pub returns-in-Some : goal.returns-in-Some
unfolding rights_text
returns-in-Some c =
    let input = c.args.input.now in
    let short : is_long input ≡ false = sym (ap (λ (all : Counted). all.long) c.in-Some.ensures ∙ counted_long input) in
    rw (short, ← counted_text input short, ← c.in-Some.ensures) c.put_counted.ensures
