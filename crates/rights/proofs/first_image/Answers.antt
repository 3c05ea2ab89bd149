-- `rights::first_image` meets its contract: a length and as many bytes as it says are an image, and fewer are one that is cut.
use Rattle.std.proofs.Common.{arith, ◌+◌, ◌-◌, ◌≡◌, ◌∙◌, length, take, drop, length-drop, MatchOption, Option, None, Some}
use Rattle.std.proofs.lemmas.List.{take_rest}
use Rattle.image.specs.Bytes.{word_at}
use Rattle.rights.proofs.Images.{cut_first, split_first}
use Rattle.rights.proofs.first_image.Goals as goal

-- what holds in each case may be said in other words
each_case : {X P P' : Type 0} {Q Q' : X → Type 0} (r : Option X) → (P → P') → ((x : X) → Q x → Q' x) → MatchOption r P Q → MatchOption r P' Q'
each_case None none some h = none h
each_case (Some x) none some h = some x h

pub returns-in_default : goal.returns-in_default
returns-in_default c = cut_first c.args.left.now (omega (arith, c.in_default.len_below))

pub returns-in-len2-up : goal.returns-in-len2-up
returns-in-len2-up c =
    let left = c.args.left.now in
    let declared : c.from.result ≡ word_at left 0 = c.from.ensures ∙ c.word_of.ensures in
    let behind : take (length left - 2) (drop 2 left) ≡ drop 2 left = take_rest left 2 in
    let long : length (drop 2 left) + 2 ≡ length left = omega (arith, length-drop 2 left, c.in-len2-up.len_at_least) in
    each_case c.split_at_checked.result
    (λ few. cut_first left (omega (arith, rw behind at few, declared, long)))
    (λ split so. split_first left (omega (arith, rw behind at so.0, declared, long)) (rw (behind, declared) at so.1) (rw (behind, declared) at so.2))
    c.split_at_checked.ensures.cases
