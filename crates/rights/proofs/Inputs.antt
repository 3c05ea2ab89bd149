-- Which images an input holds, in both directions: an input is read as images in exactly one way, whatever its bytes are. By induction on its length.
use Prim.Native.Nat.{ℕ, zero, suc, ◌+◌, ◌*◌, ◌≤◌, ◌<◌}
use mathlib.Core.Path.{◌≡◌, refl, sym, subst, ◌∙◌}
use mathlib.Core.Bool.{Bool, true, false}
use mathlib.Core.List.{List, [], ◌∷◌, ◌++◌}
use mathlib.Core.Logic.{◌↔◌}
use native.Mathlib.Omega.{arith}
use borrow.Author.Tests.{leb-true, leb-false}
use lib.Dec.{leb}
use lib.ListN.{length, take, drop, length-append, length-drop, take-append-drop}
use lib.Seq.{length-take-le, take_at, drop_at}
use Rattle.image.specs.Bytes.{word_of}
use Rattle.rights.specs.Site.{Image, Whole, Cut, images_past, images_of}
use Rattle.rights.proofs.Images.{first_cut, first_whole}

-- RULES 13.2: what an input holds: nothing; one byte, which is an image that is cut; a length of which fewer bytes follow, which is one too; or a length, as many
-- bytes, which are an image, and behind them what the rest of the input holds
pub data ReadAs : (input : List ℕ) (images : List Image) → Type 0 where
  empty : ReadAs [] []
  left_over : {byte : ℕ} → ReadAs (byte ∷ []) (Cut ∷ [])
  cut : {high low : ℕ} {left : List ℕ} → length left < 256 * high + low → ReadAs (high ∷ low ∷ left) (Cut ∷ [])
  whole : {high low : ℕ} {bytes rest : List ℕ} {images : List Image} → length bytes ≡ 256 * high + low → ReadAs rest images
      → ReadAs (high ∷ low ∷ (bytes ++ rest)) (Whole bytes ∷ images)

held_read : {input : List ℕ} {images : List Image} → ReadAs input images → images_of input ≡ images
unfolding images_past
held_read empty = refl
held_read left_over = refl
held_read (cut {high} {low} {left} few) = first_cut (high ∷ low ∷ left) (omega arith) (omega arith)
held_read (whole {high} {low} {bytes} {rest} long more) =
    first_whole (high ∷ low ∷ (bytes ++ rest)) (omega (arith, length-append bytes rest))
    ∙ rw (take_at bytes rest (word_of high low) long, drop_at bytes rest (word_of high low) long, held_read more)

-- what is read is held, in an input of at most so many bytes
read_held : (most : ℕ) (input : List ℕ) → length input ≤ most → ReadAs input (images_of input)
unfolding images_past
read_held zero [] h = empty
read_held zero (byte ∷ left) h = absurd (omega arith)
read_held (suc most) [] h = empty
read_held (suc most) (byte ∷ []) h = left_over
read_held (suc most) (high ∷ low ∷ left) h =
    split (leb (word_of high low) (length left)) refl (λ (within : length (drop (word_of high low) left) ≤ most). read_held most (drop (word_of high low) left) within)
  where
    split : (t : Bool) → leb (word_of high low) (length left) ≡ t
        → (length (drop (word_of high low) left) ≤ most → ReadAs (drop (word_of high low) left) (images_of (drop (word_of high low) left)))
        → ReadAs (high ∷ low ∷ left) (images_of (high ∷ low ∷ left))
    split true e rest =
        let enough = leb-true (word_of high low) (length left) e in
        let front = take (word_of high low) left in
        let back = drop (word_of high low) left in
        subst (λ (s : List ℕ). ReadAs (high ∷ low ∷ s) (images_of (high ∷ low ∷ left))) (take-append-drop (word_of high low) left)
        (subst (λ (images : List Image). ReadAs (high ∷ low ∷ (front ++ back)) images) (sym (first_whole (high ∷ low ∷ left) (omega (arith, enough))))
        (whole (length-take-le (word_of high low) left enough) (rest (omega (arith, length-drop (word_of high low) left)))))
    split false e rest =
        let few = leb-false (word_of high low) (length left) e in
        subst (λ (images : List Image). ReadAs (high ∷ low ∷ left) images) (sym (first_cut (high ∷ low ∷ left) (omega arith) (omega (arith, few)))) (cut few)

-- RULES 13.2: the images of an input are those that it holds, and no others
pub images_exactly : (input : List ℕ) (images : List Image) → (images_of input ≡ images) ↔ ReadAs input images
images_exactly input images = (
  (λ e. subst (λ (read : List Image). ReadAs input read) e (read_held (length input) input (omega arith))),
  held_read,
)
