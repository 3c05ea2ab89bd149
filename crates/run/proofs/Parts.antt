-- Where the calls of an input start, as a number: what is left from there on are its call bytes, also where the input ends before.
use Prim.Native.Nat.{ℕ, ◌+◌, ◌≤◌, ◌<◌, min}
use mathlib.Core.Path.{◌≡◌, refl, ap, sym, ◌∙◌}
use mathlib.Core.List.{List}
use mathlib.Core.Bool.{Bool, true, false}
use borrow.Author.Tests.{leb-true, leb-false}
use native.Mathlib.Nat.{le_refl}
use lib.Dec.{leb}
use native.Mathlib.Omega.{arith}
use lib.ListN.{length, drop, drop_of_length-le}
use lib.Seq.{drop-drop}
use Rattle.image.specs.Bytes.{word_at}
use Rattle.run.specs.Run.{call_bytes}

-- what does not change past a size is the same at the least of a number and that size as at the number
least_same : {A : Type 0} (f : ℕ → A) (k n size : ℕ) → ((j : ℕ) → size ≤ j → f j ≡ f size) → k ≡ min n size → f k ≡ f n
least_same f k n size past e = split (leb n size) refl
  where
    split : (b : Bool) → leb n size ≡ b → f k ≡ f n
    split true within = let h = leb-true n size within in ap f (omega arith)
    split false beyond =
        let h = leb-false n size beyond in
        let ends : k ≡ size = omega arith in
        ap f ends ∙ sym (past n (omega arith))

pub drop_least : (k n : ℕ) (l : List ℕ) → k ≡ min n (length l) → drop k l ≡ drop n l
drop_least k n l =
    least_same (λ j. drop j l) k n (length l)
    (λ j h. drop_of_length-le l h ∙ sym (drop_of_length-le l (le_refl (length l))))

pub calls_part : (input : List ℕ) {end : ℕ} → end ≡ min (2 + word_at input 0) (length input) → drop end input ≡ call_bytes input
calls_part input ends = drop_least _ (2 + word_at input 0) input ends ∙ sym (drop-drop (word_at input 0) 2 input)
