-- Bytes stored in a buffer one after another are their join stored at once, also where a part of the buffer was lent for some of them.
use Prim.Native.Nat.{ℕ, zero, suc, ◌+◌, ◌*◌, ◌-◌, ◌≤◌, ◌<◌}
use mathlib.Core.Path.{◌≡◌, refl, ap, sym, ◌∙◌}
use mathlib.Core.List.{List, [], ◌∷◌, ◌++◌, append-nil}
use native.Mathlib.Nat.{mul-zero, mul-suc}
use native.Mathlib.Numerals.{add-one}
use native.Mathlib.Omega.{arith}
use lib.ListN.{length, get_or, set, take, drop, length-drop, drop_of_length-le}
use lib.Seq.{sets, length-sets, take_all, drop-cons}
use Rattle.image.specs.Bytes.{bodies}
use Rattle.image.specs.Description.{pad}
use Rattle.image.proofs.Entries.{length_pad, pad_at}

pub sets_append : (l : List ℕ) (i : ℕ) (s t : List ℕ) → sets (sets l i s) (i + length s) t ≡ sets l i (s ++ t)
sets_append l i [] t = grind arith
sets_append l i (x ∷ s) t = grind (arith, sets_append (set l i x) (suc i) s t)

-- the same where the place behind the first is known by an equation
pub sets_next : (l : List ℕ) (i next : ℕ) (s t : List ℕ) → next ≡ i + length s → sets (sets l i s) next t ≡ sets l i (s ++ t)
sets_next l i next s t e = rw e (sets_append l i s t)

sets_behind : (x : ℕ) (l : List ℕ) (i : ℕ) (s : List ℕ) → sets (x ∷ l) (suc i) s ≡ x ∷ sets l i s
sets_behind x l i [] = refl
sets_behind x l i (y ∷ s) = sets_behind x (set l i y) (suc i) s

sets_none : (i : ℕ) (s : List ℕ) → sets [] i s ≡ []
sets_none i [] = refl
sets_none i (y ∷ s) = sets_none (suc i) s

sets_from : (l : List ℕ) (at : ℕ) (s : List ℕ) → take at l ++ sets (drop at l) 0 s ≡ sets l at s
sets_from l zero s = refl
sets_from [] (suc at) s = simp sets_none
sets_from (x ∷ l) (suc at) s = grind (arith, sets_behind, sets_from l at s)

-- the part of a string of bytes from a place on, as a function has it that is lent this part
pub part_from : (l : List ℕ) (at : ℕ) → take (length l - at) (drop at l) ≡ drop at l
part_from l at = take_all (length l - at) (drop at l) (simp length-drop (omega arith))

-- a buffer whose part from a place on was lent, and came back as other bytes
abbrev pub returned : List ℕ → ℕ → List ℕ → List ℕ
returned l at part = take at l ++ (part ++ drop (length l - at) (drop at l))

-- what was stored from the part's first byte on is stored in the buffer at that place
pub sets_part : (l : List ℕ) (at : ℕ) (s part : List ℕ) → part ≡ sets (take (length l - at) (drop at l)) 0 s → returned l at part ≡ sets l at s
sets_part l at s part e =
    let none = drop_of_length-le (drop at l) {i = length l - at} (simp length-drop (omega arith)) in
    rw (e, part_from l at, none, append-nil) (sets_from l at s)

-- a loop that stores the bodies of a list in n places, one after another, each of one size
module _ {A : Type 0} (size : ℕ) (write : A → List ℕ) (z : A) (n : ℕ) (l : List A) (start : List ℕ) where
  -- what holds before body i: the bodies that are left, stored from here on, give the buffer that is promised
  pub record Storing (out : List ℕ) (i : ℕ) : Type 0 where
    pub within : i ≤ n
    pub long : length out ≡ length start
    pub rest : sets out (size * i) (bodies write (drop i (pad n z l))) ≡ sets start 0 (bodies write (pad n z l))

  pub storing_starts : Storing start 0
  storing_starts = record { within = omega arith; long = refl; rest = rw mul-zero }

  -- body i was stored at its place
  pub storing_next : ((x : A) → length (write x) ≡ size) → (out next : List ℕ) (i : ℕ) → Storing out i → i < n
      → next ≡ sets out (size * i) (write (get_or l i z)) → Storing next (i + 1)
  storing_next sized out next i left h e =
      let all = pad n z l in
      record {
        within = omega arith;
        long = ap length e ∙ length-sets out (size * i) (write (get_or l i z)) ∙ left.long;
        rest =
            rw (e, ← pad_at z n l i h, add-one)
            (sets_next out (size * i) (size * suc i) (write (get_or all i z)) (bodies write (drop (suc i) all))
            (omega (arith, mul-suc size i, sized (get_or all i z)))
            ∙ ap (λ (t : List A). sets out (size * i) (bodies write t)) (sym (drop-cons all i z (rw (length_pad z n l) h)))
            ∙ left.rest);
      }

  pub storing_ends : (out : List ℕ) (i : ℕ) → Storing out i → n ≤ i → out ≡ sets start 0 (bodies write (pad n z l))
  storing_ends out i left h = rw (drop_of_length-le (pad n z l) {i = i} (rw (length_pad z n l) h)) at left.rest

-- what the loop of `image::body::write_bodies` stands on
pub ruleset storing = (storing_starts, storing_next, storing_ends)
