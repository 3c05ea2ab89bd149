-- Writing an image: when each number comes, and what is then in the buffer. The parts, each stored from its own offset on, are the image.
use Prim.Native.Nat.{ℕ, ◌+◌, ◌*◌, ◌-◌, ◌≤◌, ◌<◌}
use mathlib.Core.Path.{◌≡◌, refl, ap, sym, ◌∙◌, subst}
use mathlib.Core.Bool.{Bool, true, false, not, ◌&&◌}
use mathlib.Core.List.{List, [], ◌∷◌, ◌++◌}
use borrow.Author.Tests.{eqb-true, eqb-false, ltb-true, ltb-false, ne_eqb}
use native.Mathlib.Omega.{arith}
use native.Mathlib.Nat.{zero-add}
use lib.Dec.{eqb, ltb}
use lib.ListN.{length, get_or, drop, set, length-append, length-drop}
use lib.Seq.{sets, sets-eq, get_or-append-add, get_or-drop}
use Rattle.rules.specs.Refusals.{first, pick}
use Rattle.machine.specs.Machine.{is_sound, no_program}
use Rattle.machine.specs.declared.record.Machine.{Machine}
use Rattle.machine.specs.declared.record.Program.{Program}
use Rattle.image.specs.Bytes.{word, bodies}
use Rattle.image.specs.Description.{Description, contents, shape, program_bytes, bytes_of, pad}
use Rattle.image.specs.Write.{entry_of, counted_fields, description_of, image_for, is_at_rest, write_checks, written_bytes, written_of, buffer_after}
use Rattle.image.proofs.Entries.{length_pad}
use Rattle.image.proofs.Reread.{length_bodies, bytes_length}
use Rattle.image.proofs.Stored.{sets_next}

-- the parts of an image, each stored from its own offset on, are the image stored from the first byte on
pub stored_parts : (d : Description) (n : ℕ) (buffer : List ℕ) → length d.fields ≡ 2 * d.pages → length d.programs ≡ n
    → sets (sets (sets (sets buffer 0 (contents d.pages n)) 18 (shape d.pages d.exponent n)) 22 (bodies word d.fields))
    (22 + 4 * d.pages) (bodies program_bytes d.programs)
    ≡ sets buffer 0 (bytes_of d)
unfolding bytes_of
stored_parts d n buffer two_fields programs =
    let c = contents d.pages n in
    let s = shape d.pages d.exponent n in
    let f = bodies word d.fields in
    let p = bodies program_bytes d.programs in
    let end : 22 + 4 * d.pages ≡ 22 + length f = rw (length_bodies 2 word (λ w. refl) d.fields, two_fields) (omega arith) in
    rw programs
    (sets_next (sets (sets buffer 0 c) 18 s) 22 (22 + 4 * d.pages) f p end
    ∙ sets_next (sets buffer 0 c) 18 22 s (f ++ p) refl
    ∙ sets_next buffer 0 18 c (s ++ (f ++ p)) refl)

-- RULES 5.14: how many bytes the image of a machine has, sound or not
abbrev pub size : Machine → ℕ
size m = 22 + 4 * m.pages + 5 * m.programs

pub image_length : (m : Machine) → length (image_for m) ≡ size m
unfolding description_of
image_length m =
    bytes_length (description_of m) (length_pad 0 (2 * m.pages) m.fields)
    ∙ rw (length_pad no_program m.programs (entry_of m.registers ∷ drop 1 m.table))

set_first : {A : Type 0} (l : List A) (x : A) → 1 ≤ length l → set l 0 x ≡ x ∷ drop 1 l
set_first [] x h = absurd (omega arith)
set_first (y ∷ l) x h = refl

-- the image of a machine from its parts: the live registers stored in the table's first place
pub image_parts : (m : Machine) (table : List Program) → table ≡ set m.table 0 (entry_of m.registers) → 1 ≤ length m.table
    → bytes_of (record { pages = m.pages; exponent = m.exponent; fields = counted_fields m; programs = pad m.programs no_program table })
    ≡ image_for m
unfolding description_of
image_parts m table e h = rw (e, set_first m.table (entry_of m.registers) h)

-- a machine that can be written: sound, program 0 runs, no mode is saved, and the flag is clear
pub record Ready (m : Machine) : Type 0 where
  pub sound : is_sound m ≡ true
  pub runs_first : m.current ≡ 0
  pub no_depth : m.depth ≡ 0
  pub flag_clear : m.registers.pending ≡ false

-- RULES 5.15: when writing into so many bytes gives a number
pub data Gives (m : Machine) (room : ℕ) : ℕ → Type 0 where
  not_sound : is_sound m ≡ false → Gives m room 1
  other_runs : is_sound m ≡ true → (m.current ≡ 0 → ⊥) → Gives m room 26
  mode_saved : is_sound m ≡ true → (m.depth ≡ 0 → ⊥) → Gives m room 26
  flag_set : is_sound m ≡ true → m.registers.pending ≡ true → Gives m room 26
  too_short : Ready m → room < size m → Gives m room 27
  done : Ready m → size m ≤ room → Gives m room 0

module _ (m : Machine) (room : ℕ) where
  abbrev is_short : Bool
  is_short = ltb room (length (image_for m))

  by_room : Ready m → (b : Bool) → is_short ≡ b → Gives m room (pick b 27 0)
  by_room ready true e = too_short ready (omega (arith, ltb-true room (length (image_for m)) e, image_length m))
  by_room ready false e = done ready (omega (arith, ltb-false room (length (image_for m)) e, image_length m))

  by_rest : is_sound m ≡ true → (a b f : Bool) → eqb m.current 0 ≡ a → eqb m.depth 0 ≡ b → m.registers.pending ≡ f
      → Gives m room (pick (not (a && b && not f)) 26 (pick is_short 27 0))
  by_rest s false b f h i j = other_runs s (eqb-false m.current 0 h)
  by_rest s true false f h i j = mode_saved s (eqb-false m.depth 0 i)
  by_rest s true true true h i j = flag_set s j
  by_rest s true true false h i j =
      by_room
      (record { sound = s; runs_first = eqb-true m.current 0 h; no_depth = eqb-true m.depth 0 i; flag_clear = j })
      is_short refl

  by_soundness : (b : Bool) → is_sound m ≡ b
      → Gives m room (pick (not b) 1 (pick (not (is_at_rest m)) 26 (pick is_short 27 0)))
  by_soundness false h = not_sound h
  by_soundness true h = by_rest h (eqb m.current 0) (eqb m.depth 0) m.registers.pending refl refl refl

  gives : Gives m room (first (write_checks m room))
  unfolding write_checks
  gives = by_soundness (is_sound m) refl

  given : {n : ℕ} → Gives m room n → first (write_checks m room) ≡ n
  unfolding write_checks
  given (not_sound h) = grind arith
  given (other_runs s h) = grind arith
  given (mode_saved s h) = grind arith
  given (flag_set s h) = grind arith
  given (too_short r h) = grind (arith, image_length)
  given (done r h) = grind (arith, image_length)

  -- what is known where the number is 0
  pub ready : first (write_checks m room) ≡ 0 → Ready m × (size m ≤ room)
  ready accepted = of (first (write_checks m room)) gives accepted
    where
      of : (n : ℕ) → Gives m room n → n ≡ 0 → Ready m × (size m ≤ room)
      of n (not_sound h) e = absurd (omega arith)
      of n (other_runs s h) e = absurd (omega arith)
      of n (mode_saved s h) e = absurd (omega arith)
      of n (flag_set s h) e = absurd (omega arith)
      of n (too_short r h) e = absurd (omega arith)
      of n (done r h) e = (r, h)

  -- RULES 5.15: each number comes where its condition says, and nowhere else; there are no others
  pub number_exactly : (n : ℕ) → ((written_of m room).number ≡ n → Gives m room n) × (Gives m room n → (written_of m room).number ≡ n)
  unfolding written_of
  number_exactly n = ((λ e. subst (Gives m room) e gives), given)

-- what is written, and the buffer after it, where nothing refuses
module _ (m : Machine) (buffer : List ℕ) (accepted : first (write_checks m (length buffer)) ≡ 0) where
  pub image_written : written_bytes m (length buffer) ≡ image_for m
  unfolding written_bytes
  image_written = rw accepted

  -- the number, and how many bytes
  pub done_answer : written_of m (length buffer) ≡ record { number = 0; count = size m }
  unfolding written_of
  done_answer = rw (accepted, image_written, image_length m)

  pub done_buffer : buffer_after m buffer ≡ sets buffer 0 (image_for m)
  unfolding buffer_after
  done_buffer =
      let image = image_for m in
      rw image_written
      (ap (λ (n : ℕ). image ++ drop n buffer) (sym (zero-add (length image)))
      ∙ sym (sets-eq image buffer 0 (omega (arith, image_length m, (ready m (length buffer) accepted).1))))

-- and where something does
module _ (m : Machine) (buffer : List ℕ) (refused : eqb (first (write_checks m (length buffer))) 0 ≡ false) where
  nothing_written : written_bytes m (length buffer) ≡ []
  unfolding written_bytes
  nothing_written = rw refused

  pub refused_answer : written_of m (length buffer) ≡ record { number = first (write_checks m (length buffer)); count = 0 }
  unfolding written_of
  refused_answer = rw nothing_written

  pub refused_buffer : buffer_after m buffer ≡ buffer
  unfolding buffer_after
  refused_buffer = rw nothing_written

-- RULES 5.16: whatever refuses, no byte is written and the whole buffer is as it was
pub refused_keeps : (m : Machine) (buffer : List ℕ) → ((written_of m (length buffer)).number ≡ 0 → ⊥)
    → ((written_of m (length buffer)).count ≡ 0) × (buffer_after m buffer ≡ buffer)
unfolding written_of
refused_keeps m buffer refused =
    let not-zero = ne_eqb (first (write_checks m (length buffer))) 0 refused in
    (ap length (nothing_written m buffer not-zero), refused_buffer m buffer not-zero)

-- RULES 5.16: what is written fits, so that a buffer keeps its length, and the bytes past the count stay
pub buffer_kept : (m : Machine) (buffer : List ℕ)
    → (length (buffer_after m buffer) ≡ length buffer)
    × ((i : ℕ) → (written_of m (length buffer)).count ≤ i → get_or (buffer_after m buffer) i 0 ≡ get_or buffer i 0)
unfolding buffer_after written_of
buffer_kept m buffer =
    let written = written_bytes m (length buffer) in
    let most = split (eqb (first (write_checks m (length buffer))) 0) refl in (
      simp (length-append, length-drop) (omega (arith, most)),
      λ i past.
          let e : i ≡ length written + (i - length written) = omega arith in
          rw e (get_or-append-add written (drop (length written) buffer) (i - length written) 0 ∙ get_or-drop (length written) buffer (i - length written) 0),
    )
  where
    split : (b : Bool) → eqb (first (write_checks m (length buffer))) 0 ≡ b → length (written_bytes m (length buffer)) ≤ length buffer
    split true e =
        let accepted = eqb-true (first (write_checks m (length buffer))) 0 e in
        rw (image_written m buffer accepted) (omega (arith, image_length m, (ready m (length buffer) accepted).1))
    split false e = rw (nothing_written m buffer e) (omega arith)

-- what `image::writer::write` stands on, beside the numbers of the refusals
pub ruleset writing = (ready, image_parts, done_answer, done_buffer, refused_answer, refused_buffer)
