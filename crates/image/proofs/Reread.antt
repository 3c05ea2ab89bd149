-- What is written is read again: the bytes of a description whose counts are in range say that description, and nothing refuses them.
use Prim.Native.Nat.{ℕ, ◌+◌, ◌*◌}
use mathlib.Core.Path.{◌≡◌, refl, ap, sym, ◌∙◌}
use mathlib.Core.Bool.{true}
use mathlib.Core.List.{List, [], ◌∷◌, ◌++◌, map, map-id, append_assoc, append-nil}
use native.Mathlib.Omega.{arith}
use native.Mathlib.Nat.{mul-suc, mul-zero}
use lib.ListN.{length, length-append}
use lib.Seq.{get_or-append-add}
use Rattle.rules.specs.declared.registers.Mode.{Mode}
use Rattle.rules.specs.declared.registers.Mode.TheVariants.{User, Privileged}
use Rattle.machine.specs.Calls.{mode_of}
use Rattle.machine.specs.declared.record.Program.{Program}
use Rattle.image.specs.Bytes.{byte_at, word, entries, bodies}
use Rattle.image.specs.Description.{Description, Shaped, contents, shape, mode_byte, program_bytes, bytes_of}
use Rattle.image.specs.Load.{field_at, program_at, mode_at, are_modes, describe}
use Rattle.image.proofs.Passed.{Passed}

-- a byte past a first part of a string is a byte of the rest
past : (p t : List ℕ) (k at : ℕ) → at ≡ length p + k → byte_at (p ++ t) at ≡ byte_at t k
past p t k at e = rw (e, get_or-append-add p t k 0)

field_read : (p t : List ℕ) (w : ℕ) → field_at (p ++ (word w ++ t)) (length p) ≡ w
field_read p t w =
    let u = word w ++ t in
    rw (past p u 0 (length p) (omega arith), past p u 1 (1 + length p) (omega arith)) (omega arith)

mode_read : (mode : Mode) → mode_of (mode_byte mode) ≡ mode
mode_read User = refl
mode_read Privileged = refl

program_read : (p t : List ℕ) (x : Program) → program_at (p ++ (program_bytes x ++ t)) (length p) ≡ x
program_read p t x =
    let u = program_bytes x ++ t in
    let n = length p in
    rw (
      past p u 0 n (omega arith),
      past p u 1 (1 + n) (omega arith),
      past p u 2 (2 + n) (omega arith),
      past p u 3 (1 + (2 + n)) (omega arith),
      past p u 4 (4 + n) (omega arith),
      mode_read x.mode,
    )
    (grind arith)

-- bodies of one size
module _ {A : Type 0} (size : ℕ) (write : A → List ℕ) (sized : (x : A) → length (write x) ≡ size) where
  pub length_bodies : (l : List A) → length (bodies write l) ≡ size * length l
  length_bodies [] = sym (mul-zero size)
  length_bodies (x ∷ l) = rw (length-append, sized x, length_bodies l, mul-suc) (omega arith)

  entries_read : {B : Type 0} (value : A → B) (read : List ℕ → ℕ → B)
      → ((p t : List ℕ) (x : A) → read (p ++ (write x ++ t)) (length p) ≡ value x)
      → (p t : List ℕ) (l : List A)
      → entries size (read (p ++ (bodies write l ++ t))) (length p) (length l) ≡ map value l
  entries_read value read back p t [] = refl
  entries_read value read back p t (x ∷ l) =
      let b = bodies write l in
      let here : p ++ (write x ++ b ++ t) ≡ p ++ (write x ++ (b ++ t)) = rw append_assoc in
      let there : p ++ (write x ++ b ++ t) ≡ p ++ write x ++ (b ++ t) = simp append_assoc in
      let next : size + length p ≡ length (p ++ write x) = rw (length-append, sized x) (omega arith) in
      let head : read (p ++ (write x ++ b ++ t)) (length p) ≡ value x = rw here (back p (b ++ t) x) in
      let tail : entries size (read (p ++ (write x ++ b ++ t))) (size + length p) (length l) ≡ map value l =
      rw (there, next) (entries_read value read back (p ++ write x) t l) in
      cc

mode_byte_read : (p t : List ℕ) (x : Program) → mode_at (p ++ (program_bytes x ++ t)) (length p) ≡ mode_byte x.mode
mode_byte_read p t x = past p (program_bytes x ++ t) 4 (4 + length p) (omega arith)

are_modes_lem : (l : List Program) → are_modes (map (λ (p : Program). mode_byte p.mode) l) ≡ true
are_modes_lem [] = refl
are_modes_lem (p ∷ l) = grind (arith, are_modes_lem l)

-- the table of contents and the shape, 22 bytes
abbrev front : Description → List ℕ
front d = contents d.pages (length d.programs) ++ shape d.pages d.exponent (length d.programs)

-- the image up to the programs, and the programs
abbrev up_to : Description → List ℕ
up_to d = front d ++ bodies word d.fields

split : (d : Description) → bytes_of d ≡ up_to d ++ (bodies program_bytes d.programs ++ [])
unfolding bytes_of
split d = rw append-nil

module _ (d : Description) (two_fields : length d.fields ≡ 2 * d.pages) where
  up_to_length : length (up_to d) ≡ 22 + 4 * d.pages
  up_to_length = rw (length-append (front d) (bodies word d.fields), length_bodies 2 word (λ w. refl) d.fields, two_fields) (omega arith)

  pub bytes_length : length (bytes_of d) ≡ 22 + 4 * d.pages + 5 * length d.programs
  bytes_length =
      let p = bodies program_bytes d.programs in
      rw (split d, length-append (up_to d) (p ++ []), up_to_length, append-nil p, length_bodies 5 program_bytes (λ x. refl) d.programs)

module _ (d : Description) (counts : Shaped d) where
  fields_read : entries 2 (field_at (bytes_of d)) 22 (2 * d.pages) ≡ d.fields
  unfolding bytes_of
  fields_read =
      rw (← counts.two_fields)
      (entries_read 2 word (λ w. refl) (λ w. w) field_at field_read (front d) (bodies program_bytes d.programs) d.fields ∙ map-id d.fields)

  -- the programs, or their mode bytes
  programs_read : {B : Type 0} (value : Program → B) (read : List ℕ → ℕ → B)
      → ((p t : List ℕ) (x : Program) → read (p ++ (program_bytes x ++ t)) (length p) ≡ value x)
      → entries 5 (read (bytes_of d)) (22 + 4 * d.pages) (length d.programs) ≡ map value d.programs
  programs_read value read back =
      rw (← up_to_length d counts.two_fields, split d) (entries_read 5 program_bytes (λ x. refl) value read back (up_to d) [] d.programs)

  pub describe_bytes : describe (bytes_of d) ≡ d
  unfolding describe bytes_of
  describe_bytes = rw (fields_read, programs_read (λ x. x) program_at program_read, map-id d.programs)

  pub bytes_pass : Passed (bytes_of d)
  unfolding bytes_of
  bytes_pass =
      record {
        kind_0 = refl;
        zero_0 = refl;
        kind_1 = refl;
        zero_1 = refl;
        kind_2 = refl;
        zero_2 = refl;
        offset_0 = refl;
        length_0 = refl;
        pages_least = counts.pages_least;
        pages_most = counts.pages_most;
        exponent_least = counts.exponent_least;
        exponent_most = counts.exponent_most;
        programs_least = counts.programs_least;
        programs_most = counts.programs_most;
        shape_zero_lem = refl;
        memory_most = counts.memory_most;
        offset_1 = refl;
        length_1 = omega arith;
        offset_2 = omega arith;
        length_2 = omega arith;
        ends = bytes_length d counts.two_fields;
        modes = ap are_modes (programs_read (λ x. mode_byte x.mode) mode_at mode_byte_read) ∙ are_modes_lem d.programs;
      }
