-- What is read is written again: a string of bytes that nothing refuses is what its description is written in, and that
-- description is legal.
use Prim.Native.Nat.{ℕ, zero, suc, ◌+◌, ◌*◌, ◌≤◌, ◌<◌}
use mathlib.Core.Path.{◌≡◌, refl, ap, sym, ◌∙◌}
use mathlib.Core.Bool.{true}
use mathlib.Core.List.{List, [], ◌∷◌, ◌++◌, append_assoc, append-nil}
use native.Mathlib.Omega.{arith}
use native.Mathlib.Nat.{mul-suc, mul-zero, add-zero}
use lib.Dec.{leb}
use lib.ListN.{length, drop, drop_of_length-le}
use lib.Seq.{drop-cons}
use Rattle.machine.specs.Machine.{no_program}
use Rattle.machine.specs.Calls.{mode_of}
use Rattle.image.specs.Bytes.{Bytes, byte_at, word_at, word, entries, bodies}
use Rattle.image.specs.Description.{Legal, entry, contents, shape, mode_byte, program_bytes, bytes_of}
use Rattle.image.specs.Load.{kind_at, zero_at, offset_at, length_at, page_count, page_exponent, program_count, field_at, fields_of, programs_of, program_at, mode_at, are_modes, describe}
use Rattle.image.proofs.Entries.{length_entries, each_entry}
use Rattle.rules.proofs.Decided.{and_both}
use Rattle.image.proofs.Passed.{Passed}

-- bodies that are written as they stand in a string
module _ {A : Type 0} (size : ℕ) (read : ℕ → A) (write : A → List ℕ) (s : List ℕ) where
  -- what is written of the body that is read at a place is what stands there
  abbrev Stands : ℕ → Type 0
  Stands at = write (read at) ++ drop (size + at) s ≡ drop at s

  bodies_stand : (at n : ℕ) → ((i : ℕ) → i < n → Stands (at + size * i))
      → bodies write (entries size read at n) ++ drop (at + size * n) s ≡ drop at s
  bodies_stand at zero stand = simp (mul-zero, add-zero)
  bodies_stand at (suc n) stand =
      let next : (i : ℕ) → at + size * suc i ≡ size + at + size * i = λ i. omega (arith, mul-suc size i) in
      let rest : bodies write (entries size read (size + at) n) ++ drop (size + at + size * n) s ≡ drop (size + at) s =
      bodies_stand (size + at) n (λ i h. rw (next i) at (stand (suc i) (omega arith))) in
      let start : at + size * 0 ≡ at = omega arith in
      rw (append_assoc, next n, rest) (rw start at (stand 0 (omega arith)))

-- a string from a place on: the byte there, and the rest
byte_drop : (s : List ℕ) (at next : ℕ) → next ≡ suc at → at < length s → byte_at s at ∷ drop next s ≡ drop at s
byte_drop s at next e h = rw (e, drop-cons s at 0)

module _ (s : List ℕ) (bytes : Bytes s) where
  -- a word that was read, written: the two bytes there
  word_stands : (at : ℕ) → word (word_at s at) ≡ byte_at s at ∷ byte_at s (1 + at) ∷ []
  word_stands at =
      let high = bytes at in
      let low = bytes (1 + at) in
      grind arith

  -- the same with what follows them
  word_drop : (at n : ℕ) → n ≡ 2 + at → n ≤ length s → word (word_at s at) ++ drop n s ≡ drop at s
  word_drop at n e h =
      ap (λ (l : List ℕ). l ++ drop n s) (word_stands at)
      ∙ ap (λ (l : List ℕ). byte_at s at ∷ l) (byte_drop s (1 + at) n (omega arith) (omega arith))
      ∙ byte_drop s at (1 + at) (omega arith) (omega arith)

  field_stands : (at : ℕ) → 2 + at ≤ length s → Stands 2 (field_at s) word s at
  field_stands at h = word_drop at (2 + at) refl h

  -- a mode byte of 0 or 1
  mode_stands : (b : ℕ) → b ≤ 1 → mode_byte (mode_of b) ≡ b
  mode_stands b h = grind arith

  program_stands : (at : ℕ) → 5 + at ≤ length s → mode_at s at ≤ 1 → Stands 5 (program_at s) program_bytes s at
  program_stands at h m =
      let p = program_at s at in
      ap (λ (b : ℕ). word p.context ++ (word p.mask ++ (b ∷ drop (5 + at) s))) (mode_stands (mode_at s at) m)
      ∙ ap (λ (l : List ℕ). word p.context ++ (word p.mask ++ l)) (byte_drop s (4 + at) (5 + at) (omega arith) (omega arith))
      ∙ ap (λ (l : List ℕ). word p.context ++ l) (word_drop (2 + at) (4 + at) (omega arith) (omega arith))
      ∙ word_drop at (2 + at) refl (omega arith)

  entry_stands : (e : ℕ) {kind offset size : ℕ} → kind_at s e ≡ kind → zero_at s e ≡ 0 → offset_at s e ≡ offset
      → length_at s e ≡ size → 6 + 6 * e ≤ length s → entry kind offset size ++ drop (6 + 6 * e) s ≡ drop (6 * e) s
  entry_stands e {kind} {offset} {size} k z o l h =
      let at = 6 * e in
      ap (λ (n : ℕ). kind ∷ 0 ∷ (word offset ++ (word n ++ drop (6 + at) s))) (sym l)
      ∙ ap (λ (t : List ℕ). kind ∷ 0 ∷ (word offset ++ t)) (word_drop (4 + at) (6 + at) (omega arith) h)
      ∙ ap (λ (n : ℕ). kind ∷ 0 ∷ (word n ++ drop (4 + at) s)) (sym o)
      ∙ ap (λ (t : List ℕ). kind ∷ 0 ∷ t) (word_drop (2 + at) (4 + at) (omega arith) (omega arith))
      ∙ ap (λ (b : ℕ). kind ∷ b ∷ drop (2 + at) s) (sym z)
      ∙ ap (λ (t : List ℕ). kind ∷ t) (byte_drop s (1 + at) (2 + at) (omega arith) (omega arith))
      ∙ ap (λ (b : ℕ). b ∷ drop (1 + at) s) (sym k)
      ∙ byte_drop s at (1 + at) (omega arith) (omega arith)

-- each of n mode bytes where all are modes
mode_within : (read : ℕ → ℕ) (at n : ℕ) → are_modes (entries 5 read at n) ≡ true → (i : ℕ) → i < n → read (at + 5 * i) ≤ 1
mode_within read at zero h i k = absurd (omega arith)
mode_within read at (suc n) h zero k =
    let start : at + 5 * 0 ≡ at = omega arith in
    grind arith
mode_within read at (suc n) h (suc i) k =
    let next : at + 5 * suc i ≡ 5 + at + 5 * i = omega arith in
    rw next (mode_within read (5 + at) n (and_both (leb (read at) 1) (are_modes (entries 5 read (5 + at) n)) h).1 i (omega arith))

module _ (s : List ℕ) (bytes : Bytes s) (passed : Passed s) where
  -- the programs, the fields, the shape and the table of contents, from the end to the start
  programs_stand : bodies program_bytes (programs_of s) ≡ drop (22 + 4 * page_count s) s
  programs_stand =
      let at = 22 + 4 * page_count s in
      let n = program_count s in
      let none : drop (at + 5 * n) s ≡ [] = drop_of_length-le s {i = at + 5 * n} (omega arith) in
      rw (none, append-nil) at
      (bodies_stand 5 (program_at s) program_bytes s at n
      (λ i k. program_stands s bytes (at + 5 * i) (omega arith) (mode_within (mode_at s) at n passed.modes i k)))

  fields_stand : bodies word (fields_of s) ++ drop (22 + 4 * page_count s) s ≡ drop 22 s
  fields_stand =
      let n = 2 * page_count s in
      let end : 22 + 2 * n ≡ 22 + 4 * page_count s = omega arith in
      rw end at (bodies_stand 2 (field_at s) word s 22 n (λ i k. field_stands s bytes (22 + 2 * i) (omega arith)))

  shape_stands : shape (page_count s) (page_exponent s) (program_count s) ++ drop 22 s ≡ drop 18 s
  shape_stands =
      ap (λ (b : ℕ). page_count s ∷ page_exponent s ∷ program_count s ∷ b ∷ drop 22 s) (sym passed.shape_zero_lem)
      ∙ ap (λ (t : List ℕ). page_count s ∷ page_exponent s ∷ program_count s ∷ t) (byte_drop s 21 22 refl (omega arith))
      ∙ ap (λ (t : List ℕ). page_count s ∷ page_exponent s ∷ t) (byte_drop s 20 21 refl (omega arith))
      ∙ ap (λ (t : List ℕ). page_count s ∷ t) (byte_drop s 19 20 refl (omega arith))
      ∙ byte_drop s 18 19 refl (omega arith)

  contents_stand : contents (page_count s) (program_count s) ++ drop 18 s ≡ s
  contents_stand =
      let p = page_count s in
      let f = passed in
      ap (λ (t : List ℕ). entry 1 18 4 ++ (entry 2 22 (4 * p) ++ t))
      (entry_stands s bytes 2 f.kind_2 f.zero_2 f.offset_2 f.length_2 (omega arith))
      ∙ ap (λ (t : List ℕ). entry 1 18 4 ++ t)
      (entry_stands s bytes 1 f.kind_1 f.zero_1 f.offset_1 f.length_1 (omega arith))
      ∙ entry_stands s bytes 0 f.kind_0 f.zero_0 f.offset_0 f.length_0 (omega arith)

  pub bytes_of_describe : bytes_of (describe s) ≡ s
  unfolding bytes_of describe
  bytes_of_describe =
      let n = length_entries 5 (program_at s) (22 + 4 * page_count s) (program_count s) in
      rw (n, programs_stand, fields_stand, shape_stands, contents_stand)

  word_fits : (at : ℕ) → word_at s at < 65536
  word_fits at =
      let high = bytes at in
      let low = bytes (1 + at) in
      omega arith

  pub describe_legal : Legal (describe s)
  unfolding describe
  describe_legal =
      let at = 22 + 4 * page_count s in
      let n = program_count s in
      let count : length (programs_of s) ≡ n = length_entries 5 (program_at s) at n in
      record {
        counts = record {
          pages_least = passed.pages_least;
          pages_most = passed.pages_most;
          exponent_least = passed.exponent_least;
          exponent_most = passed.exponent_most;
          memory_most = passed.memory_most;
          programs_least = rw count passed.programs_least;
          programs_most = rw count passed.programs_most;
          two_fields = length_entries 2 (field_at s) 22 (2 * page_count s);
        };
        fields_fit = each_entry 2 (field_at s) (λ w. w < 65536) 0 (omega arith) word_fits 22 (2 * page_count s);
        contexts_fit = each_entry 5 (program_at s) (λ p. p.context < 65536) no_program (omega arith) word_fits at n;
        masks_fit = each_entry 5 (program_at s) (λ p. p.mask < 65536) no_program (omega arith) (λ place. word_fits (2 + place)) at n;
      }
