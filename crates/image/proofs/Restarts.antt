-- Writing and loading are each other's way back: what was written loads to the machine it was written from, as far as its places are counted,
-- and an image that was loaded is written again byte for byte.
use Prim.Native.Nat.{ℕ, zero, suc, ◌+◌, ◌*◌, ◌≤◌, ◌<◌}
use mathlib.Core.Path.{◌≡◌, refl, ap, sym, ◌∙◌, subst}
use mathlib.Core.Bool.{true, false}
use mathlib.Core.List.{List, [], ◌∷◌, ◌++◌}
use native.Mathlib.Omega.{arith}
use lib.ListN.{length, get_or, take, drop}
use lib.Seq.{take_at, get_or-drop}
use Rattle.machine.specs.Machine.{is_sound, no_program, with_last}
use Rattle.machine.specs.Calls.{silent}
use Rattle.machine.specs.declared.record.Machine.{Machine}
use Rattle.machine.specs.declared.record.Program.{Program}
use Rattle.machine.proofs.Sound.{sound_facts}
use Rattle.image.specs.Bytes.{Bytes, word_at}
use Rattle.image.specs.Description.{Description, Shaped, pad, live_of, bytes_of, machine_of}
use Rattle.image.specs.Load.{describe, load_of, field_at, page_count, program_at, program_count}
use Rattle.image.specs.Write.{entry_of, counted_fields, counted_programs, description_of, image_for, written_of, buffer_after, restarted}
use Rattle.image.proofs.Entries.{entry_at, length_entries, length_pad, pad_at, pad_past}
use Rattle.image.proofs.Loaded.{loaded}
use Rattle.image.proofs.Passed.{passed}
use Rattle.image.proofs.Reread.{describe_bytes}
use Rattle.image.proofs.Rewritten.{bytes_of_describe, describe_legal}
use Rattle.image.proofs.RoundTrip.{shaped_loads}
use Rattle.image.proofs.Writes.{Ready, too_short, done, ready, number_exactly, size, image_length, image_written, refused_keeps}
use Rattle.std.specs.Prelude.{Option, None}
use Rattle.machine.specs.declared.record.Violation.{Violation}

-- ---- lists in so many places

-- as many places as a list has, taken out of more places that it was put into, are the list
pad_back : {A : Type 0} (z : A) (k : ℕ) (l : List A) → length l ≤ k → pad (length l) z (pad k z l) ≡ l
pad_back z k [] h = refl
pad_back z zero (x ∷ l) h = absurd (omega arith)
pad_back z (suc k) (x ∷ l) h = grind (arith, pad_back z k l)

-- ---- from a machine to its image and back

-- past the first place, a stored entry stands where it stood
later : (x : Program) (l : List Program) (i : ℕ) → 1 ≤ i → get_or (x ∷ drop 1 l) i no_program ≡ get_or l i no_program
later x l zero h = absurd (omega arith)
later x l (suc i) h = grind (arith, get_or-drop 1 l i no_program)

shaped_machine : (m : Machine) → is_sound m ≡ true → Shaped (description_of m)
unfolding description_of
shaped_machine m sound =
    let s = sound_facts m sound in
    let count = length_pad no_program m.programs (entry_of m.registers ∷ drop 1 m.table) in
    record {
      pages_least = s.pages_least;
      pages_most = s.pages_most;
      exponent_least = s.exponent_least;
      exponent_most = s.exponent_most;
      memory_most = s.memory_most;
      programs_least = omega (arith, s.programs_least);
      programs_most = omega (arith, s.programs_most);
      two_fields = length_pad 0 (2 * m.pages) m.fields;
    }

module _ (m : Machine) (sound : is_sound m ≡ true) where
  abbrev read : describe (image_for m) ≡ description_of m
  read = describe_bytes (description_of m) (shaped_machine m sound)

  pages_read : page_count (image_for m) ≡ m.pages
  unfolding describe description_of
  pages_read = ap (λ (d : Description). d.pages) read

  -- RULES 5.5, 5.14: where each field stands in the image
  pub field_written : (i : ℕ) → i < 2 * m.pages → word_at (image_for m) (22 + 2 * i) ≡ get_or m.fields i 0
  unfolding describe description_of
  field_written i h =
      sym (entry_at 2 (field_at (image_for m)) 0 22 (2 * page_count (image_for m)) i (omega (arith, pages_read)))
      ∙ ap (λ (d : Description). get_or d.fields i 0) read
      ∙ pad_at 0 (2 * m.pages) m.fields i h

  -- the program that is read at each program's place
  program_read : (i : ℕ) → i < m.programs
      → program_at (image_for m) (22 + 4 * m.pages + 5 * i) ≡ get_or (entry_of m.registers ∷ drop 1 m.table) i no_program
  unfolding describe description_of
  program_read i h =
      let start = 22 + 4 * page_count (image_for m) in
      let n : program_count (image_for m) ≡ m.programs =
      sym (length_entries 5 (program_at (image_for m)) start (program_count (image_for m)))
      ∙ ap (λ (d : Description). length d.programs) read
      ∙ length_pad no_program m.programs (entry_of m.registers ∷ drop 1 m.table) in
      subst (λ (p : ℕ). program_at (image_for m) (22 + 4 * p + 5 * i) ≡ get_or (entry_of m.registers ∷ drop 1 m.table) i no_program) pages_read
      (sym (entry_at 5 (program_at (image_for m)) no_program start (program_count (image_for m)) i (omega (arith, n)))
      ∙ ap (λ (d : Description). get_or d.programs i no_program) read
      ∙ pad_at no_program m.programs (entry_of m.registers ∷ drop 1 m.table) i h)

  -- RULES 5.6, 5.14: at program 0's place stand the live registers
  pub live_written :
      program_at (image_for m) (22 + 4 * m.pages)
      ≡ record { context = m.registers.context; mask = m.registers.mask; mode = m.registers.mode }
  live_written =
      let first : 22 + 4 * m.pages + 5 * 0 ≡ 22 + 4 * m.pages = omega arith in
      rw first at (program_read 0 (sound_facts m sound).programs_least)

  -- RULES 5.6, 5.14: at the place of each other program stands its stored entry
  pub program_written : (i : ℕ) → 1 ≤ i → i < m.programs
      → program_at (image_for m) (22 + 4 * m.pages + 5 * i) ≡ get_or m.table i no_program
  program_written i h k = program_read i k ∙ later (entry_of m.registers) m.table i h

started : (m : Machine) → Ready m → machine_of (description_of m) ≡ restarted m
unfolding machine_of description_of restarted
started m can =
    let all = entry_of m.registers ∷ drop 1 m.table in
    let least = (sound_facts m can.sound).programs_least in
    rw (pad_at no_program m.programs all 0 least, can.flag_clear, length_pad no_program m.programs all)

loads_again : (m : Machine) (buffer : List ℕ) → (written_of m (length buffer)).number ≡ 0
    → load_of (take (written_of m (length buffer)).count (buffer_after m buffer)) ≡ silent 0 (restarted m)
unfolding written_of buffer_after
loads_again m buffer accepted =
    let image = image_for m in
    let can = (ready m (length buffer) accepted).0 in
    rw (image_written m buffer accepted, take_at image (drop (length image) buffer) (length image) refl)
    (shaped_loads (description_of m) (shaped_machine m can.sound) ∙ ap (λ (n : Machine). silent 0 n) (started m can))

-- RULES 5.14, 5.17: the last violation is no part of the image: whichever it is, the bytes are the same, and they start the same machine
pub last_aside : (m : Machine) (last : Option Violation) → (image_for (with_last last m) ≡ image_for m) × (restarted (with_last last m) ≡ restarted m)
unfolding description_of restarted
last_aside m last = (refl, refl)

-- RULES 5.17: that machine by its places: what is counted is as it was, program 0's entry is the live registers, and all else is empty
pub record Restarts (m r : Machine) : Type 0 where
  pub pages : r.pages ≡ m.pages
  pub exponent : r.exponent ≡ m.exponent
  pub field_kept : (i : ℕ) → i < 2 * m.pages → get_or r.fields i 0 ≡ get_or m.fields i 0
  pub no_field : (i : ℕ) → 2 * m.pages ≤ i → get_or r.fields i 0 ≡ 0
  pub registers : r.registers ≡ m.registers
  pub no_depth : r.depth ≡ 0
  pub no_violation : r.violations.last ≡ None
  pub no_mode : (i : ℕ) → get_or r.saved i false ≡ false
  pub programs : r.programs ≡ m.programs
  pub runs_first : r.current ≡ 0
  pub first_entry :
      get_or r.table 0 no_program ≡ record { context = m.registers.context; mask = m.registers.mask; mode = m.registers.mode }
  pub entry_kept : (i : ℕ) → 1 ≤ i → i < m.programs → get_or r.table i no_program ≡ get_or m.table i no_program
  pub no_entry : (i : ℕ) → m.programs ≤ i → get_or r.table i no_program ≡ no_program

restarts : (m : Machine) (room : ℕ) → (written_of m room).number ≡ 0 → Restarts m (restarted m)
unfolding restarted written_of
restarts m room accepted =
    let can = (ready m room accepted).0 in
    let s = sound_facts m can.sound in
    let all = entry_of m.registers ∷ drop 1 m.table in
    let fields = length_pad 0 (2 * m.pages) m.fields in
    let programs = length_pad no_program m.programs all in
    record {
      pages = refl;
      exponent = refl;
      field_kept = λ i h. pad_at 0 256 (counted_fields m) i (omega (arith, s.pages_most)) ∙ pad_at 0 (2 * m.pages) m.fields i h;
      no_field = λ i h. pad_past 0 256 (counted_fields m) i (omega (arith, fields));
      registers = refl;
      no_depth = refl;
      no_violation = refl;
      no_mode = λ i. pad_past false 8 [] i (omega arith);
      programs = refl;
      runs_first = refl;
      first_entry = pad_at no_program 8 (counted_programs m) 0 (omega arith) ∙ pad_at no_program m.programs all 0 s.programs_least;
      entry_kept = λ i h k.
          pad_at no_program 8 (counted_programs m) i (omega (arith, s.programs_most))
          ∙ pad_at no_program m.programs all i k
          ∙ later (entry_of m.registers) m.table i h;
      no_entry = λ i h. pad_past no_program 8 (counted_programs m) i (omega (arith, programs));
    }

-- RULES 5.17: the bytes that were written, as many as were counted, load with 0 to the machine that the image starts, and its places are these
pub written_restarts : (m : Machine) (buffer : List ℕ) → (written_of m (length buffer)).number ≡ 0
    → (load_of (take (written_of m (length buffer)).count (buffer_after m buffer)) ≡ silent 0 (restarted m)) × Restarts m (restarted m)
written_restarts m buffer accepted = (loads_again m buffer accepted, restarts m (length buffer) accepted)

-- ---- from an image to its machine and back

-- program 0 live and the others in the table are the programs that the image has
programs_back : (l : List Program) → 1 ≤ length l → length l ≤ 8
    → pad (length l) no_program (entry_of (live_of (get_or l 0 no_program)) ∷ drop 1 (pad 8 no_program l)) ≡ l
programs_back [] h k = absurd (omega arith)
programs_back (x ∷ l) h k = grind (arith, pad_back no_program 7 l)

-- the description of the machine of a description is that description
redescribed : (d : Description) → Shaped d → description_of (machine_of d) ≡ d
unfolding description_of machine_of
redescribed d counts =
    let fields : pad (2 * d.pages) 0 (pad 256 0 d.fields) ≡ d.fields =
    rw (← counts.two_fields) (pad_back 0 256 d.fields (omega (arith, counts.two_fields, counts.pages_most))) in
    rw (fields, programs_back d.programs counts.programs_least counts.programs_most)

-- a machine that can be written and whose image is known
module _ (m : Machine) (s buffer : List ℕ) (can : Ready m) (image : image_for m ≡ s) where
  long : length s ≡ size m
  long = ap length (sym image) ∙ image_length m

  written_as : length s ≤ length buffer
      → (written_of m (length buffer) ≡ record { number = 0; count = length s }) × (buffer_after m buffer ≡ s ++ drop (length s) buffer)
  unfolding buffer_after written_of
  written_as room =
      let accepted = (number_exactly m (length buffer) 0).1 (done can (omega (arith, long))) in
      let all = image_written m buffer accepted ∙ image in
      (rw (accepted, all), rw all)

  short_of : length buffer < length s → (written_of m (length buffer) ≡ record { number = 27; count = 0 }) × (buffer_after m buffer ≡ buffer)
  unfolding written_of
  short_of room =
      let short = (number_exactly m (length buffer) 27).1 (too_short can (omega (arith, long))) in
      let kept = refused_keeps m buffer (λ zero. absurd (omega (arith, short, zero))) in
      (rw (short, kept.0), kept.1)

-- RULES 5.18: an image that was loaded is written again, byte for byte, and only room can be missing
pub loaded_writes : (s : List ℕ) → Bytes s → (load_of s).number ≡ 0 → (buffer : List ℕ)
    → (length s ≤ length buffer
    → (written_of (load_of s).machine (length buffer) ≡ record { number = 0; count = length s })
    × (buffer_after (load_of s).machine buffer ≡ s ++ drop (length s) buffer))
    × (length buffer < length s
    → (written_of (load_of s).machine (length buffer) ≡ record { number = 27; count = 0 }) × (buffer_after (load_of s).machine buffer ≡ buffer))
unfolding load_of
loaded_writes s bytes loads buffer =
    let p = passed s loads in
    let l = loaded s loads in
    let m = machine_of (describe s) in
    let can : Ready m =
    record {
      sound = rw loads at l.sound;
      runs_first = rw loads at l.runs_first;
      no_depth = rw loads at l.no_depth;
      flag_clear = rw loads at l.flag_clear;
    } in
    let image = ap bytes_of (redescribed (describe s) (describe_legal s bytes p).counts) ∙ bytes_of_describe s bytes p in
    rw loads (written_as m s buffer can image, short_of m s buffer can image)
