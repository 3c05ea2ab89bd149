-- What writing comes to, computed: images, numbers, buffers and the machine started again, of machines written out by their parts, and all of it
-- spelled out for any machine and any buffer. No law here names what it pins: places, numbers and bytes are written out.
use Prim.Native.Nat.{ℕ, ◌+◌, ◌*◌, ◌/◌, ◌%◌}
use mathlib.Core.Path.{◌≡◌, refl}
use mathlib.Core.Bool.{Bool, true, false, not, ◌&&◌}
use mathlib.Core.List.{List, [], ◌∷◌, ◌++◌, map}
use lib.Dec.{eqb, ltb}
use lib.ListN.{length, replicate, drop}
use Rattle.rules.specs.Refusals.{pick}
use Rattle.rules.specs.declared.registers.Mode.{Mode}
use Rattle.rules.specs.declared.registers.Mode.TheVariants.{User, Privileged}
use Rattle.machine.specs.Machine.{is_sound, with_last}
use Rattle.machine.specs.declared.record.Machine.{Machine}
use Rattle.machine.specs.declared.record.Program.{Program}
use Rattle.machine.proofs.Written.{stored, live, denied, holding, whole}
use Rattle.image.specs.Bytes.{bodies}
use Rattle.image.specs.Description.{bytes_of, pad}
use Rattle.image.specs.Write.{Written, description_of, image_for, write_checks, written_bytes, written_of, buffer_after, restarted}
use Rattle.image.proofs.Pinned.{nothing, long_bytes}

-- two pages of 64 bytes, two programs; every place past a count is full, program 0's stored entry differs from the live registers, and there was a
-- violation
abbrev standing : (current depth : ℕ) → Mode → Bool → Machine
standing current depth mode pending =
    holding (denied 1 1 127) 2 6 (0x1234 ∷ 0x5678 ∷ 0x9ABC ∷ 0xDEF0 ∷ replicate 252 0x2222) (live 0x0102 0x0304 mode pending) depth (replicate 8 true) 2 current
    (stored 0xAAAA 0xBBBB User ∷ stored 0x0506 0x0708 User ∷ replicate 6 (stored 0xCCCC 0xDDDD Privileged))

abbrev node : Machine
node = standing 0 0 Privileged false

-- its 40 bytes
abbrev bytes : List ℕ
bytes =
    0x01 ∷ 0x00 ∷ 0x00 ∷ 0x12 ∷ 0x00 ∷ 0x04
    ∷ 0x02 ∷ 0x00 ∷ 0x00 ∷ 0x16 ∷ 0x00 ∷ 0x08
    ∷ 0x03 ∷ 0x00 ∷ 0x00 ∷ 0x1E ∷ 0x00 ∷ 0x0A
    ∷ 0x02 ∷ 0x06 ∷ 0x02 ∷ 0x00
    ∷ 0x12 ∷ 0x34 ∷ 0x56 ∷ 0x78
    ∷ 0x9A ∷ 0xBC ∷ 0xDE ∷ 0xF0
    ∷ 0x01 ∷ 0x02 ∷ 0x03 ∷ 0x04 ∷ 0x01
    ∷ 0x05 ∷ 0x06 ∷ 0x07 ∷ 0x08 ∷ 0x00
    ∷ []

abbrev given : ℕ → ℕ → Written
given number count = record { number = number; count = count }

-- what is given back, and the buffer after it
abbrev outcome : Machine → List ℕ → Written × List ℕ
outcome m buffer = (written_of m (length buffer), buffer_after m buffer)

abbrev due : ℕ → ℕ → List ℕ → Written × List ℕ
due number count buffer = (given number count, buffer)

-- in buffers about as long as the image
pub node_written :
    map (outcome node) ([] ∷ replicate 39 0xEE ∷ replicate 40 0xEE ∷ replicate 43 0xEE ∷ [])
    ≡ due 27 0 []
    ∷ due 27 0 (replicate 39 0xEE)
    ∷ due 0 40 bytes
    ∷ due 0 40 (bytes ++ (0xEE ∷ 0xEE ∷ 0xEE ∷ []))
    ∷ []
unfolding written_of buffer_after written_bytes write_checks description_of bytes_of is_sound
node_written = refl

-- a refusal keeps every byte of a buffer that is long enough, and of one that is too short
pub refused_kept :
    let all = standing 1 0 User false ∷ standing 0 1 Privileged false ∷ standing 0 0 User true ∷ standing 0 0 Privileged true ∷ [] in
    (map (λ (m : Machine). outcome m (replicate 41 0xEE)) all
    ≡ due 26 0 (replicate 41 0xEE) ∷ due 26 0 (replicate 41 0xEE) ∷ due 26 0 (replicate 41 0xEE) ∷ due 1 0 (replicate 41 0xEE) ∷ [])
    × (map (λ (m : Machine). outcome m (7 ∷ [])) all ≡ due 26 0 (7 ∷ []) ∷ due 26 0 (7 ∷ []) ∷ due 26 0 (7 ∷ []) ∷ due 1 0 (7 ∷ []) ∷ [])
unfolding written_of buffer_after written_bytes write_checks description_of bytes_of is_sound
refused_kept = (refl, refl)

-- machines that are not sound, at rest and not; each reason for 26 alone, in pairs and all three; then a machine at rest. Each stands in 40 bytes, which are
-- enough, and some of them also in fewer.
pub write_order :
    map (λ (row : Machine × ℕ). (written_of row.0 row.1).number)
    ((nothing, 40)
    ∷ (nothing, 0)
    ∷ (whole 2 4 (replicate 256 0) (live 1 1 User false) 0 (replicate 8 false) 2 0 (replicate 8 (stored 1 1 User)), 40)
    ∷ (standing 0 9 User false, 40)
    ∷ (standing 2 0 User false, 40)
    ∷ (standing 0 0 Privileged true, 40)
    ∷ (standing 0 0 Privileged true, 39)
    ∷ (standing 1 1 Privileged true, 40)
    ∷ (with_last (denied 1 1 128) (standing 0 0 User false), 40)
    ∷ (with_last (denied 2 0 0) (standing 1 1 User true), 0)
    ∷ (standing 1 0 User false, 40)
    ∷ (standing 1 0 User false, 39)
    ∷ (standing 0 1 User false, 40)
    ∷ (standing 0 1 Privileged false, 0)
    ∷ (standing 0 8 User false, 40)
    ∷ (standing 0 0 User true, 40)
    ∷ (standing 0 0 User true, 0)
    ∷ (standing 1 1 User false, 40)
    ∷ (standing 1 0 User true, 40)
    ∷ (standing 0 1 User true, 40)
    ∷ (standing 1 1 User true, 40)
    ∷ (standing 1 8 User true, 0)
    ∷ (standing 0 0 User false, 40)
    ∷ (standing 0 0 User false, 41)
    ∷ (standing 0 0 User false, 39)
    ∷ (standing 0 0 User false, 0)
    ∷ [])
    ≡ 1 ∷ 1 ∷ 1 ∷ 1 ∷ 1 ∷ 1 ∷ 1 ∷ 1 ∷ 1 ∷ 1 ∷ 26 ∷ 26 ∷ 26 ∷ 26 ∷ 26 ∷ 26 ∷ 26 ∷ 26 ∷ 26 ∷ 26 ∷ 26 ∷ 26 ∷ 0 ∷ 0 ∷ 27 ∷ 27 ∷ []
unfolding written_of write_checks description_of bytes_of is_sound
write_order = refl

-- the machine that the node's image starts
pub node_restarted :
    restarted node
    ≡ whole 2 6 (0x1234 ∷ 0x5678 ∷ 0x9ABC ∷ 0xDEF0 ∷ replicate 252 0) (live 0x0102 0x0304 Privileged false) 0 (replicate 8 false) 2 0
    (stored 0x0102 0x0304 Privileged ∷ stored 0x0506 0x0708 User ∷ replicate 6 (stored 0 0 User))
unfolding restarted
node_restarted = refl

-- an image longer than 255 bytes, from a machine whose live registers are not program 0's stored ones
abbrev long_node : Machine
long_node =
    whole 64 10 (0x1234 ∷ 0x5678 ∷ 0x9ABC ∷ 0xDEF0 ∷ (replicate 122 0 ++ (0xFEDC ∷ 0xBA98 ∷ replicate 128 0xFFFF))) (live 0x0102 0x0304 Privileged false) 0
    (replicate 8 true) 8 0
    (stored 0x1111 0x2222 User ∷ stored 0x0506 0x0708 User ∷ stored 0x0009 0x0A00 Privileged
    ∷ stored 0 0 User ∷ stored 0 0 User ∷ stored 0 0 User ∷ stored 0 0 User
    ∷ stored 0xFFFE 0xFDFC Privileged
    ∷ [])

-- and the shortest image, of a machine whose lists end before their counts, which code cannot hold: what is missing is written as zeros
pub long_written :
    (image_for long_node ≡ long_bytes)
    × (map (written_of long_node) (317 ∷ 318 ∷ []) ≡ given 27 0 ∷ given 0 318 ∷ [])
    × (image_for (whole 1 5 (0x8001 ∷ []) (live 0x2003 0x1004 User false) 0 [] 1 0 [])
    ≡ 0x01 ∷ 0x00 ∷ 0x00 ∷ 0x12 ∷ 0x00 ∷ 0x04
    ∷ 0x02 ∷ 0x00 ∷ 0x00 ∷ 0x16 ∷ 0x00 ∷ 0x04
    ∷ 0x03 ∷ 0x00 ∷ 0x00 ∷ 0x1A ∷ 0x00 ∷ 0x05
    ∷ 0x01 ∷ 0x05 ∷ 0x01 ∷ 0x00
    ∷ 0x80 ∷ 0x01 ∷ 0x00 ∷ 0x00
    ∷ 0x20 ∷ 0x03 ∷ 0x10 ∷ 0x04 ∷ 0x00
    ∷ [])
unfolding written_of written_bytes write_checks description_of bytes_of is_sound
long_written = (refl, refl, refl)

-- ---- spelled out for any machine and any buffer

module _ (m : Machine) where
  -- the programs that are counted, the live registers the first of them
  abbrev programs : List Program
  programs =
      pad m.programs (stored 0 0 User) (stored m.registers.context m.registers.mask m.registers.mode ∷ drop 1 m.table)

  abbrev mode : Mode → ℕ
  mode User = 0
  mode Privileged = 1

  pub image_spelled :
      let p = m.pages in
      let n = length programs in
      image_for m
      ≡ 1 ∷ 0 ∷ 0 ∷ 18 ∷ 0 ∷ 4
      ∷ 2 ∷ 0 ∷ 0 ∷ 22 ∷ 4 * p / 256 ∷ 4 * p % 256
      ∷ 3 ∷ 0 ∷ (22 + 4 * p) / 256 ∷ (22 + 4 * p) % 256 ∷ 5 * n / 256 ∷ 5 * n % 256
      ∷ p ∷ m.exponent ∷ n ∷ 0
      ∷ (bodies (λ (w : ℕ). w / 256 ∷ w % 256 ∷ []) (pad (2 * p) 0 m.fields)
      ++ bodies (λ (x : Program). x.context / 256 ∷ x.context % 256 ∷ x.mask / 256 ∷ x.mask % 256 ∷ mode x.mode ∷ []) programs)
  unfolding description_of bytes_of
  image_spelled = refl

  pub restarted_spelled :
      restarted m
      ≡ whole m.pages m.exponent (pad 256 0 (pad (2 * m.pages) 0 m.fields)) m.registers 0 (replicate 8 false) m.programs 0
      (pad 8 (stored 0 0 User) programs)
  unfolding restarted
  restarted_spelled = refl

  pub write_number_spelled : (room : ℕ)
      → (written_of m room).number
      ≡ pick (not (is_sound m)) 1
      (pick (not (eqb m.current 0 && eqb m.depth 0 && not m.registers.pending)) 26 (pick (ltb room (length (image_for m))) 27 0))
  unfolding written_of write_checks
  write_number_spelled room = refl

  pub buffer_spelled : (buffer : List ℕ)
      → let image = pick (eqb (written_of m (length buffer)).number 0) (image_for m) [] in
      ((written_of m (length buffer)).count ≡ length image) × (buffer_after m buffer ≡ image ++ drop (length image) buffer)
  unfolding written_of buffer_after written_bytes
  buffer_spelled buffer = (refl, refl)
