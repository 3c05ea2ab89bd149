-- Images and descriptions meet: each legal description has one image, which loads to its machine, and nothing else loads (RULES 5.11).
use Prim.Native.Nat.{ℕ, zero, suc, ◌+◌, ◌*◌, ◌<◌}
use mathlib.Core.Path.{◌≡◌, ap, sym, ◌∙◌}
use mathlib.Core.List.{List, [], ◌∷◌, ◌++◌}
use native.Mathlib.Omega.{arith}
use lib.ListN.{length, get_or}
use Rattle.rules.specs.declared.registers.Mode.{Mode}
use Rattle.rules.specs.declared.registers.Mode.TheVariants.{User, Privileged}
use Rattle.machine.specs.Machine.{no_program}
use Rattle.machine.specs.Calls.{silent}
use Rattle.machine.specs.declared.record.Program.{Program}
use Rattle.image.specs.Bytes.{Bytes, word, bodies}
use Rattle.image.specs.Description.{Description, Shaped, Legal, entry, shape, mode_byte, program_bytes, bytes_of, machine_of}
use Rattle.image.specs.Load.{describe, load_of}
use Rattle.image.proofs.Passed.{passed, passes}
use Rattle.image.proofs.Reread.{describe_bytes, bytes_pass}
use Rattle.image.proofs.Rewritten.{bytes_of_describe, describe_legal}

-- a string is the image of a description
pub record ImageOf (d : Description) (s : List ℕ) : Type 0 where
  pub legal : Legal d
  pub written : bytes_of d ≡ s

-- strings of bytes: none, one byte more, two joined, and bodies
data AllBytes : List ℕ → Type 0 where
  none : AllBytes []
  more : {b : ℕ} {s : List ℕ} → b < 256 → AllBytes s → AllBytes (b ∷ s)

pointwise : {s : List ℕ} → AllBytes s → Bytes s
pointwise none at = omega arith
pointwise (more h rest) zero = h
pointwise (more h rest) (suc at) = pointwise rest at

join : {s t : List ℕ} → AllBytes s → AllBytes t → AllBytes (s ++ t)
join none rest = rest
join (more h some) rest = more h (join some rest)

each_body : {A : Type 0} (write : A → List ℕ) (z : A) (l : List A) → ((i : ℕ) → AllBytes (write (get_or l i z)))
    → AllBytes (bodies write l)
each_body write z [] h = none
each_body write z (x ∷ l) h = join (h 0) (each_body write z l (λ i. h (suc i)))

word_bytes : (w : ℕ) → w < 65536 → AllBytes (word w)
word_bytes w h = more (omega arith) (more (omega arith) none)

entry_bytes : (kind offset size : ℕ) → kind < 256 → offset < 65536 → size < 65536 → AllBytes (entry kind offset size)
entry_bytes kind offset size k o n = more k (more (omega arith) (join (word_bytes offset o) (word_bytes size n)))

program_bytes_lem : (p : Program) → p.context < 65536 → p.mask < 65536 → AllBytes (program_bytes p)
program_bytes_lem p c m = join (word_bytes p.context c) (join (word_bytes p.mask m) (more (mode_byte_lem p.mode) none))
  where
    mode_byte_lem : (mode : Mode) → mode_byte mode < 256
    mode_byte_lem User = omega arith
    mode_byte_lem Privileged = omega arith

-- what a legal description is written in are bytes
pub legal_bytes : (d : Description) → Legal d → Bytes (bytes_of d)
unfolding bytes_of
legal_bytes d legal =
    let p = d.pages in
    let n = length d.programs in
    let e₀ = entry_bytes 1 18 4 (omega arith) (omega arith) (omega arith) in
    let e₁ = entry_bytes 2 22 (4 * p) (omega arith) (omega arith) (omega arith) in
    let e₂ = entry_bytes 3 (22 + 4 * p) (5 * n) (omega arith) (omega arith) (omega arith) in
    let s : AllBytes (shape p d.exponent n) =
    more (omega arith) (more (omega arith) (more (omega arith) (more (omega arith) none))) in
    let f = each_body word 0 d.fields (λ i. word_bytes (get_or d.fields i 0) (legal.fields_fit i)) in
    let q =
    each_body program_bytes no_program d.programs
    (λ i. program_bytes_lem (get_or d.programs i no_program) (legal.contexts_fit i) (legal.masks_fit i)) in
    pointwise (join (join e₀ (join e₁ e₂)) (join s (join f q)))

-- the bytes of a description whose counts are in range load to its machine
pub shaped_loads : (d : Description) → Shaped d → load_of (bytes_of d) ≡ silent 0 (machine_of d)
unfolding load_of
shaped_loads d counts = rw (passes (bytes_of d) (bytes_pass d counts), describe_bytes d counts)

-- RULES 5.11: the bytes of a legal description load to its machine
pub legal_loads : (d : Description) → Legal d → load_of (bytes_of d) ≡ silent 0 (machine_of d)
legal_loads d legal = shaped_loads d legal.counts

-- whatever loads is the image of a description, and of one only
pub loads_one : (s : List ℕ) → Bytes s → (load_of s).number ≡ 0
    → (d : Description) × ImageOf d s × ((e : Description) → ImageOf e s → e ≡ d)
unfolding load_of
loads_one s bytes loads =
    let p = passed s loads in (
      describe s,
      record { legal = describe_legal s bytes p; written = bytes_of_describe s bytes p },
      (λ e image. sym (describe_bytes e image.legal.counts) ∙ ap describe image.written),
    )
