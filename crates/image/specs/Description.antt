-- What an image says, the bytes that it is written in, and the machine that it stands for (RULES, section 5).
use Rattle.std.specs.Prelude.{ℕ, zero, suc, ◌+◌, ◌*◌, ◌^◌, ◌≤◌, ◌<◌, ◌≡◌, false, List, [], ◌∷◌, ◌++◌, length, get_or, replicate, None}
use Rattle.rules.specs.declared.registers.Mode.{Mode}
use Rattle.rules.specs.declared.registers.Mode.TheVariants.{User, Privileged}
use Rattle.rules.specs.declared.registers.Registers.{Registers}
use Rattle.machine.specs.Machine.{no_program}
use Rattle.machine.specs.declared.record.Machine.{Machine}
use Rattle.machine.specs.declared.record.Program.{Program}
use Rattle.image.specs.Bytes.{word, bodies}

-- RULES 5.11: what is chosen for an image; the fields are READ and WRITE of each page in turn
pub record Description : Type 0 where
  pub pages : ℕ
  pub exponent : ℕ
  pub fields : List ℕ
  pub programs : List Program

-- RULES 5.3: an entry of the table of contents
abbrev pub entry : ℕ → ℕ → ℕ → List ℕ
entry kind offset size = kind ∷ 0 ∷ (word offset ++ word size)

-- RULES 5.3: the table of contents: the shape, the pages and the programs follow it in this order
abbrev pub contents : ℕ → ℕ → List ℕ
contents pages programs =
    entry 1 18 4 ++ (entry 2 22 (4 * pages) ++ entry 3 (22 + 4 * pages) (5 * programs))

-- RULES 5.4: the shape, whose last byte is 0
abbrev pub shape : ℕ → ℕ → ℕ → List ℕ
shape pages exponent programs = pages ∷ exponent ∷ programs ∷ 0 ∷ []

-- RULES 5.6: a mode as it is written
abbrev pub mode_byte : Mode → ℕ
mode_byte User = 0
mode_byte Privileged = 1

-- RULES 5.6: a program as it is written, in 5 bytes
abbrev pub program_bytes : Program → List ℕ
program_bytes p = word p.context ++ (word p.mask ++ (mode_byte p.mode ∷ []))

-- RULES 5.2: the image: its parts with nothing between them, and nothing after the last
unfoldable pub bytes_of : Description → List ℕ
bytes_of d =
    contents d.pages (length d.programs)
    ++ (shape d.pages d.exponent (length d.programs)
    ++ (bodies word d.fields ++ bodies program_bytes d.programs))

-- RULES 5.11: counts within the ranges of 1.2, and two fields for each page
pub record Shaped (d : Description) : Type 0 where
  pub pages_least : 1 ≤ d.pages
  pub pages_most : d.pages ≤ 128
  pub exponent_least : 5 ≤ d.exponent
  pub exponent_most : d.exponent ≤ 12
  pub memory_most : d.pages * 2 ^ d.exponent ≤ 65536
  pub programs_least : 1 ≤ length d.programs
  pub programs_most : length d.programs ≤ 8
  pub two_fields : length d.fields ≡ 2 * d.pages

-- RULES 5.11: the choices that have an image: such counts, and numbers of 16 bits
pub record Legal (d : Description) : Type 0 where
  pub counts : Shaped d
  pub fields_fit : (i : ℕ) → get_or d.fields i 0 < 65536
  pub contexts_fit : (i : ℕ) → (get_or d.programs i no_program).context < 65536
  pub masks_fit : (i : ℕ) → (get_or d.programs i no_program).mask < 65536

module _ {A : Type 0} where
  -- RULES 5.9, 5.14: a list in n places and no more, with z, which is zero or user, past its end
  abbrev pub pad : ℕ → A → List A → List A
  pad zero z l = []
  pad (suc n) z [] = z ∷ pad n z []
  pad (suc n) z (x ∷ l) = x ∷ pad n z l

-- RULES 5.9: a program's entry made live, the flag clear
abbrev pub live_of : Program → Registers
live_of p = record { context = p.context; mask = p.mask; mode = p.mode; pending = false }

-- RULES 5.9: the machine that a load gives
unfoldable pub machine_of : Description → Machine
machine_of d =
    record {
      pages = d.pages;
      exponent = d.exponent;
      fields = pad 256 0 d.fields;
      registers = live_of (get_or d.programs 0 no_program);
      depth = 0;
      saved = replicate 8 false;
      programs = length d.programs;
      current = 0;
      table = pad 8 no_program d.programs;
      violations = record { last = None };
    }
