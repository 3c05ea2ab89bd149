-- The machine that a load gives: a loaded one is sound and runs program 0, a refused load gives the all-zero one.
use Prim.Native.Nat.{ℕ, ◌+◌, ◌*◌, ◌≤◌}
use mathlib.Core.Path.{◌≡◌, refl, ap, sym}
use mathlib.Core.Bool.{Bool, true, false}
use mathlib.Core.List.{List, [], ◌∷◌}
use borrow.Author.Tests.{ne_eqb}
use native.Mathlib.Omega.{arith}
use lib.ListN.{length, get_or}
use Rattle.rules.specs.Refusals.{first, pick}
use Rattle.machine.specs.Machine.{is_sound, no_program, zero}
use Rattle.machine.specs.declared.record.Machine.{Machine}
use Rattle.machine.specs.declared.record.Report.TheVariants.{Nothing}
use Rattle.machine.specs.Listed.{is_in}
use Rattle.machine.proofs.Sound.{facts_sound}
use Rattle.machine.proofs.Told.{first_within}
use Rattle.image.specs.Description.{machine_of, live_of}
use Rattle.image.specs.Load.{fields_of, programs_of, program_at, field_at, page_count, program_count, describe, load_checks, load_of}
use Rattle.image.proofs.Entries.{length_entries, pad_at, pad_past}
use Rattle.image.proofs.Passed.{Passed, passed}
use Rattle.std.specs.Prelude.{None}

-- RULES 5.9: what holds of a loaded machine, whatever the image said: sound, program 0 live, no last violation, all past a count or the depth empty
pub record Loaded (m : Machine) : Type 0 where
  pub sound : is_sound m ≡ true
  pub runs_first : m.current ≡ 0
  pub live : m.registers ≡ live_of (get_or m.table 0 no_program)
  pub flag_clear : m.registers.pending ≡ false
  pub no_depth : m.depth ≡ 0
  pub no_violation : m.violations.last ≡ None
  pub no_field : (i : ℕ) → 2 * m.pages ≤ i → get_or m.fields i 0 ≡ 0
  pub no_program_past : (i : ℕ) → m.programs ≤ i → get_or m.table i no_program ≡ no_program
  pub no_mode : (i : ℕ) → get_or m.saved i false ≡ false

module _ (s : List ℕ) (passed : Passed s) where
  described : Loaded (machine_of (describe s))
  unfolding machine_of describe
  described =
      let programs = programs_of s in
      let count : length programs ≡ program_count s = length_entries 5 (program_at s) (22 + 4 * page_count s) (program_count s) in
      let fields = length_entries 2 (field_at s) 22 (2 * page_count s) in
      record {
        sound = facts_sound (machine_of (describe s)) (record {
          pages_least = passed.pages_least;
          pages_most = passed.pages_most;
          exponent_least = passed.exponent_least;
          exponent_most = passed.exponent_most;
          depth_most = omega arith;
          programs_least = omega arith;
          programs_most = omega arith;
          memory_most = passed.memory_most;
          current_below = omega arith;
          calm = refl;
          violation_fits_lem = refl;
        });
        runs_first = refl;
        live = ap live_of (sym (pad_at no_program 8 programs 0 (omega arith)));
        flag_clear = refl;
        no_depth = refl;
        no_violation = refl;
        no_field = λ i past. pad_past 0 256 (fields_of s) i (omega arith);
        no_program_past = λ i past. pad_past no_program 8 programs i past;
        no_mode = λ i. pad_past false 8 [] i (omega arith);
      }

-- a machine that is loaded is one such
pub loaded : (s : List ℕ) → (load_of s).number ≡ 0 → Loaded (load_of s).machine
unfolding load_of
loaded s loads = rw loads (described s (passed s loads))

-- RULES 5.10: whatever refuses a load, the machine is the all-zero one
pub refused_zero : (s : List ℕ) → ((load_of s).number ≡ 0 → ⊥) → (load_of s).machine ≡ zero
unfolding load_of
refused_zero s refused =
    ap (λ (loads : Bool). pick loads (machine_of (describe s)) zero) (ne_eqb (first (load_checks s)) 0 refused)

-- RULES 2.13: a load reports nothing
pub load_silent : (s : List ℕ) → (load_of s).report ≡ Nothing
unfolding load_of
load_silent s = refl

-- RULES 5.8: the numbers of a load, and no others
pub load_number : (s : List ℕ) → is_in (load_of s).number (0 ∷ 20 ∷ 21 ∷ 22 ∷ 23 ∷ 24 ∷ 25 ∷ []) ≡ true
unfolding load_of load_checks
load_number s = first_within (0 ∷ 20 ∷ 21 ∷ 22 ∷ 23 ∷ 24 ∷ 25 ∷ []) (load_checks s) refl
