-- Soundness as numbers: what the tests of `is_sound` say of a machine, and back.
use Prim.Native.Nat.{ℕ, zero, suc, ◌≤◌, ◌<◌}
use mathlib.Core.Path.{◌≡◌, refl}
use mathlib.Core.Bool.{Bool, true, false, not, ◌&&◌}
use mathlib.Core.List.{List, [], ◌∷◌, foldl}
use borrow.Author.Tests.{leb-true, ltb-true, not-true, le-leb, lt-ltb}
use lib.Dec.{leb, ltb}
use lib.ListN.{get_or}
use Rattle.rules.specs.Registers.{is_privileged}
use Rattle.rules.specs.Refusals.{pick}
use Rattle.rules.proofs.Decided.{and_both}
use Rattle.machine.specs.Machine.{is_sound, ranges_hold, memory_size, violation_fits}
use Rattle.machine.specs.declared.record.Machine.{Machine}

-- each of a list of tests that all hold
joined : (a : Bool) (tests : List Bool) → foldl ◌&&◌ a tests ≡ true → a ≡ true
joined a [] h = h
joined a (b ∷ rest) h = (and_both a b (joined (a && b) rest h)).0

pub each : (a : Bool) (tests : List Bool) → foldl ◌&&◌ a tests ≡ true → (i : ℕ) → get_or tests i true ≡ true
each a [] h i = refl
each a (b ∷ rest) h zero = (and_both a b (joined (a && b) rest h)).1
each a (b ∷ rest) h (suc i) = each (a && b) rest h i

ranges : (m : Machine) → List Bool
ranges m =
    leb 1 m.pages ∷ leb m.pages 128 ∷ leb 5 m.exponent ∷ leb m.exponent 12 ∷ leb m.depth 8 ∷ leb 1 m.programs
    ∷ leb m.programs 8 ∷ []

-- where the ranges hold, a memory size that is 0 for an exponent out of range is the memory size
guarded : (r b c d : Bool) (x : ℕ) (fits : ℕ → Bool) → (r ≡ true → b ≡ true)
    → r && leb (pick b x 0) 65536 && c && d && fits (pick b x 0) ≡ r && leb x 65536 && c && d && fits x
guarded true b c d x fits h = rw (h refl)
guarded false b c d x fits h = refl

pub memory_guarded : (m : Machine)
    → let guard = pick (leb m.exponent 12) (memory_size m) 0 in
    ranges_hold m && leb guard 65536 && ltb m.current m.programs && not (m.registers.pending && is_privileged m.registers.mode)
    && violation_fits m.programs guard m.violations.last
    ≡ is_sound m
unfolding is_sound ranges
memory_guarded m =
    guarded (ranges_hold m) (leb m.exponent 12) _ _ (memory_size m) (λ size. violation_fits m.programs size m.violations.last)
    (λ h. each true (ranges m) h 3)

-- the facts of a sound machine
pub record Sound (m : Machine) : Type 0 where
  pub pages_least : 1 ≤ m.pages
  pub pages_most : m.pages ≤ 128
  pub exponent_least : 5 ≤ m.exponent
  pub exponent_most : m.exponent ≤ 12
  pub depth_most : m.depth ≤ 8
  pub programs_least : 1 ≤ m.programs
  pub programs_most : m.programs ≤ 8
  pub memory_most : memory_size m ≤ 65536
  pub current_below : m.current < m.programs
  pub calm : m.registers.pending && is_privileged m.registers.mode ≡ false
  pub violation_fits_lem : violation_fits m.programs (memory_size m) m.violations.last ≡ true

pub sound_facts : (m : Machine) → is_sound m ≡ true → Sound m
unfolding is_sound ranges
sound_facts m h =
    let calm = m.registers.pending && is_privileged m.registers.mode in
    let fits = violation_fits m.programs (memory_size m) m.violations.last in
    let s = each true (ranges_hold m ∷ leb (memory_size m) 65536 ∷ ltb m.current m.programs ∷ not calm ∷ fits ∷ []) h in
    let r = each true (ranges m) (s 0) in
    record {
      pages_least = leb-true _ _ (r 0);
      pages_most = leb-true _ _ (r 1);
      exponent_least = leb-true _ _ (r 2);
      exponent_most = leb-true _ _ (r 3);
      depth_most = leb-true _ _ (r 4);
      programs_least = leb-true _ _ (r 5);
      programs_most = leb-true _ _ (r 6);
      memory_most = leb-true _ _ (s 1);
      current_below = ltb-true _ _ (s 2);
      calm = not-true calm (s 3);
      violation_fits_lem = s 4;
    }

pub facts_sound : (m : Machine) → Sound m → is_sound m ≡ true
unfolding is_sound
facts_sound m s =
    rw (
      le-leb _ _ s.pages_least,
      le-leb _ _ s.pages_most,
      le-leb _ _ s.exponent_least,
      le-leb _ _ s.exponent_most,
      le-leb _ _ s.depth_most,
      le-leb _ _ s.programs_least,
      le-leb _ _ s.programs_most,
      le-leb _ _ s.memory_most,
      lt-ltb _ _ s.current_below,
      s.calm,
      s.violation_fits_lem,
    )

-- what there is to show for the soundness of a machine of the same shape as a sound one
pub moved_sound : (m end : Machine) → (end.pages ≡ m.pages) × (end.exponent ≡ m.exponent) × (end.programs ≡ m.programs)
    → is_sound m ≡ true → end.depth ≤ 8 → end.current < end.programs
    → end.registers.pending && is_privileged end.registers.mode ≡ false
    → violation_fits end.programs (memory_size end) end.violations.last ≡ true → is_sound end ≡ true
moved_sound m end shape h deep below calm fits =
    let s = sound_facts m h in
    facts_sound end
    (record {
      pages_least = rw shape.0 s.pages_least;
      pages_most = rw shape.0 s.pages_most;
      exponent_least = rw shape.1 s.exponent_least;
      exponent_most = rw shape.1 s.exponent_most;
      depth_most = deep;
      programs_least = rw shape.2 s.programs_least;
      programs_most = rw shape.2 s.programs_most;
      memory_most = rw (shape.0, shape.1) s.memory_most;
      current_below = below;
      calm = calm;
      violation_fits_lem = fits;
    })
