-- What an image that nothing refuses says of its bytes, as equations and bounds, and back.
use Prim.Native.Nat.{ℕ, ◌+◌, ◌*◌, ◌^◌, ◌≤◌}
use mathlib.Core.Path.{◌≡◌}
use mathlib.Core.Bool.{true}
use mathlib.Core.List.{List}
use borrow.Author.Tests.{leb-true, eqb-true, le-leb, eq-eqb}
use native.Mathlib.Omega.{arith}
use lib.ListN.{length}
use Rattle.rules.specs.Refusals.{first}
use Rattle.machine.proofs.Sound.{each}
use Rattle.image.specs.Load.{kind_at, zero_at, offset_at, length_at, page_count, page_exponent, program_count, shape_zero, modes_of, every, are_modes, length_tests, kind_tests, shape_entry_tests, shape_tests, body_tests, load_checks}

-- the facts of an image that nothing refuses
pub record Passed (s : List ℕ) : Type 0 where
  pub kind_0 : kind_at s 0 ≡ 1
  pub zero_0 : zero_at s 0 ≡ 0
  pub kind_1 : kind_at s 1 ≡ 2
  pub zero_1 : zero_at s 1 ≡ 0
  pub kind_2 : kind_at s 2 ≡ 3
  pub zero_2 : zero_at s 2 ≡ 0
  pub offset_0 : offset_at s 0 ≡ 18
  pub length_0 : length_at s 0 ≡ 4
  pub pages_least : 1 ≤ page_count s
  pub pages_most : page_count s ≤ 128
  pub exponent_least : 5 ≤ page_exponent s
  pub exponent_most : page_exponent s ≤ 12
  pub programs_least : 1 ≤ program_count s
  pub programs_most : program_count s ≤ 8
  pub shape_zero_lem : shape_zero s ≡ 0
  pub memory_most : page_count s * 2 ^ page_exponent s ≤ 65536
  pub offset_1 : offset_at s 1 ≡ 22
  pub length_1 : length_at s 1 ≡ 4 * page_count s
  pub offset_2 : offset_at s 2 ≡ 22 + 4 * page_count s
  pub length_2 : length_at s 2 ≡ 5 * program_count s
  pub ends : length s ≡ 22 + 4 * page_count s + 5 * program_count s
  pub modes : are_modes (modes_of s) ≡ true

module _ (s : List ℕ) where
  -- the conditions of a list of which none is met
  none : first (load_checks s) ≡ 0
      → (every (kind_tests s) ≡ true) × (every (shape_entry_tests s) ≡ true) × (every (shape_tests s) ≡ true)
      × (every (body_tests s) ≡ true) × (are_modes (modes_of s) ≡ true)
  unfolding load_checks
  none h = grind arith

  pub passed : first (load_checks s) ≡ 0 → Passed s
  unfolding kind_tests shape_entry_tests shape_tests body_tests
  passed h =
      let n = none h in
      let k = each true (kind_tests s) n.0 in
      let o = each true (shape_entry_tests s) n.1 in
      let r = each true (shape_tests s) n.2 in
      let b = each true (body_tests s) n.3 in
      record {
        kind_0 = eqb-true _ _ (k 0);
        zero_0 = eqb-true _ _ (k 1);
        kind_1 = eqb-true _ _ (k 2);
        zero_1 = eqb-true _ _ (k 3);
        kind_2 = eqb-true _ _ (k 4);
        zero_2 = eqb-true _ _ (k 5);
        offset_0 = eqb-true _ _ (o 0);
        length_0 = eqb-true _ _ (o 1);
        pages_least = leb-true _ _ (r 0);
        pages_most = leb-true _ _ (r 1);
        exponent_least = leb-true _ _ (r 2);
        exponent_most = leb-true _ _ (r 3);
        programs_least = leb-true _ _ (r 4);
        programs_most = leb-true _ _ (r 5);
        shape_zero_lem = eqb-true _ _ (r 6);
        memory_most = leb-true _ _ (r 7);
        offset_1 = eqb-true _ _ (b 0);
        length_1 = eqb-true _ _ (b 1);
        offset_2 = eqb-true _ _ (b 2);
        length_2 = eqb-true _ _ (b 3);
        ends = eqb-true _ _ (b 4);
        modes = n.4;
      }

  pub passes : Passed s → first (load_checks s) ≡ 0
  unfolding load_checks length_tests kind_tests shape_entry_tests shape_tests body_tests
  passes f =
      rw (
        le-leb 31 (length s) (omega arith),
        le-leb (length s) 574 (omega arith),
        eq-eqb _ _ f.kind_0,
        eq-eqb _ _ f.zero_0,
        eq-eqb _ _ f.kind_1,
        eq-eqb _ _ f.zero_1,
        eq-eqb _ _ f.kind_2,
        eq-eqb _ _ f.zero_2,
        eq-eqb _ _ f.offset_0,
        eq-eqb _ _ f.length_0,
        le-leb _ _ f.pages_least,
        le-leb _ _ f.pages_most,
        le-leb _ _ f.exponent_least,
        le-leb _ _ f.exponent_most,
        le-leb _ _ f.programs_least,
        le-leb _ _ f.programs_most,
        eq-eqb _ _ f.shape_zero_lem,
        le-leb _ _ f.memory_most,
        eq-eqb _ _ f.offset_1,
        eq-eqb _ _ f.length_1,
        eq-eqb _ _ f.offset_2,
        eq-eqb _ _ f.length_2,
        eq-eqb _ _ f.ends,
        f.modes,
      )
