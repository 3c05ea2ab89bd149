-- Every answer of the core is a listed number, and 10 is none: an answer is the number of the first condition that is met, and all conditions of its
-- definition have listed numbers.
use Rattle.std.specs.Prelude.{Some, None}
use Prim.Native.Nat.{ℕ, zero, suc}
use mathlib.Core.Path.{◌≡◌, refl, sym, ◌∙◌}
use mathlib.Core.Bool.{Bool, true, false, not, ◌&&◌, ◌||◌, true≢false}
use mathlib.Core.List.{List, [], ◌∷◌, ◌++◌}
use borrow.Author.Tests.{eqb-true}
use lib.Dec.{eqb, leb}
use lib.ListN.{get_or, length}
use Rattle.rules.specs.Registers.{mask_checks, masked_of}
use Rattle.rules.specs.Refusals.{Check, first, pick}
use Rattle.machine.specs.Calls.{call_of, checks_of, unchecked_of}
use Rattle.machine.specs.Machine.{is_sound}
use Rattle.machine.specs.Listed.{is_in, sound_numbers}
use Rattle.machine.specs.declared.record.Machine.{Machine}
use Rattle.machine.specs.declared.record.Call.{Call}
use Rattle.rules.proofs.Decided.{and_both}
use Rattle.machine.proofs.Told.{within, first_within}
use Rattle.machine.proofs.Laws.{unchecked_number}
use Rattle.image.specs.Load.{load_checks, load_of}
use Rattle.image.specs.Write.{write_checks, written_of}
use Rattle.planner.specs.Ancestors.{is_ancestor}
use Rattle.planner.specs.Plan.{plan_checks, planned_of}
use Rattle.masks.specs.Least.{least_checks, least_mask_of, pair_checks}
use Rattle.run.specs.Records.{step_by}
use Rattle.run.specs.Run.{image_of, call_answers, answers_of, is_long, sent}
use Rattle.run.proofs.Given.{none_given, answers_given}
use Rattle.numbers.specs.Numbers.{Given, every_number, by_call, by_unchecked, by_lent_record, by_load, by_writing, by_step, by_run, by_plan, by_least_mask}

-- every number of a list is listed
abbrev all_listed : List ℕ → Bool
all_listed [] = true
all_listed (x ∷ rest) = is_in x every_number && all_listed rest

among : (n : ℕ) (l : List ℕ) → all_listed l ≡ true → is_in n l ≡ true → is_in n every_number ≡ true
among n [] all there = absurd (true≢false (sym there))
among n (x ∷ l) all there =
    let both = and_both (is_in x every_number) (all_listed l) all in
    split both.0 (among n l both.1) (eqb n x) refl there
  where
    split : is_in x every_number ≡ true → (is_in n l ≡ true → is_in n every_number ≡ true) → (same : Bool) → eqb n x ≡ same
        → same || is_in n l ≡ true → is_in n every_number ≡ true
    split first rest true e h = rw (eqb-true n x e) first
    split first rest false e h = rest h

unchecked_listed : (m : Machine) (call : Call) → is_in (unchecked_of m call).number every_number ≡ true
unchecked_listed m call = among (unchecked_of m call).number sound_numbers refl (unchecked_number m call)

call_listed : (m : Machine) (call : Call) → is_in (call_of m call).number every_number ≡ true
unfolding call_of unchecked_of
call_listed m call = split (is_sound m)
  where
    split : (sound : Bool) → is_in (pick (not sound) 1 (first (checks_of m call))) every_number ≡ true
    split true = unchecked_listed m call
    split false = refl

load_listed : (bytes : List ℕ) → is_in (load_of bytes).number every_number ≡ true
unfolding load_of load_checks
load_listed bytes = first_within every_number (load_checks bytes) refl

-- the conditions of a list of pairs, and those behind them
pairs_listed : (pages : ℕ) (pairs : List ℕ) (rest : List Check) → within every_number rest ≡ true → within every_number (pair_checks pages pairs ++ rest) ≡ true
unfolding pair_checks
pairs_listed pages [] rest h = h
pairs_listed pages (pair ∷ pairs) rest h = pairs_listed pages pairs rest h

run_listed : (input : List ℕ) (room i : ℕ) → is_in (get_or (sent input room) i 0) every_number ≡ true
unfolding sent
run_listed input room i = split (is_long input) (leb (length (answers_of input)) room)
  where
    all : (j : ℕ) → is_in (get_or (answers_of input) j 0) every_number ≡ true
    all zero = load_listed (image_of input)
    all (suc j) = among (get_or (call_answers input) j 0) (18 ∷ sound_numbers) refl (answers_given input j)

    split : (long fits : Bool) → is_in (get_or (pick long [] (pick fits (answers_of input) [])) i 0) every_number ≡ true
    split true fits = none_given every_number i refl
    split false true = all i
    split false false = none_given every_number i refl

-- RULES 9.1: each answer of the core is a listed number
pub answers_listed : {n : ℕ} → Given n → is_in n every_number ≡ true
unfolding masked_of written_of write_checks planned_of plan_checks least_mask_of least_checks step_by
answers_listed (by_call m call) = call_listed m call
answers_listed (by_unchecked m call) = unchecked_listed m call
answers_listed (by_lent_record r bits) = first_within every_number (mask_checks r bits) refl
answers_listed (by_load bytes) = load_listed bytes
answers_listed (by_writing m room) = first_within every_number (write_checks m room) refl
answers_listed (by_step m (Some call)) = unchecked_listed m call
answers_listed (by_step m None) = refl
answers_listed (by_run input room i) = run_listed input room i
answers_listed (by_plan list) = first_within every_number (plan_checks list (is_ancestor list)) refl
answers_listed (by_least_mask m pairs) = first_within every_number (least_checks m pairs) (pairs_listed m.pages pairs _ refl)

-- RULES 9.2: a number that is not listed is no answer
pub never_given : {n : ℕ} → is_in n every_number ≡ false → Given n → ⊥
never_given other given = true≢false (sym (answers_listed given) ∙ other)

-- RULES 9.2: 10 is given by nothing
pub ten_given_by_nothing : Given 10 → ⊥
ten_given_by_nothing = never_given refl

-- RULES 9.2: nor are 28 and 29
pub unused_given_by_nothing : (Given 28 → ⊥) × (Given 29 → ⊥)
unused_given_by_nothing = (never_given refl, never_given refl)
