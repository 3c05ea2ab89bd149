-- The calls of a string of bytes, one record at a time, and how many they are.
use Rattle.std.specs.Prelude.{Option, Some, None}
use Prim.Native.Nat.{ℕ, zero, suc, ◌+◌, ◌*◌, ◌/◌, ◌≤◌, ◌<◌}
use mathlib.Core.Path.{◌≡◌, refl, ap, sym, ◌∙◌}
use mathlib.Core.Bool.{Bool, true, false}
use mathlib.Core.List.{List, [], ◌∷◌}
use native.Mathlib.Numerals.{add-one}
use native.Mathlib.Omega.{arith}
use borrow.Author.Tests.{eqb-true, eqb-false}
use lib.Dec.{eqb}
use lib.ListN.{length, get_or, set, drop, get_or-eq_default, drop_of_length-le}
use lib.Seq.{sets}
use Rattle.std.specs.Simd.{first_chunks}
use Rattle.image.specs.Bytes.{word_of}
use Rattle.machine.specs.Machine.{is_sound, with_lent}
use Rattle.machine.specs.Calls.{keeping}
use Rattle.machine.specs.declared.record.Machine.{Machine}
use Rattle.machine.specs.declared.record.Answered.{Answered}
use Rattle.machine.specs.declared.record.Call.{Call}
use Rattle.machine.proofs.Answers.{sound_unchecked}
use Rattle.machine.proofs.LentParts.{Lent}
use Rattle.machine.proofs.Laws.{soundness_kept}
use Rattle.run.specs.Records.{kinds, call_of_kind, calls_of, step_by, step_of, unchecked_step_of}
use Rattle.run.specs.Run.{steps_from}

-- a step on a record that was decoded to a call is that call
pub made : (fields : List ℕ) (saved : List Bool) (m : Machine) (call : Call) {r : Answered} {fields' : List ℕ} {saved' : List Bool} {decoded : Option Call} {named : Call}
    → Lent fields saved m call r fields' saved' → decoded ≡ Some named → named ≡ call
    → record {
      value : r ≡ keeping m (unchecked_step_of (with_lent fields saved m) decoded);
      fields_after : fields' ≡ (unchecked_step_of (with_lent fields saved m) decoded).machine.fields;
      saved_after : saved' ≡ (unchecked_step_of (with_lent fields saved m) decoded).machine.saved;
    }
unfolding step_by
made fields saved m call answer decodes names = rw (decodes, names) (record { value = answer.0; fields_after = answer.1.0; saved_after = answer.1.1 })

-- a kind past the table's last is none of the thirteen
pub unknown_kind : (kind right a b : ℕ) → ((kind ≡ 0 → ⊥) → 14 ≤ kind) → None ≡ call_of_kind kind right a b
unfolding call_of_kind
unknown_kind kind right a b past = split (eqb kind 0) refl
  where
    split : (z : Bool) → eqb kind 0 ≡ z → None ≡ call_of_kind kind right a b
    split true e = rw (eqb-true kind 0 e)
    split false e = sym (get_or-eq_default (kinds right a b) None (past (eqb-false kind 0 e)))

-- the call of six bytes
pub one_record : (l : List ℕ) → length l ≡ 6
    → calls_of l
    ≡ call_of_kind (get_or l 0 0) (get_or l 1 0) (word_of (get_or l 2 0) (get_or l 3 0)) (word_of (get_or l 4 0) (get_or l 5 0)) ∷ []
unfolding calls_of
one_record [] h = absurd (omega arith)
one_record (k ∷ []) h = absurd (omega arith)
one_record (k ∷ r ∷ []) h = absurd (omega arith)
one_record (k ∷ r ∷ a ∷ []) h = absurd (omega arith)
one_record (k ∷ r ∷ a ∷ a' ∷ []) h = absurd (omega arith)
one_record (k ∷ r ∷ a ∷ a' ∷ b ∷ []) h = absurd (omega arith)
one_record (k ∷ r ∷ a ∷ a' ∷ b ∷ b' ∷ []) h = refl
one_record (k ∷ r ∷ a ∷ a' ∷ b ∷ b' ∷ more ∷ rest) h = absurd (omega arith)

-- the call of each six bytes is the next one of all
chunk_call : (k : ℕ) (l : List ℕ) (i : ℕ) (call : Option Call) → i < k → k * 6 ≤ length l → calls_of (get_or (first_chunks 6 k l) i []) ≡ call ∷ []
    → drop i (calls_of l) ≡ call ∷ drop (suc i) (calls_of l)
unfolding calls_of
chunk_call zero l i call h long is = absurd (omega arith)
chunk_call (suc k) [] i call h long is = absurd (omega arith)
chunk_call (suc k) (x ∷ []) i call h long is = absurd (omega arith)
chunk_call (suc k) (x ∷ r ∷ []) i call h long is = absurd (omega arith)
chunk_call (suc k) (x ∷ r ∷ a ∷ []) i call h long is = absurd (omega arith)
chunk_call (suc k) (x ∷ r ∷ a ∷ a' ∷ []) i call h long is = absurd (omega arith)
chunk_call (suc k) (x ∷ r ∷ a ∷ a' ∷ b ∷ []) i call h long is = absurd (omega arith)
chunk_call (suc k) (x ∷ r ∷ a ∷ a' ∷ b ∷ b' ∷ rest) zero call h long is = ap (λ (calls : List (Option Call)). get_or calls 0 None ∷ calls_of rest) is
chunk_call (suc k) (x ∷ r ∷ a ∷ a' ∷ b ∷ b' ∷ rest) (suc i) call h long is = chunk_call k rest i call (omega arith) (omega arith) is

pub next_call : (bytes : List ℕ) (i : ℕ) {call : Option Call} → i < length bytes / 6 → calls_of (get_or (first_chunks 6 (length bytes / 6) bytes) i []) ≡ call ∷ []
    → drop i (calls_of bytes) ≡ call ∷ drop (i + 1) (calls_of bytes)
next_call bytes i {call} h is = rw add-one (chunk_call (length bytes / 6) bytes i call h (omega arith) is)

-- one call for every six bytes
pub count_calls : (l : List ℕ) → length (calls_of l) ≡ length l / 6
unfolding calls_of
count_calls [] = refl
count_calls (k ∷ []) = refl
count_calls (k ∷ r ∷ []) = refl
count_calls (k ∷ r ∷ a ∷ []) = refl
count_calls (k ∷ r ∷ a ∷ a' ∷ []) = refl
count_calls (k ∷ r ∷ a ∷ a' ∷ b ∷ []) = refl
count_calls (k ∷ r ∷ a ∷ a' ∷ b ∷ b' ∷ rest) = let more = count_calls rest in omega arith

-- past the last there is none
pub no_call_left : (bytes : List ℕ) (i : ℕ) → length bytes / 6 ≤ i → drop i (calls_of bytes) ≡ []
no_call_left bytes i past = drop_of_length-le (calls_of bytes) (omega (arith, count_calls bytes))

-- one step for every call
pub count_steps : (m : Machine) (calls : List (Option Call)) → length (steps_from m calls) ≡ length calls
unfolding steps_from
count_steps m [] = refl
count_steps m (call ∷ rest) = let more = count_steps (step_of m call).machine rest in omega arith

-- a step hands back a sound machine where it was handed one
pub step_sound : (m : Machine) (call : Option Call) → is_sound m ≡ true → is_sound (step_of m call).machine ≡ true
unfolding step_by
step_sound m (Some call) s = soundness_kept m call ∙ s
step_sound m None s = s

-- on a sound machine a step is one without the check for 1
pub sound_step : (m : Machine) (call : Option Call) → is_sound m ≡ true → step_of m call ≡ unchecked_step_of m call
unfolding step_by
sound_step m (Some call) s = sound_unchecked m call s
sound_step m None s = refl

-- what a step gives back and the lent parts after it, put together, are the step on the whole machine
pub whole : (own : Machine) {fields : List ℕ} {saved : List Bool} {r s : Answered} → r ≡ keeping own s → fields ≡ s.machine.fields
    → saved ≡ s.machine.saved → ◌≡◌ {A = Answered} (record { number = r.number; machine = with_lent fields saved r.machine; report = r.report }) s
whole own e f g = rw (e, f, g)

-- the step of the call at a place, and those of the calls past it on the machine that it gives back, are the steps from that place on
pub next_step : (bytes : List ℕ) (m : Machine) (i : ℕ) {call : Option Call} {r : Answered} → i < length bytes / 6
    → calls_of (get_or (first_chunks 6 (length bytes / 6) bytes) i []) ≡ call ∷ [] → r ≡ step_of m call
    → steps_from m (drop i (calls_of bytes)) ≡ r ∷ steps_from r.machine (drop (i + 1) (calls_of bytes))
unfolding steps_from
next_step bytes m i h is e = rw (next_call bytes i h is, e)

-- a turn of a loop that stores a list, one member a turn: the first stored at a place, and the rest from the next place on, are the whole list from that
-- place on
pub turn : (buffer : List ℕ) (i next first : ℕ) {rest all : List ℕ} → next ≡ i + 1 → all ≡ first ∷ rest → sets (set buffer i first) next rest ≡ sets buffer i all
turn buffer i next first behind e = rw (behind, add-one, e)
