-- What a run gives: how many answers there are, the buffer with them at its front, and the names behind the first place of theirs.
use Prim.Native.Nat.{ℕ, ◌+◌, ◌-◌, ◌/◌, ◌≤◌, ◌<◌, min}
use mathlib.Core.Path.{◌≡◌, refl, sym, ◌∙◌}
use mathlib.Core.Bool.{Bool, true, false}
use mathlib.Core.List.{List, [], ◌∷◌, ◌++◌, map}
use native.Mathlib.Nat.{zero-add}
use native.Mathlib.Omega.{arith}
use borrow.Author.Tests.{lt-ltb, le-ltb, le-leb, lt-leb, ne_eqb}
use lib.Dec.{eqb}
use lib.ListN.{length, drop, set, length-drop, length-map}
use lib.Seq.{sets, sets-eq}
use Rattle.rules.specs.Refusals.{pick}
use Rattle.machine.specs.declared.record.Answered.{Answered}
use Rattle.image.specs.Bytes.{word_at}
use Rattle.run.specs.Records.{calls_of}
use Rattle.run.specs.Run.{answers_of, call_answers, call_bytes, call_reports, call_steps, loaded_of, name_of, numbers_of, reports_of, sent, sent_reports, steps_from}
use Rattle.run.proofs.Parts.{calls_part}
use Rattle.run.proofs.Steps.{count_calls, count_steps}

-- what the contract of `run_named` says of a count, of the answers at exit and of the names at exit; that of `bench_run` has no names
abbrev pub Sends : (input entry names : List ℕ) (count : ℕ) (exit names' : List ℕ) → Type 0
Sends input entry names count exit names' =
    record {
      value : count ≡ length (sent input (length entry));
      answers_after : exit ≡ sent input (length entry) ++ drop (length (sent input (length entry))) entry;
      names_after : names' ≡ sets names 1 (map name_of (sent_reports input (length entry)));
    }

nothing_sent : (input entry names : List ℕ) → sent input (length entry) ≡ [] → Sends input entry names 0 entry names
unfolding sent_reports
nothing_sent input entry names e = rw e (record { value = refl; answers_after = refl; names_after = refl })

pub long_sends : (input entry names : List ℕ) → 32768 < length input → Sends input entry names 0 entry names
unfolding sent
long_sends input entry names h = nothing_sent input entry names (rw (lt-ltb 32768 (length input) h))

-- how many bytes the calls are read from
pub bytes_left : (input : List ℕ) {end : ℕ} → end ≡ min (2 + word_at input 0) (length input) → length (call_bytes input) ≡ length input - end
bytes_left input ends = simp length-drop (omega (arith, ends))

-- one answer of the load, and one of every six bytes after the image
pub answers_count : (input : List ℕ) → length (answers_of input) ≡ pick (eqb (loaded_of input).number 0) (1 + length (call_bytes input) / 6) 1
unfolding call_steps
answers_count input = split (eqb (loaded_of input).number 0)
  where
    split : (b : Bool)
        → length ((loaded_of input).number ∷ numbers_of (pick b (steps_from (loaded_of input).machine (calls_of (call_bytes input))) []))
        ≡ pick b (1 + length (call_bytes input) / 6) 1
    split true =
        let steps = steps_from (loaded_of input).machine (calls_of (call_bytes input)) in
        let calls = length-map steps (λ (a : Answered). a.number) ∙ count_steps (loaded_of input).machine (calls_of (call_bytes input)) ∙ count_calls (call_bytes input) in
        omega (arith, calls)
    split false = refl

-- the steps of a run: those of the calls after an accepted load, and none after a refused one
pub steps_read : (input : List ℕ) → (loaded_of input).number ≡ 0 → steps_from (loaded_of input).machine (calls_of (call_bytes input)) ≡ call_steps input
unfolding call_steps
steps_read input zero = rw zero

-- the same of the bytes from where the calls start
pub steps_all : (input : List ℕ) {end : ℕ} → end ≡ min (2 + word_at input 0) (length input) → (loaded_of input).number ≡ 0
    → steps_from (loaded_of input).machine (calls_of (drop end input)) ≡ call_steps input
steps_all input ends zero = rw (calls_part input ends) (steps_read input zero)

pub steps_none : (input : List ℕ) → ((loaded_of input).number ≡ 0 → ⊥) → [] ≡ call_steps input
unfolding call_steps
steps_none input refused = rw (ne_eqb (loaded_of input).number 0 refused)

-- where the answers have room, all of them are sent
pub all_sent : (input : List ℕ) (room : ℕ) → length input ≤ 32768 → length (answers_of input) ≤ room → sent input room ≡ answers_of input
unfolding sent
all_sent input room within fits = rw (le-ltb 32768 (length input) within, le-leb (length (answers_of input)) room fits)

-- and with them all that is reported
pub all_reported : (input : List ℕ) (room : ℕ) → sent input room ≡ answers_of input → sent_reports input room ≡ call_reports input
unfolding sent_reports
all_reported input room all = rw (all, ne_eqb (length (answers_of input)) 0 (λ (none : length (answers_of input) ≡ 0). omega (arith, none)))

module _ (input entry names : List ℕ) {count : ℕ} (within : length input ≤ 32768) (counted : count ≡ length (answers_of input)) where
  pub short_sends : length entry < count → Sends input entry names 0 entry names
  unfolding sent
  short_sends short = nothing_sent input entry names (rw (le-ltb 32768 (length input) within, ← counted, lt-leb _ (length entry) short))

  -- the load's number stored, and behind it what the steps answer and name
  pub all_sends : {exit names' : List ℕ} (steps : List Answered) → count ≤ length entry → steps ≡ call_steps input
      → exit ≡ sets (set entry 0 (loaded_of input).number) 1 (numbers_of steps) → names' ≡ sets names 1 (map name_of (reports_of steps))
      → Sends input entry names count exit names'
  all_sends steps room same stored named =
      let all = all_sent input (length entry) within (omega (arith, counted, room)) in
      rw (all_reported input (length entry) all, all)
      (record {
        value = counted;
        answers_after = rw same at stored ∙ sets-eq (answers_of input) entry 0 (omega (arith, counted, room)) ∙ simp zero-add;
        names_after = rw same at named;
      })

-- one report for every answer of a record
pub reports_count : (input : List ℕ) → length (call_reports input) ≡ length (call_answers input)
reports_count input = length-map (call_steps input) _ ∙ sym (length-map (call_steps input) _)

-- RULES 7.6: room for the answers of an input
pub answers_most : (input : List ℕ) → length (answers_of input) ≤ 1 + length input / 6
answers_most input = rw (answers_count input) (split (eqb (loaded_of input).number 0))
  where
    fewer : length (call_bytes input) ≤ length input
    fewer = simp length-drop (omega arith)

    split : (b : Bool) → pick b (1 + length (call_bytes input) / 6) 1 ≤ 1 + length input / 6
    split true = omega (arith, fewer)
    split false = omega arith
