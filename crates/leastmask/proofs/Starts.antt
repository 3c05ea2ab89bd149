-- How a node starts on a program: by what the load answers, and then the switch. From the definition, and by the law of a turn's beginning.
use Prim.Native.Nat.{ℕ, ◌+◌, ◌<◌, ◌≤◌}
use mathlib.Core.Path.{◌≡◌, refl, ap, ◌∙◌}
use mathlib.Core.Bool.{true}
use mathlib.Core.List.{List}
use borrow.Author.Tests.{eq-eqb, ne_eqb, le-ltb, lt-ltb}
use native.Mathlib.Omega.{arith}
use lib.Dec.{eqb, ltb}
use lib.ListN.{length}
use Rattle.machine.specs.Machine.{is_sound, zero}
use Rattle.machine.specs.Calls.{after, call_of, checks_of, effect_of, entered, silent}
use Rattle.machine.specs.declared.record.Machine.{Machine}
use Rattle.machine.specs.declared.record.Answered.{Answered}
use Rattle.machine.specs.declared.record.Call.TheVariants.{Enter, Switch, Return}
use Rattle.machine.proofs.Sound.{sound_facts, moved_sound}
use Rattle.machine.proofs.Turn.{Turned, turned, turn_begins}
use Rattle.image.specs.Description.{machine_of}
use Rattle.image.specs.Load.{load_of}
use Rattle.image.proofs.Loaded.{load_silent, loaded, refused_zero}
use Rattle.leastmask.specs.Asked.{started_of}

-- in a first interrupt the switch to a program that the table does not have is 16
missing_program : (m : Machine) (program : ℕ) → is_sound m ≡ true → m.depth ≡ 0 → m.programs ≤ program
    → (call_of (call_of m Enter).machine (Switch program)).number ≡ 16
unfolding call_of checks_of effect_of after entered
missing_program m program sound depth past =
    let s = sound_facts m sound in
    let one = moved_sound m (entered m) (refl, refl, refl) sound (omega (arith, depth)) s.current_below refl s.violation_fits_lem in
    let low : ltb m.depth 8 ≡ true = lt-ltb m.depth 8 (omega (arith, depth)) in
    let first : eqb (m.depth + 1) 1 ≡ true = eq-eqb (m.depth + 1) 1 (omega (arith, depth)) in
    rw (sound, low, one, first, le-ltb program m.programs past)

module _ (image : List ℕ) (program : ℕ) where
  -- the switch of the loaded machine's first interrupt
  abbrev switch : Answered
  switch = call_of (call_of (load_of image).machine Enter).machine (Switch program)

  pub not_loaded : ((load_of image).number ≡ 0 → ⊥) → started_of image program ≡ load_of image
  unfolding started_of
  not_loaded refused = rw (ne_eqb (load_of image).number 0 refused)

  pub not_switched : (load_of image).number ≡ 0 → (switch.number ≡ 0 → ⊥) → started_of image program ≡ silent switch.number zero
  unfolding started_of
  not_switched loads refused = rw (eq-eqb (load_of image).number 0 loads, ne_eqb switch.number 0 refused)

  pub turned_on : (load_of image).number ≡ 0 → switch.number ≡ 0 → started_of image program ≡ call_of switch.machine Return
  unfolding started_of
  turned_on loads done = rw (eq-eqb (load_of image).number 0 loads, eq-eqb switch.number 0 done)

  -- RULES 12.7: an image that does not load gives its number and the all-zero machine
  pub start_unloaded : ((load_of image).number ≡ 0 → ⊥) → started_of image program ≡ silent (load_of image).number zero
  start_unloaded refused =
      let none = refused_zero image refused in
      let nothing = load_silent image in
      not_loaded refused ∙ rw (← none, ← nothing)

  module _ (loads : (load_of image).number ≡ 0) where
    long : length (load_of image).machine.saved ≡ 8
    unfolding load_of machine_of
    long = rw loads

    begins : (p : ℕ) → p < (load_of image).machine.programs → Turned (load_of image).machine p
    begins p below =
        let m = loaded image loads in
        turn_begins (load_of image).machine p m.sound m.no_depth (omega (arith, long)) below

    -- RULES 12.7: a program of the table gets the machine on which its turn begins, with its own registers
    pub start_begins : program < (load_of image).machine.programs → started_of image program ≡ silent 0 (turned (load_of image).machine program)
    start_begins below =
        let turn = begins program below in
        let switch = ap (λ (r : Answered). call_of r.machine (Switch program)) turn.entry ∙ turn.switch in
        turned_on loads (ap (λ (r : Answered). r.number) switch) ∙ ap (λ (r : Answered). call_of r.machine Return) switch ∙ turn.return

    -- RULES 12.7: a program that is not there gets the switch's 16 and the all-zero machine
    pub start_missing : (load_of image).machine.programs ≤ program → started_of image program ≡ silent 16 zero
    start_missing past =
        let m = loaded image loads in
        let sixteen = missing_program (load_of image).machine program m.sound m.no_depth past in
        not_switched loads (λ done. omega (arith, sixteen, done)) ∙ ap (λ (number : ℕ). silent number zero) sixteen
