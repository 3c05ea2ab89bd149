-- The third demand holds: two histories alike in the chosen program's turns show it what these turns alone show, from any machine
-- that a legal image loads to.
use Prim.Native.Nat.{ℕ, ◌<◌}
use mathlib.Core.Path.{◌≡◌, refl, sym, ap, subst, ◌∙◌}
use mathlib.Core.Bool.{Bool, true, false}
use mathlib.Core.List.{List}
use borrow.Author.Tests.{ltb-true, ltb-false}
use native.Mathlib.Omega.{arith}
use lib.Dec.{ltb}
use lib.ListN.{get_or, get_or-eq_default}
use Rattle.image.specs.Description.{Description, Legal, machine_of, pad, bytes_of}
use Rattle.image.specs.Load.{load_of}
use Rattle.image.proofs.Entries.{length_pad, pad_at}
use Rattle.image.proofs.Loaded.{loaded}
use Rattle.image.proofs.RoundTrip.{legal_loads, loads_one}
use Rattle.machine.specs.Machine.{is_sound, no_program}
use Rattle.machine.proofs.Turn.{registers_of}
use Rattle.machine.specs.declared.record.Machine.{Machine}
use Rattle.machine.specs.declared.record.Answered.{Answered}
use Rattle.isolation.specs.Isolation.{Apart, Isolated, ThirdDemand}
use Rattle.isolation.proofs.Settled.{Started}
use Rattle.isolation.proofs.Alone.{alone, history_alone}

pub isolation : (start : Machine) (chosen : ℕ) → Started start → chosen < start.programs → Apart start chosen
    → Isolated start chosen
unfolding Isolated
isolation start chosen s below apart one two within within' alike =
    let small = s.contexts_small chosen in
    history_alone start chosen apart small below s one within ∙ ap (alone start chosen) alike
    ∙ sym (history_alone start chosen apart small below s two within')

-- the machine of a legal description is one that a history starts on
legal_started : (d : Description) → Legal d → Started (machine_of d)
unfolding machine_of
legal_started d legal =
    let e = ap (λ (a : Answered). a.machine) (legal_loads d legal) in
    let l = loaded (bytes_of d) (ap (λ (a : Answered). a.number) (legal_loads d legal)) in
    record {
      sound = subst (λ (m : Machine). is_sound m ≡ true) e l.sound;
      depth = refl;
      table_long = length_pad no_program 8 d.programs;
      saved_long = refl;
      live = ap registers_of (sym (pad_at no_program 8 d.programs 0 (omega arith)));
      contexts_small = λ program. split program (ltb program 8) refl;
    }
  where
    split : (program : ℕ) (b : Bool) → ltb program 8 ≡ b → (get_or (pad 8 no_program d.programs) program no_program).context < 65536
    split program true e = rw (pad_at no_program 8 d.programs program (ltb-true program 8 e)) (legal.contexts_fit program)
    split program false e =
        let past = ltb-false program 8 e in
        let long = length_pad no_program 8 d.programs in
        rw (get_or-eq_default (pad 8 no_program d.programs) no_program {n = program} (omega arith)) (omega arith)

pub third_demand : ThirdDemand
unfolding ThirdDemand
third_demand image chosen bytes loads below apart =
    let one = loads_one image bytes loads in
    let d = one.0 in
    let same : (load_of image).machine ≡ machine_of d =
    ap (λ (s : List ℕ). (load_of s).machine) (sym one.1.written)
    ∙ ap (λ (a : Answered). a.machine) (legal_loads d one.1.legal) in
    isolation (load_of image).machine chosen (subst Started (sym same) (legal_started d one.1.legal)) below apart
