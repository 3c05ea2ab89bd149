-- What a command does to the fields as a global context sees them, its own program's and another's, what it reports to its own, and what no
-- command changes. An accepted grant or revocation changes one domain of lower level than the prevailing one, and that one the live
-- global context holds: so a context with no domain below it sees nothing, and the prevailing domain does not move.
use Prim.Native.Nat.{ℕ, zero, suc, ◌≤◌, ◌<◌}
use mathlib.Core.Path.{◌≡◌, refl, sym, ap, ◌∙◌}
use mathlib.Core.Bool.{Bool, true, false}
use mathlib.Core.List.{List, [], ◌∷◌, map}
use lib.Bits.{bit_and}
use lib.Dec.{eqb}
use lib.ListN.{get_or, set, get_or-map}
use lib.Seq.{map-set_same}
use Rattle.rules.specs.Registers.{is_privileged, local_context, with_mask, with_pending}
use Rattle.rules.specs.Domains.{holds, prevailing, giving_domain, with_bit, without_bit}
use Rattle.rules.specs.Refusals.{pick}
use Rattle.rules.specs.declared.registers.Registers.{Registers}
use Rattle.rules.proofs.Bits.{and_assoc, unseen, seen_alike, unmoved}
use Rattle.rules.proofs.Lowest.{both_held}
use Rattle.machine.specs.Machine.{is_sound, place_of, field_of, with_fields, with_registers, with_last}
use Rattle.machine.specs.Calls.{call_of, checks_of, access_checks, change_checks, effect_of, last_after_violation, is_denied, is_outside_memory, number_of, page_of, report_of, touched}
use Rattle.machine.specs.declared.record.Machine.{Machine}
use Rattle.machine.specs.declared.record.Page.{Page}
use Rattle.machine.specs.declared.record.Domain.{Domain}
use Rattle.machine.specs.declared.record.Report.{Report}
use Rattle.machine.specs.declared.record.Report.TheVariants.{Nothing}
use Rattle.machine.specs.declared.record.Width.{Width}
use Rattle.machine.specs.declared.record.Call.{Call}
use Rattle.machine.specs.declared.record.Call.TheVariants.{Access, Grant, Revoke, SetMask}
use Rattle.machine.proofs.Entitled.{Entitled, entitled}
use Rattle.machine.proofs.Touched.{any_same}
use Rattle.machine.proofs.Answers.{avoids, after_cases, after_both, not_nine, change_avoids, change_checks_lem, change_effect, change_reports}
use Rattle.std.specs.Prelude.{Option, Some}
use Rattle.machine.specs.declared.record.Violation.{Violation}

-- the calls of a turn after its entry, switch and return
pub data IsCommand : Call → Type 0 where
  an_access : (width : Width) (right address : ℕ) → IsCommand (Access width right address)
  a_change : (granting : Bool) (right : ℕ) (page : Page) (s : Domain)
      → IsCommand (pick granting (Grant right page s) (Revoke right page s))
  a_mask : (bits : ℕ) → IsCommand (SetMask bits)

-- every field as a context sees it
abbrev pub view : ℕ → Machine → List ℕ
view context m = map (λ (field : ℕ). bit_and field context) m.fields

abbrev pub prevailing_domains : Machine → List (Option ℕ)
prevailing_domains m = map prevailing m.fields

pub map_set : {A B : Type 0} (f : A → B) (l : List A) (i : ℕ) (y : A) → map f (set l i y) ≡ set (map f l) i (f y)
map_set f [] i y = refl
map_set f (x ∷ l) zero y = refl
map_set f (x ∷ l) (suc i) y = ap (λ rest. f x ∷ rest) (map_set f l i y)

-- two lists alike under a map are alike at every place
pub mapped_at : {A B : Type 0} (f : A → B) (l l' : List A) (d : A) → map f l ≡ map f l' → (at : ℕ)
    → f (get_or l at d) ≡ f (get_or l' at d)
mapped_at f l l' d same at =
    sym (get_or-map f l at d) ∙ ap (λ values. get_or values at (f d)) same ∙ get_or-map f l' at d

-- the fields at a place, as a context sees them
pub seen_at : (context : ℕ) (m n : Machine) → view context m ≡ view context n → (at : ℕ)
    → bit_and (get_or m.fields at 0) context ≡ bit_and (get_or n.fields at 0) context
seen_at context m n = mapped_at (λ field. bit_and field context) m.fields n.fields 0

-- ---- an accepted grant or revocation

module _ (m : Machine) (granting : Bool) (right : ℕ) (page : Page) (s : Domain) where
  -- the fields where it is done
  abbrev changed_fields : List ℕ
  changed_fields =
      let field = field_of m right page.0 in
      set m.fields (place_of right page.0) (pick granting (with_bit field s.0) (without_bit field s.0))

  module _ (e : Entitled m right page.0 s.0) where
    -- a context that does not hold the domain sees nothing of it
    change_unseen : (context : ℕ) → context < 65536 → holds context s.0 ≡ false
        → map (λ (field : ℕ). bit_and field context) changed_fields ≡ view context m
    change_unseen context small lacks =
        map-set_same (λ (field : ℕ). bit_and field context) m.fields (place_of right page.0) _ 0
        (unseen (field_of m right page.0) context s.0 e.domain_known lacks small granting)

    -- and no prevailing domain moves
    change_unmoved : map prevailing changed_fields ≡ prevailing_domains m
    change_unmoved =
        map-set_same prevailing m.fields (place_of right page.0) _ 0
        (unmoved (field_of m right page.0) s.0 e.domain e.domain_known e.prevails e.lower granting)

mask_avoids : (m : Machine) (bits : ℕ) → avoids 9 (checks_of m (SetMask bits)) ≡ true
unfolding checks_of
mask_avoids m bits = refl

-- ---- what no command changes

pub record Stays (m end : Machine) : Type 0 where
  pub pages : end.pages ≡ m.pages
  pub exponent : end.exponent ≡ m.exponent
  pub depth : end.depth ≡ m.depth
  pub saved : end.saved ≡ m.saved
  pub programs : end.programs ≡ m.programs
  pub current : end.current ≡ m.current
  pub table : end.table ≡ m.table
  pub context : end.registers.context ≡ m.registers.context
  pub mode : end.registers.mode ≡ m.registers.mode
  pub prevails : prevailing_domains end ≡ prevailing_domains m

-- a machine that differs in the mask, the flag, the fields or the last violation alone
stays_with : (m : Machine) (mask : ℕ) (pending : Bool) (fields : List ℕ) (last : Option Violation)
    → map prevailing fields ≡ prevailing_domains m
    → Stays m (with_last last (with_fields fields (with_registers (with_mask mask (with_pending pending m.registers)) m)))
stays_with m mask pending fields last prevails =
    record {
      pages = refl;
      exponent = refl;
      depth = refl;
      saved = refl;
      programs = refl;
      current = refl;
      table = refl;
      context = refl;
      mode = refl;
      prevails = prevails;
    }

module _ (m : Machine) where
  same_stays : Stays m m
  same_stays = stays_with m m.registers.mask m.registers.pending m.fields m.violations.last refl

  pub command_stays : {call : Call} → IsCommand call → Stays m (call_of m call).machine
  unfolding call_of effect_of
  command_stays (an_access width right address) =
      let call = Access width right address in
      after_cases (Stays m) (number_of m call) m call (λ _. same_stays)
      (λ _. stays_with m m.registers.mask true m.fields (last_after_violation m call) refl)
      same_stays
  command_stays (a_change granting right page s) =
      let call = pick granting (Grant right page s) (Revoke right page s) in
      after_cases (Stays m) (number_of m call) m call
      (λ h.
      rw (change_effect m right page s granting)
      (stays_with m m.registers.mask m.registers.pending (changed_fields m granting right page s) m.violations.last
      (change_unmoved m granting right page s (entitled m granting right page s h))))
      (λ h. absurd (not_nine m call (change_avoids m right page s granting) h))
      same_stays
  command_stays (a_mask bits) =
      after_cases (Stays m) (number_of m (SetMask bits)) m (SetMask bits)
      (λ _. stays_with m bits m.registers.pending m.fields m.violations.last refl)
      (λ h. absurd (not_nine m (SetMask bits) (mask_avoids m bits) h))
      same_stays

-- ---- another program's view

-- a context that holds no domain of lower level than a prevailing domain that the live context holds
abbrev pub Below : Machine → ℕ → Type 0
Below m context =
    (right page domain s : ℕ) → right ≤ 1 → page < m.pages → prevailing (field_of m right page) ≡ Some domain
    → holds m.registers.context domain ≡ true → domain < s → holds context s ≡ false

-- sees nothing of a command
pub command_unseen : (m : Machine) {call : Call} → IsCommand call → (context : ℕ) → context < 65536 → Below m context
    → view context (call_of m call).machine ≡ view context m
unfolding call_of effect_of
command_unseen m (an_access width right address) context small below =
    after_cases (λ end. view context end ≡ view context m) (number_of m (Access width right address)) m (Access width right address)
    (λ _. refl) (λ _. refl) refl
command_unseen m (a_change granting right page s) context small below =
    let call = pick granting (Grant right page s) (Revoke right page s) in
    after_cases (λ end. view context end ≡ view context m) (number_of m call) m call
    (λ h.
    let e = entitled m granting right page s h in
    let held = (both_held m.registers.context m.registers.mask e.domain e.held).0 in
    let lacks = below right page.0 e.domain s.0 e.right_known e.page_counted e.prevails held e.lower in
    rw (change_effect m right page s granting) (change_unseen m granting right page s e context small lacks))
    (λ _. refl) refl
command_unseen m (a_mask bits) context small below =
    after_cases (λ end. view context end ≡ view context m) (number_of m (SetMask bits)) m (SetMask bits)
    (λ _. refl) (λ _. refl) refl

-- ---- its own program's view

-- two machines that a program of that context cannot tell apart by commands
pub record Alike (context : ℕ) (m n : Machine) : Type 0 where
  pub pages : m.pages ≡ n.pages
  pub exponent : m.exponent ≡ n.exponent
  pub registers : m.registers ≡ n.registers
  pub prevails : prevailing_domains m ≡ prevailing_domains n
  pub seen : view context m ≡ view context n

-- what a command of that program may change of it
abbrev SeenAlike : ℕ → Machine → Machine → Type 0
SeenAlike context m n = (m.registers ≡ n.registers) × (view context m ≡ view context n)

module _ {context : ℕ} {m n : Machine} (a : Alike context m n) where
  -- a command has one number on both
  module _ (live : m.registers.context ≡ context) (sound : is_sound m ≡ true) (sound' : is_sound n ≡ true) where
    -- an access is judged by what the context sees of the fields
    judged : (at : ℕ)
        → bit_and (get_or m.fields at 0) (local_context m.registers)
        ≡ bit_and (get_or n.fields at 0) (local_context n.registers)
    judged at =
        let mask = n.registers.mask in
        let live' : n.registers.context ≡ context = rw a.registers at live in
        rw (a.registers, live')
        (sym (and_assoc (get_or m.fields at 0) context mask) ∙ ap (λ x. bit_and x mask) (seen_at context m n a.seen at)
        ∙ and_assoc (get_or n.fields at 0) context mask)

    pub alike_number : {call : Call} → IsCommand call → number_of m call ≡ number_of n call
    unfolding checks_of access_checks change_checks
    alike_number (an_access width right address) =
        let bytes = touched width address in
        let outside = any_same {p = is_outside_memory m} {q = is_outside_memory n} (λ byte. rw (a.exponent, a.pages)) bytes in
        let denied =
        any_same {p = is_denied m right} {q = is_denied n right} (λ byte. rw (a.exponent, judged (place_of right (page_of n byte)))) bytes in
        rw (sound, sound', outside, denied, a.registers)
    alike_number (a_change granting right page s) =
        let prevails = mapped_at prevailing m.fields n.fields 0 a.prevails (place_of right page.0) in
        rw (change_checks_lem m right page s granting, change_checks_lem n right page s granting)
        (rw (sound, sound', prevails, a.pages, a.registers))
    alike_number (a_mask bits) = rw (sound, sound', a.registers)

    -- and reports the same: an access names a domain that the context sees
    pub alike_report : {call : Call} → IsCommand call → (call_of m call).report ≡ (call_of n call).report
    unfolding call_of giving_domain
    alike_report {call} command = rw (alike_number command) (ap (λ (report : Report). pick (eqb (number_of n call) 0) report Nothing) (same command))
      where
        same : {call : Call} → IsCommand call → report_of m call ≡ report_of n call
        same (an_access width right address) =
            rw (a.exponent, judged (place_of right (page_of n address)), ap (λ (r : Registers). is_privileged r.mode) a.registers)
        same (a_change granting right page s) = change_reports m right page s granting ∙ sym (change_reports n right page s granting)
        same (a_mask bits) = refl

  effects_alike : {call : Call} → IsCommand call → SeenAlike context (effect_of m call) (effect_of n call)
  unfolding effect_of
  effects_alike (an_access width right address) = (a.registers, a.seen)
  effects_alike (a_change granting right page s) =
      let at = place_of right page.0 in
      let field = seen_at context m n a.seen at in
      let seen = seen_alike (get_or m.fields at 0) (get_or n.fields at 0) context s.0 field granting in
      rw (change_effect m right page s granting, change_effect n right page s granting) (
        a.registers,
        map_set (λ field. bit_and field context) m.fields at _ ∙ rw (seen, a.seen) (
            sym (map_set (λ field. bit_and field context) n.fields at _)),
      )
  effects_alike (a_mask bits) = (ap (with_mask bits) a.registers, a.seen)

  -- and leaves two such machines
  seen_after : {call : Call} → IsCommand call → number_of m call ≡ number_of n call
      → SeenAlike context (call_of m call).machine (call_of n call).machine
  unfolding call_of
  seen_after {call} command number =
      rw number
      (after_both (SeenAlike context) (number_of n call) call (effects_alike command)
      (ap (with_pending true) a.registers, a.seen) (a.registers, a.seen))

  pub alike_after : {call : Call} → IsCommand call → number_of m call ≡ number_of n call
      → Alike context (call_of m call).machine (call_of n call).machine
  alike_after command number =
      let stays = command_stays m command in
      let stays' = command_stays n command in
      let both = seen_after command number in
      record {
        pages = stays.pages ∙ a.pages ∙ sym stays'.pages;
        exponent = stays.exponent ∙ a.exponent ∙ sym stays'.exponent;
        registers = both.0;
        prevails = stays.prevails ∙ a.prevails ∙ sym stays'.prevails;
        seen = both.1;
      }
