-- When a grant or a revocation is accepted: exactly where none of its conditions is met, here one by one.
use Prim.Native.Nat.{ℕ, ◌≤◌, ◌<◌}
use mathlib.Core.Path.{◌≡◌, refl}
use mathlib.Core.Bool.{Bool, true, false, true≢false}
use borrow.Author.Tests.{ltb-true, leb-true, leb-false, le-leb, lt-leb, lt-ltb, not-false}
use Rattle.rules.specs.Registers.{local_context}
use Rattle.rules.specs.Domains.{holds, prevailing, is_outside, is_not_lower}
use Rattle.rules.specs.Refusals.{pick}
use Rattle.machine.specs.Machine.{is_sound, field_of}
use Rattle.machine.specs.Calls.{change_checks, in_privileged_mode, number_of}
use Rattle.machine.specs.declared.record.Machine.{Machine}
use Rattle.machine.specs.declared.record.Page.{Page}
use Rattle.machine.specs.declared.record.Domain.{Domain}
use Rattle.machine.specs.declared.record.Call.TheVariants.{Grant, Revoke}
use Rattle.machine.proofs.Answers.{accepted, met_at, unmet, change_checks_lem}
use Rattle.std.specs.Prelude.{Option, None, Some}

-- a grant or a revocation is accepted by virtue of the prevailing domain of the whole field alone: it is there, the local context has
-- it, and it is of higher level than the domain that is named
pub record Entitled (m : Machine) (right page s : ℕ) : Type 0 where
  pub right_known : right ≤ 1
  pub page_counted : page < m.pages
  pub domain_known : s < 16
  pub in_user_mode_lem : in_privileged_mode m ≡ false
  pub flag_clear : m.registers.pending ≡ false
  pub domain : ℕ
  pub prevails : prevailing (field_of m right page) ≡ Some domain
  pub held : holds (local_context m.registers) domain ≡ true
  pub lower : domain < s

module _ (m : Machine) (granting : Bool) (right : ℕ) (page : Page) (s : Domain) where
  pub entitled : number_of m (pick granting (Grant right page s) (Revoke right page s)) ≡ 0 → Entitled m right page.0 s.0
  unfolding change_checks
  entitled h =
      let field = field_of m right page.0 in
      let all = rw (change_checks_lem m right page s granting) at (accepted m _ h).1 in
      let met : (k : ℕ) → met_at k (change_checks m right page s (prevailing field)) ≡ false = λ k. unmet k (change_checks m right page s (prevailing field)) refl all in
      by_level (leb-true right 1 (not-false _ (met 0))) (ltb-true page.0 m.pages (not-false _ (met 1)))
      (ltb-true s.0 16 (not-false _ (met 2))) (met 3) (met 4) (prevailing field) refl (met 5) (met 6)
    where
      by_level : right ≤ 1 → page.0 < m.pages → s.0 < 16 → in_privileged_mode m ≡ false → m.registers.pending ≡ false
          → (v : Option ℕ) → prevailing (field_of m right page.0) ≡ v
          → is_outside v (local_context m.registers) ≡ false → is_not_lower v s.0 ≡ false → Entitled m right page.0 s.0
      by_level known counted below user clear None e inside lower =
          absurd (true≢false inside)
      by_level known counted below user clear (Some d) e inside lower =
          record {
            right_known = known;
            page_counted = counted;
            domain_known = below;
            in_user_mode_lem = user;
            flag_clear = clear;
            domain = d;
            prevails = e;
            held = not-false _ inside;
            lower = leb-false s.0 d lower;
          }

  pub entitles : is_sound m ≡ true → Entitled m right page.0 s.0 → number_of m (pick granting (Grant right page s) (Revoke right page s)) ≡ 0
  unfolding change_checks
  entitles sound e =
      rw (
        sound,
        change_checks_lem m right page s granting,
        le-leb right 1 e.right_known,
        lt-ltb page.0 m.pages e.page_counted,
        lt-ltb s.0 16 e.domain_known,
        e.in_user_mode_lem,
        e.flag_clear,
        e.prevails,
        e.held,
        lt-leb s.0 e.domain e.lower,
      )
