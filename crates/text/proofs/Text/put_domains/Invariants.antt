-- The loop of `text::Text::put_domains`: the lines of the domains that are left, put behind what is there, give the text that is promised, and there is room for them.
use Prim.Native.Nat.{ℕ, ◌*◌, ◌-◌}
use mathlib.Core.List.{List}
use lib.ListN.{get_or}
use Rattle.text.specs.declared.Text.{Text}
use Rattle.text.specs.Rights.{domain_lines}
use Rattle.text.specs.Writing.{HasRoom, Wrote}
use Rattle.text.proofs.Text.put_domains.Given as goal

abbrev pub invariant-loop-s : goal.invariant-loop-s
invariant-loop-s l =
    let lines : ℕ → ℕ → List ℕ = domain_lines (λ s. get_or l.sums.reads s 0) (λ s. get_or l.sums.writes s 0) in
    HasRoom (20 * (16 - l.s)) l.self × ((after : Text) → Wrote l.self after (lines l.s (16 - l.s)) → Wrote l.initial.self after (lines 0 16))
