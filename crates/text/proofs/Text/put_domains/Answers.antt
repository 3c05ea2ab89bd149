-- `text::Text::put_domains` meets its contract: each turn puts the line of one more domain.
use Prim.Native.Nat.{ℕ, ◌-◌}
use mathlib.Core.Path.{◌≡◌}
use native.Mathlib.Omega.{arith}
use lib.ListN.{get_or}
use Rattle.text.specs.Rights.{domain_lines}
use Rattle.text.proofs.Puts.{wrote_none, wrote_then, room}
use Rattle.text.proofs.Sums.{domain_most, domains_next}
use Rattle.text.proofs.Text.put_domains.Goals as goal

pub loop-s-preserved : goal.loop-s-preserved
loop-s-preserved c =
    let l = c.loop-s in
    let reads : ℕ → ℕ = λ s. get_or c.args.sums.now.reads s 0 in
    let writes : ℕ → ℕ = λ s. get_or c.args.sums.now.writes s 0 in (
      omega (room, domain_most),
      λ after rest. l.invariant.1 after (rw (domains_next reads writes l.s (omega arith)) (wrote_then c.put_domain.ensures rest)),
    )

pub returns : goal.returns
unfolding domain_lines
returns c =
    let l = c.loop-s in
    let over : 16 - l.s ≡ 0 = omega arith in
    l.invariant.1 l.self (rw over (wrote_none l.self))
