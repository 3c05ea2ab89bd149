-- `image::refusals::modes_hold` meets its contract: the programs' mode bytes are asked one after another.
use Rattle.std.proofs.Common.{◌≡◌, ℕ, zero, suc, ◌+◌, ◌*◌, ◌&&◌, leb, ap, refl, ◌∙◌, arith, rules, tests}
use Rattle.std.specs.List.{list_all, range_with_len}
use Rattle.std.proofs.lemmas.Iterator.{YieldsList-from_range}
use Rattle.std.proofs.lemmas.Iterator.Search.{all_from_yields_List}
use Rattle.image.specs.Bytes.{entries}
use Rattle.image.specs.Load.{mode_at, page_count, program_count, are_modes}
use Rattle.image.proofs.refusals.modes_hold.Goals as goal

-- mode bytes by the programs' numbers are those that stand one after another
modes_numbered : (read : ℕ → ℕ) (first k n at : ℕ) → at ≡ first + 5 * k
    → list_all (λ program. leb (read (first + 5 * program)) 1) (range_with_len k n) ≡ are_modes (entries 5 read at n)
modes_numbered read first k zero at e = refl
modes_numbered read first k (suc n) at e =
    rw e (ap (λ rest. leb (read (first + 5 * k)) 1 && rest) (modes_numbered read first (k + 1) n (5 + (first + 5 * k)) (omega arith)))

pub returns : goal.returns
returns c =
    let s = c.args.bytes.now in
    let shape = c.shape_at-shape.ensures in
    let first = 22 + 4 * page_count s in
    all_from_yields_List (λ program. leb (mode_at s (first + 5 * program)) 1) _ _ c.all.result c.all.ensures.ran
    (YieldsList-from_range 0 c.shape_at-shape.result.programs (program_count s) refl (search (rules, shape.programs)))
    (λ x b q k. search (rules, tests))
    ∙ modes_numbered (mode_at s) first 0 (program_count s) first (omega arith)
