-- `rights::Sums::add_image` meets its contract: the load's test says whether there are fields to add, and where there are, they are those of the bytes.
use Rattle.std.proofs.Common.{arith, ◌≡◌, sym, ◌∙◌, ℕ, List, false, eq-eqb, nat_eq, append-nil}
use mathlib.Core.Path.{ap}
use mathlib.Core.Bool.{not}
use Rattle.rules.proofs.Outcomes.{done_where, done_zero}
use Rattle.image.specs.Load.{load_of, load_checks}
use Rattle.rules.specs.Refusals.{first}
use Rattle.rights.specs.Site.{page_fields, fields_in, fields_over, refused_of}
use Rattle.rights.proofs.Added.{added_none}
use Rattle.rights.proofs.Images.{loaded_fields, same_sums}
use Rattle.rights.proofs.Sums.add_image.Goals as goal

-- what was asked is the number of the load
answered : (bytes : List ℕ) (number : ℕ) → number ≡ first (load_checks bytes) → number ≡ (load_of bytes).number
unfolding load_of
answered bytes number e = e

pub returns-then-is_err : goal.returns-then-is_err
unfolding fields_over fields_in refused_of
returns-then-is_err c =
    let a = c.args in
    let sums = a.self.now in
    let refused : nat_eq (load_of a.bytes.now).number 0 ≡ false =
    rw (← answered a.bytes.now _ c.check_load.ensures, ← done_where c.check_load.result, c.is_err.ensures.negation, c.if-is_err.true) in
    rw (refused, added_none 0 sums.reads, added_none 0 sums.writes)

pub returns : goal.returns
unfolding fields_over fields_in refused_of
returns c =
    let bytes = c.args.bytes.now in
    let loads =
    sym (answered bytes _ c.check_load.ensures) ∙ done_zero c.check_load.result (c.is_err.ensures.negation ∙ ap not c.if-is_err.false) in
    rw (eq-eqb _ 0 loads, append-nil (page_fields 0 (load_of bytes).machine), append-nil (page_fields 1 (load_of bytes).machine), loaded_fields 0 bytes (omega arith) loads, loaded_fields 1 bytes (omega arith) loads, ← c.byte_at-pages.ensures)
    (same_sums c.add_fields.ensures c.add_fields-2.ensures (omega arith))
