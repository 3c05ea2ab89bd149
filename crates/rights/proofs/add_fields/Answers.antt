-- `rights::add_fields` meets its contract: each page adds its field, and its numbers grow by at most sixteen; past the last page nothing is left to add.
use Rattle.std.proofs.Common.{rules, arith, ℕ, ◌+◌, ◌*◌, ◌-◌, List, [], ◌∷◌, sym, ap, ◌∙◌}
use Rattle.machine.specs.Machine.{place_of}
use Rattle.image.specs.Bytes.{entries}
use Rattle.image.specs.Load.{field_at}
use Rattle.image.proofs.Entries.{left_none}
use Rattle.rights.specs.Adding.{added}
use Rattle.rights.proofs.Added.{added_none, added_append, added_most, column_within, fields_next}
use Rattle.rights.proofs.add_fields.Goals as goal

pub loop-page-preserved : goal.loop-page-preserved
loop-page-preserved c =
    let l = c.loop-page in
    let a = c.args in
    let read : ℕ → ℕ = λ p. field_at a.bytes.now (22 + 2 * place_of a.right p) in
    let grown = c.add_field.ensures ∙ ap (λ (field : ℕ). added l.column (field ∷ [])) c.field_at.ensures in (
      rw grown (column_within _ (added_most (1000000 + 16 * l.page) l.column (read l.page ∷ []) l.invariant.0) (omega arith)),
      rw grown
          (added_append 0 l.column (read l.page ∷ []) (entries 1 read (l.page + 1) (a.pages - (l.page + 1)))
          ∙ ap (λ (fields : List ℕ). added l.column fields) (sym (fields_next read l.page a.pages (search rules))) ∙ l.invariant.1),
    )

pub returns : goal.returns
returns c =
    let l = c.loop-page in
    let a = c.args in
    let read : ℕ → ℕ = λ p. field_at a.bytes.now (22 + 2 * place_of a.right p) in
    sym (added_none 0 l.column) ∙ ap (λ (fields : List ℕ). added l.column fields) (sym (left_none 1 read a.pages l.page l.page (search rules)))
    ∙ l.invariant.1
