use Rattle.std.proofs.Common.{rules, ◌≡◌, true, Ok, sym, ◌∙◌}
use Rattle.store_tables.proofs.ReadingRows.{looks_then}
use Rattle.store_rows.specs.Meaning.{has_record}
use Rattle.store_rows.proofs.Seen.{sees_with, sees_lost, record_some}
use Rattle.store_rows.proofs.looking.record_by_rows.Goals as goal

pub returns-in_err-lines-clause-sees : goal.returns-in_err-lines-clause-sees
returns-in_err-lines-clause-sees g c =
    sees_lost c.from_residual-in_err-lines.result (search rules)
    (looks_then c.in_ok-has_record.ensures.looks c.in_err-lines.ensures.looks)

pub returns-clause-sees : goal.returns-clause-sees
returns-clause-sees g c =
    sees_with (Ok _) (looks_then c.in_ok-has_record.ensures.looks c.in_ok-lines.ensures.looks)
    (λ rows is content means. let has : true ≡ has_record c.args.number rows = cc (is.0, c.if-not-branch.false) in
    record_some c.args.number rows content c.in_ok-record_of.field-0 means has
    (sym is.1 ∙ sym c.deref.ensures.value ∙ c.in_ok-record_of.ensures.read)) tt
