use Rattle.std.proofs.Common.{rules, Ok, Err, inl, inr, sym, ap, subst, ◌∙◌}
use Rattle.std.proofs.lemmas.Result.{err_from_is_err_and}
use Rattle.archive_state.specs.Slips.{Slip}
use Rattle.store_tables.specs.Rows.{SlipRow}
use Rattle.store_tables.proofs.ReadingRows.{looks_then}
use Rattle.store_rows.specs.Meaning.{slip_row}
use Rattle.store_rows.specs.Sides.{side_lines_in, NoChanges}
use Rattle.store_rows.proofs.Seen.{sees_with, sees_lost, slip_none, slip_some, slip_bad, lines_seen}
use Rattle.store_rows.proofs.looking.slip_at.Goals as goal

pub returns-in_default-clause-sees : goal.returns-in_default-clause-sees
returns-in_default-clause-sees g c =
    sees_with (Ok _) (rw c.in_default.is at c.in_ok-row.ensures.looks)
    (λ rows none content means. slip_none c.args.number rows content means none) tt

pub returns-in_err-lines-clause-sees : goal.returns-in_err-lines-clause-sees
returns-in_err-lines-clause-sees g c =
    sees_lost c.from_residual-in_err-lines.result (search rules)
    (looks_then c.in_ok-row.ensures.looks c.in_err-lines.ensures.looks)

pub returns-in_err-changes_of-clause-sees : goal.returns-in_err-changes_of-clause-sees
returns-in_err-changes_of-clause-sees g c =
    let p = err_from_is_err_and c.from_residual-in_err-changes_of.result c.from_residual-in_err-changes_of.ensures.1 in
    let found = looks_then (rw c.in-Some.is at c.in_ok-row.ensures.looks) c.in_ok-lines.ensures.looks in
    rw (p.1, p.2) (sees_with (Err _) found tt (λ rows is. elim c.in_err-changes_of.ensures.refused [
      | inl memory ↦ inl (inl memory)
      | inr bad ↦ inr (
        bad.0,
        slip_bad c.args.number rows c.in-Some.row is.0
            (subst NoChanges (ap side_lines_in c.deref.ensures.value ∙ lines_seen c.args.number rows
            c.in_ok-lines.lines.items is.1) bad.1),
      )
    ]))

pub returns-clause-sees : goal.returns-clause-sees
returns-clause-sees g c =
    let slip : Slip = record {
      keep = c.row.inside.keep;
      gone = c.row.inside.gone;
      changes = c.in_ok-changes_of.field-0.items;
      is_undone = c.row.inside.is_undone;
    } in
    let found = looks_then (rw c.in-Some.is at c.in_ok-row.ensures.looks) c.in_ok-lines.ensures.looks in
    sees_with (Ok _) found (λ rows is content means. slip_some c.args.number rows content c.in-Some.row slip means is.0
    (sym c.row.view_is ∙ ap (λ (r : SlipRow). slip_row r.no slip) c.row.view_is)
    (sym (ap side_lines_in c.deref.ensures.value ∙ lines_seen c.args.number rows c.in_ok-lines.lines.items is.1)
    ∙ c.in_ok-changes_of.ensures.read)) tt
