use Rattle.std.proofs.Common.{string_bytes}
use Rattle.gedcom_export.specs.declared.membership.Membership as membership
use Rattle.sheet_lines.specs.Lines as lines
use Rattle.sheets.proofs.Appending.{then_next}
use Rattle.sheets.proofs.persons.push_partners_in.Goals as goal

pub families-preserved : goal.families-preserved
families-preserved c =
    then_next (λ (x : membership.Membership). lines.partner_in_line x.side.family) c.args.families.now
    c.families.family-index c.family-item.result (string_bytes c.args.out.now) _ _ c.families-test.true c.family-item.is
    c.in_ok-push_partner_in_line.ensures c.families.invariant
