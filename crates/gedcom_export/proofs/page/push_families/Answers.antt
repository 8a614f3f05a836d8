use Rattle.std.proofs.Common.{◌++◌, ap, string_bytes, ◌∙◌}
use Rattle.stored_lines.specs.Line.{Lines}
use Rattle.node_writing.specs.Pages.{page}
use Rattle.gedcom_export.specs.Shown.{names_in}
use Rattle.node_writing.proofs.Appending.{all_written, then_next}
use Rattle.gedcom_export.proofs.Lines.{membership_line, membership_lines}
use Rattle.gedcom_export.proofs.page.push_families.Goals as goal

pub families-preserved : goal.families-preserved
families-preserved c = then_next (names_in c.args.index.now) 1 (membership_line c.args.tag.now) c.args.families.now
    c.families.family-index c.family-item.result _ _ _
    c.families-test.true c.family-item.is c.in_ok-push_side.ensures c.families.invariant

pub returns : goal.returns
returns c =
    all_written (names_in c.args.index.now) 1 (membership_line c.args.tag.now) c.args.families.now
    c.families.family-index _ _ c.families-test.false c.families.invariant
    ∙ ap (λ (l : Lines). string_bytes c.args.text.now ++ page (names_in c.args.index.now) 1 l)
    (membership_lines c.args.tag.now c.args.families.now)
