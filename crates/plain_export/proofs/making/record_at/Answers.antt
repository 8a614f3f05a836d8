use Rattle.std.proofs.Common.{◌∙◌, Some, ap, sym}
use Rattle.record_kinds.specs.declared.record.Record.{Record}
use Rattle.gedcom_export.specs.Shown.{around_in}
use Rattle.plain_export.specs.Plain as plain
use Rattle.plain_export.proofs.making.record_at.Goals as goal

pub returns-in_ok-other_at-in-Other-clause-made : goal.returns-in_ok-other_at-in-Other-clause-made
returns-in_ok-other_at-in-Other-clause-made c =
    let a = around_in c.args.index.now in
    c.in_ok-other_at-in-Other.ensures a c.args.more.items
    ∙ ap (λ (r : Record). plain.plain_at c.args.state.now.records a c.args.more.items (Some r)) (sym c.in-Other.is)
