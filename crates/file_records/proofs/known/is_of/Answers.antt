use Rattle.std.proofs.Common.{map, refl, ap, ◌∙◌}
use Rattle.stored_lines.specs.Tree.{label}
use Rattle.import_definitions.specs.Kinds.{kind_named}
use Rattle.import_definitions.specs.Nodes.{FileNode}
use Rattle.file_records.specs.KnownViews.{is_kind_at}
use Rattle.file_records.proofs.Tags.{is_kind_there}
use Rattle.file_records.proofs.known.is_of.Goals as goal

pub returns : goal.returns
returns c =
    c.is_kind.ensures ∙ ap (is_kind_at c.args.kind) c.kind_at.ensures
    ∙ is_kind_there c.args.kind c.args.roots.now (map (λ (t : FileNode). kind_named (label t).tag) c.args.roots.now)
    c.args.position refl
