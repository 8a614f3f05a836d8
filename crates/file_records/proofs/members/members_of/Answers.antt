use Rattle.std.proofs.Common.{◌≡◌, ◌++◌, ap, sym, ◌∙◌, true}
use Rattle.std.specs.Prelude.{bytes_eq, codes}
use Rattle.stored_lines.specs.Tree.{label}
use Rattle.import_definitions.specs.Nodes.{tree_of, trees_of}
use Rattle.file_records.proofs.Below.{family_doubled, family_members}
use Rattle.file_records.proofs.members.members_of.Goals as goal
use Rattle.list_laws.proofs.Outcomes.{ok_more, on_ok_more}

pub returns-then-is_family-clause-members : goal.returns-then-is_family-clause-members
returns-then-is_family-clause-members c =
    let is : bytes_eq (label (tree_of c.args.node.now)).tag (codes "FAM") ≡ true =
    sym c.is_family.ensures ∙ c.if-is_family.true in
    ok_more _ _ (λ m so n. so n ∙ family_members c.args.roots.now (tree_of c.args.node.now)
    (trees_of c.below.result.now) c.below.ensures n is) c.members_on.result c.members_on.ensures.members

pub returns-then-is_family-clause-report : goal.returns-then-is_family-clause-report
returns-then-is_family-clause-report c =
    let is : bytes_eq (label (tree_of c.args.node.now)).tag (codes "FAM") ≡ true =
    sym c.is_family.ensures ∙ c.if-is_family.true in
    on_ok_more (λ so. so ∙ ap (λ us. c.args.report.now.items ++ us) (family_doubled c.args.roots.now
    (tree_of c.args.node.now) (trees_of c.below.result.now) c.below.ensures is)) c.members_on.result
    c.members_on.ensures.report
