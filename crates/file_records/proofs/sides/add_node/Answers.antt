use Rattle.std.proofs.Common.{◌≡◌, ◌++◌, ap, sym, ◌∙◌, true}
use Rattle.std.specs.Prelude.{bytes_eq, codes}
use Rattle.stored_lines.specs.Tree.{label}
use Rattle.import_definitions.specs.Nodes.{tree_of, trees_of}
use Rattle.file_records.specs.SideViews.{member_in}
use Rattle.file_records.proofs.Below.{person_said, person_sides}
use Rattle.file_records.proofs.sides.add_node.Goals as goal
use Rattle.list_laws.proofs.Outcomes.{on_ok_more}

pub returns-then-is_person-clause-sides : goal.returns-then-is_person-clause-sides
returns-then-is_person-clause-sides c =
    let is : bytes_eq (label (tree_of c.args.node.now)).tag (codes "INDI") ≡ true =
    sym c.is_person.ensures ∙ c.if-is_person.true in
    on_ok_more (λ so. so ∙ ap (λ us. c.args.sides.now.items ++ us) (person_sides c.args.roots.now
    (tree_of c.args.node.now) (trees_of c.below.result.now) c.below.ensures (member_in c.args.members.now) c.args.person
    is)) c.add_person.result c.add_person.ensures.sides

pub returns-then-is_person-clause-report : goal.returns-then-is_person-clause-report
returns-then-is_person-clause-report c =
    let is : bytes_eq (label (tree_of c.args.node.now)).tag (codes "INDI") ≡ true =
    sym c.is_person.ensures ∙ c.if-is_person.true in
    on_ok_more (λ so. so ∙ ap (λ us. c.args.report.now.items ++ us) (person_said c.args.roots.now
    (tree_of c.args.node.now) (trees_of c.below.result.now) c.below.ensures (member_in c.args.members.now) c.args.person
    is)) c.add_person.result c.add_person.ensures.report
