-- What is said of all nodes is what an import reports of memberships.
use Rattle.std.proofs.Common.{◌≡◌, List, ◌++◌}
use Rattle.std.specs.List.{flat_map}
use Rattle.import_definitions.specs.Nodes.{FileNode}
use Rattle.import_definitions.specs.Lines.{lined_roots, roots}
use Rattle.import_definitions.specs.Report.{said_of_members}
use Rattle.file_records.specs.Members.{doubled_in}
use Rattle.file_records.specs.Taken.{said_of_sides}
use Rattle.file_records.proofs.SaidMembers.{families_are}
use Rattle.file_records.proofs.SaidSides.{sides_said}

pub all_said : (ks : List FileNode) → flat_map (doubled_in ks) ks ++ said_of_sides ks
    ≡ said_of_members (roots ks) (lined_roots ks)
all_said ks = λ i. families_are ks ks i ++ sides_said ks i
