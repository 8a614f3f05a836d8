use Rattle.imports.proofs.Counting.{kept_few}
use Rattle.imports.proofs.laws.a_file_has_no_more_nodes_than_lines.Goals as goal

pub returns : goal.returns
returns c = kept_few
