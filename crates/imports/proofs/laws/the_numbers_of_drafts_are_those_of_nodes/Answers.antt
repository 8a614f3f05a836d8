use Rattle.import_definitions.specs.Numbers.{begun}
use Rattle.imports.proofs.Nodes.{draws_same}
use Rattle.imports.proofs.laws.the_numbers_of_drafts_are_those_of_nodes.Goals as goal

pub returns : goal.returns
returns c = λ rs w next. draws_same rs w 0 (begun next) rs
