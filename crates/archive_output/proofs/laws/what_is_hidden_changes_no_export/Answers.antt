use Rattle.std.proofs.Common.{ap}
use Rattle.archive_state.specs.Content.{Records}
use Rattle.gedcom_export.specs.Forest.{exported}
use Rattle.archive_output.proofs.laws.what_is_hidden_changes_no_export.Goals as goal

pub returns : goal.returns
returns c = λ a b today s t society i j alike k l.
    ap (λ (m : Records). exported m society)
    (c.what_is_hidden_changes_nothing.ensures a b today s t i j alike k l)
