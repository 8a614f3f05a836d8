use Rattle.std.proofs.Common.{ap, subst, sym}
use Rattle.archive_state.specs.Content.{Records}
use Rattle.gedcom_export.specs.Forest.{exported}
use Rattle.plain_export.specs.Plain.{IsPlain}
use Rattle.archive_output.proofs.laws.what_is_hidden_changes_no_plain_export.Goals as goal

pub returns : goal.returns
returns c = λ a b today s t p q society i j alike k l one other.
    let same = c.what_is_hidden_changes_nothing.ensures a b today s t i j alike k l in
    ap (λ (m : Records). exported m society)
    (c.an_archive_has_one_plain_archive.ensures.one s.records p q one
    (subst (λ (m : Records). IsPlain m q) (sym same) other))
