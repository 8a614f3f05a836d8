use Rattle.std.proofs.lemmas.Bool.Decides.{Decides-at}
use Rattle.record_rules.specs.Judged as judged
use Rattle.record_rules.proofs.Parts.{all_tags}
use Rattle.record_rules.proofs.tags.has_tags.Goals as goal

pub returns : goal.returns
returns c = Decides-at c.are_of_records.result (judged.has_tags c.args.«record».now) c.are_of_records.ensures
    (all_tags c.args.«record».now)
