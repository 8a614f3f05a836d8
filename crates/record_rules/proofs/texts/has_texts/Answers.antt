use Rattle.std.proofs.lemmas.Bool.Decides.{Decides-at}
use Rattle.record_rules.specs.Judged as judged
use Rattle.record_rules.proofs.Parts.{all_texts}
use Rattle.record_rules.proofs.texts.has_texts.Goals as goal

pub returns : goal.returns
returns c = Decides-at c.are_texts.result (judged.has_texts c.args.«record».now) c.are_texts.ensures
    (all_texts c.args.«record».now)
