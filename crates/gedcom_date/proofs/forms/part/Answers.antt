use Rattle.std.proofs.Common.{◌∙◌}
use Rattle.gedcom_date.specs.Reading.{reads}
use Rattle.gedcom_date.proofs.Parts.{split_empty, split_word}
use Rattle.gedcom_date.proofs.forms.part.Goals as goal

pub returns-in-empty : goal.returns-in-empty
returns-in-empty c = split_empty (λ w. reads w c.args.keyword.now) c.args.words.now c.split_at.result.0.now
    c.split_at.result.1.now c.split_at.ensures.by_index.0 (c.split_at.ensures.front_len ∙ c.place.ensures.value)
    c.in-empty.len_below

pub returns-in-len1-up : goal.returns-in-len1-up
returns-in-len1-up c = split_word (λ w. reads w c.args.keyword.now) c.args.words.now c.split_at.result.0.now
    c.split_at.result.1.now c.split_at.ensures.by_index.0 (c.split_at.ensures.front_len ∙ c.place.ensures.value)
    c.in-len1-up.len_at_least
