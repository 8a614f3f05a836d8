use Rattle.std.proofs.Common.{◌∙◌, rules, tests}
use Rattle.std.proofs.lemmas.Iterator.{YieldsList-from_slice}
use Rattle.std.proofs.lemmas.Iterator.Consumers.{YieldsList-from_filter, count_from_yields_List}
use Rattle.std.proofs.lemmas.List.Sums.{length-filter}
use Rattle.page_batches.specs.Words.{is_words}
use Rattle.page_batches.proofs.words.count_words.Goals as goal

pub returns : goal.returns
returns c =
    count_from_yields_List c.filter.result c.count.result c.count.ensures.ran
    (YieldsList-from_filter _ is_words (YieldsList-from_slice c.args.entries.now cc) c.filter.ensures.closure
    (λ x r q k. search (rules, tests)))
    ∙ length-filter is_words c.args.entries.now
