use Rattle.std.proofs.Common.{◌∙◌, ap}
use Rattle.store_rows.specs.Tagged.{numbers_tagged}
use Rattle.store_rows.proofs.Found.{sees_where}
use Rattle.store_rows.proofs.TaggedNumbers.{numbers_are}
use Rattle.store_rows.proofs.tagged.numbers_of.Goals as goal

pub returns-clause-sees : goal.returns-clause-sees
returns-clause-sees g c =
    sees_where c.numbers_tagged.result
    (λ content found is. is ∙ ap (λ tags. numbers_tagged tags content) c.tags_of.ensures
    ∙ numbers_are c.args.kinds content) c.numbers_tagged.ensures.sees
