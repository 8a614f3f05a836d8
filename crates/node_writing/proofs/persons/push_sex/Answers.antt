use Rattle.std.proofs.Common.{ap, codes, option_map}
use Rattle.record_fields.specs.Words.{sex_word}
use Rattle.record_shapes.specs.Shapes.{text_lines}
use Rattle.node_writing.proofs.Appending.{nothing}
use Rattle.node_writing.proofs.persons.push_sex.Goals as goal

pub returns-in-None : goal.returns-in-None
returns-in-None g c = nothing (g.N.Named.names c.args.index.now) 1 _ _
    (ap (λ s. text_lines (codes "SEX") (option_map sex_word s)) c.in-None.is)
