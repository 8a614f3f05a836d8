use Rattle.std.proofs.Common.{◌≡◌, map, take, chars}
use Rattle.record_kinds.specs.Model as model
use Rattle.searching.specs.Folding.{folded_name}
use Rattle.html_lists.proofs.naming.of_mentions.Given as goal

abbrev pub invariant-each : goal.invariant-each
invariant-each l =
    l.texts.items ≡ map (λ (x : model.Mention). folded_name (chars x.name)) (take l.mention-index l.mentions)
