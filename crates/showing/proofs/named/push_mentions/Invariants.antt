use Rattle.std.proofs.Common.{◌≡◌, ◌++◌, take}
use Rattle.std.specs.List.{flat_map}
use Rattle.record_kinds.specs.Model as model
use Rattle.showing.specs.Named as names
use Rattle.showing.proofs.named.push_mentions.Given as goal

abbrev pub invariant-each : goal.invariant-each
invariant-each l = l.numbers.items
    ≡ l.fn.numbers.items ++ flat_map (λ (x : model.Mention). names.linked x.link) (take l.mention-index l.mentions)
