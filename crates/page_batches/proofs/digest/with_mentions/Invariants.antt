use Rattle.std.proofs.Common.{◌≡◌, ◌++◌, map, take}
use Rattle.commands.specs.Bytes.{mention_fields}
use Rattle.page_batches.proofs.digest.with_mentions.Given as goal

abbrev pub invariant-loop-mention : goal.invariant-loop-mention
invariant-loop-mention l = map (λ w. w.now) l.words.items ≡ map (λ w. w.now) l.fn.words.items ++ mention_fields
    (take l.mention-index l.mentions)
