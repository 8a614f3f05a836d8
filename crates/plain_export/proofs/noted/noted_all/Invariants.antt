use Rattle.std.proofs.Common.{◌≡◌, take, map}
use Rattle.std.specs.BTreeMap.{get_by_text}
use Rattle.plain_export.specs.Added as adding
use Rattle.plain_export.proofs.noted.noted_all.Given as goal

abbrev pub invariant-mentions : goal.invariant-mentions
invariant-mentions l = l.made.items
    ≡ map (adding.noted_of (get_by_text l.firsts.numbers) l.entry) (take l.mention-index l.mention-items)
