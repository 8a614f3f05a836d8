use Rattle.std.proofs.Common.{◌≡◌, ◌++◌, drop}
use Rattle.put_back.specs.Entries.{mentions_back}
use Rattle.put_back.proofs.entries.push_mentions.Given as goal

abbrev pub invariant-each : goal.invariant-each
invariant-each l = l.out.items ++ mentions_back l.number l.place (drop l.place l.old) l.now
    ≡ l.fn.out.items ++ mentions_back l.number 0 l.old l.now
