use Rattle.std.proofs.Common.{◌≡◌, take, map}
use Rattle.plain_export.specs.declared.added.Added.{Added}
use Rattle.plain_export.proofs.added.copied.Given as goal

abbrev pub invariant-added : goal.invariant-added
invariant-added l = l.made.items ≡ map (λ (x : Added). x.line) (take l.x-index l.added)
