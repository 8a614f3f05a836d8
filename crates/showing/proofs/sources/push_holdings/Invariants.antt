use Rattle.std.proofs.Common.{◌≡◌, ◌++◌, take, string_bytes}
use Rattle.std.specs.List.{flat_map}
use Rattle.showing.specs.Fields as fields
use Rattle.showing.proofs.sources.push_holdings.Given as goal

abbrev pub invariant-each : goal.invariant-each
invariant-each l = string_bytes l.out
    ≡ string_bytes l.fn.out ++ flat_map fields.holding_field (take l.holding-index l.holdings)
