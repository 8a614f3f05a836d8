use Rattle.std.proofs.Common.{◌≡◌, ◌++◌, take}
use Rattle.std.specs.List.{flat_map}
use Rattle.put_back.specs.Families.{partner_back}
use Rattle.put_back.proofs.families.push_partners.Given as goal

abbrev pub invariant-each : goal.invariant-each
invariant-each l = l.out.items ≡ l.fn.out.items ++ flat_map (partner_back l.number l.now) (take l.partner-index l.old)
