use Rattle.std.proofs.Common.{◌≡◌, ◌++◌, take, map}
use Rattle.std.specs.List.{flat_map}
use Rattle.record_kinds.specs.Model as model
use Rattle.plain_export.specs.Added as adding
use Rattle.plain_export.proofs.events.add_to_partners.Given as goal

abbrev pub invariant-partners : goal.invariant-partners
invariant-partners l = l.added.items ≡ l.fn.added.items
    ++ flat_map (adding.associations l.state.records l.event)
    (map (λ (p : model.Partner). p.person) (take l.partner-index l.partners))
