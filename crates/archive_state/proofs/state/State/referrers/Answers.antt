use Rattle.std.proofs.Common.{sym, ap, ◌∙◌}
use Rattle.archive_state.specs.Referrers.{naming, referrers}
use Rattle.archive_state.proofs.Entries.{entries_back}
use Rattle.archive_state.proofs.state.State.referrers.Goals as goal

pub records-init : goal.records-init
records-init c =
    let gives = c.into_iter-at-iterator.ensures.into_iter_gives in
    rw c.new-found.ensures.items
    (ap (naming c.args.number) (gives.0 ∙ sym (entries_back c.self.inside.records.entries gives.5))
    ∙ ap (λ s. referrers s c.args.number) c.self.view_is)
