use Rattle.std.proofs.Common.{sym, ap, ◌∙◌}
use Rattle.std.specs.Prelude.{map}
use Rattle.archive_state.proofs.Entries.{entries_back}
use Rattle.archive_state.proofs.state.keys_of.Goals as goal

pub entries-init : goal.entries-init
entries-init g c =
    let gives = c.into_iter-at-iterator.ensures.into_iter_gives in
    rw c.new-found.ensures.items
    (ap (map (λ e. e.0)) (gives.0 ∙ sym (entries_back c.args.entries.now.entries gives.5)))
