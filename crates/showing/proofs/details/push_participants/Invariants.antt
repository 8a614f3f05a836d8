use Rattle.std.proofs.Common.{◌≡◌, ◌++◌, ◌≤◌, take, string_bytes}
use Rattle.std.specs.List.{flat_map}
use Rattle.archive_state.specs.Looks.{OnView}
use Rattle.showing.specs.Details as details
use Rattle.showing.proofs.details.push_participants.Given as goal

abbrev pub invariant-each : goal.invariant-each
invariant-each g l = record {
  shown : OnView g.V.View.is_honest g.V.View.shows g.V.View.content l.fn.view l.view
      (λ c. string_bytes l.out ≡ string_bytes l.fn.out
      ++ flat_map (details.participant_detail c.records) (take l.participant-index l.participants));
  counted : g.V.View.failed l.fn.view ≤ g.V.View.failed l.view;
}
