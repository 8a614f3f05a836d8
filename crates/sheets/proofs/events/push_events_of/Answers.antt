use Rattle.std.proofs.Common.{◌++◌, ◌∙◌, ap, List, ℕ, string_bytes}
use Rattle.std.specs.FinMap as map
use Rattle.sheets.specs.Indexed.{indexed}
use Rattle.sheets.specs.Owned as texts
use Rattle.sheets.proofs.Appending.{owned_text}
use Rattle.sheets.proofs.events.push_events_of.Goals as goal
use Rattle.list_laws.proofs.Outcomes.{ok_then}

pub returns : goal.returns
returns c = ok_then c.push_events.result (λ e. e ∙ ap (λ (t : List ℕ). string_bytes c.args.out.now ++ t)
    (owned_text (λ k. texts.event_in (indexed c.args.state.now.records c.args.index.now) k
    (map.get c.args.state.now.records k)) c.args.owner
    c.events_of.result.now c.args.index.now.events (c.events_of.ensures c.requires)))
    c.push_events.ensures
