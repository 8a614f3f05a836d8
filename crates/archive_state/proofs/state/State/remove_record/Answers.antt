use Rattle.std.proofs.Common.{sym, ap, ◌∙◌}
use Rattle.std.specs.FinMap as map
use Rattle.std.specs.FinMap.{from_entries}
use Rattle.archive_state.specs.Content.{Content, receipts_of}
use Rattle.archive_state.proofs.Maps.{get_lookup, one_removed}
use Rattle.archive_state.proofs.state.State.remove_record.Goals as goal

pub returns-clause-removed : goal.returns-clause-removed
returns-clause-removed c =
    ap (λ m. record {
      records = m;
      next = c.self.inside.next;
      receipts = receipts_of c.self.inside.receipts.entries;
      slips = from_entries c.self.inside.slips.entries;
    })
    (one_removed c.self.inside.records.entries c.remove.new.self.entries c.args.number c.remove.ensures.updates.0)
    ∙ ap (λ (s : Content). record {
      records = map.remove s.records c.args.number;
      next = s.next;
      receipts = s.receipts;
      slips = s.slips;
    }) c.self.view_is

pub returns-clause-before : goal.returns-clause-before
returns-clause-before c =
    c.remove.ensures.value ∙ sym (get_lookup c.self.inside.records.entries c.args.number)
    ∙ ap (λ (s : Content). map.get s.records c.args.number) c.self.view_is
