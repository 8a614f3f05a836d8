use Rattle.std.proofs.Common.{sym, ap, ◌∙◌}
use Rattle.std.specs.FinMap as map
use Rattle.std.specs.FinMap.{from_entries}
use Rattle.archive_state.specs.Content.{Content, receipts_of}
use Rattle.archive_state.proofs.Maps.{get_lookup, one_set}
use Rattle.archive_state.proofs.state.State.put_slip.Goals as goal
use Rattle.list_laws.proofs.Outcomes.{on_err}

pub returns-clause-ok : goal.returns-clause-ok
returns-clause-ok c =
    ap (λ m. record {
      records = from_entries c.self.inside.records.entries;
      next = c.self.inside.next;
      receipts = receipts_of c.self.inside.receipts.entries;
      slips = m;
    })
    (one_set c.self.inside.slips.entries c.insert.new.self.entries c.args.number c.args.slip
    c.in_ok-insert.ensures.updates.0)
    ∙ ap (λ (s : Content). record {
      records = s.records;
      next = s.next;
      receipts = s.receipts;
      slips = map.insert s.slips c.args.number c.args.slip;
    }) c.self.view_is

pub returns-clause-before : goal.returns-clause-before
returns-clause-before c =
    c.in_ok-insert.ensures.old ∙ sym (get_lookup c.self.inside.slips.entries c.args.number)
    ∙ ap (λ (s : Content). map.get s.slips c.args.number) c.self.view_is

pub returns-in_err-insert-clause-absent : goal.returns-in_err-insert-clause-absent
returns-in_err-insert-clause-absent c =
    on_err c.from_residual.result (sym (ap (λ (s : Content). map.get s.slips c.args.number) c.self.view_is)
    ∙ get_lookup c.self.inside.slips.entries c.args.number ∙ c.in_err-insert.ensures.absent)
