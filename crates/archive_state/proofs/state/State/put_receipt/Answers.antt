use Rattle.std.proofs.Common.{sym, ap, ◌∙◌}
use Rattle.std.specs.FinMap as map
use Rattle.std.specs.FinMap.{from_entries}
use Rattle.std.specs.String.{string_bytes}
use Rattle.archive_state.specs.Content.{Content, receipts_of}
use Rattle.archive_state.proofs.Maps.{get_text, text_put}
use Rattle.archive_state.proofs.state.State.put_receipt.Goals as goal

pub returns-clause-ok : goal.returns-clause-ok
returns-clause-ok c =
    ap (λ m. record {
      records = from_entries c.self.inside.records.entries;
      next = c.self.inside.next;
      receipts = m;
      slips = from_entries c.self.inside.slips.entries;
    })
    (ap receipts_of c.in_ok-insert.ensures.entries ∙ text_put c.self.inside.receipts.entries
    c.into_string-key.result c.args.receipt
    ∙ ap (λ k. map.insert (receipts_of c.self.inside.receipts.entries) k c.args.receipt) c.into_string-key.ensures)
    ∙ ap (λ (s : Content). record {
      records = s.records;
      next = s.next;
      receipts = map.insert s.receipts c.args.token c.args.receipt;
      slips = s.slips;
    }) c.self.view_is

pub returns-clause-before : goal.returns-clause-before
returns-clause-before c =
    c.in_ok-insert.ensures.old ∙ sym (get_text c.self.inside.receipts.entries (string_bytes c.into_string-key.result))
    ∙ ap (map.get (receipts_of c.self.inside.receipts.entries)) c.into_string-key.ensures
    ∙ ap (λ (s : Content). map.get s.receipts c.args.token) c.self.view_is
