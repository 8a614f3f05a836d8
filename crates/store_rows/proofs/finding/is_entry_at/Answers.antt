use Rattle.std.proofs.Common.{◌↔◌, Ok, subst}
use Rattle.std.specs.Prelude.{Option, IsTrue}
use Rattle.record_kinds.specs.declared.record.Record.{Record}
use Rattle.store_rows.specs.Finding.{IsEntryFound}
use Rattle.store_rows.proofs.Seen.{sees_from}
use Rattle.store_rows.proofs.finding.is_entry_at.Goals as goal

pub returns-clause-sees : goal.returns-clause-sees
returns-clause-sees g c =
    sees_from (Ok _) c.in_ok-found.ensures.sees
    (λ content at. subst (λ (f : Option Record). IsTrue c.is_entry_found-is.result ↔ IsEntryFound f c.args.source
    c.args.kind c.args.page.now c.args.item) at c.is_entry_found-is.ensures) tt
