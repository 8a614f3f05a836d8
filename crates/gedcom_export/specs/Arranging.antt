-- An index whose owners are put in ascending order.
use Rattle.std.specs.Prelude.{◌≡◌}
use Rattle.gedcom_export.specs.Index.{Index}
use Rattle.gedcom_export.specs.Owned.{IsArrangedBy}
use Rattle.gedcom_export.specs.declared.membership.Membership.{Membership}
use Rattle.gedcom_export.specs.declared.index_owned.Owned.{Owned}

pub record IsArrangement (before after : Index) : Type 0 where
  pub events : IsArrangedBy (λ (o : Owned). o.owner) before.events after.events
  pub citations : IsArrangedBy (λ (o : Owned). o.owner) before.citations after.citations
  pub child_in : IsArrangedBy (λ (x : Membership). x.person) before.child_in after.child_in
  pub partner_in : IsArrangedBy (λ (x : Membership). x.person) before.partner_in after.partner_in
  -- all else is as it was
  pub same : after ≡ record before {
    events = after.events;
    citations = after.citations;
    child_in = after.child_in;
    partner_in = after.partner_in;
  }
