-- Two records are the same where their stored lines are.
use Rattle.std.proofs.Common.{◌≡◌, ◌↔◌, Bool, ap}
use Rattle.std.specs.Prelude.{Some, IsTrue}
use Rattle.record_kinds.specs.declared.record.Record.{Record}
use Rattle.records.specs.Stored.{stored}
use Rattle.records.proofs.Shallow.{stored_one}

pub same_if_stored : (r s : Record) (b : Bool) → IsTrue b ↔ (stored r ≡ stored s) → IsTrue b ↔ (Some r ≡ Some s)
same_if_stored r s b h = (
  λ t. ap Some (stored_one r s (h.0 t)),
  λ e. let same : r ≡ s = cc in h.1 (ap stored same),
)
